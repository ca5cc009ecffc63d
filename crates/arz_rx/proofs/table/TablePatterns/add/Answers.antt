use Rattle.std.proofs.Common.{◌≡◌, List, ℕ, string_bytes, refl, ap, sym, Option, option_and_then, is_some, false, rules}
use Rattle.std.specs.BTreeMap.{get_by_text}
use Rattle.std.proofs.lemmas.Map.Text.{btree_map_updates_text}
use Rattle.std.proofs.lemmas.Result.{on_ok_weaker, on_err_weaker}
use Rattle.arz_rx.specs.Table.{Row}
use Rattle.arz_rx.proofs.Rows.{found_in, adds, keeps, as_empty}
use Rattle.arz_rx.proofs.table.TablePatterns.add.Goals as goal

pub returns-in-Some-clause-adds : goal.returns-in-Some-clause-adds
returns-in-Some-clause-adds c =
    let now = c.get_mut.follows.lender c.add_text.new.row in
    let sets = btree_map_updates_text c.args.pattern.now c.args.self.now.rows now _ ((c.get_mut.follows.holds c.add_text.new.row).3 (search rules)) in
    let was : (t : List ℕ) → found_in c.args.self.now.rows c.args.pattern.now t ≡ get_by_text c.in-Some.row.now t = λ t. ap (λ (o : Option Row). option_and_then (λ row. get_by_text row t) o) (sym c.in-Some.ensures.value) in
    on_ok_weaker c.add_text.result
    (λ more. record {
      rows = adds c.args.self.now.rows now c.args.pattern.now c.args.text.now c.args.found c.in-Some.row.now c.add_text.new.row sets was more;
      counts = record { failing = refl; calls = refl; too_big = refl };
    })
    c.add_text.ensures.adds

pub returns-in-Some-clause-keeps : goal.returns-in-Some-clause-keeps
returns-in-Some-clause-keeps c =
    let now = c.get_mut.follows.lender c.add_text.new.row in
    let sets = btree_map_updates_text c.args.pattern.now c.args.self.now.rows now _ ((c.get_mut.follows.holds c.add_text.new.row).3 (search rules)) in
    let was : (t : List ℕ) → found_in c.args.self.now.rows c.args.pattern.now t ≡ get_by_text c.in-Some.row.now t = λ t. ap (λ (o : Option Row). option_and_then (λ row. get_by_text row t) o) (sym c.in-Some.ensures.value) in
    on_err_weaker c.add_text.result
    (λ same. record {
      rows = keeps c.args.self.now.rows now c.args.pattern.now c.in-Some.row.now c.add_text.new.row sets was same;
      counts = record { failing = refl; calls = refl; too_big = refl };
    })
    c.add_text.ensures.keeps

pub returns-in_ok-insert-in-None-clause-adds : goal.returns-in_ok-insert-in-None-clause-adds
returns-in_ok-insert-in-None-clause-adds c =
    let same = c.get_mut.follows.holds-at-none in
    let absent : is_some (get_by_text c.args.self.now.rows c.args.pattern.now) ≡ false = ap is_some (sym c.in-None.ensures.value) in
    let sets = btree_map_updates_text (string_bytes c.in_ok-from_str-in-None.field-0) c.get_mut.follows.lender-at-none c.insert.new.self _ c.in_ok-insert-in-None.ensures.updates in
    record {
      rows = adds c.args.self.now.rows c.insert.new.self c.args.pattern.now c.args.text.now c.args.found c.new-row.result c.add_text-in-None.new.row (rw (same, c.in_ok-from_str-in-None.ensures.ok) at sets)
          (as_empty c.args.self.now.rows c.args.pattern.now c.new-row.result absent c.new-row.ensures.empty) c.in_ok-add_text-in-None.ensures.adds;
      counts = record { failing = refl; calls = refl; too_big = refl };
    }
