use Rattle.std.proofs.Common.{ℕ, List, Option, Some, option_map, cond, sym, ap, ◌∙◌}
use denote.Ref.{Bor}
use Rattle.std.proofs.lemmas.Map.Text.{btree_map_updates_str}
use Rattle.arz_rules.specs.Sets.{is_text}
use Rattle.arz_doc.specs.Cycles.{number_in}
use Rattle.arz_doc.proofs.cycles.put_number.Goals as goal

pub returns-in_ok-insert : goal.returns-in_ok-insert
returns-in_ok-insert c q =
    btree_map_updates_str c.in-Some.id.now c.args.numbers.now c.insert.new.self _ c.in_ok-insert.ensures.updates q
    ∙ ap (λ (o : Option (Bor (List ℕ))). cond (is_text (option_map (λ t. t.now) o) q) (Some c.args.number) (number_in c.args.numbers.now q)) (sym c.in-Some.is)
