-- Members by their names.
use Rattle.std.proofs.Common.{◌≡◌, ℕ, ◌+◌, ◌-◌, ◌<◌, ◌≤◌, List, length, get_or, drop, Option, Some, option_map, Bool, true, false, cond, refl, sym, ap, ◌∙◌, arith}
use denote.Ref.{Bor}
use Rattle.std.specs.Str.{bytes_eq}
use Rattle.std.specs.BTreeMap.{BTreeMap, get_by}
use Rattle.std.specs.Cmp.Lexicographic.{slice_cmp}
use Rattle.std.specs.Ordering.{nat_cmp}
use Rattle.arz_json.specs.declared.tree.Json.{Json}
use Rattle.arz_json.specs.declared.tree.Member.{Member}
use Rattle.arz_json.specs.Pointer.{member_named as named}
use Rattle.arz_components.specs.Indexes.{found_in}
use Rattle.arz_components.proofs.Lists.{rest_of}

put : (b : Bool) (v : Bor Json) (o : Option (Bor Json)) → option_map (λ j. j.now) (cond b (Some v) o) ≡ cond b (Some v.now) (option_map (λ j. j.now) o)
put true v o = refl
put false v o = refl

pub index_step : (old new : BTreeMap (Bor (List ℕ)) (Bor Json)) (ms : List Member) (k : ℕ) (m : Member) (name : List ℕ) (v : Bor Json)
    → ((q : List ℕ) → get_by (λ k. slice_cmp nat_cmp q k.now) new ≡ cond (bytes_eq name q) (Some v) (get_by (λ k. slice_cmp nat_cmp q k.now) old))
    → name ≡ m.name → v.now ≡ m.value
    → 0 < k → k ≤ length ms → m ≡ get_or ms (k - 1) m
    → ((q : List ℕ) → found_in old q ≡ named (drop k ms) q)
    → (q : List ℕ) → found_in new q ≡ named (drop (k - 1) ms) q
index_step old new ms k m name v after same value some fits is before q =
    let h : k - 1 < length ms = omega arith in
    let e : k - 1 + 1 ≡ k = omega arith in
    ap (option_map (λ j. j.now)) (after q)
    ∙ put (bytes_eq name q) v _
    ∙ ap (λ (s : List ℕ). cond (bytes_eq s q) (Some v.now) (found_in old q)) same
    ∙ ap (λ j. cond (bytes_eq m.name q) (Some j) (found_in old q)) value
    ∙ ap (λ o. cond (bytes_eq m.name q) (Some m.value) o) (before q ∙ ap (λ i. named (drop i ms) q) (sym e))
    ∙ sym (ap (λ (more : List Member). named more q) (rest_of ms (k - 1) m h is))
