-- Sources by their names.
use Rattle.std.proofs.Common.{◌≡◌, ℕ, ◌+◌, ◌-◌, ◌<◌, ◌≤◌, List, length, get_or, drop, map, Option, Some, option_map, Bool, true, false, cond, refl, sym, ap, ◌∙◌, arith}
use denote.Ref.{Bor}
use Rattle.std.specs.Str.{bytes_eq}
use Rattle.std.specs.BTreeMap.{BTreeMap, get_by}
use Rattle.std.specs.Cmp.Lexicographic.{slice_cmp}
use Rattle.std.specs.Ordering.{nat_cmp}
use Rattle.arz_rules.proofs.Steps.{rest_of}
use Rattle.arz_sources.specs.declared.sources.Source.{Source}
use Rattle.arz_sources.specs.Served.{seen_source, source_in_map, named_in}

put : (b : Bool) (v : Bor Source) (o : Option (Bor Source)) → option_map (λ s. seen_source s.now) (cond b (Some v) o) ≡ cond b (Some (seen_source v.now)) (option_map (λ s. seen_source s.now) o)
put true v o = refl
put false v o = refl

pub index_step : (old new : BTreeMap (Bor (List ℕ)) (Bor Source)) (sources : List Source) (k : ℕ) (s : Source) (v : Bor Source)
    → ((q : List ℕ) → get_by (λ k. slice_cmp nat_cmp q k.now) new ≡ cond (bytes_eq s.name.now q) (Some v) (get_by (λ k. slice_cmp nat_cmp q k.now) old))
    → v.now ≡ s
    → 0 < k → k ≤ length sources → s ≡ get_or sources (k - 1) s
    → ((q : List ℕ) → source_in_map old q ≡ named_in (map seen_source (drop k sources)) q)
    → (q : List ℕ) → source_in_map new q ≡ named_in (map seen_source (drop (k - 1) sources)) q
index_step old new sources k s v after value some fits is before q =
    let h : k - 1 < length sources = omega arith in
    let e : k - 1 + 1 ≡ k = omega arith in
    ap (option_map (λ s. seen_source s.now)) (after q)
    ∙ put (bytes_eq s.name.now q) v _
    ∙ ap (λ (x : Source). cond (bytes_eq s.name.now q) (Some (seen_source x)) (source_in_map old q)) value
    ∙ ap (λ o. cond (bytes_eq s.name.now q) (Some (seen_source s)) o) (before q ∙ ap (λ i. named_in (map seen_source (drop i sources)) q) (sym e))
    ∙ sym (ap (λ (more : List Source). named_in (map seen_source more) q) (rest_of sources (k - 1) s h is))
