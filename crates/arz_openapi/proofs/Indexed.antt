-- Operations by their ids, and members by their names.
use Rattle.std.proofs.Common.{◌≡◌, ℕ, ◌+◌, ◌-◌, ◌<◌, ◌≤◌, List, length, get_or, drop, map, Option, Some, option_map, Bool, true, false, cond, refl, sym, ap, ◌∙◌, arith}
use denote.Ref.{Bor}
use Rattle.std.specs.Prelude.{find}
use Rattle.std.specs.Str.{bytes_eq}
use Rattle.std.specs.BTreeMap.{BTreeMap, get_by}
use Rattle.std.specs.Cmp.Lexicographic.{slice_cmp}
use Rattle.std.specs.Ordering.{nat_cmp}
use Rattle.arz_json.specs.declared.tree.Json.{Json}
use Rattle.arz_json.specs.declared.tree.Member.{Member}
use Rattle.arz_json.specs.Pointer.{member_named as named}
use Rattle.arz_rules.proofs.Steps.{rest_of}
use Rattle.arz_operation.specs.Named.{has_id, is_text, id_of}
use Rattle.arz_openapi.specs.declared.sites.Site.{Site}
use Rattle.arz_openapi.specs.Sites.{seen}
use Rattle.arz_openapi.specs.Indexes.{site_in_map, item_in_map}

put_seen : (b : Bool) (s : Site) (o : Option Site) → option_map seen (cond b (Some s) o) ≡ cond b (Some (seen s)) (option_map seen o)
put_seen true s o = refl
put_seen false s o = refl

pub put : (old new : BTreeMap (Bor (List ℕ)) Site) (s : Site) (id : List ℕ)
    → ((q : List ℕ) → get_by (λ k. slice_cmp nat_cmp q k.now) new ≡ cond (bytes_eq id q) (Some s) (get_by (λ k. slice_cmp nat_cmp q k.now) old))
    → Some id ≡ id_of (seen s) → (q : List ℕ) → site_in_map new q ≡ cond (has_id q (seen s)) (Some (seen s)) (site_in_map old q)
put old new s id after is q =
    ap (option_map seen) (after q) ∙ put_seen (bytes_eq id q) s _ ∙ ap (λ (o : Option (List ℕ)). cond (is_text q o) (Some (seen s)) (site_in_map old q)) is

pub site_step : (old new : BTreeMap (Bor (List ℕ)) Site) (sites : List Site) (k : ℕ) (s : Site)
    → ((q : List ℕ) → site_in_map new q ≡ cond (has_id q (seen s)) (Some (seen s)) (site_in_map old q))
    → 0 < k → k ≤ length sites → s ≡ get_or sites (k - 1) s
    → ((q : List ℕ) → site_in_map old q ≡ find (has_id q) (map seen (drop k sites)))
    → (q : List ℕ) → site_in_map new q ≡ find (has_id q) (map seen (drop (k - 1) sites))
site_step old new sites k s after some fits is before q =
    let h : k - 1 < length sites = omega arith in
    let e : k - 1 + 1 ≡ k = omega arith in
    after q
    ∙ ap (λ o. cond (has_id q (seen s)) (Some (seen s)) o) (before q ∙ ap (λ i. find (has_id q) (map seen (drop i sites))) (sym e))
    ∙ sym (ap (λ (rest : List Site). find (has_id q) (map seen rest)) (rest_of sites (k - 1) s h is))

put_value : (b : Bool) (v : Bor Json) (o : Option (Bor Json)) → option_map (λ j. j.now) (cond b (Some v) o) ≡ cond b (Some v.now) (option_map (λ j. j.now) o)
put_value true v o = refl
put_value false v o = refl

pub index_step : (old new : BTreeMap (Bor (List ℕ)) (Bor Json)) (ms : List Member) (k : ℕ) (m : Member) (name : List ℕ) (v : Bor Json)
    → ((q : List ℕ) → get_by (λ k. slice_cmp nat_cmp q k.now) new ≡ cond (bytes_eq name q) (Some v) (get_by (λ k. slice_cmp nat_cmp q k.now) old))
    → name ≡ m.name → v.now ≡ m.value
    → 0 < k → k ≤ length ms → m ≡ get_or ms (k - 1) m
    → ((q : List ℕ) → item_in_map old q ≡ named (drop k ms) q)
    → (q : List ℕ) → item_in_map new q ≡ named (drop (k - 1) ms) q
index_step old new ms k m name v after same value some fits is before q =
    let h : k - 1 < length ms = omega arith in
    let e : k - 1 + 1 ≡ k = omega arith in
    ap (option_map (λ j. j.now)) (after q)
    ∙ put_value (bytes_eq name q) v _
    ∙ ap (λ (s : List ℕ). cond (bytes_eq s q) (Some v.now) (item_in_map old q)) same
    ∙ ap (λ j. cond (bytes_eq m.name q) (Some j) (item_in_map old q)) value
    ∙ ap (λ o. cond (bytes_eq m.name q) (Some m.value) o) (before q ∙ ap (λ i. named (drop i ms) q) (sym e))
    ∙ sym (ap (λ (more : List Member). named more q) (rest_of ms (k - 1) m h is))
