-- A map to which a compiled pattern is added.
use Rattle.std.proofs.Common.{◌≡◌, ℕ, List, inl, inr, Some, Result, Ok, Err, OnOk, OnErr, string_bytes, sym, ◌∙◌, subst}
use Rattle.std.proofs.lemmas.Bool.{cases_Bool, cond-true, cond-false}
use Rattle.std.proofs.lemmas.Map.Text.{btree_map_updates_text}
use Rattle.std.proofs.lemmas.Option.{same_Some}
use Rattle.std.proofs.lemmas.Slice.Eq.{bytes_eq-Decides}
use Rattle.std.specs.BTreeMap.{BTreeMap, IsUnchanged, Updates, get_by_text}
use Rattle.std.specs.Map.{update}
use Rattle.std.specs.Str.{bytes_eq}
use Rattle.std.specs.String.{string_cmp}
use Rattle.std.specs.declared.alloc.Global.{Global}
use Rattle.std.specs.declared.string.String.{String}
use Rattle.arz_real.specs.declared.compiled.Compiled.{Compiled}
use Rattle.arz_real.specs.Kept.{AreCompiled, IsCompiled}

abbrev Map : Type 0
Map = BTreeMap (String Global) Compiled

module _ (old new : Map) (key : String Global) (pattern : List ℕ) (compiled : Compiled) (is_key : string_bytes key ≡ pattern) (before : AreCompiled old) (fresh : IsCompiled pattern compiled) where
  of_new : (sets : (p : List ℕ) → get_by_text new p ≡ update bytes_eq (get_by_text old) (string_bytes key) (Some compiled) p) → AreCompiled new
  of_new sets p x is = elim (cases_Bool (bytes_eq (string_bytes key) p)) [
    | inl same ↦
        let is_x : compiled ≡ x = same_Some _ _ (sym (sets p ∙ cond-true _ _ _ same) ∙ is) in
        let is_p : pattern ≡ p = sym is_key ∙ (bytes_eq-Decides (string_bytes key) p).0 same in
        subst (λ c. IsCompiled p c) is_x (subst (λ q. IsCompiled q compiled) is_p fresh)
    | inr other ↦ before p x (sym (sets p ∙ cond-false _ _ _ other) ∙ is)
  ]

  of_old : IsUnchanged old new → AreCompiled new
  of_old same p x is = before p x (rw same at is)

  pub are_kept : {A B : Type 0} (r : Result A B) → OnOk r (Updates string_cmp old new key (Some compiled)) → OnErr r (IsUnchanged old new) → AreCompiled new
  are_kept (Ok a) updates same = of_new (btree_map_updates_text (string_bytes key) old new _ updates)
  are_kept (Err e) updates same = of_old same
