-- The texts in which patterns are searched for.
use Rattle.std.proofs.Common.{◌≡◌, ℕ, ℤ, List, Bool, true, false, if◌then◌else◌, codes, Option, Some, None, Bor, refl, ap, subst, ◌∙◌}
use Rattle.std.specs.Fmt.{signed_decimal}
use Rattle.arz_json.specs.declared.tree.Json.{Json, out-Json}
use Rattle.arz_json.specs.declared.tree.Json.TheOpen.{Json-F}
use Rattle.arz_json.specs.declared.tree.Json.TheVariants.{Null, Flag, Int, Text, Opaque}
use Rattle.arz_json.specs.declared.tree.Json.TheViews.{outs-Null, outs-Flag, outs-Int, outs-Text, outs-Opaque}
use Rattle.arz_json.specs.declared.tree.Member.{Member}
use Rattle.arz_rx.specs.Patterns.{Told}
use Rattle.arz_expr.specs.Filling.{flag_text, rendered_in}
use Rattle.arz_path.specs.Outcome.{given}
use Rattle.arz_path.specs.Selected.{answered}
use Rattle.arz_cond.specs.declared.values.Worth.{Worth}
use Rattle.arz_cond.specs.declared.values.Worth.TheVariants as worth
use Rattle.arz_cond.specs.Rendering.{is_scalar_in, searched_text}
use Rattle.arz_cond.specs.Holding.{found_in, is_found}
use Rattle.arz_cond.specs.Seen.{worth_seen, is_branch_in, IsPlain}

-- the text of a value, by its level
text_in : Json → Json-F Json Member → Option (List ℕ)
text_in j d = if is_scalar_in d then Some (rendered_in j d) else None

by_level : (j : Json) (d : Json-F Json Member) → out-Json j ≡ d → searched_text j ≡ text_in j d
unfolding searched_text text_in
by_level j d e = ap (text_in j) e

branch_has_none : (j : Json) (d : Json-F Json Member) → is_branch_in d ≡ true → text_in j d ≡ None
unfolding text_in
branch_has_none j Json-F.Null h = absurd (cc)
branch_has_none j (Json-F.Flag b) h = absurd (cc)
branch_has_none j (Json-F.Int z) h = absurd (cc)
branch_has_none j (Json-F.Text s) h = absurd (cc)
branch_has_none j (Json-F.List js) h = refl
branch_has_none j (Json-F.Object ms) h = refl
branch_has_none j Json-F.Opaque h = refl

module _ (told : List ℕ → List ℕ → Told) (pattern : List ℕ) (w : Worth) where
  seen : (v : Worth) → w ≡ v → is_found told pattern (worth_seen w) ≡ is_found told pattern (worth_seen v)
  seen v e = ap (λ x. is_found told pattern (worth_seen x)) e

  pub found_null : w ≡ worth.Null → is_found told pattern (worth_seen w) ≡ answered (told pattern (codes "null"))
  unfolding text_in
  found_null e = seen worth.Null e ∙ ap (found_in told pattern) (by_level Null Json-F.Null outs-Null)

  pub found_flag : (b : Bool) → w ≡ worth.Flag b → is_found told pattern (worth_seen w) ≡ answered (told pattern (flag_text b))
  unfolding text_in
  found_flag b e = seen (worth.Flag b) e ∙ ap (found_in told pattern) (by_level (Flag b) (Json-F.Flag b) (outs-Flag b))

  pub found_int : (z : ℤ) → w ≡ worth.Int z → is_found told pattern (worth_seen w) ≡ answered (told pattern (signed_decimal z))
  unfolding text_in
  found_int z e = seen (worth.Int z) e ∙ ap (found_in told pattern) (by_level (Int z) (Json-F.Int z) (outs-Int z))

  pub found_text : (t : Bor (List ℕ)) → w ≡ worth.Text t → is_found told pattern (worth_seen w) ≡ answered (told pattern t.now)
  unfolding text_in
  found_text t e = seen (worth.Text t) e ∙ ap (found_in told pattern) (by_level (Text t.now) (Json-F.Text t.now) (outs-Text t.now))

  pub found_tree : (j : Bor Json) → IsPlain w → w ≡ worth.Tree j → is_found told pattern (worth_seen w) ≡ given false
  found_tree j h e =
      let branch : is_branch_in (out-Json j.now) ≡ true = subst IsPlain e h in
      seen (worth.Tree j) e ∙ ap (found_in told pattern) (by_level j.now (out-Json j.now) refl ∙ branch_has_none j.now (out-Json j.now) branch)

  pub found_absent : w ≡ worth.Absent → is_found told pattern (worth_seen w) ≡ given false
  found_absent e = seen worth.Absent e

  pub found_opaque : w ≡ worth.Opaque → is_found told pattern (worth_seen w) ≡ given false
  unfolding text_in
  found_opaque e = seen worth.Opaque e ∙ ap (found_in told pattern) (by_level Opaque Json-F.Opaque outs-Opaque)
