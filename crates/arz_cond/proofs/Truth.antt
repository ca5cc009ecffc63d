-- Which values are true.
use Rattle.std.proofs.Common.{◌≡◌, Bool, true, false, Some, refl, ap}
use Rattle.arz_json.specs.declared.tree.Json.{Json, out-Json}
use Rattle.arz_json.specs.declared.tree.Json.TheOpen.{Json-F}
use Rattle.arz_json.specs.declared.tree.Json.TheVariants.{Flag}
use Rattle.arz_json.specs.declared.tree.Json.TheViews.{outs-Null, outs-Flag, outs-Int, outs-Text, outs-Opaque}
use Rattle.arz_json.specs.declared.tree.Member.{Member}
use Rattle.arz_cond.specs.declared.values.Worth.{Worth}
use Rattle.arz_cond.specs.declared.values.Worth.TheVariants as worth
use Rattle.arz_cond.specs.Meaning.{is_true, is_true_in}
use Rattle.arz_cond.specs.Seen.{worth_seen, is_branch_in, IsPlain}

pub flag_is_true : (b : Bool) → is_true (Some (Flag b)) ≡ b
flag_is_true b = ap is_true_in (outs-Flag b)

branch_is_not_true : (d : Json-F Json Member) → is_branch_in d ≡ true → is_true_in d ≡ false
branch_is_not_true Json-F.Null h = refl
branch_is_not_true (Json-F.Flag b) h = absurd (cc)
branch_is_not_true (Json-F.Int z) h = refl
branch_is_not_true (Json-F.Text s) h = refl
branch_is_not_true (Json-F.List js) h = refl
branch_is_not_true (Json-F.Object ms) h = refl
branch_is_not_true Json-F.Opaque h = refl

pub only_flags_are_true : (w : Worth) → IsPlain w → ((b : Bool) → w ≡ worth.Flag b → ⊥) → is_true (worth_seen w) ≡ false
only_flags_are_true worth.Absent h other = refl
only_flags_are_true worth.Null h other = ap is_true_in outs-Null
only_flags_are_true (worth.Flag b) h other = absurd (other b refl)
only_flags_are_true (worth.Int z) h other = ap is_true_in (outs-Int z)
only_flags_are_true (worth.Text t) h other = ap is_true_in (outs-Text t.now)
only_flags_are_true (worth.Tree j) h other = branch_is_not_true (out-Json j.now) h
only_flags_are_true worth.Opaque h other = ap is_true_in outs-Opaque
