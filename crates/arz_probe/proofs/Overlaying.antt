-- What an overlay that is taken or not comes to, and what is printed of it.
use Rattle.std.proofs.Common.{◌≡◌, ◌≢◌, Option, Some, None, Result, Ok, Err, inl, inr, refl, sym, ap, subst}
use Rattle.std.specs.Prelude.{option_map}
use Rattle.arz_json.specs.Answer.{Fails}
use Rattle.arz_json.specs.declared.tree.Json.{Json}
use Rattle.arz_json.specs.declared.tree.Refusal.{Refusal}
use Rattle.arz_rx.specs.Patterns.{PatternsView, Rose}
use Rattle.arz_overlay.specs.Applied.{Says, Applies, refusal_in}
use Rattle.arz_overlay.specs.Documents.{Document}
use Rattle.arz_overlay.specs.Overlaid.{Patterned, overlaid}
use Rattle.arz_overlay.specs.declared.fault.OverlayFault.{OverlayFault}
use Rattle.arz_overlay.specs.declared.fault.OverlayFault.TheVariants as fault
use Rattle.arz_probe.specs.Overlays.{applied_if, result_form, PrintsOverlaid}
use Rattle.arz_probe.specs.Selections.{pattern_form}
use Rattle.arz_probe.specs.declared.report.Report.{Report}

abbrev pub Comes : OverlayFault → Option (Result Json Refusal) → PatternsView → PatternsView → Type 0
Comes e m old new = let r : Result Json OverlayFault = Err e in Applies (λ j. j) r m old new

-- an overlay that isn't taken
pub not_taken : (told : Patterned) (root : Json) (taken : Result Document Refusal) (e : OverlayFault) (old new : PatternsView) → Fails (refusal_in e) taken → e ≢ fault.Pattern → Comes e (applied_if told root taken) old new
not_taken told root taken (fault.Refused x) old new f n = subst (λ (t : Result Document Refusal). Says (applied_if told root t) (Err x)) (sym f) refl
not_taken told root taken fault.Pattern old new f n = absurd (n refl)
not_taken told root taken fault.Memory old new f n = tt

-- one that is taken
pub is_taken : (told : Patterned) (root : Json) (taken : Result Document Refusal) (d : Document) → taken ≡ Ok d → overlaid told d root ≡ applied_if told root taken
is_taken told root taken d is = sym (ap (applied_if told root) is)

-- ---- what is printed

says_form : (m : Option (Result Json Refusal)) (x : Result Json Refusal) → Says m x → Says (option_map result_form m) (result_form x)
says_form None x h = tt
says_form (Some y) x h = ap result_form h

pub prints_meant : (m : Option (Result Json Refusal)) (x : Result Json Refusal) (old new : PatternsView) (r : Report) → Says m x → r ≡ result_form x → PrintsOverlaid m old new r
prints_meant m x old new r says is = inl (subst (λ (y : Report). Says (option_map result_form m) y) (sym is) (says_form m x says))

pub prints_refused : (m : Option (Result Json Refusal)) (e : OverlayFault) (x : Refusal) (old new : PatternsView) (r : Report) → e ≡ fault.Refused x → Comes e m old new → r ≡ result_form (Err x) → PrintsOverlaid m old new r
prints_refused m e x old new r is comes form = prints_meant m (Err x) old new r (subst (λ (z : OverlayFault). Comes z m old new) is comes) form

pub prints_pattern : (m : Option (Result Json Refusal)) (e : OverlayFault) (old new : PatternsView) (r : Report) → e ≡ fault.Pattern → Comes e m old new → r ≡ pattern_form → PrintsOverlaid m old new r
prints_pattern m e old new r is comes form = inr (form, subst (λ (z : OverlayFault). Comes z m old new) is comes)
