-- What an action comes to, and what the actions in order come to.
use Rattle.std.proofs.Common.{◌≡◌, ◌≢◌, ℕ, zero, suc, ◌+◌, ◌<◌, ◌≤◌, List, [], ◌∷◌, map, length, drop, get_or, add-one, true, Option, Some, None, Result, Ok, Err, refl, sym, ap, ◌∙◌, subst, arith}
use Rattle.std.specs.Prelude.{IfErr, IsErrAnd, codes}
use Rattle.arz_json.specs.Answer.{Fails, Gives}
use Rattle.arz_json.specs.Tree.{has_form, all_true, IsWithin}
use Rattle.arz_json.specs.declared.tree.Json.{Json}
use Rattle.arz_json.specs.declared.tree.Refusal.{Refusal}
use Rattle.arz_rx.specs.Patterns.{PatternsView, Rose}
use Rattle.arz_rules.specs.Phases.{refusal}
use Rattle.arz_path.specs.Outcome.{Outcome, given, wide, untold, Covers}
use Rattle.arz_path.specs.Results.{Fails as Unselected}
use Rattle.arz_path.specs.declared.fault.SelectFault.{SelectFault}
use Rattle.arz_path.specs.declared.fault.SelectFault.TheVariants as select
use Rattle.arz_overlay.specs.declared.fault.OverlayFault.{OverlayFault}
use Rattle.arz_overlay.specs.declared.fault.OverlayFault.TheVariants as fault
use Rattle.arz_overlay.specs.declared.working.Work.{Work}
use Rattle.arz_overlay.specs.Applied.{refusal_in, Says, Applies, told_at, tree_of_work}
use Rattle.arz_overlay.specs.Documents.{Document, actions_in, action_place}
use Rattle.arz_overlay.specs.Overlaid.{Patterned, after_action, done, done_after, overlaid, overlaid_from}
use Rattle.arz_overlay.specs.Steps.{done_at, over_limit}
use Rattle.arz_overlay.proofs.FirstTargets.{items_form_at}
use Rattle.arz_overlay.proofs.Within.{overlaid_from-within}
use Rattle.arz_changes.specs.Removal.{Places}
use Rattle.arz_changes.proofs.Lists.{drop_at, left, right}

-- ---- faults

-- what a fault of the selection says
pub told_wide : {Y : Type 0} (f : SelectFault) (o : Outcome Y) (old new : PatternsView) → f ≡ select.TooWide → Unselected f o old new → Covers o wide
told_wide f o old new is h = subst (λ (x : SelectFault). Unselected x o old new) is h

pub told_pattern : {Y : Type 0} (f : SelectFault) (o : Outcome Y) (old new : PatternsView) → f ≡ select.Pattern → Unselected f o old new → Rose old.too_big new.too_big
told_pattern f o old new is h = subst (λ (x : SelectFault). Unselected x o old new) is h

-- ---- one action

abbrev pub alone : Json → Option (Result Json Refusal)
alone j = Some (Ok j)

told_alone : (label : List ℕ) (k : ℕ) (r : Result Json ℕ) → after_action label k alone (Some r) ≡ Some (told_at label k r)
told_alone label k (Ok j) = refl
told_alone label k (Err rule) = refl

abbrev Tells : Result Work OverlayFault → Type 0
Tells r = IfErr r (λ e. e ≢ fault.Pattern)

pub applies_told : (r : Result Work OverlayFault) (m : Result Json Refusal) (old new : PatternsView) → Gives tree_of_work refusal_in r m → Tells r → Applies tree_of_work r (Some m) old new
applies_told (Ok w) m old new g n = g
applies_told (Err (fault.Refused x)) m old new g n = g
applies_told (Err fault.Pattern) m old new g n = absurd (n refl)
applies_told (Err fault.Memory) m old new g n = tt

applies_untold : (r : Result Work OverlayFault) (old new : PatternsView) → Tells r → Applies tree_of_work r None old new
applies_untold (Ok w) old new n = tt
applies_untold (Err (fault.Refused x)) old new n = tt
applies_untold (Err fault.Pattern) old new n = absurd (n refl)
applies_untold (Err fault.Memory) old new n = tt

-- at the places that were selected
pub applies_given : (label : List ℕ) (k : ℕ) (action j : Json) (ps : Places) (o : Outcome Places) (r : Result Work OverlayFault) (old new : PatternsView)
    → Covers o (given ps) → Gives tree_of_work refusal_in r (told_at label k (done_at action ps j)) → Tells r → Applies tree_of_work r (after_action label k alone (done_after action j o)) old new
applies_given label k action j ps (given qs) r old new h g n =
    let is : qs ≡ ps = cc in
    subst (λ m. Applies tree_of_work r m old new) (sym (told_alone label k (done_at action qs j)))
    (applies_told r (told_at label k (done_at action qs j)) old new (subst (λ p. Gives tree_of_work refusal_in r (told_at label k (done_at action p j))) (sym is) g) n)
applies_given label k action j ps wide r old new h g n = absurd (cc)
applies_given label k action j ps untold r old new h g n = applies_untold r old new n

-- where too many are selected
pub applies_wide : (label : List ℕ) (k : ℕ) (action j : Json) (o : Outcome Places) (e : OverlayFault) (old new : PatternsView)
    → Covers o wide → (let m : Result Json Refusal = Err (refusal label (over_limit, action_place k)) in Fails (refusal_in e) m) → e ≢ fault.Pattern
    → (let r : Result Work OverlayFault = Err e in Applies tree_of_work r (after_action label k alone (done_after action j o)) old new)
applies_wide label k action j (given qs) e old new h g n = absurd (cc)
applies_wide label k action j wide e old new h g n = applies_told (Err e) (Err (refusal label (over_limit, action_place k))) old new g n
applies_wide label k action j untold e old new h g n = applies_untold (Err e) old new n

-- ---- actions in order

-- what is meant is untold, or this
abbrev pub Follows : Option (Result Json Refusal) → Option (Result Json Refusal) → Type 0
Follows None x = Unit {0}
Follows (Some m) x = x ≡ Some m

abbrev pub Rest : Type 0
Rest = Json → Option (Result Json Refusal)

-- an action was done, and the others follow
pub follows_on : (m : Option (Result Json Refusal)) (label : List ℕ) (k : ℕ) (next : Rest) (d : Option (Result Json ℕ)) (j : Json)
    → Says (after_action label k alone d) (Ok j) → Follows m (after_action label k next d) → Follows m (next j)
follows_on None label k next d j s f = tt
follows_on (Some m) label k next None j s f = absurd (cc)
follows_on (Some m) label k next (Some (Err rule)) j s f = absurd (cc)
follows_on (Some m) label k next (Some (Ok i)) j s f = let is : i ≡ j = cc in sym (ap next is) ∙ f

refused_on : (m : Option (Result Json Refusal)) (label : List ℕ) (k : ℕ) (next : Rest) (d : Option (Result Json ℕ)) (x : Refusal)
    → Says (after_action label k alone d) (Err x) → Follows m (after_action label k next d) → Says m (Err x)
refused_on None label k next d x s f = tt
refused_on (Some m) label k next None x s f = absurd (cc)
refused_on (Some m) label k next (Some (Err rule)) x s f = let is : Err (refusal label (rule, action_place k)) ≡ m = cc in sym is ∙ s
refused_on (Some m) label k next (Some (Ok i)) x s f = absurd (cc)

-- an action was not done
pub fails_on : (m : Option (Result Json Refusal)) (label : List ℕ) (k : ℕ) (next : Rest) (d : Option (Result Json ℕ)) (e : OverlayFault) (first old new : PatternsView)
    → (let r : Result Work OverlayFault = Err e in Applies tree_of_work r (after_action label k alone d) old new) → Follows m (after_action label k next d) → first.too_big ≤ old.too_big
    → (let r : Result Work OverlayFault = Err e in Applies tree_of_work r m first new)
fails_on m label k next d (fault.Refused x) first old new a f h = refused_on m label k next d x a f
fails_on m label k next d fault.Pattern first old new a f h = omega (arith, a, h)
fails_on m label k next d fault.Memory first old new a f h = tt

-- one more action was done, by what was told before it
pub step_follows : (told now : Patterned) (label : List ℕ) (k : ℕ) (actions : List Json) (action : Json) (m : Option (Result Json Refusal)) (j w : Json) → now ≡ told → k < length actions → action ≡ get_or actions k action
    → Says (after_action label k alone (done now action j)) (Ok w) → Follows m (overlaid_from told label k (drop k actions) j) → Follows m (overlaid_from told label (k + 1) (drop (k + 1) actions) w)
step_follows told now label k actions action m j w same less is says follows =
    let rest = drop (k + 1) actions in
    let said = subst (λ (t : Patterned). Says (after_action label k alone (done t action j)) (Ok w)) same says in
    let whole = subst (λ (l : List Json). Follows m (overlaid_from told label k l j)) (drop_at actions k action less is) follows in
    subst (λ (n : ℕ). Follows m (overlaid_from told label n rest w)) (sym (add-one k)) (follows_on m label k (overlaid_from told label (suc k) rest) (done told action j) w said whole)

-- one more action was not done
pub step_fails : (told : Patterned) (label : List ℕ) (k : ℕ) (actions : List Json) (action : Json) (m : Option (Result Json Refusal)) (j : Json) (e : OverlayFault) (first old new : PatternsView)
    → old.told ≡ told → first.too_big ≤ old.too_big → k < length actions → action ≡ get_or actions k action
    → (let r : Result Work OverlayFault = Err e in Applies tree_of_work r (after_action label k alone (done old.told action j)) old new) → Follows m (overlaid_from told label k (drop k actions) j)
    → (let r : Result Work OverlayFault = Err e in Applies tree_of_work r m first new)
step_fails told label k actions action m j e first old new same count less is applies follows =
    let failed = subst (λ (t : Patterned). (let r : Result Work OverlayFault = Err e in Applies tree_of_work r (after_action label k alone (done t action j)) old new)) same applies in
    let whole = subst (λ (l : List Json). Follows m (overlaid_from told label k l j)) (drop_at actions k action less is) follows in
    fails_on m label k (overlaid_from told label (suc k) (drop (k + 1) actions)) (done told action j) e first old new failed whole count

-- the call that was not done gives that
pub exit : (r : Result Work OverlayFault) (e : OverlayFault) (m : Option (Result Json Refusal)) (old new : PatternsView) → IsErrAnd r (λ x. x ≡ e)
    → (let f : Result Work OverlayFault = Err e in Applies tree_of_work f m old new) → Applies tree_of_work r m old new
exit (Ok w) e m old new is a = absurd is
exit (Err x) e m old new is a = subst (λ (z : OverlayFault). (let f : Result Work OverlayFault = Err z in Applies tree_of_work f m old new)) (sym is) a

-- an action, by its number, is in form
pub form_at : (js : List Json) (i : ℕ) (j : Json) → all_true (map has_form js) ≡ true → i < length js → j ≡ get_or js i j → has_form j ≡ true
form_at [] i j h less is = absurd (omega arith)
form_at (x ∷ xs) zero j h less is = ap has_form is ∙ left _ _ h
form_at (x ∷ xs) (suc i) j h less is = form_at xs i j (right (has_form x) _ h) (omega arith) is

-- ---- what is left nests no deeper than the limit

-- a tree in form that nests at most 127 deep gives only such trees, by an overlay in form
pub overlaid-within : (told : Patterned) (document : Document) (root j : Json) → IsWithin 127 root → has_form document.tree ≡ true → overlaid told document root ≡ Some (Ok j) → IsWithin 127 j
overlaid-within told document root j w form e =
    overlaid_from-within told document.label 0 (actions_in document.tree) (items_form_at (codes "actions") document.tree form) root j e w
