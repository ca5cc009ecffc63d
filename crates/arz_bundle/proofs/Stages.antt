-- What comes of one file and of the phases after it.
use Rattle.std.proofs.Common.{◌≡◌, ◌≢◌, inl, inr, ◌≤◌, ℕ, Bool, List, [], length, codes, Option, Some, None, Result, Ok, Err, IsErrAnd, refl, sym, ap, ◌∙◌, subst}
use Rattle.std.specs.Prelude.{option_map}
use Rattle.std.specs.Str.{IsUtf8}
use Rattle.serde_json.specs.Read.{read}
use Rattle.arz_json.specs.Answer.{Gives, Fails}
use Rattle.arz_json.specs.Reading.{Reads}
use Rattle.arz_json.specs.declared.Json.{Json}
use Rattle.arz_json.specs.declared.Refusal.{Refusal}
use Rattle.arz_json.specs.declared.Token.{Token}
use Rattle.arz_world.specs.Outside.{FilesView, ReadsAs}
use Rattle.arz_doc.specs.Order.{seen_failure}
use Rattle.arz_doc.specs.declared.order.Failure.{Failure}
use Rattle.arz_rules.specs.Phases.{Rule, refusal, cause, phase, told_or, first_failure}
use Rattle.arz_rules.specs.declared.phases.RuleFault.{RuleFault}
use Rattle.arz_rules.specs.declared.phases.RuleFault.TheVariants as rule
use Rattle.arz_rx.specs.Patterns.{PatternsView, Rose as PatternsRose}
use Rattle.arz_rx.specs.declared.SearchFault.{SearchFault}
use Rattle.arz_rx.specs.declared.SearchFault.TheVariants as search
use Rattle.arz_criteria.specs.Rules.{TellsReadings, patterns_in}
use Rattle.arz_doc.specs.Cycles.{TellsCycles}
use Rattle.arz_bundle.specs.declared.fault.LoadFault.{LoadFault}
use Rattle.arz_bundle.specs.declared.fault.LoadFault.TheVariants.{File, Refused, Pattern, Memory}
use Rattle.arz_bundle.specs.FileTree.{HasTree, Checks, JudgesDescription, IsRelabelled, FailsAt, load_fault, search_fault, seen_refusal}
use Rattle.arz_bundle.specs.Loading.{file_limit, Tells, Reading}
use Rattle.arz_bundle.specs.Phases.{told, earlier, description_told, source_told}

-- ---- one file, of what is read before it and after it

-- the file has no tree, or a read of it failed
pub had-none : {A : Type 0} (before now : FilesView) (path label : List ℕ) (Next : Json → Result A LoadFault → Type 0) (fault : LoadFault)
    → HasTree before now path label (Err fault) → Reading before now path label Next (Err fault)
had-none before now path label Next (File p) (rose, is) = inr (inl (rose, ap (λ (q : List ℕ). Err (File q)) is))
had-none before now path label Next (Refused r) (bytes, reads, none) = inl (bytes, reads, inr (r, none, refl))
had-none before now path label Next Pattern has = absurd has
had-none before now path label Next Memory has = inr (inr refl)

module _ {A : Type 0} (before after now : FilesView) (path label : List ℕ) (Next : Json → Result A LoadFault → Type 0) (tree : Json) where
  -- what follows the file goes on with its tree
  pub went-on : (x : Result A LoadFault) → HasTree before after path label (Ok tree) → Next tree x → Reading before now path label Next x
  went-on x has goes = inl (has.0, has.1, inl (tree, has.2, goes))

  -- a rule of what follows fails, or memory runs out
  pub was-refused : (o : Option Refusal) (fault : RuleFault) → HasTree before after path label (Ok tree) → Checks o (Err fault)
      → ((r : Refusal) → o ≡ Some r → Next tree (Err (Refused r))) → Reading before now path label Next (Err (load_fault fault))
  was-refused o (rule.Refused r) has fails goes = inl (has.0, has.1, inl (tree, has.2, goes r fails))
  was-refused o rule.Memory has fails goes = inr (inr refl)

-- a phase tells its refusal, or goes on
pub tells-refused : {A : Type 0} (o : Option Refusal) (Next : Result A LoadFault → Type 0) (r : Refusal) → o ≡ Some r → Tells o Next (Err (Refused r))
tells-refused o Next r is = subst (λ p. Tells p Next (Err (Refused r))) (sym is) refl

pub tells-on : {A : Type 0} (o : Option Refusal) (Next : Result A LoadFault → Type 0) (x : Result A LoadFault) → o ≡ None → Next x → Tells o Next x
tells-on o Next x is goes = subst (λ p. Tells p Next x) (sym is) goes

-- a phase of two documents, by the first failures of each
pub told-as : (setup description : Option Failure) (f g : Option (ℕ × List Token)) (r : Result Unit RuleFault) → option_map seen_failure setup ≡ f → option_map seen_failure description ≡ g
    → Checks (earlier (seen_refusal (codes "setup") setup) (seen_refusal (codes "arazzo") description)) r → Checks (earlier (option_map (refusal (codes "setup")) f) (option_map (refusal (codes "arazzo")) g)) r
told-as setup description f g r p q checks =
    let First : Option (ℕ × List Token) → Type 0 = λ o. Checks (earlier (option_map (refusal (codes "setup")) o) (option_map (refusal (codes "arazzo")) g)) r in
    let Second : Option (ℕ × List Token) → Type 0 = λ o. Checks (earlier (seen_refusal (codes "setup") setup) (option_map (refusal (codes "arazzo")) o)) r in
    subst First p (subst Second q checks)

-- the phase of the description, by what is told of it
module _ (old new : PatternsView) (setup description : Json) where
  pub described-by : (is_cyclic : ℕ → Bool) (refuses : List ℕ → Bool) → TellsCycles description is_cyclic → TellsReadings old.told description refuses → (fault : RuleFault)
      → Checks (description_told is_cyclic refuses setup description) (Err fault) → JudgesDescription old new setup description (Err (load_fault fault))
  described-by is_cyclic refuses cycles readings (rule.Refused r) told = (is_cyclic, cycles, refuses, readings, sym told)
  described-by is_cyclic refuses cycles readings rule.Memory told = tt

  -- a pattern that was asked of was too big, or memory ran out
  pub unsearched : (fault : SearchFault) → (fault ≡ search.TooBig → PatternsRose old.too_big new.too_big) → (fault ≡ search.TooBig → patterns_in description ≢ [])
      → JudgesDescription old new setup description (Err (search_fault fault))
  unsearched search.TooBig rose asks = (rose refl, asks refl)
  unsearched search.Memory rose asks = tt

pub refused-as : (o : Option Refusal) (r : Refusal) (fault : RuleFault) → o ≡ Some r → (let meant : Result Unit Refusal = Err r in Fails (cause fault) meant) → Checks o (Err fault)
refused-as o r (rule.Refused s) is fails = cc
refused-as o r rule.Memory is fails = tt

-- what the exit of a `?` returns
pub exit : {A : Type 0} (P : Result A LoadFault → Type 0) (r : Result A LoadFault) (fault : LoadFault) → IsErrAnd r (λ e. e ≡ fault) → P (Err fault) → P r
exit P (Ok a) fault is p = absurd is
exit P (Err e) fault is p = subst (λ z. P (Err z)) (sym is) p

-- ---- one path and one label in place of equal ones

pub at-place : (before now : FilesView) (path path' label label' : List ℕ) (x : Result Json LoadFault) → path ≡ path' → label ≡ label' → HasTree before now path label x → HasTree before now path' label' x
at-place before now path path' label label' x p l has =
    let P : List ℕ → Type 0 = λ q. HasTree before now q label x in
    let L : List ℕ → Type 0 = λ m. HasTree before now path' m x in
    subst L l (subst P p has)

pub labelled : (label label' : List ℕ) (source : Json) (r : Result Unit RuleFault) → label ≡ label' → Checks (source_told label source) r → Checks (source_told label' source) r
labelled label label' source r same checks = subst (λ l. Checks (source_told l source) r) same checks

-- ---- what a call that looks at rules gives, as what a phase tells

abbrev Told : Type 0
Told = Result Unit Refusal

abbrev Shown : Result Unit RuleFault → Told → Type 0
Shown r meant = Gives (λ u. u) cause r meant

fault-told : (label : List ℕ) (f : Option (ℕ × List Token)) (r : Result Unit RuleFault) → Shown r (told_or label f (Ok tt)) → Checks (option_map (refusal label) f) r
fault-told label None (Ok u) gives = refl
fault-told label None (Err (rule.Refused s)) gives = absurd (cc)
fault-told label None (Err rule.Memory) gives = tt
fault-told label (Some f) (Ok u) gives = absurd (cc)
fault-told label (Some f) (Err (rule.Refused s)) gives = cc
fault-told label (Some f) (Err rule.Memory) gives = tt

pub phase-told : (label : List ℕ) (rules : List Rule) (r : Result Unit RuleFault) → Shown r (phase label rules (Ok tt)) → Checks (told label rules) r
phase-told label rules r gives = fault-told label (first_failure rules) r gives

-- the same under another label
abbrev under_label : List ℕ → Refusal → Refusal
under_label label r = record { rule = r.rule; label = label; pointer = r.pointer }

same-refusal : (r s : Refusal) → (let meant : Told = Err r in meant ≡ Err s) → r ≡ s
same-refusal r s e = cc

fault-relabelled : (label : List ℕ) (f : Option (ℕ × List Token)) (was now : RuleFault) → Shown (Err was) (told_or [] f (Ok tt)) → IsRelabelled label was now → Checks (option_map (refusal label) f) (Err now)
fault-relabelled label f was rule.Memory gives is = tt
fault-relabelled label f rule.Memory (rule.Refused s) gives is = absurd is
fault-relabelled label None (rule.Refused r) (rule.Refused s) gives is = absurd (cc)
fault-relabelled label (Some f) (rule.Refused r) (rule.Refused s) gives is =
    ap (λ q. Some (under_label label q)) (same-refusal (refusal [] f) r gives) ∙ ap (λ q. Some q) (sym is)

pub phase-relabelled : (label : List ℕ) (rules : List Rule) (was now : RuleFault) → Shown (Err was) (phase [] rules (Ok tt)) → IsRelabelled label was now → Checks (told label rules) (Err now)
phase-relabelled label rules was now gives is = fault-relabelled label (first_failure rules) was now gives is

pub phase-passed : (label : List ℕ) (rules : List Rule) (u : Unit) → (let r : Result Unit RuleFault = Ok u in Shown r (phase [] rules (Ok tt))) → told label rules ≡ None
phase-passed label rules u gives = by-failure (first_failure rules) gives
  where
    by-failure : (f : Option (ℕ × List Token)) → told_or [] f (let ok : Told = Ok tt in ok) ≡ Ok u → option_map (refusal label) f ≡ None
    by-failure None gives = refl
    by-failure (Some f) gives = absurd (cc)

-- a source that isn't built is told
pub refused-at : (label : List ℕ) (o : Option Refusal) (fault : RuleFault) → o ≡ Some (refusal label (0, [])) → FailsAt label 0 (load_fault fault) → Checks o (Err fault)
refused-at label o (rule.Refused r) is fails = is ∙ ap (λ q. Some q) (sym fails)
refused-at label o rule.Memory is fails = tt

none-some : {X : Type 0} (o : Option X) (x : X) → o ≡ None → o ≡ Some x → ⊥
none-some o x none some = absurd (cc)

no-reading-of : (bytes : List ℕ) → (IsUtf8 bytes → read bytes ≡ None) → (tree : Json) → Reads bytes tree → ⊥
no-reading-of bytes none tree reads = none-some (read bytes) reads.1 (none reads.0) reads.2

-- the same bytes have no reading
pub no-reading : (bytes bytes' : List ℕ) → bytes ≡ bytes' → (length bytes ≤ file_limit) × (IsUtf8 bytes → read bytes ≡ None) → (length bytes' ≤ file_limit) × ((tree : Json) → Reads bytes' tree → ⊥)
no-reading bytes bytes' same answer =
    let P : List ℕ → Type 0 = λ bs. (length bs ≤ file_limit) × ((tree : Json) → Reads bs tree → ⊥) in
    subst P same (answer.0, no-reading-of bytes answer.1)

-- the bytes of the file are no JSON text
pub no-text : (before now : FilesView) (path label bytes : List ℕ) (fault : LoadFault) → ReadsAs (before.told path) file_limit bytes → (length bytes ≤ file_limit) × ((tree : Json) → Reads bytes tree → ⊥)
    → FailsAt label 2 fault → HasTree before now path label (Err fault)
no-text before now path label bytes (File p) reads none fails = absurd fails
no-text before now path label bytes (Refused r) reads none fails = (bytes, reads, inr (none.0, none.1, fails))
no-text before now path label bytes Pattern reads none fails = absurd fails
no-text before now path label bytes Memory reads none fails = tt
