-- The first failure of rules, and of phases: each has a label, its rules, and what comes after it.
use Rattle.std.specs.Prelude.{ℕ, List, [], ◌∷◌, Option, Some, None, Result, Err}
use Rattle.arz_json.specs.declared.tree.Refusal.{Refusal}
use Rattle.arz_json.specs.declared.place.Token.{Token}
use Rattle.arz_rules.specs.declared.phases.RuleFault.{RuleFault}
use Rattle.arz_rules.specs.declared.phases.RuleFault.TheVariants.{Refused, Memory}
use Rattle.arz_rules.specs.Place.{least}
use Rattle.arz_rules.specs.Pointer.{pointer_text}

-- a rule of a document: its number, and the places at which the document fails it
abbrev pub Rule : Type 0
Rule = ℕ × List (List Token)

-- a rule's failure: its number and place
abbrev pub Failure : Type 0
Failure = ℕ × List Token

abbrev pub failure_or : ℕ → Option (List Token) → Option Failure → Option Failure
failure_or rule None later = later
failure_or rule (Some p) later = Some (rule, p)

-- of rules in order, the first that fails anywhere, at its least place
abbrev pub first_failure : List Rule → Option Failure
first_failure [] = None
first_failure (r ∷ rules) = failure_or r.0 (least r.1) (first_failure rules)

-- a failure as it is told, with the label of the document
abbrev pub refusal : List ℕ → Failure → Refusal
refusal label f = record { rule = f.0; label = label; pointer = pointer_text f.1 }

-- a failure is told; else what comes later
abbrev pub told_or : {A : Type 0} → List ℕ → Option Failure → Result A Refusal → Result A Refusal
told_or label (Some f) later = Err (refusal label f)
told_or label None later = later

-- a phase, and what comes after it
abbrev pub phase : {A : Type 0} → List ℕ → List Rule → Result A Refusal → Result A Refusal
phase label rules later = told_or label (first_failure rules) later

-- the refusal of a fault; want of memory has none
abbrev pub cause : RuleFault → Option Refusal
cause (Refused r) = Some r
cause Memory = None
