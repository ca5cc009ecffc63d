-- For private clauses: the tree of a file, or why there is none, and what a look at its rules answers.
use Rattle.std.specs.Prelude.{◌≡◌, ◌≢◌, ◌⊎◌, ℕ, List, [], Option, Some, None, option_map}
use Rattle.std.specs.declared.result.Result.{Result}
use Rattle.std.specs.declared.result.Result.TheVariants.{Ok, Err}
use Rattle.arz_json.specs.declared.Json.{Json}
use Rattle.arz_json.specs.declared.Named.{Named}
use Rattle.arz_json.specs.declared.Refusal.{Refusal}
use Rattle.arz_world.specs.Outside.{FilesView, ReadsAs, Rose}
use denote.Ref.{Bor}
use Rattle.arz_doc.specs.Order.{seen_failure}
use Rattle.arz_doc.specs.declared.order.Failure.{Failure}
use Rattle.arz_overlay.specs.declared.fault.OverlayFault.{OverlayFault}
use Rattle.arz_overlay.specs.declared.fault.OverlayFault.TheVariants as overlay
use Rattle.arz_rules.specs.Phases.{refusal}
use Rattle.arz_rules.specs.declared.phases.RuleFault.{RuleFault}
use Rattle.arz_rules.specs.declared.phases.RuleFault.TheVariants as rule
use Rattle.arz_rx.specs.Patterns.{PatternsView, Rose as PatternsRose}
use Rattle.arz_rx.specs.declared.SearchFault.{SearchFault}
use Rattle.arz_rx.specs.declared.SearchFault.TheVariants as search
use Rattle.arz_criteria.specs.Rules.{patterns_in}
use Rattle.arz_bundle.specs.declared.fault.LoadFault.{LoadFault}
use Rattle.arz_bundle.specs.declared.fault.LoadFault.TheVariants.{File, Refused, Pattern, Memory}
use Rattle.arz_bundle.specs.Loading.{file_limit, IsFile, NoFile}
use Rattle.arz_bundle.specs.Phases.{IsDescribed}

-- before, now: what the files show before a read and after it
module _ (before now : FilesView) (path label : List ℕ) where
  abbrev pub HasTree : Result Json LoadFault → Type 0
  HasTree (Ok tree) = (bytes : List ℕ) × ReadsAs (before.told path) file_limit bytes × IsFile bytes tree
  HasTree (Err (File p)) = Rose (before.faults path) (now.faults path) × (p ≡ path)
  HasTree (Err (Refused r)) = (bytes : List ℕ) × ReadsAs (before.told path) file_limit bytes × NoFile label bytes r
  HasTree (Err Pattern) = ⊥
  HasTree (Err Memory) = Unit {0}

-- no rule of a phase fails; or what the phase tells; or memory ran out
abbrev pub Checks : (told : Option Refusal) → Result Unit RuleFault → Type 0
Checks told (Ok u) = told ≡ None
Checks told (Err (rule.Refused r)) = told ≡ Some r
Checks told (Err rule.Memory) = Unit {0}

-- The description passes its phase, or this is told of it; or a pattern of a criterion was too big, or memory ran out.
-- old, new: the patterns at the call's beginning and end
abbrev pub JudgesDescription : (old new : PatternsView) → (setup description : Json) → Result Unit LoadFault → Type 0
JudgesDescription old new setup description (Ok u) = IsDescribed old.told setup description None
JudgesDescription old new setup description (Err (File path)) = ⊥
JudgesDescription old new setup description (Err (Refused r)) = IsDescribed old.told setup description (Some r)
JudgesDescription old new setup description (Err Pattern) = PatternsRose old.too_big new.too_big × (patterns_in description ≢ [])
JudgesDescription old new setup description (Err Memory) = Unit {0}

-- a refusal is told under this label, or memory ran out
abbrev pub IsRelabelled : (label : List ℕ) → (was now : RuleFault) → Type 0
IsRelabelled label (rule.Refused r) (rule.Refused s) = s ≡ record { rule = r.rule; label = label; pointer = r.pointer }
IsRelabelled label rule.Memory (rule.Refused s) = ⊥
IsRelabelled label was rule.Memory = Unit {0}

abbrev pub load_fault : RuleFault → LoadFault
load_fault (rule.Refused r) = Refused r
load_fault rule.Memory = Memory

abbrev pub overlay_fault : OverlayFault → LoadFault
overlay_fault (overlay.Refused r) = Refused r
overlay_fault overlay.Pattern = Pattern
overlay_fault overlay.Memory = Memory

abbrev pub search_fault : SearchFault → LoadFault
search_fault search.TooBig = Pattern
search_fault search.Memory = Memory

-- this rule is told of the whole document, or memory ran out
abbrev pub FailsAt : (label : List ℕ) → ℕ → LoadFault → Type 0
FailsAt label n (File path) = ⊥
FailsAt label n (Refused r) = r ≡ refusal label (n, [])
FailsAt label n Pattern = ⊥
FailsAt label n Memory = Unit {0}

-- a description's failure as it is told, and one with its label
abbrev pub seen_refusal : (label : List ℕ) → Option Failure → Option Refusal
seen_refusal label failure = option_map (refusal label) (option_map seen_failure failure)

abbrev pub labelled : Bor (List ℕ) × Failure → Refusal
labelled p = refusal p.0.now (seen_failure p.1)

-- this tree is given; and this source, and these
abbrev pub Given : Json → Result Json LoadFault → Type 0
Given tree x = x ≡ Ok tree

abbrev pub GivenSource : Named → Result Named LoadFault → Type 0
GivenSource source x = x ≡ Ok source

abbrev pub GivenSources : List Named → Result (List Named) LoadFault → Type 0
GivenSources sources x = x ≡ Ok sources

-- this comes, or memory ran out
abbrev pub OrMemory : {A : Type 0} → (Result A LoadFault → Type 0) → Result A LoadFault → Type 0
OrMemory Comes x = Comes x ⊎ (x ≡ Err Memory)
