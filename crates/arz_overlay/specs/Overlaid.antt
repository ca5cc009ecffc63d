-- What an overlay makes of a tree (Overlay 1.0.0, section 4.4.3).
use Rattle.std.specs.Prelude.{ℕ, suc, List, [], ◌∷◌, Option, Some, None, Result, Ok, Err}
use Rattle.arz_json.specs.declared.tree.Json.{Json}
use Rattle.arz_json.specs.declared.tree.Refusal.{Refusal}
use Rattle.arz_rx.specs.Patterns.{Told}
use Rattle.arz_path.specs.Outcome.{Outcome, given, wide, untold}
use Rattle.arz_path.specs.Selected.{Setting, places}
use Rattle.arz_rules.specs.Phases.{refusal}
use Rattle.arz_overlay.specs.Documents.{Document, actions_in, target_of, segments_of, action_place}
use Rattle.arz_changes.specs.Removal.{Places}
use Rattle.arz_overlay.specs.Steps.{over_limit, done_at}

-- ---- an action at what its target selects. None: it needs a pattern of which nothing is told

abbrev pub Patterned : Type 0
Patterned = List ℕ → List ℕ → Told

abbrev pub done_after : Json → Json → Outcome Places → Option (Result Json ℕ)
done_after action j (given ps) = Some (done_at action ps j)
done_after action j wide = Some (Err over_limit)
done_after action j untold = None

abbrev pub within : Patterned → Json → Setting
within told j = record { told = told; root = j }

abbrev pub done : Patterned → Json → Json → Option (Result Json ℕ)
done told action j = done_after action j (places (segments_of (target_of action)) (within told j))

-- ---- the actions in order, each on what the one before left

abbrev pub after_action : List ℕ → ℕ → (Json → Option (Result Json Refusal)) → Option (Result Json ℕ) → Option (Result Json Refusal)
after_action label k next None = None
after_action label k next (Some (Err rule)) = Some (Err (refusal label (rule, action_place k)))
after_action label k next (Some (Ok j)) = next j

-- the actions from number k on
abbrev pub overlaid_from : Patterned → List ℕ → ℕ → List Json → Json → Option (Result Json Refusal)
overlaid_from told label k [] j = Some (Ok j)
overlaid_from told label k (action ∷ actions) j = after_action label k (overlaid_from told label (suc k) actions) (done told action j)

-- what the overlay makes of a tree: the last tree, or the first action that fails a rule, and which
abbrev pub overlaid : Patterned → Document → Json → Option (Result Json Refusal)
overlaid told document root = overlaid_from told document.label 0 (actions_in document.tree) root
