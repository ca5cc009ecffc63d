-- Where something is told of each pattern and text, it is told what an overlay makes of a tree.
use Rattle.std.proofs.Common.{◌≢◌, ℕ, suc, List, [], ◌∷◌, Option, Some, None, Result, Ok, Err}
use Rattle.std.specs.Prelude.{map}
use Rattle.std.specs.Option.{IsSome}
use Rattle.arz_json.specs.declared.Json.{Json}
use Rattle.arz_json.specs.declared.Refusal.{Refusal}
use Rattle.arz_overlay.specs.Documents.{Document, actions_in, target_of, segments_of}
use Rattle.arz_overlay.specs.Overlaid.{Patterned, done_after, within, done, after_action, overlaid_from, overlaid}
use Rattle.arz_changes.specs.Removal.{Places}
use Rattle.arz_path.proofs.Told.{selected_is_told}
use Rattle.arz_path.specs.Outcome.{Outcome, given, wide, untold, outcome_map}
use Rattle.arz_path.specs.Selected.{Setting, TellsAll, IsTold, selected, place_of, places}
use Rattle.arz_query.specs.declared.query.Segment.{Segment}

map-told : {X Y : Type 0} (f : X → Y) (o : Outcome X) → IsTold o → IsTold (outcome_map f o)
map-told f (given x) told = tt
map-told f wide told = tt
map-told f untold told = absurd told

places-told : (vs : List Segment) (setting : Setting) → TellsAll setting → IsTold (places vs setting)
unfolding places
places-told vs setting tells = map-told (map place_of) (selected vs setting) (selected_is_told vs setting tells)

after-told : (action j : Json) (o : Outcome Places) → IsTold o → done_after action j o ≢ None
after-told action j (given ps) told e = cc
after-told action j wide told e = cc
after-told action j untold told e = absurd told

done-told : (told : Patterned) → ((pattern text : List ℕ) → IsSome (told pattern text)) → (action j : Json) → done told action j ≢ None
done-told told tells action j =
    after-told action j (places (segments_of (target_of action)) (within told j)) (places-told (segments_of (target_of action)) (within told j) tells)

next-told : (label : List ℕ) (k : ℕ) (next : Json → Option (Result Json Refusal)) (d : Option (Result Json ℕ)) → d ≢ None → ((j : Json) → next j ≢ None) → after_action label k next d ≢ None
next-told label k next None some told e = some (cc)
next-told label k next (Some (Err rule)) some told e = cc
next-told label k next (Some (Ok j)) some told e = told j e

from-told : (told : Patterned) → ((pattern text : List ℕ) → IsSome (told pattern text)) → (label : List ℕ) (k : ℕ) (actions : List Json) (j : Json) → overlaid_from told label k actions j ≢ None
from-told told tells label k [] j e = cc
from-told told tells label k (action ∷ actions) j e =
    next-told label k (overlaid_from told label (suc k) actions) (done told action j) (done-told told tells action j) (from-told told tells label (suc k) actions) e

pub overlaid-told : (told : Patterned) → ((pattern text : List ℕ) → IsSome (told pattern text)) → (d : Document) (root : Json) → overlaid told d root ≢ None
overlaid-told told tells d root = from-told told tells d.label 0 (actions_in d.tree) root
