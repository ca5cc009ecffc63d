-- What an action makes of a tree at the places that its target selected (Overlay 1.0.0, section 4.4.3).
use Rattle.std.specs.Prelude.{ℕ, List, [], ◌∷◌, ◌++◌, Bool, true, false, ◌&&◌, ◌||◌, nat_lt, if◌then◌else◌, Option, Some, None, Result, Ok, Err}
use Rattle.arz_json.specs.Answer.{◌>>=◌}
use Rattle.arz_json.specs.Tree.{depth}
use Rattle.arz_json.specs.declared.tree.Json.{Json}
use Rattle.arz_json.specs.declared.place.Token.{Token}
use Rattle.arz_changes.specs.Actions.{is_container, standing, removal_rule}
use Rattle.arz_changes.specs.Children.{changed}
use Rattle.arz_overlay.specs.Documents.{update_of, removes}
use Rattle.arz_changes.specs.Merging.{updated, no_target}
use Rattle.arz_changes.specs.Removal.{Places, same_token, without}
use Rattle.arz_changes.specs.Weight.{weight}

-- ---- places, each once

abbrev pub same_place : List Token → List Token → Bool
same_place [] [] = true
same_place (t ∷ ts) (u ∷ us) = same_token t u && same_place ts us
same_place _ _ = false

abbrev pub is_among : Places → List Token → Bool
is_among [] p = false
is_among (q ∷ qs) p = same_place q p || is_among qs p

abbrev pub once_after : Places → Places → Places
once_after earlier [] = []
once_after earlier (p ∷ ps) = if is_among earlier p then once_after (earlier ++ p ∷ []) ps else p ∷ once_after (earlier ++ p ∷ []) ps

-- without those that stand before, in order
abbrev pub each_once : Places → Places
each_once ps = once_after [] ps

-- ---- merges

-- the rule of limits
abbrev pub over_limit : ℕ
over_limit = 24

-- how deep a tree may nest after a merge, and how many bytes of wire form it may have
abbrev pub deepest : ℕ
deepest = 127

abbrev pub heaviest : ℕ
heaviest = 33554432

abbrev pub is_over : Json → Bool
is_over j = nat_lt heaviest (weight j) || nat_lt deepest (depth j)

abbrev pub within_limits : Json → Result Json ℕ
within_limits j = if is_over j then Err over_limit else Ok j

abbrev pub merged_at : Json → List Token → Json → Result Json ℕ
merged_at u p j = changed (updated u) no_target p j >>= within_limits

-- one place after another
abbrev pub merged_at_each : Json → Places → Json → Result Json ℕ
merged_at_each u [] j = Ok j
merged_at_each u (p ∷ ps) j = merged_at u p j >>= merged_at_each u ps

-- ---- an action at places

abbrev pub unless : Option ℕ → Json → Result Json ℕ
unless None j = Ok j
unless (Some rule) j = Err rule

-- the places are chosen before, and go as a set
abbrev pub removed : Places → Json → Result Json ℕ
removed ps j = unless (removal_rule ps j) (without j ps)

-- an object or a list must stand at each place
abbrev pub target_rule : Places → Json → Option ℕ
target_rule [] j = None
target_rule (p ∷ ps) j = if is_container (standing p j) then target_rule ps j else Some no_target

-- where there is no update, nothing changes
abbrev pub updated_at : Option Json → Places → Json → Result Json ℕ
updated_at None ps j = unless (target_rule ps j) j
updated_at (Some u) ps j = merged_at_each u (each_once ps) j

-- the tree, or the rule that fails; an update beside a removal is passed over
abbrev pub done_at : Json → Places → Json → Result Json ℕ
done_at action ps j = if removes action then removed ps j else updated_at (update_of action) ps j
