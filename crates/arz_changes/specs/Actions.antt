-- What an action does at its selected places (Overlay 1.0.0, section 4.4.3).
use Rattle.std.specs.Prelude.{ℕ, List, [], ◌∷◌, Bool, true, false, Option, Some, None, slice_get}
use Rattle.arz_json.specs.Put.{children}
use Rattle.arz_json.specs.declared.tree.Json.{Json, out-Json}
use Rattle.arz_json.specs.declared.tree.Json.TheOpen.{Json-F}
use Rattle.arz_json.specs.declared.tree.Member.{Member}
use Rattle.arz_json.specs.declared.place.Token.{Token}
use Rattle.arz_changes.specs.Children.{child_of}
use Rattle.arz_changes.specs.Merging.{no_target, no_match}
use Rattle.arz_changes.specs.Removal.{Places}

-- what stands at a place (RFC 9535, section 2.7)
abbrev pub child_at : Json → Option ℕ → Option Json
child_at j None = None
child_at j (Some i) = slice_get (children j) i

abbrev pub at_child : (Json → Option Json) → Option Json → Option Json
at_child next None = None
at_child next (Some child) = next child

abbrev pub standing : List Token → Json → Option Json
standing [] j = Some j
standing (token ∷ place) j = at_child (standing place) (child_at j (child_of token j))

abbrev pub is_container_in : Json-F Json Member → Bool
is_container_in (Json-F.List js) = true
is_container_in (Json-F.Object ms) = true
is_container_in _ = false

-- an object or a list
abbrev pub is_container : Option Json → Bool
is_container None = false
is_container (Some j) = is_container_in (out-Json j)

-- ---- a removal

abbrev pub not_root : List Token → Option ℕ
not_root [] = Some no_match
not_root (token ∷ place) = None

abbrev pub kept_rule : List Token → Bool → Option ℕ
kept_rule place false = Some no_target
kept_rule place true = not_root place

abbrev pub first_or : Option ℕ → Option ℕ → Option ℕ
first_or None later = later
first_or (Some rule) later = Some rule

-- the rule that the first place fails at which one fails: an object or a list must stand there, and the root stays
abbrev pub removal_rule : Places → Json → Option ℕ
removal_rule [] j = None
removal_rule (p ∷ ps) j = first_or (kept_rule p (is_container (standing p j))) (removal_rule ps j)
