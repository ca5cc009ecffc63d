-- Places of a tree, their order, and the least of some.
use Rattle.std.specs.Prelude.{List, [], ◌∷◌, map, Option, Some, None, option_map, Bool, if◌then◌else◌}
use Rattle.std.specs.declared.cmp.Ordering.{Ordering}
use Rattle.std.specs.declared.cmp.Ordering.TheVariants.{Less, Greater}
use Rattle.std.specs.Ordering.{nat_cmp, is_gt}
use Rattle.std.specs.Cmp.Lexicographic.{slice_cmp}
use Rattle.arz_json.specs.declared.place.Token.{Token}
use Rattle.arz_json.specs.declared.place.Token.TheVariants.{Name, Index}
use Rattle.arz_json.specs.declared.place.Place.{Place}

-- names by bytes, list indexes as numbers; no tree has both below one place
abbrev pub token_cmp : Token → Token → Ordering
token_cmp (Name a) (Name b) = slice_cmp nat_cmp a b
token_cmp (Name a) (Index k) = Less
token_cmp (Index i) (Name b) = Greater
token_cmp (Index i) (Index k) = nat_cmp i k

-- token by token, a prefix first
abbrev pub tokens_cmp : List Token → List Token → Ordering
tokens_cmp = slice_cmp token_cmp

abbrev pub lesser : Option (List Token) → Option (List Token) → Option (List Token)
lesser None q = q
lesser (Some p) None = Some p
lesser (Some p) (Some q) = if is_gt (tokens_cmp p q) then Some q else Some p

-- the least of some places
abbrev pub least : List (List Token) → Option (List Token)
least [] = None
least (p ∷ ps) = lesser (Some p) (least ps)

-- the tree's own place, as a list of places
abbrev pub here : List (List Token)
here = [] ∷ []

abbrev pub here_unless : Bool → List (List Token)
here_unless fits = if fits then [] else here

-- the same places, below a step
abbrev pub under : Token → List (List Token) → List (List Token)
under t ps = map (λ p. t ∷ p) ps

-- the tokens of a place that was found
abbrev pub tokens_in : Option Place → Option (List Token)
tokens_in found = option_map (λ p. p.tokens) found
