-- What a tree is once a value was put at the place that a pointer names (RFC 6901).
use Rattle.std.specs.Prelude.{◌≡◌, ◌⊎◌, ℕ, List, [], ◌∷◌, ◌++◌, Some}
use Rattle.arz_json.specs.Pointer.{named}
use Rattle.arz_json.specs.declared.tree.Json.{Json}

-- no token, or tokens that each follow a `/` (section 3)
abbrev pub AreTokens : List ℕ → Type 0
AreTokens text = (text ≡ []) ⊎ ((rest : List ℕ) × (text ≡ 47 ∷ rest))

-- the tokens of the place begin with all those of the pointer
abbrev pub IsUnder : List ℕ → List ℕ → Type 0
IsUnder pointer place = (below : List ℕ) × AreTokens below × (place ≡ pointer ++ below)

-- The new value stands at the pointer, and what stands in it stands below the pointer. Each place that
-- lies neither under the pointer nor above it names what it named before.
pub record IsPut (new : Json) (pointer : List ℕ) (before after : Json) : Type 0 where
  pub there : named pointer after ≡ Some new
  pub below : (place : List ℕ) → AreTokens place → named (pointer ++ place) after ≡ named place new
  pub elsewhere : (place : List ℕ) → ¬ (IsUnder pointer place) → ¬ (IsUnder place pointer) → named place after ≡ named place before
