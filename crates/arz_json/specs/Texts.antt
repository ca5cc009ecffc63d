-- Words for texts.
use Rattle.std.specs.Prelude.{ℕ, ◌==◌, List, [], ◌∷◌, ◌++◌, length, nat_lt, if◌then◌else◌, Option, Some, None}
use Rattle.std.specs.List.{position_or_len, before_first, after_first, flat_map}

-- what stands before and after the first such byte, where one is there
abbrev pub split_once : ℕ → List ℕ → Option (List ℕ × List ℕ)
split_once c text =
    if nat_lt (position_or_len (λ b. b == c) text) (length text)
    then Some (before_first (λ b. b == c) text, after_first (λ b. b == c) text) else None

-- texts with a separator between each two
abbrev pub joined : (separator : List ℕ) → List (List ℕ) → List ℕ
joined separator [] = []
joined separator (text ∷ texts) = text ++ flat_map (λ t. separator ++ t) texts
