-- Which words are a command.
use Rattle.std.specs.Prelude.{ℕ, List, [], ◌∷◌, Bool, false, ◌==◌, ◌&&◌, not, codes, if◌then◌else◌}
use Rattle.std.specs.Str.{bytes_eq}
use Rattle.arz_top.specs.declared.words.Command.{Command}
use Rattle.arz_top.specs.declared.words.Command.TheVariants.{Mock, Check, Unknown}

-- a path isn't empty and doesn't begin with a dash
abbrev pub is_path : List ℕ → Bool
is_path [] = false
is_path (first ∷ rest) = not (first == 45)

-- one row for each command: what may stand behind its word
abbrev pub mock_row : List (List ℕ) → Command
mock_row (setup ∷ replies ∷ []) = if is_path setup && is_path replies then Mock setup replies else Unknown
mock_row words = Unknown

abbrev pub check_row : List (List ℕ) → Command
check_row (setup ∷ []) = if is_path setup then Check setup else Unknown
check_row words = Unknown

-- the command that the words are
abbrev pub taken : List (List ℕ) → Command
taken [] = Unknown
taken (verb ∷ rest) =
    if bytes_eq verb (codes "mock") then mock_row rest
    else if bytes_eq verb (codes "check") then check_row rest
    else Unknown
