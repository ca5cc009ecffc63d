-- What the definitions of `regex` tell of a pattern and a text.
use Rattle.std.specs.Prelude.{◌≡◌, ◌≢◌, ⊤, ℕ, ◌<◌, List, Result, Ok, Err, Bool, nat_le, chars, is_some, slice_index, if◌then◌else◌}
use Rattle.std.specs.declared.option.Option.{Option}
use Rattle.std.specs.declared.option.Option.TheVariants.{None, Some}
use Rattle.regex.specs.Patterns.{Re, find_str, default_config}
use Rattle.regex_syntax.specs.Brackets.{Nested}
use Rattle.regex_syntax.specs.Grammar.{Names, read}
use Rattle.arz_rx.specs.Patterns.{Told}
use Rattle.arz_rx.specs.declared.patterns.SearchFault.{SearchFault}
use Rattle.arz_rx.specs.declared.patterns.SearchFault.TheVariants.{TooBig, Memory}

-- the items of a text are bytes
abbrev pub AreBytes : List ℕ → Type 0
AreBytes text = (k : ℕ) → slice_index text k < 256

-- of a pattern that is read within the nesting: whether it has a match anywhere in the text. Nothing is told of others
abbrev pub found_by : Option (Nested Re × Names) → List ℕ → Told
found_by None text = None
found_by (Some (re, names)) text = if nat_le re.depth default_config.nest_limit then Some (Some (is_some (find_str re.value text 0))) else None

-- what is told of a pattern and a text
unfoldable pub meaning : List ℕ → List ℕ → Told
meaning pattern text = found_by (read default_config (chars pattern)) text

-- what a search answers: what is told, or no reading where nothing is told; a pattern of which something is told may
-- be too big, and memory may run out
abbrev pub Finds : List ℕ → List ℕ → Result (Option Bool) SearchFault → Type 0
Finds pattern text (Ok (Some found)) = meaning pattern text ≡ Some (Some found)
Finds pattern text (Ok None) = meaning pattern text ≡ None
Finds pattern text (Err TooBig) = meaning pattern text ≢ None
Finds pattern text (Err Memory) = ⊤
