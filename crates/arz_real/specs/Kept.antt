-- What is kept of the patterns that were searched for.
use Rattle.std.specs.Prelude.{◌≡◌, ◌≢◌, ℕ, List, is_some}
use Rattle.std.specs.Option.{ForSome}
use Rattle.std.specs.BTreeMap.{BTreeMap, get_by_text}
use Rattle.std.specs.declared.string.String.{String}
use Rattle.std.specs.declared.alloc.Global.{Global}
use Rattle.std.specs.declared.option.Option.TheVariants.{None, Some}
use Rattle.std.proofs.Props.{props}
use Rattle.regex.specs.Patterns.{find_str}
use Rattle.regex.specs.Strings.{regex_pattern, regex_source}
use Rattle.arz_real.specs.declared.compiled.Compiled.{Compiled}
use Rattle.arz_real.specs.declared.compiled.Compiled.TheVariants.{Program, NoReading, TooBig}
use Rattle.arz_real.specs.Meaning.{AreBytes, meaning}

-- this is what compiling the pattern gives: a program of this pattern, whose searches find what is told; no reading
-- of a pattern of which nothing is told; or that it is too big, of one of which something is told
abbrev pub IsCompiled : List ℕ → Compiled → Type 0
IsCompiled pattern (Program regex) =
    (regex_source regex ≡ pattern)
    × ((text : List ℕ) → AreBytes text → meaning pattern text ≡ Some (Some (is_some (find_str (regex_pattern regex) text 0))))
IsCompiled pattern NoReading = (text : List ℕ) → meaning pattern text ≡ None
IsCompiled pattern TooBig = (text : List ℕ) → meaning pattern text ≢ None

-- what is kept under a pattern is what compiling it gives
abbrev pub AreCompiled : BTreeMap (String Global) Compiled → Type 0
AreCompiled kept = (pattern : List ℕ) → ForSome (get_by_text kept pattern) (IsCompiled pattern)

pub IsCompiled-prop : (pattern : List ℕ) (compiled : Compiled) → IsProp (IsCompiled pattern compiled)
IsCompiled-prop pattern (Program regex) = hlevel props
IsCompiled-prop pattern NoReading = hlevel props
IsCompiled-prop pattern TooBig = hlevel props

pub AreCompiled-prop : (kept : BTreeMap (String Global) Compiled) → IsProp (AreCompiled kept)
AreCompiled-prop kept = hlevel (props, IsCompiled-prop)
