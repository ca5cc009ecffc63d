-- What a compiled pattern finds is what is told of its text, and nothing is told of a text that isn't compiled.
use Rattle.std.proofs.Common.{◌≡◌, ◌≢◌, ◌≤◌, ◌<◌, ℕ, List, length, Bool, true, false, inl, inr, Option, None, Some, is_some, IsSomeAnd, IfSome, Result, Ok, Err, IfOk, refl, sym, ap, ◌∙◌, arith}
use Rattle.std.proofs.lemmas.Bool.{le-leb, cond-true, cond-false}
use Rattle.std.proofs.lemmas.Bool.Decides.{nat_tests}
use Rattle.std.specs.Bool.{nat_le}
use Rattle.std.specs.Str.{chars}
use Rattle.regex.specs.Failures.{IsPattern}
use Rattle.regex.specs.Names.{names_of}
use Rattle.regex.specs.Patterns.{Re, SameCaptures, find_str, default_config, Reads, Refuses}
use Rattle.regex.specs.Strings.{regex_pattern, regex_source, regex_config, IsReadFromSource}
use Rattle.regex.specs.declared.string.regex.Regex.{Regex}
use Rattle.regex.proofs.ForCallers.{is_match_alike}
use Rattle.regex_syntax.specs.Brackets.{Nested}
use Rattle.regex_syntax.specs.Grammar.{Names, group_count, read}
use Rattle.regex_syntax.specs.declared.error.ErrorKind.{ErrorKind}
use Rattle.regex_syntax.specs.declared.error.ErrorKind.TheVariants.{OutOfMemory}
use Rattle.arz_rx.specs.Patterns.{AnswersAs}
use Rattle.arz_rx.specs.declared.patterns.SearchFault.{SearchFault}
use Rattle.arz_real.specs.Meaning.{AreBytes, Finds, found_by, meaning}

abbrev most : ℕ
most = default_config.nest_limit

abbrev IsAsRead : Option (Nested Re × Names) → Re → Names → Type 0
IsAsRead o a names = IsSomeAnd o (λ (re, found). (re.depth ≤ most) × SameCaptures a re.value × (names ≡ found) × (group_count a ≤ length names))

found_within : (o : Option (Nested Re × Names)) (a : Re) (names : Names) → IsAsRead o a names → (text : List ℕ) → AreBytes text
    → found_by o text ≡ Some (Some (is_some (find_str a text 0)))
found_within None a names p text bytes = absurd p
found_within (Some (re, found)) a names p text bytes =
    cond-true (nat_le re.depth most) _ _ (le-leb re.depth most p.0)
    ∙ ap (λ b. Some (Some b)) (sym (is_match_alike p.1 text bytes true 0))

told_within : (o : Option (Nested Re × Names)) (a : Re) (names : Names) → IsAsRead o a names → (text : List ℕ) → found_by o text ≢ None
told_within None a names p text none = p
told_within (Some (re, found)) a names p text none =
    let told = cond-true (nat_le re.depth most) (Some (Some (is_some (find_str re.value text 0)))) None (le-leb re.depth most p.0) in
    absurd cc

too_deep : (depth : ℕ) → most < depth → nat_le depth most ≡ false
too_deep depth h = grind (arith, nat_tests)

none_past : (o : Option (Nested Re × Names)) → IfSome o (λ (re, found). most < re.depth) → (text : List ℕ) → found_by o text ≡ None
none_past None p text = refl
none_past (Some (re, found)) p text = cond-false (nat_le re.depth most) _ _ (too_deep re.depth p)

-- what `Regex::new` gives
module _ (r : Regex) (pattern : List ℕ) (is_source : regex_source r ≡ pattern) (is_config : regex_config r ≡ default_config) (is_read : IsReadFromSource r) where
  reads : Reads default_config pattern r.pattern.program.hir (names_of r.pattern.names.items)
  reads = rw (is_source, is_config) at is_read

  pub found_is_told : (text : List ℕ) → AreBytes text → meaning pattern text ≡ Some (Some (is_some (find_str (regex_pattern r) text 0)))
  unfolding meaning Reads
  found_is_told text bytes = found_within (read default_config (chars pattern)) (regex_pattern r) _ reads text bytes

-- what is refused as a pattern
pub some_told : (pattern : List ℕ) → IsPattern default_config pattern → (text : List ℕ) → meaning pattern text ≢ None
unfolding meaning Reads
some_told pattern (hir, names, reads) text = told_within (read default_config (chars pattern)) _ names reads text

-- what is refused as no pattern
pub none_told : (pattern : List ℕ) (kind : ErrorKind) → Refuses default_config pattern kind → kind ≢ OutOfMemory → (text : List ℕ) → meaning pattern text ≡ None
unfolding meaning Refuses
none_told pattern kind (inl memory) other text = absurd (other memory)
none_told pattern kind (inr (inl unread)) other text = ap (λ o. found_by o text) unread
none_told pattern kind (inr (inr deep)) other text = none_past (read default_config (chars pattern)) deep.1 text

-- what is answered agrees with what is told
pub answers : (pattern text : List ℕ) (r : Result (Option Bool) SearchFault) → Finds pattern text r → IfOk r (AnswersAs (meaning pattern text))
answers pattern text (Ok None) is = rw is tt
answers pattern text (Ok (Some found)) is = rw is refl
answers pattern text (Err e) is = tt
