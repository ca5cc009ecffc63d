use Rattle.std.proofs.Common.{◌≡◌, drop}
use Rattle.arz_rules.specs.Shapes.{seen_words}
use Rattle.arz_rules.specs.Misses.{is_word}
use Rattle.arz_rules.proofs.shape.is_word.Given as goal

abbrev pub invariant-loop-word : goal.invariant-loop-word
invariant-loop-word l = is_word (seen_words l.words) l.text ≡ is_word (seen_words (drop l.word-index l.words)) l.text
