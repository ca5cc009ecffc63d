use Rattle.std.proofs.Common.{◌++◌, string_bytes, ap, ◌∙◌, sym, rules}
use Rattle.std.specs.Str.Iter.{chars_rest}
use Rattle.arz_rules.specs.Pointer.{escaped}
use Rattle.arz_rules.proofs.Escapes.{char_step}
use Rattle.arz_rules.proofs.pointer.push_escaped.Goals as goal

pub loop-c-preserved : goal.loop-c-preserved
loop-c-preserved c =
    char_step c.in-Some.c _ (string_bytes c.loop-c.out) (chars_rest c.loop-c.c-iterator) (chars_rest c.next.new.self) c.loop-c.invariant c.in-Some.ensures.steps.0
    ∙ ap (λ l. l ++ escaped (chars_rest c.next.new.self)) (sym (search rules))
