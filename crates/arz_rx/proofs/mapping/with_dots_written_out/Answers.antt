use Rattle.std.proofs.Common.{◌≡◌, true, false, string_bytes}
use Rattle.std.specs.Str.Iter.{chars_rest}
use Rattle.arz_rx.specs.Mapping.{mapped_from, is_any}
use Rattle.arz_rx.proofs.Chars.{copies, writes_out}
use Rattle.arz_rx.proofs.mapping.with_dots_written_out.Goals as goal
use Rattle.arz_rx.proofs.mapping.with_dots_written_out.Goals.{then-is_any+in_ok-push_str, else-is_any+in_ok-push}

pub loop-c-preserved : goal.loop-c-preserved
loop-c-preserved c = elim c.if-is_any.branch [
  | then-is_any+in_ok-push_str w ↦
      let any : is_any c.loop-c.escaped c.loop-c.inside c.in-Some.c ≡ true = cc in
      let more = writes_out c.loop-c.escaped c.loop-c.inside c.in-Some.c (mapped_from false false c.args.text.now) (string_bytes c.loop-c.pattern) (chars_rest c.loop-c.c-iterator) (chars_rest c.next.new.self) c.loop-c.invariant c.in-Some.ensures.steps.0 any in
      cc (w.in_ok-push_str.ensures.bytes)
  | else-is_any+in_ok-push w ↦
      let plain : is_any c.loop-c.escaped c.loop-c.inside c.in-Some.c ≡ false = cc in
      let more = copies c.loop-c.escaped c.loop-c.inside c.in-Some.c (mapped_from false false c.args.text.now) (string_bytes c.loop-c.pattern) (chars_rest c.loop-c.c-iterator) (chars_rest c.next.new.self) c.loop-c.invariant c.in-Some.ensures.steps.0 plain in
      cc (w.in_ok-push.ensures.bytes)
]
