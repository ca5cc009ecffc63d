use Rattle.std.specs.Result.{OnErr}
use Rattle.std.specs.declared.result.Result.{Result}
use Rattle.std.specs.declared.result.Result.TheVariants.{Ok, Err}
use Rattle.arz_machine.proofs.Facts.{added_taken}
use Rattle.arz_machine.proofs.run.Run.go_on.Goals as goal

pub returns-then-is_err-clause-refused : goal.returns-then-is_err-clause-refused
returns-then-is_err-clause-refused c = on_err c.after-next.result (added_taken c.args.self.now.facts c.push.new.self c.pop.new.self c.args.fact c.in_ok-push.ensures.ok c.pop.ensures.rest)
  where
    on_err : {X E : Type 0} {A : Type 0} (o : Result X E) → A → OnErr o A
    on_err (Ok x) a = tt
    on_err (Err e) a = a
