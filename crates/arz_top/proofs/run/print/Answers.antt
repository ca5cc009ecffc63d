use Rattle.std.proofs.Common.{inl, inr, refl, ap, Err}
use Rattle.arz_top.proofs.Printed.{ran_out, ran_out_after}
use Rattle.arz_top.proofs.run.print.Goals as goal

pub returns-in_default-clause-ends : goal.returns-in_default-clause-ends
returns-in_default-clause-ends g c = ran_out _ _ _ _ c.memory.ensures.status c.memory.ensures.put

pub returns-in_default-report-clause-ends : goal.returns-in_default-report-clause-ends
returns-in_default-report-clause-ends g c =
    ran_out _ _ _ _ c.memory-in_default-report.ensures.status c.memory-in_default-report.ensures.put

pub returns-clause-ends : goal.returns-clause-ends
returns-clause-ends g c =
    ran_out_after _ _ _ _ c.in-Ok.ending (g.S.Sink.sink c.put.new.self) c.in-Ok.ensures.comes c.memory-in-Err-Memory.ensures.status
    (rw (c.as_slice.ensures.value, c.in-Ok-report.ensures) at c.in-Err-Memory.ensures.held)
    c.memory-in-Err-Memory.ensures.put

pub returns-in-Ok-put-clause-ends : goal.returns-in-Ok-put-clause-ends
returns-in-Ok-put-clause-ends g c = inl (record {
  ending = c.in-Ok.ending;
  came = c.in-Ok.ensures.comes;
  answered = c.status-status.ensures;
  put = rw (c.as_slice.ensures.value, c.in-Ok-report.ensures) at c.in-Ok-put.ensures.held;
})

pub returns-in-Err-Failed-clause-ends : goal.returns-in-Err-Failed-clause-ends
returns-in-Err-Failed-clause-ends g c = inr (inl (record {
  ending = c.in-Ok.ending;
  came = c.in-Ok.ensures.comes;
  answered = refl;
  failed = c.in-Err-Failed.ensures.cause.failed (ap Err c.in-Err-Failed.field-0-is);
  put = rw (c.as_slice.ensures.value, c.in-Ok-report.ensures) at c.in-Err-Failed.ensures.held;
}))
