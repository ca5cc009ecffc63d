use Rattle.std.proofs.Common.{subst, Ok, Err}
use Rattle.arz_query.specs.Answers.{Answers, answer}
use Rattle.arz_query.proofs.Contract.{Answer, handed, exit_passed, spells-if, fault-if, complete-if, nested-if}
use Rattle.arz_query.proofs.spelled.Query.read.Goals as goal

pub returns-in_err-segments-clause-fault : goal.returns-in_err-segments-clause-fault
returns-in_err-segments-clause-fault c =
    let ends = exit_passed c.args.text.now c.from_residual.result c.in_err-segments.field-0.0 c.from_residual.ensures.1 in
    let read = subst (λ t. Answers (let r : Answer = Err c.in_err-segments.field-0.0 in r) (answer t)) c.as_bytes.ensures.value c.in_err-segments.ensures in
    fault-if c.args.text.now c.from_residual.result (handed c.args.text.now (Err c.in_err-segments.field-0.0) c.from_residual.result read ends)

pub returns-in_err-segments-clause-complete : goal.returns-in_err-segments-clause-complete
returns-in_err-segments-clause-complete c =
    let ends = exit_passed c.args.text.now c.from_residual.result c.in_err-segments.field-0.0 c.from_residual.ensures.1 in
    let read = subst (λ t. Answers (let r : Answer = Err c.in_err-segments.field-0.0 in r) (answer t)) c.as_bytes.ensures.value c.in_err-segments.ensures in
    complete-if c.args.text.now c.from_residual.result (handed c.args.text.now (Err c.in_err-segments.field-0.0) c.from_residual.result read ends)

pub returns-in_err-segments-clause-too_nested : goal.returns-in_err-segments-clause-too_nested
returns-in_err-segments-clause-too_nested c =
    let ends = exit_passed c.args.text.now c.from_residual.result c.in_err-segments.field-0.0 c.from_residual.ensures.1 in
    let read = subst (λ t. Answers (let r : Answer = Err c.in_err-segments.field-0.0 in r) (answer t)) c.as_bytes.ensures.value c.in_err-segments.ensures in
    nested-if c.args.text.now c.from_residual.result (handed c.args.text.now (Err c.in_err-segments.field-0.0) c.from_residual.result read ends)

pub kept-requires : goal.kept-requires
kept-requires c =
    spells-if c.args.text.now (Ok c.in_ok-segments.segments)
    (subst (λ t. Answers (let r : Answer = Ok c.in_ok-segments.segments in r) (answer t)) c.as_bytes.ensures.value c.in_ok-segments.ensures)

pub returns-clause-complete : goal.returns-clause-complete
returns-clause-complete c =
    let read = subst (λ t. Answers (let r : Answer = Ok c.in_ok-segments.segments in r) (answer t)) c.as_bytes.ensures.value c.in_ok-segments.ensures in
    complete-if c.args.text.now c.kept.result (handed c.args.text.now (Ok c.in_ok-segments.segments) c.kept.result read c.kept.ensures)
