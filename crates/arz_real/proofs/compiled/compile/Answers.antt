use Rattle.arz_real.proofs.Meanings.{found_is_told, some_told, none_told}
use Rattle.arz_real.proofs.compiled.compile.Goals as goal

pub returns-in-Ok : goal.returns-in-Ok
returns-in-Ok c =
    let made = c.in-Ok.ensures in
    (made.source, found_is_told c.in-Ok.regex c.args.pattern.now made.source made.config made.read)

pub returns-in-Err-Syntax : goal.returns-in-Err-Syntax
returns-in-Err-Syntax c =
    let failed = c.in-Err-Syntax in
    none_told c.args.pattern.now failed.field-0-0.kind (failed.ensures.by_grammar failed.field-0-0 failed.field-0-is) (rw failed.field-0-is at failed.ensures.kind)

pub returns-in-Err-CompiledTooBig : goal.returns-in-Err-CompiledTooBig
returns-in-Err-CompiledTooBig c =
    let failed = c.in-Err-CompiledTooBig in
    some_told c.args.pattern.now (rw failed.field-0-is at failed.ensures.kind)
