use Rattle.std.proofs.Common.{Result, Ok, Err, IfOk, MatchResult, refl, arith}
use Rattle.arz_top.proofs.Loaded.{mocks, faulted}
use Rattle.arz_top.proofs.run.mock_files.Goals as goal

if_ok : {T E : Type 0} (r : Result T E) (P Q : T → Type 0) (F : E → Type 0) → ((x : T) → P x → Q x) → MatchResult r P F → IfOk r Q
if_ok (Ok x) P Q F w p = w x p
if_ok (Err e) P Q F w p = tt

pub returns-in-Err-clause-mocks : goal.returns-in-Err-clause-mocks
returns-in-Err-clause-mocks g c =
    if_ok c.fault_ending.result _ _ _
    (λ e told. faulted (g.F.Files.files c.args.files.now) (g.F.Files.files c.load.new.files) (g.P.Patterns.patterns c.args.rx.now) (g.P.Patterns.patterns c.load.new.rx) c.args.setup.now c.args.replies.now c.in-Err.fault e c.in-Err.ensures.loads told)
    c.fault_ending.ensures

pub returns-in-Err-replies-clause-mocks : goal.returns-in-Err-replies-clause-mocks
returns-in-Err-replies-clause-mocks g c =
    if_ok c.fault_ending-in-Err-replies.result _ _ _
    (λ e told. mocks (g.P.Patterns.patterns c.args.rx.now) (g.P.Patterns.patterns c.load.new.rx) (g.P.Patterns.patterns c.load.new.rx) c.load.ensures.asked
    (g.F.Files.files c.args.files.now) (g.F.Files.files c.load.new.files) (g.F.Files.files c.replies.new.files)
    (record { told = c.load.ensures.told; counts = c.load.ensures.counts }) (record { told = c.replies.ensures.told; counts = c.replies.ensures.counts }) (record { told = refl; count = omega arith })
    c.args.setup.now c.args.replies.now c.in-Ok.bundle (Err c.in-Err-replies.fault) e c.in-Ok.ensures.loads c.in-Err-replies.ensures.gives told)
    c.fault_ending-in-Err-replies.ensures

pub returns-clause-mocks : goal.returns-clause-mocks
returns-clause-mocks g c =
    mocks (g.P.Patterns.patterns c.args.rx.now) (g.P.Patterns.patterns c.load.new.rx) (g.P.Patterns.patterns c.mock.new.rx) c.load.ensures.asked
    (g.F.Files.files c.args.files.now) (g.F.Files.files c.load.new.files) (g.F.Files.files c.replies.new.files)
    (record { told = c.load.ensures.told; counts = c.load.ensures.counts }) (record { told = c.replies.ensures.told; counts = c.replies.ensures.counts }) c.mock.ensures.asked
    c.args.setup.now c.args.replies.now c.in-Ok.bundle (Ok c.in-Ok-replies.replies) _ c.in-Ok.ensures.loads c.in-Ok-replies.ensures.gives
    (c.in_ok-mock.field-0, c.in_ok-mock.ensures.mock, c.in_ok-mock.ensures.pattern, refl)
