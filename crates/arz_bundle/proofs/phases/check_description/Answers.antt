use Rattle.std.proofs.Common.{Ok, Err, ap, sym}
use Rattle.arz_rules.specs.Phases.{first_failure}
use Rattle.arz_doc.specs.Order.{whole_rules}
use Rattle.arz_bundle.specs.FileTree.{JudgesDescription, load_fault, search_fault}
use Rattle.arz_bundle.specs.Naming.{naming_rules}
use Rattle.arz_bundle.specs.declared.fault.LoadFault.TheVariants.{Memory}
use Rattle.arz_bundle.proofs.Stages.{exit, told-as, described-by, unsearched}
use Rattle.arz_bundle.proofs.phases.check_description.Goals as goal

pub returns-in_err-named-clause-judges : goal.returns-in_err-named-clause-judges
returns-in_err-named-clause-judges g c =
    let old = g.P.Patterns.patterns c.args.rx.now in
    exit (JudgesDescription old old c.args.setup.now c.args.description.now) c.from_residual.result Memory c.from_residual.ensures.1 tt

pub returns-in_err-own-clause-judges : goal.returns-in_err-own-clause-judges
returns-in_err-own-clause-judges g c =
    let old = g.P.Patterns.patterns c.args.rx.now in
    let new = g.P.Patterns.patterns c.first_refusal_with_criteria.new.rx in
    let fault = c.in_err-own.field-0.0 in
    let ensures = c.in_err-own.ensures in
    exit (JudgesDescription old new c.args.setup.now c.args.description.now) c.from_residual-in_err-own.result (search_fault fault) c.from_residual-in_err-own.ensures.1
    (unsearched old new c.args.setup.now c.args.description.now fault (λ is. ensures.pattern (ap (λ f. Err f) is)) (λ is. ensures.asks (ap (λ f. Err f) is)))

pub returns-in_err-refuse_earlier-clause-judges : goal.returns-in_err-refuse_earlier-clause-judges
returns-in_err-refuse_earlier-clause-judges g c =
    let old = g.P.Patterns.patterns c.args.rx.now in
    let new = g.P.Patterns.patterns c.first_refusal_with_criteria.new.rx in
    let setup = c.args.setup.now in
    let description = c.args.description.now in
    let own = c.in_ok-own.ensures.first in
    let fault = c.in_err-refuse_earlier.field-0.0 in
    exit (JudgesDescription old new setup description) c.from_residual-in_err-refuse_earlier.result (load_fault fault) c.from_residual-in_err-refuse_earlier.ensures.1
    (described-by old new setup description own.0 own.2 own.1 own.3 fault
    (told-as c.in_ok-named.named c.in_ok-own.own (first_failure (naming_rules description setup)) (first_failure (whole_rules own.0 own.2 description)) (Err fault)
    c.in_ok-named.ensures own.4 c.in_err-refuse_earlier.ensures))

pub returns-clause-judges : goal.returns-clause-judges
returns-clause-judges g c =
    let setup = c.args.setup.now in
    let description = c.args.description.now in
    let own = c.in_ok-own.ensures.first in (
      own.0,
      own.1,
      own.2,
      own.3,
      sym
          (told-as c.in_ok-named.named c.in_ok-own.own (first_failure (naming_rules description setup)) (first_failure (whole_rules own.0 own.2 description)) (Ok tt)
          c.in_ok-named.ensures own.4 c.in_ok-refuse_earlier.ensures),
    )
