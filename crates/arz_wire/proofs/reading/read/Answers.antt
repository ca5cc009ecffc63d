use Rattle.std.proofs.Common.{subst, arith}
use Rattle.arz_json.specs.Answer.{Gives}
use Rattle.arz_wire.specs.Reading.{told}
use Rattle.arz_wire.proofs.Found.{is_spelt, is_well_formed}
use Rattle.arz_wire.proofs.Again.{first_again}
use Rattle.arz_wire.proofs.reading.read.Goals as goal

pub returns-clause-spelt : goal.returns-clause-spelt
returns-clause-spelt c = is_spelt c.args.bytes.now c.first_of.result (λ i. omega (arith, c.type_inv.bytes i)) c.first_of.ensures.exact

pub returns-clause-well_formed : goal.returns-clause-well_formed
returns-clause-well_formed c = is_well_formed c.args.bytes.now c.first_of.result (λ i. omega (arith, c.type_inv.bytes i)) c.first_of.ensures.exact

pub returns-clause-only : goal.returns-clause-only
returns-clause-only c = λ v rest w t e. subst (λ g. Gives (λ r. r) told c.first_of.result g) (first_again c.args.bytes.now v rest w t e c.first_of.ensures.room) c.first_of.ensures.exact
