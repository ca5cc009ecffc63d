use Rattle.std.proofs.Common.{length, ap, subst, ◌∙◌, arith}
use Rattle.arz_json.specs.Answer.{Gives}
use Rattle.arz_wire.specs.Reading.{told}
use Rattle.arz_wire.specs.Entries.{entry_of}
use Rattle.arz_wire.proofs.Entered.{is_spelt, is_sound, entry_again}
use Rattle.arz_wire.proofs.entry.decode.Goals as goal

pub returns-clause-spelt : goal.returns-clause-spelt
returns-clause-spelt c = is_spelt c.args.payload.now c.entry_in.result (λ i. omega (arith, c.type_inv.payload i)) c.entry_in.ensures.exact

pub returns-clause-sound : goal.returns-clause-sound
returns-clause-sound c = is_sound c.args.payload.now c.entry_in.result (λ i. omega (arith, c.type_inv.payload i)) c.entry_in.ensures.exact

pub returns-clause-only : goal.returns-clause-only
returns-clause-only c =
    λ e h is. subst (λ g. Gives (λ r. r) told c.entry_in.result g) (ap entry_of is ∙ entry_again e h (omega (arith, ap length is, c.entry_in.ensures.room))) c.entry_in.ensures.exact
