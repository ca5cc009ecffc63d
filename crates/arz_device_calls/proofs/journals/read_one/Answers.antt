use Rattle.std.proofs.Common.{◌∙◌, Ok, ap}
use Rattle.arz_journal.specs.Logs.{LogView}
use Rattle.arz_device_calls.proofs.journals.read_one.Goals as goal

pub returns-in_err-add_entry-in-Ok-Some-clause-opened : goal.returns-in_err-add_entry-in-Ok-Some-clause-opened
returns-in_err-add_entry-in-Ok-Some-clause-opened g c = ap (λ (l : LogView). l.is_open) (c.in-Ok-Some.ensures.entry c.in-Ok-Some.entry (ap Ok c.in-Ok-Some.field-0-is)) ∙ c.requires.opened

pub returns-in_ok-add_entry-in-Ok-Some-clause-opened : goal.returns-in_ok-add_entry-in-Ok-Some-clause-opened
returns-in_ok-add_entry-in-Ok-Some-clause-opened g c = ap (λ (l : LogView). l.is_open) (c.in-Ok-Some.ensures.entry c.in-Ok-Some.entry (ap Ok c.in-Ok-Some.field-0-is)) ∙ c.requires.opened
