use Rattle.arz_rules.proofs.Choices.{form_of-once}
use Rattle.arz_rules.proofs.laws.choices_are_made_once.Goals as goal

pub returns : goal.returns
returns c = form_of-once
