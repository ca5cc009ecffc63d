-- Choices among kinds are made once.
use Rattle.std.proofs.Common.{◌≡◌, true, refl}
use Rattle.arz_rules.specs.declared.kinds.Kind.{Kind}
use Rattle.arz_rules.specs.Kinds.{form_of}
use Rattle.arz_rules.specs.Laws.{is_chosen_once}

pub form_of-once : (kind : Kind) → is_chosen_once (form_of kind) ≡ true
form_of-once Kind.Anything = refl
form_of-once _ = refl
