use Rattle.std.proofs.Common.{◌≡◌, [], fold, drop}
use Rattle.arz_style.specs.Forms.{add_pair}
use Rattle.arz_style.proofs.forms.serialize.Given as goal

abbrev pub invariant-loop-pair : goal.invariant-loop-pair
invariant-loop-pair l = record { nothing : l.form.prefix ≡ []; rest : fold add_pair l.form.form (drop l.pair-index l.pairs) ≡ fold add_pair [] l.pairs }
