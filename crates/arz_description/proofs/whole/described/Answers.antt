use Rattle.std.proofs.Common.{◌≡◌, ◌∙◌}
use Rattle.arz_components.specs.Indexes.{finds}
use Rattle.arz_description.specs.Described.{description_with, description_of}
use Rattle.arz_description.proofs.Sound.{found_sound}
use Rattle.arz_description.proofs.whole.described.Goals as goal

pub described_with-requires-clause-components : goal.described_with-requires-clause-components
described_with-requires-clause-components c = found_sound (finds c.in_ok-components.components) c.args.root.now c.in_ok-components.ensures c.requires

pub returns : goal.returns
unfolding description_of
returns c =
    let same : description_with (finds c.in_ok-components.components) c.args.root.now ≡ description_of c.args.root.now =
    λ i. description_with (λ part q. c.in_ok-components.ensures part q i) c.args.root.now in
    c.in_ok-description.ensures ∙ same
