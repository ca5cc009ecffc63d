use Rattle.std.proofs.Common.{map}
use Rattle.std.specs.Option.{option_copied}
use Rattle.arz_target.specs.Cut.{opened}
use Rattle.arz_target.proofs.PathParts.{names-go, names-end}
use Rattle.arz_target.proofs.paths.names.Goals as goal

pub cuts-preserved : goal.cuts-preserved
cuts-preserved c =
    let cut = c.in-Some.cut in record {
      found = names-go _ (map (λ t. t.now) c.cuts.found.items) (map (λ t. t.now) c.push_name.new.found.items) c.cuts.rest.now cut.plain.now cut.rest.now (opened (option_copied cut.name))
          c.cuts.invariant.found c.in-Some.ensures.parts.0 c.in_ok-push_name.ensures;
      text = c.in-Some.ensures.text;
    }

pub returns : goal.returns
returns c = names-end _ (map (λ t. t.now) c.cuts.found.items) c.cuts.rest.now c.cuts.invariant.found c.in_default.ensures.parts
