use Rattle.arz_rules.specs.Sites.{at_each}
use Rattle.arz_rules.specs.Sets.{bad_text, bad_names}
use Rattle.arz_rules.specs.Texts.{is_name}
use Rattle.arz_sites.specs.Wants.{names, named}
use Rattle.arz_sites.proofs.Parts.{joined, on_sites}
use Rattle.arz_names.proofs.names.first_wrong_name.Goals as goal

pub returns : goal.returns
returns c =
    let root = c.args.root.now in
    joined (at_each names (bad_text is_name) root) (at_each named (bad_names is_name) root) _ _ _ c.lesser.ensures
    (on_sites (bad_text is_name) root names _ _ c.names.ensures c.in_ok-texts.ensures)
    (on_sites (bad_names is_name) root named _ _ c.named.ensures c.in_ok-members.ensures)
