use Rattle.std.proofs.Common.{◌∙◌, rules}
use Rattle.std.proofs.lemmas.Fn.{always_returns_same}
use Rattle.arz_changes.proofs.Searched.{by_name, searched}
use Rattle.arz_changes.proofs.children.member_index.Goals as goal

pub returns : goal.returns
returns c =
    let position = c.binary_search_by.ensures.position (by_name c.args.name.now) (always_returns_same _ _ _ (λ a r f k. search rules)) in
    c.ok.ensures.value ∙ searched c.args.members.now c.args.name.now c.binary_search_by.result c.requires c.binary_search_by.ensures.bound position
