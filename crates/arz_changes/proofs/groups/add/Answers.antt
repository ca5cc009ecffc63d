use Rattle.std.proofs.Common.{◌≡◌, ◌<◌, map, length, ◌++◌, ◌∷◌, [], get_or, sym, ap, ◌∙◌, arith}
use Rattle.std.proofs.lemmas.List.{map-set, map-append, get_or-map, length-map}
use Rattle.arz_changes.specs.Groups.{tokens_of, group_seen, groups_seen}
use Rattle.arz_changes.proofs.Grouped.{one_added}
use Rattle.arz_changes.proofs.groups.add.Goals as goal

pub returns-clause-added : goal.returns-clause-added
returns-clause-added c = λ k.
    let gs = c.args.groups.now.items in
    let less : c.args.at < length gs = omega (arith, c.requires) in
    let pushed : group_seen c.push.new.self ≡ get_or (groups_seen gs) c.args.at [] ++ tokens_of c.args.way ∷ [] =
    ap (map tokens_of) c.in_ok-push.ensures.items ∙ map-append tokens_of c.index_mut.result.now.items (c.args.way ∷ []) ∙ ap (λ g. g ++ tokens_of c.args.way ∷ []) (ap group_seen c.index_mut.ensures.value ∙ sym (get_or-map group_seen gs c.args.at c.index_mut.result.now [] less)) in
    ap (λ l. get_or l k []) (map-set group_seen gs c.args.at c.push.new.self)
    ∙ one_added (groups_seen gs) c.args.at (group_seen c.push.new.self) (tokens_of c.args.way) (let n = length-map gs group_seen in omega (arith, n, c.requires)) pushed k
