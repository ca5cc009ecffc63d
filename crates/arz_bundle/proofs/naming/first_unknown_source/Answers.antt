use Rattle.std.proofs.Common.{ℕ, Bool, List, [], ◌∷◌, ◌++◌, codes, ap, ◌∙◌}
use Rattle.arz_rules.specs.Place.{lesser, least, tokens_in}
use Rattle.arz_rules.specs.Sets.{has, bad_names, bad_text}
use Rattle.arz_rules.specs.Sites.{member, each_item, at}
use Rattle.arz_bundle.proofs.KindFacts.{three-least}
use Rattle.arz_bundle.proofs.naming.first_unknown_source.Goals as goal

pub returns : goal.returns
returns c =
    let setup = c.args.setup.now in
    let paths = λ (test : List ℕ → Bool). at (member (codes "sources") ∷ []) (bad_names test) setup in
    let servers = λ (test : List ℕ → Bool). at (member (codes "servers") ∷ []) (bad_names test) setup in
    let overlays = λ (test : List ℕ → Bool). at (member (codes "overlays") ∷ each_item ∷ member (codes "source") ∷ []) (bad_text test) setup in
    let there = has c.in_ok-set.set in
    c.lesser-2.ensures ∙ ap (λ x. lesser x (tokens_in c.in_ok-overlays.overlays)) c.lesser.ensures
    ∙ three-least (paths there) (servers there) (overlays there) _ _ _ c.in_ok-paths.ensures c.in_ok-servers.ensures c.in_ok-overlays.ensures
    ∙ ap (λ (test : List ℕ → Bool). least (paths test ++ servers test ++ overlays test)) (λ i q. c.in_ok-set.ensures q i)
