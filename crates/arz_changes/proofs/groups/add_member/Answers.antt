use Rattle.std.proofs.Common.{◌≡◌, ◌++◌, ◌∷◌, [], cond, get_or, sym, ap, ◌∙◌, arith, append-nil}
use Rattle.std.proofs.lemmas.List.{length-map}
use Rattle.std.proofs.lemmas.Result.{on_ok_weaker}
use Rattle.arz_json.specs.declared.place.Token.TheVariants.{Name}
use Rattle.arz_json.proofs.Places.{place_within}
use Rattle.arz_changes.specs.Removal.{below}
use Rattle.arz_changes.specs.Groups.{tokens_of, groups_seen}
use Rattle.arz_changes.proofs.Grouped.{at_place, no_place}
use Rattle.arz_changes.proofs.groups.add_member.Goals as goal

pub add-requires : goal.add-requires
add-requires c =
    let less = place_within c.args.members.now c.as_str.result.now c.in-Some-member_index.at (sym c.member_index.ensures ∙ c.in-Some-member_index.is) in
    omega (arith, less, length-map c.args.members.now (λ m. m.value), c.requires.len)

pub returns-in-Some-member_index-clause-added : goal.returns-in-Some-member_index-clause-added
returns-in-Some-member_index-clause-added c =
    let way : tokens_of c.args.way ≡ Name c.as_str.result.now ∷ c.in-Some.tokens.now = c.in-Some.ensures.cases.0 ∙ ap (λ t. t ∷ c.in-Some.tokens.now) (c.in-Name.is ∙ ap (λ n. Name n) (sym c.as_str.ensures)) in
    on_ok_weaker c.add.result
    (λ more. λ k d less. more k
    ∙ ap (λ z. get_or (groups_seen c.args.groups.now.items) k [] ++ z)
    (sym (ap (λ w. below (Name (get_or c.args.members.now k d).name) (w ∷ [])) way
    ∙ ap (λ b. cond b (c.in-Some.tokens.now ∷ []) []) (at_place c.args.members.now c.as_str.result.now c.in-Some-member_index.at k d c.requires.order (sym c.member_index.ensures ∙ c.in-Some-member_index.is) less))))
    c.add.ensures.added

pub returns-in-None-clause-added : goal.returns-in-None-clause-added
returns-in-None-clause-added c = λ k d less.
    let way : tokens_of c.args.way ≡ Name c.as_str.result.now ∷ c.in-Some.tokens.now = c.in-Some.ensures.cases.0 ∙ ap (λ t. t ∷ c.in-Some.tokens.now) (c.in-Name.is ∙ ap (λ n. Name n) (sym c.as_str.ensures)) in
    sym (append-nil (get_or (groups_seen c.args.groups.now.items) k []))
    ∙ ap (λ z. get_or (groups_seen c.args.groups.now.items) k [] ++ z)
    (sym (ap (λ w. below (Name (get_or c.args.members.now k d).name) (w ∷ [])) way
    ∙ ap (λ b. cond b (c.in-Some.tokens.now ∷ []) []) (no_place c.args.members.now c.as_str.result.now k d c.requires.order (sym c.member_index.ensures ∙ c.in-None.is) less)))
