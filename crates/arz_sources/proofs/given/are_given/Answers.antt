use Rattle.std.proofs.Common.{◌≡◌, ◌||◌, ◌&&◌, ◌+◌, ℕ, List, Bool, true, false, drop, map, rules, sym, ap, ◌∙◌}
use Rattle.std.specs.List.{list_all}
use Rattle.arz_rules.specs.Sets.{has}
use Rattle.arz_sources.proofs.Names.{all_more}
use Rattle.arz_sources.proofs.given.are_given.Goals as goal

pub returns-then-not-is_given : goal.returns-then-not-is_given
returns-then-not-is_given c =
    let test : List ℕ → Bool = λ q. has c.args.own.now q || has c.args.others.now q in
    let none : c.is_given.result ≡ false = search rules in
    sym (all_more test c.args.names.now c.loop-name.name-index _ c.is_given.result _ c.loop-name.invariant c.loop-name-test.true c.is_given.ensures
    ∙ ap (λ b. b && list_all test (map (λ t. t.now) (drop (c.loop-name.name-index + 1) c.args.names.now))) none)

pub loop-name-preserved : goal.loop-name-preserved
loop-name-preserved c =
    let test : List ℕ → Bool = λ q. has c.args.own.now q || has c.args.others.now q in
    let one : c.is_given.result ≡ true = search rules in
    all_more test c.args.names.now c.loop-name.name-index _ c.is_given.result _ c.loop-name.invariant c.loop-name-test.true c.is_given.ensures
    ∙ ap (λ b. b && list_all test (map (λ t. t.now) (drop (c.loop-name.name-index + 1) c.args.names.now))) one
