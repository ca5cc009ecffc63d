use Rattle.std.proofs.Common.{◌≡◌, List, ◌++◌, Option, option_map, IfOk, sym, ap, subst, ◌∙◌}
use Rattle.arz_json.specs.declared.place.Token.{Token}
use Rattle.arz_rules.specs.Place.{least, tokens_in}
use Rattle.arz_openapi.specs.Rules.{item_misses, below}
use Rattle.arz_openapi.proofs.Placed.{least-below}
use Rattle.arz_openapi.proofs.behind.first_below.Goals as goal

pub returns : goal.returns
returns c =
    let place = c.args.tokens in
    let whole : option_map (λ q. place ++ q) (tokens_in c.in_ok-first_item_miss.field-0) ≡ least (below place (item_misses c.args.item.now)) =
    ap (option_map (λ q. place ++ q)) c.in_ok-first_item_miss.ensures ∙ sym (least-below place (item_misses c.args.item.now)) in
    let P : Option (List Token) → Type 0 = λ o. IfOk c.below.result (λ p. tokens_in p ≡ o) in
    subst P whole c.below.ensures
