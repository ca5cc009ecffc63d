use Rattle.std.proofs.Common.{rules, arith, sym, ap, ◌∙◌, option_map}
use Rattle.std.proofs.lemmas.Str.Pattern.{strip_prefix_char, split_parts}
use Rattle.arz_openapi.specs.Spots.{seen_step}
use Rattle.arz_openapi.proofs.Placed.{no_slash, goes-on, ends, last-lost, last-found}
use Rattle.arz_openapi.proofs.behind.locate.Goals as goal

pub returns-in_default : goal.returns-in_default
returns-in_default c =
    no_slash c.args.pointer.now c.args.root.now (grind arith) (rw c.in_default.is at (strip_prefix_char 47 c.args.pointer.now c.strip_prefix.result c.strip_prefix.ensures.cases (omega arith)))

pub returns-in_default-2 : goal.returns-in_default-2
returns-in_default-2 c =
    let l = c.tokens in
    let part = c.in-Some-split_once in
    let cut = rw part.is at (split_parts 47 l.rest.now c.split_once.result c.split_once.ensures.cases (omega arith)) in
    ends _ l.tokens l.rest.now part.token.now part.more.now l.tree.now l.invariant.0 cut.0 cut.1 (ap (option_map seen_step) (sym c.in_default-2.is) ∙ c.in_ok-next.ensures)

pub tokens-preserved : goal.tokens-preserved
tokens-preserved c =
    let l = c.tokens in
    let part = c.in-Some-split_once in
    let cut = rw part.is at (split_parts 47 l.rest.now c.split_once.result c.split_once.ensures.cases (omega arith)) in
    let next = c.in-Some-2.next in (
      goes-on _ l.tokens c.push.new.self l.rest.now part.token.now part.more.now l.tree.now next.tree.now next.token
          l.invariant.0 cut.0 cut.1 (ap (option_map seen_step) (sym c.in-Some-2.is) ∙ c.in_ok-next.ensures) c.in_ok-push.ensures.ok,
      search rules,
    )

pub returns-in_default-3 : goal.returns-in_default-3
returns-in_default-3 c =
    let l = c.tokens in
    let lacks = rw c.in_default-split_once.is at (split_parts 47 l.rest.now c.split_once.result c.split_once.ensures.cases (omega arith)) in
    last-lost _ l.tokens l.rest.now l.tree.now l.invariant.0 lacks (ap (option_map seen_step) (sym c.in_default-3.is) ∙ c.in_ok-last.ensures)

pub returns : goal.returns
returns c =
    let l = c.tokens in
    let lacks = rw c.in_default-split_once.is at (split_parts 47 l.rest.now c.split_once.result c.split_once.ensures.cases (omega arith)) in
    let last = c.in-Some-3.last in
    last-found _ l.tokens c.push-2.new.self l.rest.now l.tree.now last.tree.now last.token
    l.invariant.0 lacks (ap (option_map seen_step) (sym c.in-Some-3.is) ∙ c.in_ok-last.ensures) c.in_ok-push-2.ensures.ok
