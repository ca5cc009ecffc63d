use Rattle.std.proofs.Common.{◌≡◌, [], None, option_and_then, sym, ap, ◌∙◌, arith, rules}
use Rattle.std.proofs.lemmas.Str.Pattern.{strip_prefix_char, split_parts}
use Rattle.arz_json.specs.Pointer.{walk}
use Rattle.arz_json.proofs.Pointers.{walk_token, walk_last, no_slash}
use Rattle.arz_json.proofs.pointer.named_at.Goals as goal

pub returns-in_err-rest : goal.returns-in_err-rest
returns-in_err-rest c =
    let path = c.args.pointer.now in
    let gone : c.from_residual.result ≡ None = grind arith in
    let other = rw c.in_err-rest.was at (strip_prefix_char 47 path c.strip_prefix.result c.strip_prefix.ensures.cases (omega arith)) in
    rw gone (sym (no_slash path c.args.root.now (grind arith) other))

pub returns-in_err-target : goal.returns-in_err-target
returns-in_err-target c =
    let l = c.tokens in
    let cut = rw c.in-Some.is at (split_parts 47 l.rest.now c.split_once.result c.split_once.ensures.cases (omega arith)) in
    let gone : c.from_residual-in_err-target.result ≡ None = grind arith in
    let turn = l.invariant.0 ∙ ap (λ s. walk [] s l.target.now) cut.0 ∙ walk_token _ _ l.target.now cut.1 in
    rw gone (sym (turn ∙ ap (option_and_then (walk [] c.in-Some.more.now)) (sym c.in_err-target.ensures)))

pub tokens-preserved : goal.tokens-preserved
tokens-preserved c =
    let l = c.tokens in
    let cut = rw c.in-Some.is at (split_parts 47 l.rest.now c.split_once.result c.split_once.ensures.cases (omega arith)) in
    let turn = l.invariant.0 ∙ ap (λ s. walk [] s l.target.now) cut.0 ∙ walk_token _ _ l.target.now cut.1 in
    (turn ∙ ap (option_and_then (walk [] c.in-Some.more.now)) (sym c.in_ok-target.ensures), search rules)

pub returns : goal.returns
returns c =
    let l = c.tokens in
    let none = rw c.in_default.is at (split_parts 47 l.rest.now c.split_once.result c.split_once.ensures.cases (omega arith)) in
    c.step-2.ensures ∙ sym (l.invariant.0 ∙ walk_last l.rest.now l.target.now none)
