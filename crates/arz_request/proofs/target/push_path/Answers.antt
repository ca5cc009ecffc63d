use Rattle.std.proofs.Common.{◌++◌, ◌≡◌, refl, string_bytes, rules, arith, ap, length, length-append}
use Rattle.std.specs.Option.{option_copied}
use Rattle.arz_target.proofs.PathParts.{goes-on, expanded-all}
use Rattle.arz_target.specs.Cut.{opened}
use Rattle.arz_target.specs.Templates.{expanded}
use Rattle.arz_request.specs.Parameters.{path_text}
use Rattle.arz_request.proofs.target.push_path.Goals as goal

pub cuts-preserved : goal.cuts-preserved
cuts-preserved c =
    let cut = c.in-Some.cut in (
      goes-on (path_text c.args.texts.now) _ (string_bytes c.cuts.out) (string_bytes c.push_cut.new.out) c.cuts.rest.now cut.plain.now cut.rest.now (opened (option_copied cut.name))
          c.cuts.invariant.0 c.in-Some.ensures.parts.0 c.in_ok-push_cut.ensures,
      c.in-Some.ensures.text,
    )

pub returns-then-len-gt-LIMIT : goal.returns-then-len-gt-LIMIT
returns-then-len-gt-LIMIT c =
    let cut = c.in-Some.cut in
    let texts = path_text c.args.texts.now in
    let new = string_bytes c.push_cut.new.out in
    let whole = string_bytes c.args.out.now ++ expanded texts c.args.path.now in
    let same : new ++ expanded texts cut.rest.now ≡ whole =
    goes-on texts whole (string_bytes c.cuts.out) new c.cuts.rest.now cut.plain.now cut.rest.now (opened (option_copied cut.name))
    c.cuts.invariant.0 c.in-Some.ensures.parts.0 c.in_ok-push_cut.ensures in
    (refl, omega (arith, c.if-len-gt-LIMIT.true, c.len.ensures, ap length same, length-append new (expanded texts cut.rest.now)))

pub returns : goal.returns
returns c =
    rw (← c.cuts.invariant.0, expanded-all (path_text c.args.texts.now) c.cuts.rest.now c.in_default.ensures.parts) (search rules)
