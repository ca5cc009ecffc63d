use Rattle.std.proofs.Common.{ap, ◌∙◌}
use Rattle.arz_rules.specs.Place.{tokens_in}
use Rattle.arz_rules.specs.Sets.{has}
use Rattle.arz_openapi.specs.Rules.{is_taken, taking}
use Rattle.arz_openapi.proofs.Steps.{repeat_step}
use Rattle.arz_openapi.proofs.ids.first_repeat.Goals as goal

pub loop-site-preserved : goal.loop-site-preserved
loop-site-preserved c =
    repeat_step _ (tokens_in c.loop-site.best) (tokens_in c.lesser-best.result) (tokens_in c.in_ok-found.found) (has c.loop-site.ids) (has c.put_id.new.set) c.args.sites.now c.loop-site.site-index c.site-item.result c.in_ok-is_repeat.is_repeat
    c.loop-site.invariant c.loop-site-test.true c.site-item.is
    (c.in_ok-is_repeat.ensures.was ∙ ap (is_taken (has c.loop-site.ids)) c.id_of_site.ensures)
    c.in_ok-found.ensures c.lesser-best.ensures
    (λ q. c.in_ok-is_repeat.ensures.now q ∙ ap (λ o. taking o (has c.loop-site.ids) q) c.id_of_site.ensures)
