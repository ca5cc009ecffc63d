use Rattle.std.proofs.Common.{arith}
use Rattle.arz_openapi.proofs.Indexed.{site_step}
use Rattle.arz_openapi.proofs.operations.index_sites.Goals as goal

pub loop-k-preserved : goal.loop-k-preserved
loop-k-preserved c =
    site_step c.loop-k.ids c.put_site.new.sites c.args.sites.now c.loop-k.k c.index-sites-k.result
    c.in_ok-put_site.ensures (omega arith) (omega arith) c.index-sites-k.is c.loop-k.invariant
