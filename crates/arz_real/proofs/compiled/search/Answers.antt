use Rattle.std.proofs.Common.{refl}
use Rattle.arz_real.proofs.compiled.search.Goals as goal

-- the search finds what is told
pub returns-in_ok-matcher-in-Program : goal.returns-in_ok-matcher-in-Program
returns-in_ok-matcher-in-Program c = λ pattern compiled.
    rw ((rw c.in-Program.is at compiled).1 c.args.text.now (λ k. (c.type_inv.text k).fits), c.is_match.ensures.found, c.in_ok-matcher-in-Program.ensures.pattern) refl
