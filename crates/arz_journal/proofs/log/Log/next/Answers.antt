use Rattle.std.proofs.Common.{◌≡◌, ◌∙◌, ◌<◌, ℕ, length, true, false, IsTrue, sym, ap, subst}
use Rattle.arz_journal.specs.Journal.{ahead}
use Rattle.arz_journal.specs.Logs.{LogView, IsBlock}
use Rattle.arz_journal.proofs.Nexts.{found, block_gives, inside, stands_next}
use Rattle.arz_journal.proofs.log.Log.next.Goals as goal

pub returns-in-Ok-Some-clause-reads : goal.returns-in-Ok-Some-clause-reads
returns-in-Ok-Some-clause-reads g c = λ live told.
    let file = (g.W.World.told c.args.world.now).file in
    let at = (c.requires.ready live told).opened (c.requires.opened live) in
    let place : c.args.self.now.place ≡ c.self.inside.place = sym (ap (λ (l : LogView). l.place) c.self.view_is) in
    let within : c.self.inside.place < length file = subst (λ (n : ℕ). n < length file) place (inside c.args.self.now.place c.args.self.now.is_ended file at) in
    let block = found file c.self.inside.place c.in-Ok-Some.field-0 c.in-Ok-Some.entry c.in-Ok-Some.place c.in-Ok-Some.field-0-is (c.in-Ok-Some.ensures.says told within) in
    ap (λ (n : ℕ). ahead file n) place ∙ block_gives file c.self.inside.place c.in-Ok-Some.entry c.in-Ok-Some.place block

pub returns-in-Ok-Some-clause-ready : goal.returns-in-Ok-Some-clause-ready
returns-in-Ok-Some-clause-ready g c = λ still told_now.
    let live : c.args.self.now.is_spent ≡ false = sym (ap (λ (l : LogView). l.is_spent) c.self.view_is) ∙ still in
    let told = subst IsTrue c.entry_at.ensures.looks.time.tells told_now in
    let file = (g.W.World.told c.args.world.now).file in
    let stands = c.requires.ready live told in
    let place : c.args.self.now.place ≡ c.self.inside.place = sym (ap (λ (l : LogView). l.place) c.self.view_is) in
    let within : c.self.inside.place < length file = subst (λ (n : ℕ). n < length file) place (inside c.args.self.now.place c.args.self.now.is_ended file (stands.opened (c.requires.opened live))) in
    let block = found file c.self.inside.place c.in-Ok-Some.field-0 c.in-Ok-Some.entry c.in-Ok-Some.place c.in-Ok-Some.field-0-is (c.in-Ok-Some.ensures.says told within) in
    let here = subst (λ (n : ℕ). IsBlock file n c.in-Ok-Some.entry c.in-Ok-Some.place) (sym place) block in
    let going : c.self.inside.is_ended ≡ false = c.if-self-2.false in
    let opened : c.self.inside.is_open ≡ true = ap (λ (l : LogView). l.is_open) c.self.view_is ∙ c.requires.opened live in
    stands_next c.args.self.now _ (g.W.World.told c.args.world.now) (g.W.World.told c.entry_at.new.world) c.in-Ok-Some.entry stands (c.requires.opened live)
    (sym (ap (λ (l : LogView). l.is_ended) c.self.view_is) ∙ going) c.entry_at.ensures.looks here opened going
