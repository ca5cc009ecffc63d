use Rattle.std.proofs.Common.{◌≡◌, ◌∙◌, false, IsTrue, refl, sym, ap, subst, take, List, ℕ}
use Rattle.arz_wire.specs.declared.entry.Entry.{Entry}
use Rattle.arz_journal.specs.Journal.{payload}
use Rattle.arz_journal.specs.Logs.{LogView}
use Rattle.arz_journal.proofs.Appended.{can_put, rests, stands_behind}
use Rattle.arz_journal.proofs.log.Log.append.Goals as goal

pub returns-then-is_full-clause-any_moment : goal.returns-then-is_full-clause-any_moment
returns-then-is_full-clause-any_moment g c = λ entry spells live. rests c.args.self.now _ entry (g.met.W.World.lawful _) (λ told. c.requires.ready live told)

pub returns-in_err-put_block-clause-any_moment : goal.returns-in_err-put_block-clause-any_moment
returns-in_err-put_block-clause-any_moment g c = λ entry spells live. c.put_block.ensures.any_moment entry (λ told.
    can_put c.args.self.now _ c.args.mark c.args.rest.now entry c.self.inside.place _ (c.requires.ready live told) (c.requires.ended live) spells c.requires.small
    (ap (λ (l : LogView). l.place) (sym c.self.view_is)) (ap (λ (l : List ℕ). take c.fill_buffer-end.result l) c.deref.ensures.value ∙ c.fill_buffer-end.ensures.bytes))

pub returns-clause-any_moment : goal.returns-clause-any_moment
returns-clause-any_moment g c = λ entry spells live. c.put_block.ensures.any_moment entry (λ told.
    can_put c.args.self.now _ c.args.mark c.args.rest.now entry c.self.inside.place _ (c.requires.ready live told) (c.requires.ended live) spells c.requires.small
    (ap (λ (l : LogView). l.place) (sym c.self.view_is)) (ap (λ (l : List ℕ). take c.fill_buffer-end.result l) c.deref.ensures.value ∙ c.fill_buffer-end.ensures.bytes))

pub returns-clause-kept : goal.returns-clause-kept
returns-clause-kept g c = λ entry spells told.
    let live : c.args.self.now.is_spent ≡ false = sym (ap (λ (l : LogView). l.is_spent) c.self.view_is) ∙ c.if-self.false in
    (c.in_ok-put_block.ensures.put entry (λ told.
    can_put c.args.self.now _ c.args.mark c.args.rest.now entry c.self.inside.place _ (c.requires.ready live told) (c.requires.ended live) spells c.requires.small
    (ap (λ (l : LogView). l.place) (sym c.self.view_is)) (ap (λ (l : List ℕ). take c.fill_buffer-end.result l) c.deref.ensures.value ∙ c.fill_buffer-end.ensures.bytes)) told).gives

pub returns-clause-ready : goal.returns-clause-ready
returns-clause-ready g c = λ fresh told_now.
    let live : c.args.self.now.is_spent ≡ false = sym (ap (λ (l : LogView). l.is_spent) c.self.view_is) ∙ c.if-self.false in
    let told_then = subst IsTrue c.put_block.ensures.time.tells told_now in
    let entry : Entry = c.requires.spells.0 in
    let spells = c.requires.spells.1 in
    let ended = c.requires.ended live in
    stands_behind _ c.self.inside.place c.fill_buffer-end.result _ (payload c.args.mark c.args.rest.now) entry _ _
    (c.in_ok-put_block.ensures.put entry (λ told.
    can_put c.args.self.now _ c.args.mark c.args.rest.now entry c.self.inside.place _ (c.requires.ready live told) (c.requires.ended live) spells c.requires.small
    (ap (λ (l : LogView). l.place) (sym c.self.view_is)) (ap (λ (l : List ℕ). take c.fill_buffer-end.result l) c.deref.ensures.value ∙ c.fill_buffer-end.ensures.bytes)) told_then)
    (ap (λ (l : List ℕ). take c.fill_buffer-end.result l) c.deref.ensures.value ∙ c.fill_buffer-end.ensures.bytes) c.fill_buffer-end.ensures.end refl
    (ap (λ (l : LogView). l.is_open) c.self.view_is ∙ ended.0, ap (λ (l : LogView). l.is_ended) c.self.view_is ∙ ended.1)
