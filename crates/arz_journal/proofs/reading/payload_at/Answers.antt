use Rattle.std.proofs.Common.{◌≡◌, ◌+◌, true, false, List, ℕ, inl, inr, IsTrue, length, drop, arith, sym, ◌∙◌, ap, subst}
use Rattle.std.proofs.lemmas.Bool.{cases_lt}
use Rattle.arz_journal.proofs.Nexts.{payload_is, kept, short_is}
use Rattle.arz_journal.proofs.reading.payload_at.Goals as goal

pub returns-then-not-is_within-clause-short : goal.returns-then-not-is_within-clause-short
returns-then-not-is_within-clause-short g c = λ behind told is none. elim (cases_lt (c.args.place + 5 + c.args.count) c.in_ok-size.size) [
  | inl within ↦ let bad : false ≡ true = sym c.if-not-is_within.true ∙ c.is_within.ensures.1 within in absurd (cc bad)
  | inr short ↦ short_is (g.W.World.told c.args.world.now).file c.args.place c.args.count c.in_ok-size.size behind is (c.in_ok-size.ensures.size told) short
]

pub returns-clause-payload : goal.returns-clause-payload
returns-clause-payload g c = λ behind told is.
    let told1 = subst IsTrue (sym c.size.ensures.call.time.later.tells) told in
    let file = (g.W.World.told c.size.new.self).file in
    let at = ap (λ (f : List ℕ). drop c.args.place f) c.size.ensures.file ∙ is in
    let room : length c.deref_mut.result.now ≡ c.args.count + 1 = c.deref_mut.ensures.len ∙ c.in_ok-bytes.ensures.len in
    let follows = payload_is file c.args.place c.args.count behind c.deref_mut.result.now c.read.new.into c.in_ok-total.total at (c.in_ok-total.ensures.bytes told1) room c.if-total-count.false in
    let few = c.in_ok-total.ensures.count in
    let size = c.in_ok-bytes.ensures.len in
    kept behind _ c.truncate.new.self.items c.read.new.into c.args.count c.in_ok-bytes.bytes.len follows c.truncate.ensures.items (omega (arith, size)) (omega (arith, few, c.if-total-count.false))
