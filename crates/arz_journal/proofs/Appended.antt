-- A log that appends stands on.
use Rattle.std.proofs.Common.{◌≡◌, inl, ℕ, ◌+◌, ◌<◌, ◌^◌, Bool, true, false, List, [], ◌∷◌, ◌++◌, length, Ok, IsTrue, refl, sym, ◌∙◌, ap, subst, arith, length-append}
use Rattle.arz_wire.specs.Entries.{entry_of}
use Rattle.arz_wire.proofs.Entered.{entry_again}
use Rattle.arz_wire.specs.declared.entry.Entry.{Entry}
use Rattle.arz_wire.specs.declared.entry.Mark.{Mark}
use Rattle.arz_world.specs.World.{WorldView, talks, IsWorld}
use Rattle.arz_world.specs.Moments.{EachMoment}
use Rattle.arz_world.proofs.Moments.{still, if_told, later_refl}
use Rattle.arz_journal.specs.Journal.{recovered, payload, counted, Spells, IsBeforeOrAfter}
use Rattle.arz_journal.proofs.Walks.{length-counted}
use Rattle.arz_journal.specs.Logs.{LogView, IsAt, Stands, CanPut, IsPut}

spelt : (mark : Mark) (rest : List ℕ) (entry : Entry) → Spells mark rest entry → length (payload mark rest) < 2 ^ 32 → entry_of (payload mark rest) ≡ Ok entry
spelt mark rest entry spells small = ap entry_of spells.1 ∙ entry_again entry spells.0 (omega (arith, ap length spells.1, small))

pub can_put : (log : LogView) (w : WorldView) (mark : Mark) (rest : List ℕ) (entry : Entry) (place : ℕ) (bytes : List ℕ) → Stands log w → (log.is_open ≡ true) × (log.is_ended ≡ true) → Spells mark rest entry
    → length (payload mark rest) < 2 ^ 32 → log.place ≡ place → bytes ≡ counted (payload mark rest) ++ 0 ∷ [] → CanPut place bytes entry w
can_put log w mark rest entry place bytes stands ended spells small is are = record {
  stable = stands.stable;
  at = subst (λ (p : ℕ). IsAt p true w.file) is (subst (λ (b : Bool). IsAt log.place b w.file) ended.1 (stands.opened ended.0));
  payload = payload mark rest;
  bytes_are = are;
  spells = spelt mark rest entry spells small;
  small = small;
}

-- nothing is done
pub rests : (log : LogView) (w : WorldView) (entry : Entry) → IsWorld w → (IsTrue w.tells → Stands log w) → EachMoment w w (λ image ts. (ts ≡ talks w) × IsBeforeOrAfter w.file entry image)
rests log w entry lawful stands =
    if_told w w _ (later_refl w) lawful (λ told. still w _ (λ image left. (refl, inl (ap recovered ((stands told).stable image left)))))

-- the log stands behind the entry
pub stands_behind : (log : LogView) (place end : ℕ) (bytes inner : List ℕ) (entry : Entry) (old new : WorldView) → IsPut place bytes entry old new → bytes ≡ counted inner ++ 0 ∷ [] → end ≡ length inner + 5 → log.place ≡ place + end
    → (log.is_open ≡ true) × (log.is_ended ≡ true) → Stands log new
stands_behind log place end bytes inner entry old new put are ends is ended =
    let behind : place + length bytes ≡ log.place = omega (arith, is, ends, ap length are, length-append (counted inner) (0 ∷ []), length-counted inner) in
    record {
      stable = put.stable;
      unopened = λ shut. absurd (closed_open log.is_open ended.0 shut);
      opened = λ _. subst (λ (b : Bool). IsAt log.place b new.file) (sym ended.1) (subst (λ (p : ℕ). IsAt p true new.file) behind put.at);
    }
  where
    closed_open : (b : Bool) → b ≡ true → b ≡ false → ⊥
    closed_open true one two = cc two
    closed_open false one two = cc one
