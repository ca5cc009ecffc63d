-- The lines of the entries that are read so far.
use Rattle.std.proofs.Common.{◌≡◌, ℕ, ◌+◌, List, [], ◌∷◌, ◌++◌, length, Option, Some, Ok, ◌-◌, ◌<◌, refl, sym, subst, ◌∙◌, ap, arith, append_assoc}
use Rattle.std.proofs.lemmas.List.{append-nil}
use Rattle.std.proofs.lemmas.List.Sums.{sum_by-append}
use Rattle.arz_wire.specs.Entries.{entry_spelling}
use Rattle.arz_wire.specs.declared.entry.Entry.{Entry}
use Rattle.arz_journal.specs.Journal.{Recovered, entry_then, entries_then, ahead}
use Rattle.arz_journal.specs.Logs.{LogView, ReadsNext}
use Rattle.arz_probe.specs.Reports.{line}
use Rattle.arz_probe.specs.Journals.{entry_text, entry_lines, block_length, gate_behind}

-- these entries are read, and the others are ahead
pub record Reads (before file : List ℕ) (start : ℕ) (now : List ℕ) (place : ℕ) : Type 0 where
  pub done : List Entry
  pub text : now ≡ before ++ entry_lines done
  pub gives : ahead file start ≡ entries_then done (ahead file place)
  pub place_is : place ≡ gate_behind start done

pub reads_none : (before file : List ℕ) (start : ℕ) → Reads before file start before start
reads_none before file start = record { done = []; text = sym (append-nil before); gives = refl; place_is = omega arith }

entry_lines-append : (xs ys : List Entry) → entry_lines (xs ++ ys) ≡ entry_lines xs ++ entry_lines ys
entry_lines-append [] ys = refl
entry_lines-append (x ∷ xs) ys = ap (λ (l : List ℕ). line (entry_text x) ++ l) (entry_lines-append xs ys) ∙ sym (append_assoc (line (entry_text x)) (entry_lines xs) (entry_lines ys))

pub reads_more : (before file : List ℕ) (start : ℕ) (now later : List ℕ) (place next : ℕ) (entry : Entry) → Reads before file start now place → later ≡ now ++ line (entry_text entry)
    → ahead file place ≡ entry_then place (Some entry) (ahead file next) → next ≡ place + 5 + length (entry_spelling entry) → Reads before file start later next
reads_more before file start now later place next entry reads line_is ahead_is next_is = record {
  done = reads.done ++ entry ∷ [];
  text = line_is ∙ ap (λ (l : List ℕ). l ++ line (entry_text entry)) reads.text ∙ append_assoc before (entry_lines reads.done) (line (entry_text entry))
      ∙ ap (λ (l : List ℕ). before ++ l) (ap (λ (l : List ℕ). entry_lines reads.done ++ l) (sym (append-nil (line (entry_text entry)))) ∙ sym (entry_lines-append reads.done (entry ∷ [])));
  gives = reads.gives ∙ ap (λ (r : Recovered). entries_then reads.done r) ahead_is
      ∙ ap (λ (es : List Entry). record { entries = es; broken = (ahead file next).broken }) (sym (append_assoc reads.done (entry ∷ []) (ahead file next).entries));
  place_is = omega (arith, next_is, reads.place_is, sum_by-append block_length reads.done (entry ∷ []));
}

-- one more entry is read
pub step : (before file : List ℕ) (start : ℕ) (now later read : List ℕ) (old new : LogView) (given : Option Entry) (entry : Entry) → read ≡ file → given ≡ Some entry → ReadsNext read old.place new.place (Ok given)
    → new ≡ record old { place = old.place + 5 + length (entry_spelling entry) } → later ≡ now ++ line (entry_text entry) → Reads before file start now old.place → Reads before file start later new.place
step before file start now later read old new given entry same is next moved line_is reads =
    let ahead_is = subst (λ (f : List ℕ). ReadsNext f old.place new.place (Ok (Some entry))) same (subst (λ (o : Option Entry). ReadsNext read old.place new.place (Ok o)) is next) in
    reads_more before file start now later old.place new.place entry reads line_is ahead_is (ap (λ (l : LogView). l.place) moved)

-- the log goes towards the file's end
pub falls : (before after : List ℕ) (place next count : ℕ) → after ≡ before → place < length before → next ≡ place + 5 + count → length after - next < length before - place
falls before after place next count same within is = omega (arith, ap length same, within, is)
