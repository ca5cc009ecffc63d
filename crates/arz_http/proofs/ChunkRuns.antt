-- Several bytes of a section at once.
use Rattle.std.proofs.Common.{◌≡◌, ℕ, ◌+◌, ◌-◌, ◌<◌, ◌≤◌, List, [], ◌∷◌, ◌++◌, length, take, drop, refl, sym, ap, ◌∙◌, append_assoc, take-append-drop, length-take, length-drop, arith, add-zero}
use Rattle.std.proofs.lemmas.Bool.{cond-false, lt-leb}
use Rattle.std.proofs.lemmas.List.{length-take-le}
use Rattle.std.specs.Prelude.{nat_le}
use Rattle.arz_http.specs.declared.chunks.Place.{Place}
use Rattle.arz_http.specs.declared.chunks.Place.TheVariants.{Size, Data, Break, BreakReturn, Trailer as InTrailers, Whole, Fault}
use Rattle.arz_http.specs.declared.chunks.Section.{Section}
use Rattle.arz_http.specs.ChunkSteps.{moved, moved_by, collected, taken_body}
use Rattle.arz_http.proofs.Runs.{at_place, joined_moves}
use Rattle.arz_http.proofs.Counting.{count_moved_by}
use Rattle.arz_http.proofs.Collected.{joined_collects}

-- bytes of a chunk before its last
pub data_run : (xs : List ℕ) (left c u t : ℕ) → length xs < left
    → (moved_by (at_place (Data left) c u t) xs ≡ at_place (Data (left - length xs)) (c + length xs) u t) × (collected (at_place (Data left) c u t) xs ≡ xs)
data_run [] left c u t less =
    let same : left ≡ left - 0 = omega arith in
    ((λ i. at_place (Data (same i)) (sym (add-zero c) i) u t), refl)
data_run (b ∷ bs) left c u t less =
    let one : moved (at_place (Data left) c u t) b ≡ at_place (Data (left - 1)) (c + 1) u t = cond-false (nat_le left 1) _ _ (lt-leb left 1 (omega (arith, less))) in
    let more = data_run bs (left - 1) (c + 1) u t (omega (arith, less)) in
    let lefts : left - 1 - length bs ≡ left - length (b ∷ bs) = omega arith in
    let counts : c + 1 + length bs ≡ c + length (b ∷ bs) = omega arith in (
      ap (λ (s : Section). moved_by s bs) one ∙ more.0 ∙ (λ i. at_place (Data (lefts i)) (counts i) u t),
      ap (λ (l : List ℕ). b ∷ l) (ap (λ (s : Section). collected s bs) one ∙ more.1),
    )

pub data_taken : (s : Section) (left n : ℕ) (bytes : List ℕ) → s.place ≡ Data left → n < left → n ≤ length bytes
    → (record s { place = Data (left - n); count = s.count + n } ≡ moved_by s (take n bytes)) × (collected s (take n bytes) ≡ taken_body s.place (take n bytes))
data_taken s left n bytes e less within =
    let len : length (take n bytes) ≡ n = length-take-le n bytes within in
    let run = data_run (take n bytes) left s.count s.unit s.trailers (omega (arith, len, less)) in (
      (λ i. record s { place = Data (left - sym len i); count = s.count + sym len i }) ∙ sym run.0 ∙ ap (λ (p : Place). moved_by (record s { place = p }) (take n bytes)) (sym e),
      ap (λ (p : Place). collected (record s { place = p }) (take n bytes)) e ∙ run.1 ∙ ap (λ (p : Place). taken_body p (take n bytes)) (sym e),
    )

-- ---- a step of a loop that takes some

module _ (s next : Section) (n : ℕ) (rest : List ℕ) (moves : next ≡ moved_by s (take n rest)) where
  pub moves_on : moved_by next (drop n rest) ≡ moved_by s rest
  moves_on = ap (λ (r : Section). moved_by r (drop n rest)) moves ∙ sym (joined_moves s (take n rest) (drop n rest)) ∙ ap (moved_by s) (take-append-drop n rest)

  pub room_on : (limit : ℕ) → s.count + length rest ≤ limit → next.count + length (drop n rest) ≤ limit
  room_on limit room = omega (arith, (count_moved_by s (take n rest)).1, ap (λ (r : Section). r.count) moves, length-take n rest, length-drop n rest, room)

  pub collects_on : (body all : List ℕ) → collected s (take n rest) ≡ taken_body s.place (take n rest) → body ++ collected s rest ≡ all
      → (body ++ taken_body s.place (take n rest)) ++ collected next (drop n rest) ≡ all
  collects_on body all taken e =
      append_assoc body (taken_body s.place (take n rest)) (collected next (drop n rest))
      ∙ ap (λ (l : List ℕ). body ++ l) ((λ i. sym taken i ++ collected (moves i) (drop n rest)) ∙ sym (joined_collects s (take n rest) (drop n rest)) ∙ ap (collected s) (take-append-drop n rest))
      ∙ e

-- no byte of a chunk
pub none_taken : (p : Place) (bytes : List ℕ) → ((left : ℕ) → p ≡ Data left → ⊥) → taken_body p bytes ≡ []
none_taken (Size at) bytes h = refl
none_taken (Data left) bytes h = absurd (h left refl)
none_taken Break bytes h = refl
none_taken BreakReturn bytes h = refl
none_taken (InTrailers at) bytes h = refl
none_taken Whole bytes h = refl
none_taken (Fault cause at) bytes h = refl
