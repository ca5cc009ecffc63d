-- How a log begins.
use Rattle.std.proofs.Common.{◌≡◌, ◌≢◌, inl, inr, ℕ, ◌+◌, ◌<◌, ◌==◌, not, ne_eqb, Bool, true, false, List, [], ◌∷◌, ◌++◌, length, take, drop, get_or, Option, Some, None, nat_lt, if◌then◌else◌, Ok, refl, sym, ◌∙◌, ap, subst, arith, take-append-drop}
use Rattle.std.specs.Str.{bytes_eq}
use Rattle.std.proofs.lemmas.List.{append-nil, drop_all, drop_more, get_or-take, take-take, length-take-le}
use Rattle.std.proofs.lemmas.Bool.{lt-ltb, cases_eq}
use Rattle.std.proofs.lemmas.Slice.Eq.{bytes_eq-Decides}
use Rattle.arz_wire.specs.declared.entry.Entry.{Entry}
use Rattle.arz_world.specs.World.{WorldView, NoNewImage, DiskCall, IsRead}
use Rattle.arz_world.proofs.Moments.{goes_on, later_trans, later_refl, still}
use Rattle.arz_journal.specs.Journal.{magic, Recovered, recovered, whole, ahead, from_gate, entry_then, entry_behind, payload_length}
use Rattle.arz_journal.specs.Logs.{IsAt, IsNothing, Looks, FirstGate}
use Rattle.arz_journal.proofs.Walks.{recovered_long}

pub looks_none : (w : WorldView) → Looks w w
looks_none w = record {
  time = later_refl w;
  images = λ image left. left;
  file = refl;
  talks = refl;
  links = refl;
  each = still w _ (λ image left. (left, refl));
}

pub looks_on : (a b c : WorldView) → Looks a b → DiskCall b c → NoNewImage b c → c.file ≡ b.file → Looks a c
looks_on a b c so_far next images file =
    record {
      time = later_trans a b c so_far.time next.time.later;
      images = λ image left. so_far.images image (images image left);
      file = file ∙ so_far.file;
      talks = next.talks ∙ so_far.talks;
      links = next.link_faults ∙ so_far.links;
      each = goes_on a b c _ so_far.time so_far.each next.time (λ image left. (so_far.images image (images image left), next.talks ∙ so_far.talks));
    }

-- an open gate gives something
something : (at : ℕ) (entry : Option Entry) (more : Recovered) → entry_then at entry more ≡ whole [] → ⊥
something at None more none = let bad : Some at ≡ None = ap (λ (r : Recovered). r.broken) none in cc bad
something at (Some entry) more none = let bad : entry ∷ more.entries ≡ [] = ap (λ (r : Recovered). r.entries) none in cc bad

open_gives : (at : ℕ) (bytes : List ℕ) → from_gate at 0 (1 ∷ bytes) ≡ whole [] → ⊥
open_gives at bytes none = something at (entry_behind bytes) (from_gate (at + 1) (4 + payload_length bytes) bytes) none

module _ (file head : List ℕ) (long : 9 < length file) (is : head ≡ take 9 file) where
  front_is : take 8 head ≡ take 8 file
  front_is = ap (λ (l : List ℕ). take 8 l) is ∙ take-take 8 9 file (omega arith)

  gate_is : get_or head 8 0 ≡ get_or file 8 0
  gate_is = ap (λ (l : List ℕ). get_or l 8 0) is ∙ get_or-take 9 file 8 0 (omega arith)

  behind_is : drop 8 file ≡ get_or head 8 0 ∷ drop 9 file
  behind_is = drop_more file 8 0 (omega (arith, long)) ∙ ap (λ (g : ℕ). g ∷ drop 9 file) (sym gate_is)

  -- another beginning
  pub no_magic : bytes_eq (take 8 head) magic ≡ false → recovered file ≡ record { entries = []; broken = Some 0 }
  no_magic other =
      let Test : Bool → Recovered = λ b. if b then (if bytes_eq (take 8 file) magic then from_gate 8 0 (drop 8 file) else record { entries = []; broken = Some 0 }) else whole [] in
      let Known : Bool → Recovered = λ b. if b then from_gate 8 0 (drop 8 file) else record { entries = []; broken = Some 0 } in
      let far : nat_lt 9 (length file) ≡ true = lt-ltb _ _ long in
      ap Test far ∙ ap Known (ap (λ (l : List ℕ). bytes_eq l magic) (sym front_is) ∙ other)

  module _ (same : bytes_eq (take 8 head) magic ≡ true) where
    begins : file ≡ magic ++ get_or head 8 0 ∷ drop 9 file
    begins =
        sym (take-append-drop 8 file) ∙ ap (λ (l : List ℕ). l ++ drop 8 file) (sym front_is ∙ (bytes_eq-Decides (take 8 head) magic).0 same)
        ∙ ap (λ (l : List ℕ). magic ++ l) behind_is

    at_gate : (ended : Bool) → (ended ≡ true → get_or head 8 0 ≢ 1) → IsAt 8 ended file
    at_gate ended shut = record {
      front = magic;
      entries = [];
      gate = get_or head 8 0;
      behind = drop 9 file;
      file_is = begins;
      is_front = ([], sym (append-nil magic), refl);
      place_is = refl;
      closed = shut;
    }

    pub is_nothing : get_or head 8 0 ≢ 1 → IsNothing file
    is_nothing shut = inr (at_gate true (λ ended. shut))

    gives : recovered file ≡ from_gate 8 0 (get_or head 8 0 ∷ drop 9 file)
    gives = recovered_long file (get_or head 8 0 ∷ drop 9 file) begins long

    pub is_open : get_or head 8 0 ≡ 1 → IsAt 8 false file × (recovered file ≡ ahead file 8) × (recovered file ≢ whole [])
    is_open one = (
      at_gate false (λ ended. absurd (cc ended)),
      gives ∙ ap (λ (l : List ℕ). from_gate 8 0 l) (sym behind_is),
      λ none. open_gives 8 (drop 9 file) (ap (λ (g : ℕ). from_gate 8 0 (g ∷ drop 9 file)) (sym one) ∙ sym gives ∙ none),
    )

    pub gate_says : FirstGate file (Ok (not (get_or head 8 0 == 1)))
    gate_says = elim (cases_eq (get_or head 8 0) 1) [
      | inl one ↦ let b : false ≡ not (get_or head 8 0 == 1) = ap (λ (g : ℕ). not (g == 1)) (sym one) in subst (λ (v : Bool). FirstGate file (Ok v)) b (is_open one)
      | inr shut ↦ let b : true ≡ not (get_or head 8 0 == 1) = sym (ap not (ne_eqb (get_or head 8 0) 1 shut)) in subst (λ (v : Bool). FirstGate file (Ok v)) b (is_nothing shut)
    ]

-- nine bytes are there to be read
pub reads_nine : (file room head : List ℕ) (count : ℕ) → IsRead file 0 room head count → length room ≡ 9 → 9 < length file → (head ≡ take 9 file) × (count ≡ 9)
reads_nine file room head count reads nine long =
    let all : length (take 9 file) ≡ 9 = length-take-le 9 file (omega (arith, long)) in
    let total : count ≡ 9 = reads.count ∙ ap (λ (n : ℕ). length (take n file)) nine ∙ all in
    let none : drop count room ≡ [] = drop_all count room (omega (arith, total, nine)) in
    (reads.bytes ∙ ap (λ (l : List ℕ). take (length room) file ++ l) none ∙ append-nil (take (length room) file) ∙ ap (λ (n : ℕ). take n file) nine, total)
