-- What blocks behind one another give.
use Rattle.std.proofs.Common.{◌≡◌, ◌≢◌, ℕ, zero, suc, ◌+◌, ◌≤◌, ◌<◌, ◌^◌, ne_eqb, Bool, true, false, nat_lt, List, [], ◌∷◌, ◌++◌, length, take, drop, Option, Some, None, Ok, if◌then◌else◌, inl, inr, refl, sym, ◌∙◌, ap, arith, append_assoc, length-append}
use Rattle.std.specs.Int.{w32, to_be_bytes, from_be_bytes}
use Rattle.std.specs.Str.{bytes_eq}
use Rattle.std.proofs.lemmas.List.{append-nil, take_at, drop_at}
use Rattle.std.proofs.lemmas.Bool.{cases_lt, lt-ltb, le-ltb}
use Rattle.std.proofs.lemmas.Nat.{from_be_bytes-to_be_bytes_4}
use Rattle.arz_wire.specs.Entries.{entry_of}
use Rattle.arz_wire.specs.declared.entry.Entry.{Entry}
use Rattle.arz_journal.specs.Journal.{magic, Recovered, whole, payload_length, read_entry, entry_then, entries_then, from_gate, recovered, counted, block, AreBlocks, IsFront}

pub skips : (skip at : ℕ) (bytes : List ℕ) → from_gate at skip bytes ≡ from_gate (at + skip) 0 (drop skip bytes)
skips zero at [] = refl
skips zero at (b ∷ bytes) = let same : at ≡ at + 0 = omega arith in ap (λ (n : ℕ). from_gate n 0 (b ∷ bytes)) same
skips (suc skip) at [] = refl
skips (suc skip) at (b ∷ bytes) =
    let same : at + 1 + skip ≡ at + suc skip = omega arith in
    skips skip (at + 1) bytes ∙ ap (λ (n : ℕ). from_gate n 0 (drop skip bytes)) same

pub closed_gate : (at gate : ℕ) (bytes : List ℕ) → gate ≢ 1 → from_gate at 0 (gate ∷ bytes) ≡ whole []
closed_gate at gate bytes shut = rw (ne_eqb gate 1 shut) refl

pub length-counted : (payload : List ℕ) → length (counted payload) ≡ 4 + length payload
length-counted payload = length-append (to_be_bytes w32 (length payload)) payload

module _ (at : ℕ) (payload rest : List ℕ) (entry : Entry) (spells : entry_of payload ≡ Ok entry) (small : length payload < 2 ^ 32) (next : 0 < length rest) where
  begins : take 4 (counted payload ++ rest) ≡ to_be_bytes w32 (length payload)
  begins = ap (λ (l : List ℕ). take 4 l) (append_assoc (to_be_bytes w32 (length payload)) payload rest) ∙ take_at (to_be_bytes w32 (length payload)) (payload ++ rest) 4 refl

  back : drop 4 (counted payload ++ rest) ≡ payload ++ rest
  back = ap (λ (l : List ℕ). drop 4 l) (append_assoc (to_be_bytes w32 (length payload)) payload rest) ∙ drop_at (to_be_bytes w32 (length payload)) (payload ++ rest) 4 refl

  long : payload_length (counted payload ++ rest) ≡ length payload
  long = ap (λ (l : List ℕ). from_be_bytes w32 l) begins ∙ from_be_bytes-to_be_bytes_4 (length payload) small

  stands : nat_lt (4 + length payload) (length (counted payload ++ rest)) ≡ true
  stands = lt-ltb _ _ (omega (arith, length-append (counted payload) rest, length-counted payload, next))

  read : take (length payload) (drop 4 (counted payload ++ rest)) ≡ payload
  read = ap (λ (l : List ℕ). take (length payload) l) back ∙ take_at payload rest (length payload) refl

  is_entry : (if nat_lt (4 + length payload) (length (counted payload ++ rest)) then read_entry (entry_of (take (length payload) (drop 4 (counted payload ++ rest)))) else None) ≡ Some entry
  is_entry =
      ap (λ (b : Bool). if b then read_entry (entry_of (take (length payload) (drop 4 (counted payload ++ rest)))) else None) stands
      ∙ ap (λ (l : List ℕ). read_entry (entry_of l)) read
      ∙ ap read_entry spells

  goes_on : from_gate (at + 1) (4 + length payload) (counted payload ++ rest) ≡ from_gate (at + length (block payload)) 0 rest
  goes_on =
      let place : at + 1 + (4 + length payload) ≡ at + length (block payload) = omega (arith, length-counted payload) in
      skips (4 + length payload) (at + 1) (counted payload ++ rest)
      ∙ ap (λ (l : List ℕ). from_gate (at + 1 + (4 + length payload)) 0 l) (drop_at (counted payload) rest (4 + length payload) (length-counted payload))
      ∙ ap (λ (n : ℕ). from_gate n 0 rest) place

  pub open_gate : from_gate at 0 (block payload ++ rest) ≡ entry_then at (Some entry) (from_gate (at + length (block payload)) 0 rest)
  open_gate =
      let G : ℕ → Recovered = λ n. entry_then at (if nat_lt (4 + n) (length (counted payload ++ rest)) then read_entry (entry_of (take n (drop 4 (counted payload ++ rest)))) else None) (from_gate (at + 1) (4 + n) (counted payload ++ rest)) in
      ap G long
      ∙ ap (λ (o : Option Entry). entry_then at o (from_gate (at + 1) (4 + length payload) (counted payload ++ rest))) is_entry
      ∙ ap (λ (r : Recovered). entry_then at (Some entry) r) goes_on

pub blocks_then : (entries : List Entry) (bytes tail : List ℕ) (at : ℕ) → AreBlocks entries bytes → 0 < length tail → from_gate at 0 (bytes ++ tail) ≡ entries_then entries (from_gate (at + length bytes) 0 tail)
blocks_then [] bytes tail at none next =
    let place : at ≡ at + length bytes = omega (arith, ap length none) in
    ap (λ (l : List ℕ). from_gate at 0 (l ++ tail)) none ∙ ap (λ (n : ℕ). from_gate n 0 tail) place
blocks_then (entry ∷ entries) bytes tail at (payload, rest, is, spells, small, more) next =
    let place : at + length (block payload) + length rest ≡ at + length bytes = omega (arith, ap length is, length-append (block payload) rest) in
    ap (λ (l : List ℕ). from_gate at 0 l) (ap (λ (l : List ℕ). l ++ tail) is ∙ append_assoc (block payload) rest tail)
    ∙ open_gate at payload (rest ++ tail) entry spells small (omega (arith, length-append rest tail, next))
    ∙ ap (λ (r : Recovered). entry_then at (Some entry) r)
    (blocks_then entries rest tail (at + length (block payload)) more next
    ∙ ap (λ (n : ℕ). entries_then entries (from_gate n 0 tail)) place)

blocks_push : (entries : List Entry) (bytes payload : List ℕ) (entry : Entry) → AreBlocks entries bytes → entry_of payload ≡ Ok entry → length payload < 2 ^ 32 → AreBlocks (entries ++ entry ∷ []) (bytes ++ block payload)
blocks_push [] bytes payload entry none spells small = (payload, [], ap (λ (l : List ℕ). l ++ block payload) none ∙ sym (append-nil (block payload)), spells, small, refl)
blocks_push (e ∷ entries) bytes payload entry (first, rest, is, of, short, more) spells small =
    (first, rest ++ block payload, ap (λ (l : List ℕ). l ++ block payload) is ∙ append_assoc (block first) rest (block payload), of, short, blocks_push entries rest payload entry more spells small)

pub front_push : (front : List ℕ) (entries : List Entry) (payload : List ℕ) (entry : Entry) → IsFront front entries → entry_of payload ≡ Ok entry → length payload < 2 ^ 32 → IsFront (front ++ block payload) (entries ++ entry ∷ [])
front_push front entries payload entry (bytes, is, are) spells small =
    (bytes ++ block payload, ap (λ (l : List ℕ). l ++ block payload) is ∙ append_assoc magic bytes (block payload), blocks_push entries bytes payload entry are spells small)

pub no_blocks : (entries : List Entry) (bytes : List ℕ) → AreBlocks entries bytes → length bytes ≡ 0 → entries ≡ []
no_blocks [] bytes are none = refl
no_blocks (e ∷ entries) bytes (payload, rest, is, of, small, more) none = absurd (omega (arith, none, ap length is, length-append (block payload) rest))

-- what is recovered of a front and what stands behind it
pub recovered_long : (file bytes : List ℕ) → file ≡ magic ++ bytes → 9 < length file → recovered file ≡ from_gate 8 0 bytes
recovered_long file bytes is long =
    let Test : Bool → Recovered = λ b. if b then (if bytes_eq (take 8 file) magic then from_gate 8 0 (drop 8 file) else record { entries = []; broken = Some 0 }) else whole [] in
    let Known : List ℕ → Recovered = λ l. if bytes_eq l magic then from_gate 8 0 (drop 8 file) else record { entries = []; broken = Some 0 } in
    let begins : take 8 file ≡ magic = ap (λ (l : List ℕ). take 8 l) is in
    let goes : drop 8 file ≡ bytes = ap (λ (l : List ℕ). drop 8 l) is in
    let far : nat_lt 9 (length file) ≡ true = lt-ltb _ _ long in
    ap Test far ∙ ap Known begins ∙ ap (λ (l : List ℕ). from_gate 8 0 l) goes

pub recovered_short : (file : List ℕ) → length file ≤ 9 → recovered file ≡ whole []
recovered_short file short =
    let Test : Bool → Recovered = λ b. if b then (if bytes_eq (take 8 file) magic then from_gate 8 0 (drop 8 file) else record { entries = []; broken = Some 0 }) else whole [] in
    let near : nat_lt 9 (length file) ≡ false = le-ltb _ _ short in
    ap Test near

pub recovered_closed : (front : List ℕ) (entries : List Entry) (gate : ℕ) (behind : List ℕ) → IsFront front entries → gate ≢ 1 → recovered (front ++ gate ∷ behind) ≡ whole entries
recovered_closed front entries gate behind (bytes, is, are) shut = elim (cases_lt 9 (length (front ++ gate ∷ behind))) [
  | inl long ↦
      recovered_long (front ++ gate ∷ behind) (bytes ++ gate ∷ behind) (ap (λ (l : List ℕ). l ++ gate ∷ behind) is ∙ append_assoc magic bytes (gate ∷ behind)) long
      ∙ blocks_then entries bytes (gate ∷ behind) 8 are (omega arith)
      ∙ ap (λ (r : Recovered). entries_then entries r) (closed_gate (8 + length bytes) gate behind shut)
      ∙ ap whole (append-nil entries)
  | inr short ↦
      recovered_short (front ++ gate ∷ behind) short
      ∙ ap whole (sym (no_blocks entries bytes are (omega (arith, short, length-append front (gate ∷ behind), ap length is, length-append magic bytes))))
]
