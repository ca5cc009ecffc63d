-- What is read behind an open gate, and where a log stands then.
use Rattle.std.proofs.Common.{◌≡◌, ℕ, ◌+◌, ◌≤◌, ◌<◌, Bool, true, false, List, [], ◌∷◌, ◌++◌, length, take, drop, Option, Some, Ok, refl, sym, ◌∙◌, ap, subst, arith, append_assoc, length-append, take-append-drop}
use Rattle.std.specs.Int.{w32, to_be_bytes}
use Rattle.std.proofs.lemmas.List.{drop_at, drop-drop, length-take, length-drop, length-take-le, take-append-le, take-take}
use Rattle.arz_wire.specs.declared.entry.Entry.{Entry}
use Rattle.arz_world.specs.World.{WorldView, IsRead}
use Rattle.arz_journal.specs.Journal.{entry_then, from_gate, ahead, block}
use Rattle.arz_journal.specs.Logs.{LogView, IsAt, Stands, Looks, IsBlock, IsFollowed, BlockSays}
use Rattle.arz_journal.proofs.Walks.{open_gate, front_push}

-- ---- the payload and the next gate

pub payload_is : (file : List ℕ) (place count : ℕ) (behind room filled : List ℕ) (total : ℕ) → drop place file ≡ 1 ∷ (to_be_bytes w32 count ++ behind) → IsRead file (place + 5) room filled total
    → length room ≡ count + 1 → count < total → IsFollowed behind (take count filled)
payload_is file place count behind room filled total is reads room_is all =
    let from : drop (place + 5) file ≡ behind =
    sym (drop-drop 5 place file) ∙ ap (λ (l : List ℕ). drop 5 l) is ∙ drop_at (to_be_bytes w32 count) behind 4 refl in
    let size : total ≡ length (take (count + 1) behind) = reads.count ∙ ap (λ (n : ℕ). length (take n (drop (place + 5) file))) room_is ∙ ap (λ (l : List ℕ). length (take (count + 1) l)) from in
    let long : count + 1 ≤ length behind = omega (arith, size, all, length-take (count + 1) behind) in
    let bytes : filled ≡ take (count + 1) behind ++ drop total room =
    reads.bytes ∙ ap (λ (n : ℕ). take n (drop (place + 5) file) ++ drop total room) room_is ∙ ap (λ (l : List ℕ). take (count + 1) l ++ drop total room) from in
    let split : behind ≡ take count behind ++ drop count behind = sym (take-append-drop count behind) in
    let front : take count filled ≡ take count behind = front_of behind (drop total room) filled count long bytes in
    (drop count behind, split ∙ ap (λ (l : List ℕ). l ++ drop count behind) (sym front), omega (arith, length-drop count behind, long))
  where
    front_of : (behind rest filled : List ℕ) (count : ℕ) → count + 1 ≤ length behind → filled ≡ take (count + 1) behind ++ rest → take count filled ≡ take count behind
    front_of behind rest filled count long bytes =
        ap (λ (l : List ℕ). take count l) bytes
        ∙ take-append-le count (take (count + 1) behind) rest (omega (arith, length-take-le (count + 1) behind long))
        ∙ take-take count (count + 1) behind (omega arith)

-- what is kept of a buffer to whose front the bytes were read
pub kept : (behind rest kept_bytes filled : List ℕ) (count total : ℕ) → IsFollowed behind (take count filled) → kept_bytes ≡ take count (take total (filled ++ rest)) → count ≤ total → count ≤ length filled → IsFollowed behind kept_bytes
kept behind rest kept_bytes filled count total follows is within few =
    let same : kept_bytes ≡ take count filled = is ∙ take-take count total (filled ++ rest) within ∙ take-append-le count filled rest few in
    subst (λ (l : List ℕ). IsFollowed behind l) (sym same) follows

pub short_is : (file : List ℕ) (place count size : ℕ) (behind : List ℕ) → drop place file ≡ 1 ∷ (to_be_bytes w32 count ++ behind) → size ≡ length file → size ≤ place + 5 + count → length behind ≤ count
short_is file place count size behind is size_is short =
    omega (arith, size_is, short, ap length is, length-drop place file, length-append (to_be_bytes w32 count) behind)

-- ---- the log

pub inside : (place : ℕ) (ended : Bool) (file : List ℕ) → IsAt place ended file → place < length file
inside place ended file at = omega (arith, at.place_is, ap length at.file_is, length-append at.front (at.gate ∷ at.behind))

stands_here : (place : ℕ) (ended : Bool) (file : List ℕ) (at : IsAt place ended file) → drop place file ≡ at.gate ∷ at.behind
stands_here place ended file at = ap (λ (l : List ℕ). drop place l) at.file_is ∙ drop_at at.front (at.gate ∷ at.behind) place (sym at.place_is)

pub found : (file : List ℕ) (place : ℕ) (given : Option (Entry × ℕ)) (entry : Entry) (next : ℕ) → given ≡ Some (entry, next) → BlockSays file place (Ok given) → IsBlock file place entry next
found file place given entry next is says = subst (λ (o : Option (Entry × ℕ)). BlockSays file place (Ok o)) is says

pub block_gives : (file : List ℕ) (place : ℕ) (entry : Entry) (next : ℕ) → IsBlock file place entry next → ahead file place ≡ entry_then place (Some entry) (ahead file next)
block_gives file place entry next is =
    let rest_is : drop next file ≡ is.rest =
    ap (λ (n : ℕ). drop n file) is.next_is ∙ sym (drop-drop (length (block is.payload)) place file)
    ∙ ap (λ (l : List ℕ). drop (length (block is.payload)) l) is.file_is ∙ drop_at (block is.payload) is.rest (length (block is.payload)) refl in
    ap (λ (l : List ℕ). from_gate place 0 l) is.file_is
    ∙ open_gate place is.payload is.rest entry is.spells is.small is.gate
    ∙ ap (λ (n : ℕ). entry_then place (Some entry) (from_gate n 0 is.rest)) (sym is.next_is)
    ∙ ap (λ (l : List ℕ). entry_then place (Some entry) (from_gate next 0 l)) (sym rest_is)

-- the next gate
pub at_next : (place : ℕ) (ended : Bool) (file : List ℕ) (entry : Entry) (next : ℕ) → IsAt place ended file → IsBlock file place entry next → IsAt next false file
at_next place ended file entry next at is =
    goes is.rest is.gate (at.file_is ∙ ap (λ (l : List ℕ). at.front ++ l) (sym (stands_here place ended file at) ∙ is.file_is) ∙ sym (append_assoc at.front (block is.payload) is.rest))
  where
    goes : (rest : List ℕ) → 0 < length rest → file ≡ (at.front ++ block is.payload) ++ rest → IsAt next false file
    goes [] gate all = absurd (omega (arith, gate))
    goes (g ∷ behind) gate all = record {
      front = at.front ++ block is.payload;
      entries = at.entries ++ entry ∷ [];
      gate = g;
      behind = behind;
      file_is = all;
      is_front = front_push at.front at.entries is.payload entry at.is_front is.spells is.small;
      place_is = is.next_is ∙ omega (arith, at.place_is, length-append at.front (block is.payload));
      closed = λ now. absurd (cc now);
    }

-- the log stands behind the entry
pub stands_next : (old new : LogView) (w v : WorldView) (entry : Entry) → Stands old w → old.is_open ≡ true → old.is_ended ≡ false → Looks w v → IsBlock w.file old.place entry new.place
    → new.is_open ≡ true → new.is_ended ≡ false → Stands new v
stands_next old new w v entry stands opened going looks is still_open still_going = record {
  stable = λ image left. stands.stable image (looks.images image left) ∙ sym looks.file;
  unopened = λ shut. absurd (clash new.is_open still_open shut);
  opened = λ _. subst (λ (b : Bool). IsAt new.place b v.file) (sym still_going)
      (subst (λ (f : List ℕ). IsAt new.place false f) (sym looks.file) (at_next old.place old.is_ended w.file entry new.place (stands.opened opened) is));
}
  where
    clash : (b : Bool) → b ≡ true → b ≡ false → ⊥
    clash true one two = cc two
    clash false one two = cc one
