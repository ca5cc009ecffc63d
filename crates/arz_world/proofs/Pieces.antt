-- Where the next byte of a peer stands.
use Rattle.std.proofs.Common.{◌≡◌, ℕ, zero, suc, ◌+◌, ◌-◌, ◌≤◌, ◌<◌, List, [], ◌∷◌, length, drop, Some, None, slice_get, get_or, refl, sym, ◌∙◌, ap, arith, length-drop}
use Rattle.std.proofs.lemmas.List.{drop_all}
use Rattle.arz_world.specs.MemoryWorld.{peer_at, from_next, front, behind}

pub peer_past : (peers : List (List (List ℕ))) (number : ℕ) → slice_get peers number ≡ None → peer_at peers number ≡ []
peer_past [] number none = refl
peer_past (peer ∷ peers) zero none = absurd (cc none)
peer_past (peer ∷ peers) (suc number) none = peer_past peers number none

pub peer_is : (peers : List (List (List ℕ))) (number : ℕ) (peer : List (List ℕ)) → slice_get peers number ≡ Some peer → peer_at peers number ≡ peer
peer_is [] number peer some = absurd (cc some)
peer_is (p ∷ peers) zero peer some = cc some
peer_is (p ∷ peers) (suc number) peer some = peer_is peers number peer some

-- no peer has come
pub none_come : (peers : List (List (List ℕ))) (number : ℕ) → number ≡ length peers → from_next (behind 0 (drop 0 (peer_at peers number))) ≡ []
none_come [] number is = refl
none_come (peer ∷ peers) zero is = absurd (omega (arith, is))
none_come (peer ∷ peers) (suc number) is = none_come peers number (omega (arith, is))

pub peer_end : (peers : List (List (List ℕ))) (number : ℕ) → length peers ≤ number → peer_at peers number ≡ []
peer_end [] number past = refl
peer_end (peer ∷ peers) zero past = absurd (omega (arith, past))
peer_end (peer ∷ peers) (suc number) past = peer_end peers number (omega (arith, past))

nothing_left : (rest : List ℕ) (pieces : List (List ℕ)) → length rest ≡ 0 → from_next (rest ∷ pieces) ≡ from_next pieces
nothing_left [] pieces none = refl
nothing_left (b ∷ rest) pieces none = absurd (omega (arith, none))

something_left : (rest : List ℕ) (pieces : List (List ℕ)) → 0 < length rest → from_next (rest ∷ pieces) ≡ rest ∷ pieces
something_left [] pieces some = absurd (omega (arith, some))
something_left (b ∷ rest) pieces some = refl

behind_none : (pieces : List (List ℕ)) → behind 0 pieces ≡ pieces
behind_none [] = refl
behind_none (piece ∷ pieces) = refl

-- a piece that has come whole is passed over
pub passes_over : (pieces : List (List ℕ)) (piece offset : ℕ) (bytes : List ℕ) → slice_get pieces piece ≡ Some bytes → length bytes ≤ offset
    → from_next (behind 0 (drop (piece + 1) pieces)) ≡ from_next (behind offset (drop piece pieces))
passes_over [] piece offset bytes is past = absurd (cc is)
passes_over (p ∷ pieces) zero offset bytes is past =
    let same : p ≡ bytes = cc is in
    ap from_next (behind_none pieces) ∙ sym (nothing_left (drop offset p) pieces (omega (arith, length-drop offset p, ap length same, past)))
passes_over (p ∷ pieces) (suc piece) offset bytes is past =
    let further : suc piece + 1 ≡ suc (piece + 1) = omega arith in
    ap (λ (n : ℕ). from_next (behind 0 (drop n (p ∷ pieces)))) further ∙ passes_over pieces piece offset bytes is past

-- the place of a byte that is still to come
pub comes_next : (pieces : List (List ℕ)) (piece offset : ℕ) (bytes : List ℕ) → slice_get pieces piece ≡ Some bytes → offset < length bytes
    → from_next (behind offset (drop piece pieces)) ≡ behind offset (drop piece pieces)
comes_next [] piece offset bytes is within = absurd (cc is)
comes_next (p ∷ pieces) zero offset bytes is within =
    let same : p ≡ bytes = cc is in
    something_left (drop offset p) pieces (omega (arith, length-drop offset p, ap length same, within))
comes_next (p ∷ pieces) (suc piece) offset bytes is within = comes_next pieces piece offset bytes is within

pub all_came : (pieces : List (List ℕ)) (piece offset : ℕ) → length pieces ≤ piece → from_next (behind offset (drop piece pieces)) ≡ behind offset (drop piece pieces)
all_came [] piece offset past =
    let none : drop piece [] ≡ [] = drop_all {X = List ℕ} piece [] (omega arith) in
    ap (λ (l : List (List ℕ)). from_next (behind offset l)) none ∙ sym (ap (λ (l : List (List ℕ)). behind offset l) none)
all_came (p ∷ pieces) zero offset past = absurd (omega (arith, past))
all_came (p ∷ pieces) (suc piece) offset past = all_came pieces piece offset (omega (arith, past))

pub front_is : (pieces : List (List ℕ)) (piece offset : ℕ) (bytes : List ℕ) → slice_get pieces piece ≡ Some bytes → drop offset bytes ≡ front (behind offset (drop piece pieces))
front_is [] piece offset bytes is = absurd (cc is)
front_is (p ∷ pieces) zero offset bytes is = let same : p ≡ bytes = cc is in ap (λ (l : List ℕ). drop offset l) (sym same)
front_is (p ∷ pieces) (suc piece) offset bytes is = front_is pieces piece offset bytes is

pub front_none : (pieces : List (List ℕ)) (piece offset : ℕ) → slice_get pieces piece ≡ None → [] ≡ front (behind offset (drop piece pieces))
front_none [] piece offset none =
    let is : drop piece [] ≡ [] = drop_all {X = List ℕ} piece [] (omega arith) in
    sym (ap (λ (l : List (List ℕ)). front (behind offset l)) is)
front_none (p ∷ pieces) zero offset none = absurd (cc none)
front_none (p ∷ pieces) (suc piece) offset none = front_none pieces piece offset none

drop_twice : (a b : ℕ) (l : List ℕ) → drop (a + b) l ≡ drop b (drop a l)
drop_twice zero b l = let same : 0 + b ≡ b = omega arith in ap (λ (n : ℕ). drop n l) same
drop_twice (suc a) b [] = drop_all (suc a + b) [] (omega arith) ∙ sym (drop_all b [] (omega arith))
drop_twice (suc a) b (x ∷ l) = let same : suc a + b ≡ suc (a + b) = omega arith in ap (λ (n : ℕ). drop n (x ∷ l)) same ∙ drop_twice a b l

-- more bytes of the piece come
pub behind_more : (a b : ℕ) (pieces : List (List ℕ)) → behind (a + b) pieces ≡ behind b (behind a pieces)
behind_more a b [] = refl
behind_more a b (piece ∷ pieces) = ap (λ (l : List ℕ). l ∷ pieces) (drop_twice a b piece)

pub behind_same : (count : ℕ) (pieces : List (List ℕ)) → count ≤ length (front pieces) → length (front pieces) ≡ 0 → pieces ≡ behind count pieces
behind_same count [] within none = refl
behind_same count (piece ∷ pieces) within none =
    let same : 0 ≡ count = omega (arith, within, none) in
    ap (λ (n : ℕ). drop n piece ∷ pieces) same

pub front_room : (pieces : List (List ℕ)) (piece offset : ℕ) (bytes : List ℕ) → slice_get pieces piece ≡ Some bytes → length (front (behind offset (drop piece pieces))) ≡ length bytes - offset
front_room pieces piece offset bytes is = ap length (sym (front_is pieces piece offset bytes is)) ∙ length-drop offset bytes

get_some : (pieces : List (List ℕ)) (piece : ℕ) (none : List ℕ) → piece < length pieces → slice_get pieces piece ≡ Some (get_or pieces piece none)
get_some [] piece none within = absurd (omega (arith, within))
get_some (p ∷ pieces) zero none within = refl
get_some (p ∷ pieces) (suc piece) none within = get_some pieces piece none (omega (arith, within))

-- the same, of a piece that was looked up
pub stands_there : (pieces : List (List ℕ)) (piece offset : ℕ) (bytes found : List ℕ) → bytes ≡ found → found ≡ get_or pieces piece found → piece < length pieces → offset < length bytes
    → behind offset (drop piece pieces) ≡ from_next (behind offset (drop piece pieces))
stands_there pieces piece offset bytes found same is within some =
    sym (comes_next pieces piece offset (get_or pieces piece found) (get_some pieces piece found within) (omega (arith, ap length same, ap length is, some)))
