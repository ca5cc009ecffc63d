-- An entry that is read is spelled so.
use Rattle.std.proofs.Common.{◌≡◌, ℕ, zero, suc, ◌==◌, ◌≤◌, ◌<◌, ◌^◌, ne_eqb, List, [], ◌∷◌, ◌++◌, length, take, drop, Bool, true, false, cond, ltb, Result, Ok, Err, refl, sym, ap, ap₂, subst, ◌∙◌, append-nil, arith}
use Rattle.std.specs.Prelude.{IfOk}
use Rattle.std.specs.Int.{w32, from_be_bytes, to_be_bytes}
use Rattle.std.proofs.lemmas.Bool.{eqb-true, ltb-false, le-ltb}
use Rattle.std.proofs.lemmas.List.{take-append-drop, length-take, length-append, nil_from_length, take_at, drop_at}
use Rattle.std.proofs.lemmas.Nat.{be_bytes_4, from_be_bytes-to_be_bytes_4}
use Rattle.arz_json.specs.Tree.{IsWellFormed, max_depth}
use Rattle.arz_wire.specs.Spelling.{spelling}
use Rattle.arz_wire.specs.declared.fault.WireFault.{WireFault}
use Rattle.arz_wire.specs.declared.fault.WireFault.TheVariants.{Short, BadTag, NotCanonical}
use Rattle.arz_wire.specs.declared.entry.Entry.{Entry}
use Rattle.arz_wire.specs.declared.entry.Entry.TheVariants.{Start, Begun, Held, Served}
use Rattle.arz_json.specs.Answer.{◌>>=◌, Gives}
use Rattle.arz_wire.specs.Reading.{place, tree_at, told}
use Rattle.arz_wire.specs.Entries.{IsSound, IsEntry, entry_spelling, number_at_front, closed_at, whole, tagged_entry, entry_of}
use Rattle.arz_wire.proofs.Again.{tree_again}
use Rattle.arz_wire.proofs.Found.{IsBytes, IsBytes-rest, IsBytes-take, bind_ok, guard_ok, ok_is, tree_takes}

record Read (bytes : List ℕ) (x : Entry) : Type 0 where
  spelt : bytes ≡ entry_spelling x
  sound : IsSound x

number_parts : (bytes : List ℕ) (n : ℕ) (rest : List ℕ) → IsBytes bytes → number_at_front bytes ≡ Ok (n, rest) → bytes ≡ to_be_bytes w32 n ++ rest
number_parts bytes n rest fits e =
    let g = guard_ok (ltb (length bytes) 4) Short (from_be_bytes w32 (take 4 bytes), drop 4 bytes) (n, rest) e in
    let long : 4 ≤ length bytes = ltb-false _ _ g.0 in
    let n-is : from_be_bytes w32 (take 4 bytes) ≡ n = ap (λ (p : ℕ × List ℕ). p.0) g.1 in
    let rest-is : drop 4 bytes ≡ rest = ap (λ (p : ℕ × List ℕ). p.1) g.1 in
    let back : to_be_bytes w32 (from_be_bytes w32 (take 4 bytes)) ≡ take 4 bytes = be_bytes_4 (take 4 bytes) _ (omega (arith, length-take 4 bytes)) (IsBytes-take 4 bytes fits) refl in
    sym (take-append-drop 4 bytes) ∙ ap₂ (λ (a b : List ℕ). a ++ b) (sym back ∙ ap (to_be_bytes w32) n-is) rest-is

abbrev whole_if : ℕ → List ℕ → Entry → Bool → Result Entry WireFault
whole_if total rest entry b = cond b (Ok tt) (Err (NotCanonical (place total rest))) >>= λ (u : Unit {0}). Ok entry

whole_ok : (total : ℕ) (rest : List ℕ) (entry x : Entry) → whole total rest entry ≡ Ok x → (rest ≡ []) × (entry ≡ x)
whole_ok total rest entry x e = at (length rest == 0) refl e
  where
    at : (b : Bool) → (length rest == 0) ≡ b → whole_if total rest entry b ≡ Ok x → (rest ≡ []) × (entry ≡ x)
    at true is g = (nil_from_length rest (eqb-true _ _ is), cc)
    at false is g = absurd (cc)

numbered : (total tag : ℕ) (rest : List ℕ) (make : ℕ → Entry) (x : Entry) → IsBytes rest → ((n : ℕ) → entry_spelling (make n) ≡ tag ∷ to_be_bytes w32 n) → ((n : ℕ) → IsSound (make n))
    → (number_at_front rest >>= λ n. whole total n.1 (make n.0)) ≡ Ok x → Read (tag ∷ rest) x
numbered total tag rest make x fits spelled sound e =
    let b = bind_ok (number_at_front rest) (λ n. whole total n.1 (make n.0)) x e in
    let w = whole_ok total b.0.1 (make b.0.0) x b.2 in
    let parts : rest ≡ to_be_bytes w32 b.0.0 = number_parts rest b.0.0 b.0.1 fits b.1 ∙ ap (λ (l : List ℕ). to_be_bytes w32 b.0.0 ++ l) w.0 ∙ append-nil (to_be_bytes w32 b.0.0) in
    record { spelt = ap (λ l. tag ∷ l) parts ∙ sym (spelled b.0.0) ∙ ap entry_spelling w.1; sound = subst IsSound w.1 (sound b.0.0) }

started : (total : ℕ) (rest : List ℕ) (x : Entry) → IsBytes rest → (tree_at total max_depth rest >>= λ x. whole total x.1 (Start x.0)) ≡ Ok x → Read (1 ∷ rest) x
started total rest x fits e =
    let b = bind_ok (tree_at total max_depth rest) (λ x. whole total x.1 (Start x.0)) x e in
    let w = whole_ok total b.0.1 (Start b.0.0) x b.2 in
    let t = tree_takes total max_depth rest b.0.0 b.0.1 fits b.1 in
    let parts : rest ≡ spelling b.0.0 = t.takes.parts ∙ ap (λ (l : List ℕ). spelling b.0.0 ++ l) w.0 ∙ append-nil (spelling b.0.0) in
    let well : IsWellFormed b.0.0 = record { form = t.form; nests = t.nests } in
    record { spelt = ap (λ l. 1 ∷ l) parts ∙ ap entry_spelling w.1; sound = subst IsSound w.1 well }

closed_parts : (total : ℕ) (bytes : List ℕ) (b : Bool) (rest : List ℕ) → closed_at total bytes ≡ Ok (b, rest) → bytes ≡ cond b 1 0 ∷ rest
unfolding closed_at
closed_parts total [] b rest e = absurd (cc)
closed_parts total (zero ∷ more) b rest e = let p : (false, more) ≡ (b, rest) = ok_is _ _ e in ap (λ (q : Bool × List ℕ). cond q.0 1 0 ∷ q.1) p
closed_parts total (suc zero ∷ more) b rest e = let p : (true, more) ≡ (b, rest) = ok_is _ _ e in ap (λ (q : Bool × List ℕ). cond q.0 1 0 ∷ q.1) p
closed_parts total (suc (suc n) ∷ more) b rest e = absurd (cc)

held : (total : ℕ) (rest : List ℕ) (x : Entry) → IsBytes rest → (number_at_front rest >>= λ n. closed_at total n.1 >>= λ c. Ok (Held n.0 c.0 c.1)) ≡ Ok x → Read (3 ∷ rest) x
held total rest x fits e =
    let a = bind_ok (number_at_front rest) (λ n. closed_at total n.1 >>= λ c. Ok (Held n.0 c.0 c.1)) x e in
    let b = bind_ok (closed_at total a.0.1) (λ c. Ok (Held a.0.0 c.0 c.1)) x a.2 in
    let parts = number_parts rest a.0.0 a.0.1 fits a.1 ∙ ap (λ (l : List ℕ). to_be_bytes w32 a.0.0 ++ l) (closed_parts total a.0.1 b.0.0 b.0.1 b.1) in
    let made : Held a.0.0 b.0.0 b.0.1 ≡ x = ok_is _ _ b.2 in
    record { spelt = ap (λ l. 3 ∷ l) parts ∙ ap entry_spelling made; sound = subst IsSound made tt }

unknown : (total tag : ℕ) (rest : List ℕ) → 4 < tag → tagged_entry total tag rest ≡ Err (BadTag 0)
unknown total tag rest h =
    rw (ne_eqb tag 1 (λ e. omega (arith, e)), ne_eqb tag 2 (λ e. omega (arith, e)), ne_eqb tag 3 (λ e. omega (arith, e)), ne_eqb tag 4 (λ e. omega (arith, e))) refl

refused : (r : Result Entry WireFault) (f : WireFault) (x : Entry) → r ≡ Err f → r ≡ Ok x → ⊥
refused r f x a b = absurd (cc)

entry_read : (total tag : ℕ) (rest : List ℕ) (x : Entry) → IsBytes rest → tagged_entry total tag rest ≡ Ok x → Read (tag ∷ rest) x
entry_read total zero rest x fits e = absurd (cc)
entry_read total (suc zero) rest x fits e = started total rest x fits e
entry_read total (suc (suc zero)) rest x fits e = numbered total 2 rest Begun x fits (λ n. refl) (λ n. tt) e
entry_read total (suc (suc (suc zero))) rest x fits e = held total rest x fits e
entry_read total (suc (suc (suc (suc zero)))) rest x fits e = numbered total 4 rest Served x fits (λ n. refl) (λ n. tt) e
entry_read total (suc (suc (suc (suc (suc tag))))) rest x fits e = absurd (refused (tagged_entry total (suc (suc (suc (suc (suc tag))))) rest) (BadTag 0) x (unknown total (suc (suc (suc (suc (suc tag))))) rest (omega arith)) e)

entry_takes : (payload : List ℕ) (x : Entry) → IsBytes payload → entry_of payload ≡ Ok x → Read payload x
unfolding entry_of
entry_takes [] x fits e = absurd (cc)
entry_takes (tag ∷ rest) x fits e = entry_read (length (tag ∷ rest)) tag rest x (IsBytes-rest tag rest fits) e

pub is_spelt : (payload : List ℕ) (r : Result Entry WireFault) → IsBytes payload → Gives (λ x. x) told r (entry_of payload) → IfOk r (λ x. payload ≡ entry_spelling x)
is_spelt payload (Ok x) fits given = (entry_takes payload x fits given).spelt
is_spelt payload (Err e) fits given = tt

pub is_sound : (payload : List ℕ) (r : Result Entry WireFault) → IsBytes payload → Gives (λ x. x) told r (entry_of payload) → IfOk r IsSound
is_sound payload (Ok x) fits given = (entry_takes payload x fits given).sound
is_sound payload (Err e) fits given = tt

-- ---- what is spelled so is read again

number_of_front : (front rest : List ℕ) → length front ≡ 4 → number_at_front (front ++ rest) ≡ Ok (from_be_bytes w32 front, rest)
number_of_front front rest len =
    let long : ltb (length (front ++ rest)) 4 ≡ false = le-ltb _ _ (omega (arith, len, length-append front rest)) in
    rw (long, take_at front rest 4 len, drop_at front rest 4 len) refl

number_front_again : (n : ℕ) (rest : List ℕ) → n < 2 ^ 32 → number_at_front (to_be_bytes w32 n ++ rest) ≡ Ok (n, rest)
number_front_again n rest lt = number_of_front (to_be_bytes w32 n) rest refl ∙ ap (λ k. Ok (k, rest)) (from_be_bytes-to_be_bytes_4 n lt)

closed_again : (total : ℕ) (b : Bool) (rest : List ℕ) → closed_at total (cond b 1 0 ∷ rest) ≡ Ok (b, rest)
unfolding closed_at
closed_again total true rest = refl
closed_again total false rest = refl

numbered_again : (total n : ℕ) (make : ℕ → Entry) → n < 2 ^ 32 → (number_at_front (to_be_bytes w32 n) >>= λ k. whole total k.1 (make k.0)) ≡ Ok (make n)
numbered_again total n make lt =
    let front : number_at_front (to_be_bytes w32 n) ≡ Ok (n, []) = ap number_at_front (sym (append-nil (to_be_bytes w32 n))) ∙ number_front_again n [] lt in
    ap (λ r. r >>= λ k. whole total k.1 (make k.0)) front

pub entry_again : (x : Entry) → IsEntry x → length (entry_spelling x) < 2 ^ 64 → entry_of (entry_spelling x) ≡ Ok x
unfolding entry_of
entry_again (Start v) h l =
    let total = length (1 ∷ spelling v) in
    let none : spelling v ++ [] ≡ spelling v = append-nil (spelling v) in
    let tree : tree_at total max_depth (spelling v) ≡ Ok (v, []) =
    ap (tree_at total max_depth) (sym none) ∙ tree_again v total max_depth [] h.0.form h.1 h.0.nests (omega (arith, l, ap length none)) in
    ap (λ r. r >>= λ x. whole total x.1 (Start x.0)) tree
entry_again (Begun n) h l = numbered_again (length (2 ∷ to_be_bytes w32 n)) n Begun h
entry_again (Held n b m) h l =
    let total = length (3 ∷ (to_be_bytes w32 n ++ cond b 1 0 ∷ m)) in
    ap (λ r. r >>= λ k. closed_at total k.1 >>= λ c. Ok (Held k.0 c.0 c.1)) (number_front_again n (cond b 1 0 ∷ m) h) ∙ ap (λ r. r >>= λ c. Ok (Held n c.0 c.1)) (closed_again total b m)
entry_again (Served n) h l = numbered_again (length (4 ∷ to_be_bytes w32 n)) n Served h
