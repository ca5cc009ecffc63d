-- Words are read as the grammar has them.
use Rattle.std.proofs.Common.{◌≡◌, ℕ, zero, suc, ◌+◌, ◌-◌, ◌*◌, ◌≤◌, ◌==◌, ◌&&◌, not, List, [], ◌∷◌, ◌++◌, length, Bool, true, false, cond, Option, Some, None, option_map, option_and_then, inl, inr, refl, sym, ap, ap₂, subst, ◌∙◌, arith, nat_lt, IsUtf8, length-append}
use Rattle.std.proofs.lemmas.Grind.{common_steps}
use Rattle.std.proofs.lemmas.Bool.{cases_Bool, and_parts, eq-eqb}
use Rattle.std.proofs.lemmas.Str.{IsUtf8-from_is_utf8}
use Rattle.std.specs.Prelude.{encode_utf8}
use Rattle.std.specs.List.{list_all}
use Rattle.std.specs.Str.{is_utf8}
use Rattle.std.specs.Char.{is_ascii_digit, is_ascii_lowercase}
use Rattle.arz_query.specs.Lexical.{cut, is_of, is_next, after_byte, text_in, texted, name_at, hex_byte_at, hex_digit, hex_pair, with_high, hex_at, with_low, low_at, hex_char_of, hex_char_at, is_scalar, escaped, escape_at, piece_at, behind, quoted_within, quoted_at, joined}
use Rattle.arz_query.specs.Grammar.{IsName, IsWord, is_name_first, IsHex, hex, is_high, is_low, IsEscape, the_quote, letter, unit, pair, is_unescaped, AreChars, end_quote, unescaped, escape, IsString}
use Rattle.arz_query.specs.declared.words.Class.{Class}
use Rattle.arz_query.specs.declared.words.Class.TheVariants as class
use Rattle.arz_query.proofs.Inverse.{and_then, mapped, chosen_by, cond_by, byte_is, some_is}
use Rattle.arz_query.proofs.Runs.{cut-whole, cut-passes, cut-front}
use Rattle.arz_query.proofs.Texts.{text_is, next, turn}

pub is_byte : (x b : ℕ) → (x == b) ≡ true → x ≡ b
is_byte x b h = grind (arith, h)

-- ---- runs

pub cut-stops : (c : Class) (s : List ℕ) → is_next (is_of c) (cut c s).1 ≡ false
cut-stops c [] = refl
cut-stops c (b ∷ s) =
    elim (cases_Bool (is_of c b)) [
      | inl h ↦ rw h (cut-stops c s)
      | inr h ↦ rw h h
    ]

-- a run begins as its text
pub next_of : (c : Class) (test : ℕ → Bool) (s : List ℕ) → ((b : ℕ) → test b ≡ true → is_of c b ≡ true) → is_next test s ≡ true → is_next test (cut c s).0 ≡ true
next_of c test [] h e = e
next_of c test (b ∷ s) h e = rw (h b e) e

pub next_front : (test : ℕ → Bool) (front rest : List ℕ) → is_next test front ≡ true → is_next test (front ++ rest) ≡ true
next_front test [] rest e = let none : false ≡ true = e in absurd cc
next_front test (b ∷ front) rest e = e

both_next : (p q : ℕ → Bool) (s : List ℕ) → is_next p s ≡ true → is_next q s ≡ false → is_next (λ b. p b && not (q b)) s ≡ true
both_next p q [] e f = e
both_next p q (b ∷ s) e f = rw e (rw f refl)

left_next : (p q : ℕ → Bool) (s : List ℕ) → is_next (λ b. p b && not (q b)) s ≡ true → is_next p s ≡ true
left_next p q [] e = e
left_next p q (b ∷ s) e = (and_parts (p b) (not (q b)) e).0

not_true : (b : Bool) → not b ≡ true → b ≡ false
not_true true e = let none : false ≡ true = e in absurd cc
not_true false e = refl

right_next : (p q : ℕ → Bool) (s : List ℕ) → is_next (λ b. p b && not (q b)) s ≡ true → is_next q s ≡ false
right_next p q [] e = refl
right_next p q (b ∷ s) e = not_true (q b) (and_parts (p b) (not (q b)) e).1

text_was : (b : List ℕ) (t : List ℕ) → text_in b ≡ Some t → (b ≡ t) × IsUtf8 t
unfolding text_in
text_was b t e = elim (cond_by (is_utf8 b) (Some b) None t e) [
  | inl p ↦ (some_is p.1, subst IsUtf8 (some_is p.1) (IsUtf8-from_is_utf8 b p.0))
  | inr p ↦ let none : let o : Option (List ℕ) = None in o ≡ Some t = p.1 in absurd cc
]

texted_was : (p n : List ℕ × List ℕ) → texted p ≡ Some n → (p ≡ n) × IsUtf8 n.0
texted_was p n e =
    let q = mapped (λ (t : List ℕ). (t, p.1)) (text_in p.0) n e in
    let w = text_was p.0 q.0 q.1.0 in
    (ap (λ (x : List ℕ). let y : List ℕ × List ℕ = (x, p.1) in y) w.0 ∙ q.1.1, subst (λ (x : List ℕ × List ℕ). IsUtf8 x.0) q.1.1 w.1)

-- ---- names and words

pub name_to : (s r n : List ℕ) → name_at s ≡ Some (n, r) → IsName s r n
unfolding name_at
name_to s r n e =
    elim (cond_by (is_next (is_of class.Name) s && not (is_next is_ascii_digit s)) (texted (cut class.Name s)) None (n, r) e) [
      | inl p ↦
          let w = texted_was (cut class.Name s) (n, r) p.1 in
          let a = and_parts (is_next (is_of class.Name) s) (not (is_next is_ascii_digit s)) p.0 in
          let first : is_next is_name_first (cut class.Name s).0 ≡ true =
          next_of class.Name is_name_first s (λ b h. (and_parts (is_of class.Name b) (not (is_ascii_digit b)) h).0)
          (both_next (is_of class.Name) is_ascii_digit s a.0 (not_true (is_next is_ascii_digit s) a.1)) in
          let whole : (x : List ℕ × List ℕ) → cut class.Name s ≡ x → IsUtf8 x.0 → IsName s x.1 x.0 =
          λ x k u. record {
            split = subst (λ (y : List ℕ × List ℕ). s ≡ y.0 ++ y.1) k (cut-whole class.Name s);
            first = subst (λ (y : List ℕ × List ℕ). is_next is_name_first y.0 ≡ true) k first;
            chars = subst (λ (y : List ℕ × List ℕ). list_all (is_of class.Name) y.0 ≡ true) k (cut-passes class.Name s);
            longest = subst (λ (y : List ℕ × List ℕ). is_next (is_of class.Name) y.1 ≡ false) k (cut-stops class.Name s);
            characters = u;
          } in
          whole (n, r) w.0 w.1
      | inr p ↦ let none : let o : Option (List ℕ × List ℕ) = None in o ≡ Some (n, r) = p.1 in absurd cc
    ]

pub name_from : (s r n : List ℕ) → IsName s r n → name_at s ≡ Some (n, r)
unfolding name_at
name_from s r n k =
    let a = next_front (is_of class.Name) n r (left_next (is_of class.Name) is_ascii_digit n k.first) in
    let first = next_front is_name_first n r k.first in
    let b = right_next (is_of class.Name) is_ascii_digit (n ++ r) first in
    ap (λ x. cond (is_next (is_of class.Name) x && not (is_next is_ascii_digit x)) (texted (cut class.Name x)) None) k.split
    ∙ ap₂ (λ t u. cond (t && not u) (texted (cut class.Name (n ++ r))) None) a b
    ∙ ap texted (cut-front class.Name n r k.chars k.longest)
    ∙ ap (option_map (λ (t : List ℕ). let y : List ℕ × List ℕ = (t, r) in y)) (text_is n k.characters)

pub word_to : (s r w : List ℕ) → is_next is_ascii_lowercase s ≡ true → cut class.Function s ≡ (w, r) → IsWord s r w
word_to s r w low e =
    let whole : (x : List ℕ × List ℕ) → cut class.Function s ≡ x → IsWord s x.1 x.0 =
    λ x k. record {
      split = subst (λ (y : List ℕ × List ℕ). s ≡ y.0 ++ y.1) k (cut-whole class.Function s);
      first = subst (λ (y : List ℕ × List ℕ). is_next is_ascii_lowercase y.0 ≡ true) k (next_of class.Function is_ascii_lowercase s (λ b h. rw h refl) low);
      chars = subst (λ (y : List ℕ × List ℕ). list_all (is_of class.Function) y.0 ≡ true) k (cut-passes class.Function s);
      longest = subst (λ (y : List ℕ × List ℕ). is_next (is_of class.Function) y.1 ≡ false) k (cut-stops class.Function s);
    } in
    whole (w, r) e

pub word_from : (s r w : List ℕ) → IsWord s r w → (is_next is_ascii_lowercase s ≡ true) × (cut class.Function s ≡ (w, r))
word_from s r w k =
    (ap (is_next is_ascii_lowercase) k.split ∙ next_front is_ascii_lowercase w r k.first, ap (cut class.Function) k.split ∙ cut-front class.Function w r k.chars k.longest)

-- ---- quoted texts

record HexByte (s : List ℕ) (n : ℕ × List ℕ) : Type 0 where
  pub a : ℕ
  pub b : ℕ
  pub x : ℕ
  pub y : ℕ
  pub split : s ≡ a ∷ b ∷ n.1
  pub high : hex_digit a ≡ Some x
  pub low : hex_digit b ≡ Some y
  pub value : x * 16 + y ≡ n.0

record HexPair (o low : Option ℕ) (k : ℕ) : Type 0 where
  pub x : ℕ
  pub y : ℕ
  pub high : o ≡ Some x
  pub less : low ≡ Some y
  pub value : x * 16 + y ≡ k

pair_by : (o low : Option ℕ) (k : ℕ) → hex_pair o low ≡ Some k → HexPair o low k
pair_by None low k e = let none : let n : Option ℕ = None in n ≡ Some k = e in absurd cc
pair_by (Some h) low k e = let q = mapped (λ n. h * 16 + n) low k e in record { x = h; y = q.0; high = refl; less = q.1.0; value = q.1.1 }

hex_byte_to : (s : List ℕ) (n : ℕ × List ℕ) → hex_byte_at s ≡ Some n → HexByte s n
hex_byte_to [] n e = let none : let o : Option (ℕ × List ℕ) = None in o ≡ Some n = e in absurd cc
hex_byte_to (x ∷ []) n e = let none : let o : Option (ℕ × List ℕ) = None in o ≡ Some n = e in absurd cc
hex_byte_to (x ∷ y ∷ s) n e =
    let q = mapped (λ (k : ℕ). let p : ℕ × List ℕ = (k, s) in p) (hex_pair (hex_digit x) (hex_digit y)) n e in
    let p = pair_by (hex_digit x) (hex_digit y) q.0 q.1.0 in
    record { a = x; b = y; x = p.x; y = p.y; split = ap (λ (k : ℕ × List ℕ). x ∷ y ∷ k.1) q.1.1; high = p.high; low = p.less; value = p.value ∙ ap (λ (k : ℕ × List ℕ). k.0) q.1.1 }

hex_to : (s : List ℕ) (n : ℕ × List ℕ) → hex_at s ≡ Some n → IsHex s n.1 n.0
unfolding hex_at
hex_to s n e =
    let q = and_then (λ (high : ℕ × List ℕ). option_map (with_high high.0) (hex_byte_at high.1)) (hex_byte_at s) n e in
    let w = mapped (with_high q.0.0) (hex_byte_at q.0.1) n q.1.1 in
    let a = hex_byte_to s q.0 q.1.0 in
    let b = hex_byte_to q.0.1 w.0 w.1.0 in
    let whole : s ≡ a.a ∷ a.b ∷ b.a ∷ b.b ∷ w.0.1 = a.split ∙ ap (λ (r : List ℕ). a.a ∷ a.b ∷ r) b.split in
    let value : (a.x * 16 + a.y) * 256 + (b.x * 16 + b.y) ≡ q.0.0 * 256 + w.0.0 = ap₂ (λ h l. h * 256 + l) a.value b.value in
    subst (λ (k : ℕ × List ℕ). IsHex s k.1 k.0) w.1.1
    (subst (λ v. IsHex s w.0.1 v) value (subst (λ t. IsHex t w.0.1 ((a.x * 16 + a.y) * 256 + (b.x * 16 + b.y))) (sym whole) (hex a.high a.low b.high b.low)))

hex_from : {s r : List ℕ} {c : ℕ} → IsHex s r c → hex_at s ≡ Some (c, r)
unfolding hex_at
hex_from (hex {a} {b} {c} {d} {x} {y} {z} {w} {r} h i j k) =
    ap₂ (λ (o p : Option ℕ). option_and_then (λ (high : ℕ × List ℕ). option_map (with_high high.0) (hex_byte_at high.1)) (option_map (λ (n : ℕ). let q : ℕ × List ℕ = (n, c ∷ d ∷ r) in q) (hex_pair o p))) h i
    ∙ ap₂ (λ (o p : Option ℕ). option_map (with_high (x * 16 + y)) (option_map (λ (n : ℕ). let q : ℕ × List ℕ = (n, r) in q) (hex_pair o p))) j k

escape_to : (q : ℕ) (s : List ℕ) (n : ℕ × List ℕ) → escape_at q s ≡ Some n → IsEscape q s n.1 n.0
unfolding escape_at hex_char_at
escape_to q [] n e = let none : let o : Option (ℕ × List ℕ) = None in o ≡ Some n = e in absurd cc
escape_to q (x ∷ xs) n e =
    elim (cond_by (x == 117) (option_and_then hex_char_of (hex_at xs)) _ n e) [
      | inl p ↦
          let c = and_then hex_char_of (hex_at xs) n p.1 in
          let h = hex_to xs c.0 c.1.0 in
          subst (λ y. IsEscape q (y ∷ xs) n.1 n.0) (sym (is_byte x 117 p.0))
          (elim (cond_by (is_high c.0.0) (low_at c.0.0 c.0.1) (cond (is_scalar c.0.0) (Some c.0) None) n c.1.1) [
            | inl w ↦ lows xs c.0 h w.0 w.1
            | inr w ↦ elim (cond_by (is_scalar c.0.0) (Some c.0) None n w.1) [
              | inl k ↦ subst (λ (o : ℕ × List ℕ). IsEscape q (117 ∷ xs) o.1 o.0) (some_is k.1) (unit h k.0)
              | inr k ↦ let none : let o : Option (ℕ × List ℕ) = None in o ≡ Some n = k.1 in absurd cc
            ]
          ])
      | inr p ↦ elim (cond_by (x == q) (Some (x, xs)) (option_map (λ c. (c, xs)) (escaped x)) n p.1) [
        | inl w ↦ subst (λ (o : ℕ × List ℕ). IsEscape q (x ∷ xs) o.1 o.0) (some_is w.1) (subst (λ y. IsEscape y (x ∷ xs) xs x) (is_byte x q w.0) the_quote)
        | inr w ↦
            let k = mapped (λ (c : ℕ). let y : ℕ × List ℕ = (c, xs) in y) (escaped x) n w.1 in
            subst (λ (o : ℕ × List ℕ). IsEscape q (x ∷ xs) o.1 o.0) k.1.1 (letter k.1.0)
      ]
    ]
  where
    lows : (xs : List ℕ) (c : ℕ × List ℕ) → IsHex xs c.1 c.0 → is_high c.0 ≡ true → low_at c.0 c.1 ≡ Some n → IsEscape q (117 ∷ xs) n.1 n.0
    lows xs c h high e =
        let l = and_then (with_low c.0) (option_and_then hex_at (option_and_then (after_byte 117) (after_byte 92 c.1))) n e in
        let a = and_then hex_at (option_and_then (after_byte 117) (after_byte 92 c.1)) l.0 l.1.0 in
        let b = and_then (after_byte 117) (after_byte 92 c.1) a.0 a.1.0 in
        let split : c.1 ≡ 92 ∷ 117 ∷ a.0 = byte_is 92 c.1 b.0 b.1.0 ∙ ap (λ (t : List ℕ). 92 ∷ t) (byte_is 117 b.0 a.0 b.1.1) in
        elim (cond_by (is_low l.0.0) (Some (joined c.0 l.0.0, l.0.1)) None n l.1.1) [
          | inl k ↦ subst (λ (o : ℕ × List ℕ). IsEscape q (117 ∷ xs) o.1 o.0) (some_is k.1)
              (pair (subst (λ t. IsHex xs t c.0) split h) high (hex_to a.0 l.0 a.1.1) k.0)
          | inr k ↦ let none : let o : Option (ℕ × List ℕ) = None in o ≡ Some n = k.1 in absurd cc
        ]

pub not_next : (q x : ℕ) (xs : List ℕ) → after_byte q (x ∷ xs) ≡ None → (x == q) ≡ false
not_next q x xs e = elim (cases_Bool (x == q)) [
  | inl h ↦ let some : let o : Option (List ℕ) = Some xs in o ≡ None = ap (λ (t : Bool). let o : Option (List ℕ) = cond t (Some xs) None in o) (sym h) ∙ e in absurd cc
  | inr h ↦ h
]

within_to : (m q : ℕ) (s : List ℕ) (p : List ℕ × List ℕ) → quoted_within m q s ≡ Some p → AreChars q s p.1 p.0
unfolding quoted_within piece_at
within_to zero q s p e = let none : let o : Option (List ℕ × List ℕ) = None in o ≡ Some p = e in absurd cc
within_to (suc m) q s p e =
    elim (chosen_by (after_byte q s) (λ rest. Some ([], rest)) (option_and_then (λ (p : List ℕ × List ℕ). option_map (behind p.0) (quoted_within m q p.1)) (piece_at q s)) p e) [
      | inl k ↦ subst (λ x. AreChars q x p.1 p.0) (sym (byte_is q s k.0 k.1.0)) (subst (λ (o : List ℕ × List ℕ). AreChars q (q ∷ k.0) o.1 o.0) (some_is k.1.1) end_quote)
      | inr k ↦
          let c = and_then (λ (p : List ℕ × List ℕ). option_map (behind p.0) (quoted_within m q p.1)) (piece_at q s) p k.1 in
          let w = mapped (behind c.0.0) (quoted_within m q c.0.1) p c.1.1 in
          subst (λ (o : List ℕ × List ℕ). AreChars q s o.1 o.0) w.1.1 (one s c.0 k.0 c.1.0 w.0.1 w.0.0 (within_to m q c.0.1 w.0 w.1.0))
    ]
  where
    one : (s : List ℕ) (c : List ℕ × List ℕ) → after_byte q s ≡ None → piece_at q s ≡ Some c → (r t : List ℕ) → AreChars q c.1 r t → AreChars q s r (c.0 ++ t)
    one [] c lacks e r t are = let none : let o : Option (List ℕ × List ℕ) = None in o ≡ Some c = e in absurd cc
    one (x ∷ xs) c lacks e r t are =
        elim (cond_by (x == 92) (option_map (λ c. (encode_utf8 c.0, c.1)) (escape_at q xs)) _ c e) [
          | inl k ↦
              let w = mapped (λ (c : ℕ × List ℕ). let y : List ℕ × List ℕ = (encode_utf8 c.0, c.1) in y) (escape_at q xs) c k.1 in
              subst (λ y. AreChars q (y ∷ xs) r (c.0 ++ t)) (sym (is_byte x 92 k.0))
              (subst (λ (o : List ℕ × List ℕ). AreChars q o.1 r t → AreChars q (92 ∷ xs) r (o.0 ++ t)) w.1.1 (λ are. escape (escape_to q xs w.0 w.1.0) are) are)
          | inr k ↦ elim (cond_by (nat_lt x 32) None (Some (x ∷ [], xs)) c k.1) [
            | inl w ↦ let none : let o : Option (List ℕ × List ℕ) = None in o ≡ Some c = w.1 in absurd cc
            | inr w ↦
                let plain : is_unescaped q x ≡ true = rw (not_next q x xs lacks) (rw k.0 (rw w.0 refl)) in
                subst (λ (o : List ℕ × List ℕ). AreChars q o.1 r t → AreChars q (x ∷ xs) r (o.0 ++ t)) (some_is w.1) (λ are. unescaped plain are) are
          ]
        ]

pub string_to : (q : ℕ) (s r t : List ℕ) → quoted_at q s ≡ Some (t, r) → IsString q s r t
unfolding quoted_at
string_to q s r t e =
    let p = and_then texted (quoted_within (length s) q s) (t, r) e in
    let w = texted_was p.0 (t, r) p.1.1 in
    record { chars = subst (λ (o : List ℕ × List ℕ). AreChars q s o.1 o.0) w.0 (within_to (length s) q s p.0 p.1.0); characters = w.1 }

-- a quote that no escape of its own has
pub record IsQuote (q : ℕ) : Type 0 where
  pub no_escape : (92 == q) ≡ false
  pub no_unicode : (117 == q) ≡ false
  pub is_not_unicode : (q == 117) ≡ false
  pub no_letter : escaped q ≡ None

there : (q : ℕ) → (q == q) ≡ true
there q = eq-eqb q q refl

not_letter : (q b c : ℕ) → escaped b ≡ Some c → escaped q ≡ None → (b == q) ≡ false
not_letter q b c e f = elim (cases_Bool (b == q)) [
  | inl h ↦ let none : let o : Option ℕ = None in o ≡ Some c = sym f ∙ ap escaped (sym (is_byte b q h)) ∙ e in absurd cc
  | inr h ↦ h
]

no_u : escaped 117 ≡ None
unfolding escaped
no_u = refl

not_high : (c : ℕ) → is_scalar c ≡ true → is_high c ≡ false
not_high c h = grind (arith, common_steps, h)

escape_from : (q : ℕ) → IsQuote q → {s r : List ℕ} {c : ℕ} → IsEscape q s r c → escape_at q s ≡ Some (c, r)
unfolding escape_at hex_char_at
escape_from q k (the_quote {r}) =
    ap₂ (λ a b. cond a (option_and_then hex_char_of (hex_at r)) (cond b (Some (q, r)) (option_map (λ (c : ℕ). let y : ℕ × List ℕ = (c, r) in y) (escaped q)))) k.is_not_unicode (there q)
escape_from q k (letter {b} {c} {r} e) =
    ap₂ (λ a d. cond a (option_and_then hex_char_of (hex_at r)) (cond d (Some (b, r)) (option_map (λ (c : ℕ). let y : ℕ × List ℕ = (c, r) in y) (escaped b)))) (not_letter 117 b c e no_u) (not_letter q b c e k.no_letter)
    ∙ ap (option_map (λ (c : ℕ). let y : ℕ × List ℕ = (c, r) in y)) e
escape_from q k (unit {s} {r} {c} h e) =
    ap (option_and_then hex_char_of) (hex_from h)
    ∙ ap₂ (λ a b. cond a (low_at c r) (cond b (Some (c, r)) None)) (not_high c e) e
escape_from q k (pair {s} {t} {r} {h} {l} x e y f) =
    ap (option_and_then hex_char_of) (hex_from x)
    ∙ ap (λ a. cond a (low_at h (92 ∷ 117 ∷ t)) (cond (is_scalar h) (Some (h, 92 ∷ 117 ∷ t)) None)) e
    ∙ ap (option_and_then (with_low h)) (hex_from y)
    ∙ ap (λ (a : Bool). let o : Option (ℕ × List ℕ) = cond a (Some (joined h l, r)) None in o) f

hex_less : {s r : List ℕ} {c : ℕ} → IsHex s r c → length r ≤ length s
hex_less (hex h i j k) = omega arith

escape_less : (q : ℕ) {s r : List ℕ} {c : ℕ} → IsEscape q s r c → length r ≤ length s
escape_less q the_quote = omega arith
escape_less q (letter e) = omega arith
escape_less q (unit h e) = omega (arith, hex_less h)
escape_less q (pair x e y f) = omega (arith, hex_less x, hex_less y)

chars_from : (q : ℕ) → IsQuote q → {s r t : List ℕ} → AreChars q s r t → (m : ℕ) → length s ≤ m → quoted_within m q s ≡ Some (t, r)
unfolding piece_at
chars_from q k (end_quote {r}) m fuel =
    turn m (m - 1) q (q ∷ r) (omega arith)
    ∙ ap (λ (a : Bool). next (m - 1) q (cond a (Some r) None) (piece_at q (q ∷ r))) (there q)
chars_from q k (unescaped {b} {s} {r} {t} h d) m fuel =
    let x = and_parts (not (b == q) && not (b == 92)) (not (nat_lt b 32)) h in
    let y = and_parts (not (b == q)) (not (b == 92)) x.0 in
    turn m (m - 1) q (b ∷ s) (omega arith)
    ∙ ap (λ (a : Bool). next (m - 1) q (cond a (Some s) None) (piece_at q (b ∷ s))) (not_true (b == q) y.0)
    ∙ ap₂ (λ (a c : Bool). next (m - 1) q None (cond a (option_map (λ (e : ℕ × List ℕ). let z : List ℕ × List ℕ = (encode_utf8 e.0, e.1) in z) (escape_at q s)) (cond c None (Some (b ∷ [], s))))) (not_true (b == 92) y.1) (not_true (nat_lt b 32) x.1)
    ∙ ap (option_map (behind (b ∷ []))) (chars_from q k d (m - 1) (omega arith))
chars_from q k (escape {s} {u} {r} {t} {c} e d) m fuel =
    let shorter = escape_less q e in
    turn m (m - 1) q (92 ∷ s) (omega arith)
    ∙ ap (λ (a : Bool). next (m - 1) q (cond a (Some s) None) (piece_at q (92 ∷ s))) k.no_escape
    ∙ ap (λ (o : Option (ℕ × List ℕ)). next (m - 1) q None (option_map (λ (e : ℕ × List ℕ). let z : List ℕ × List ℕ = (encode_utf8 e.0, e.1) in z) o)) (escape_from q k e)
    ∙ ap (option_map (behind (encode_utf8 c))) (chars_from q k d (m - 1) (omega arith))

pub string_from : (q : ℕ) → IsQuote q → (s r t : List ℕ) → IsString q s r t → quoted_at q s ≡ Some (t, r)
unfolding quoted_at
string_from q k s r t d =
    ap (option_and_then texted) (chars_from q k d.chars (length s) (omega arith))
    ∙ ap (option_map (λ (x : List ℕ). let y : List ℕ × List ℕ = (x, r) in y)) (text_is t d.characters)

pub single : IsQuote 39
unfolding escaped
single = record { no_escape = refl; no_unicode = refl; is_not_unicode = refl; no_letter = refl }

pub double : IsQuote 34
unfolding escaped
double = record { no_escape = refl; no_unicode = refl; is_not_unicode = refl; no_letter = refl }

-- ---- what follows a word is shorter

pub name_shorter : (s r n : List ℕ) → IsName s r n → length r ≤ length s
name_shorter s r n d = rw d.split (omega (arith, length-append n r))

pub word_shorter : (s r w : List ℕ) → IsWord s r w → length r ≤ length s
word_shorter s r w d = rw d.split (omega (arith, length-append w r))

chars_less : (q : ℕ) {s r t : List ℕ} → AreChars q s r t → length r ≤ length s
chars_less q end_quote = omega arith
chars_less q (unescaped h d) = omega (arith, chars_less q d)
chars_less q (escape e d) = omega (arith, escape_less q e, chars_less q d)

pub string_shorter : (q : ℕ) (s r t : List ℕ) → IsString q s r t → length r ≤ length s
string_shorter q s r t d = chars_less q d.chars

pub name_begins : (s r n : List ℕ) → IsName s r n → is_next (is_of class.Name) s ≡ true
name_begins s r n d = ap (is_next (is_of class.Name)) d.split ∙ next_front (is_of class.Name) n r (left_next (is_of class.Name) is_ascii_digit n d.first)

pub word_begins : (s r w : List ℕ) → IsWord s r w → is_next is_ascii_lowercase s ≡ true
word_begins s r w d = (word_from s r w d).0

-- ---- bytes that differ

pub apart : (test : ℕ → Bool) (x b : ℕ) → test x ≡ true → test b ≡ false → (x == b) ≡ false
apart test x b h k = elim (cases_Bool (x == b)) [
  | inl e ↦ let same : x ≡ b = is_byte x b e in let none : true ≡ false = sym h ∙ ap test same ∙ k in absurd cc
  | inr e ↦ e
]

pub not_blank : (test : ℕ → Bool) (x : ℕ) → test x ≡ true → test 32 ≡ false → test 9 ≡ false → test 10 ≡ false → test 13 ≡ false → is_of class.Blank x ≡ false
not_blank test x h a b c d = rw (apart test x 32 h a) (rw (apart test x 9 h b) (rw (apart test x 10 h c) (rw (apart test x 13 h d) refl)))

pub no_byte : (test : ℕ → Bool) (b : ℕ) (s : List ℕ) → is_next test s ≡ true → test b ≡ false → after_byte b s ≡ None
no_byte test b [] h k = refl
no_byte test b (x ∷ xs) h k = rw (apart test x b h k) refl

pub tight : (test : ℕ → Bool) (s : List ℕ) → is_next test s ≡ true → test 32 ≡ false → test 9 ≡ false → test 10 ≡ false → test 13 ≡ false → is_next (is_of class.Blank) s ≡ false
tight test [] h a b c d = refl
tight test (x ∷ xs) h a b c d = not_blank test x h a b c d
