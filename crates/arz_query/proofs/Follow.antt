-- Lists that are read, and what may follow a part.
use Rattle.std.proofs.Common.{◌≡◌, inl, inr, ℕ, zero, suc, ◌==◌, ◌||◌, List, [], ◌∷◌, Bool, true, false, cond, Option, Some, None, option_map, option_and_then, refl, sym, ap, ◌∙◌}
use Rattle.std.proofs.lemmas.Bool.{cases_Bool}
use Rattle.arz_query.specs.Words.{Read, Reader, joined, with_front, no_more, more_at}
use Rattle.arz_query.specs.Lexical.{after_byte, after_pair, is_next, is_of, skip_blanks}
use Rattle.arz_query.specs.Grammar.{IsBlank}
use Rattle.arz_query.specs.Reading.{begins_segment, comma, segment_start, comparison_at}
use Rattle.arz_query.specs.declared.words.Class.TheVariants as class
use Rattle.arz_query.specs.declared.pieces.Marks.{Marks}
use Rattle.arz_query.proofs.Inverse.{skipped, stays}
use Rattle.arz_query.proofs.Lists.{taken, turned, turn, none_left, joined-fine}
use Rattle.arz_query.proofs.Tokens.{apart, no_byte}

-- what a reader is to give
abbrev pub given : {V : Type 0} → V → Marks → List ℕ → Option (Read V)
given v m r = Some (record { value = v; marks = m; rest = r })

-- ---- lists

pub ends_more : {V : Type 0} (f : ℕ) (separator : List ℕ → Option (List ℕ)) (item : Reader V) (s : List ℕ) → separator s ≡ None → more_at f separator item s ≡ Some (no_more s)
ends_more zero separator item s e = none_left 0 separator item s refl
ends_more (suc f) separator item s e = turn (suc f) f separator item s refl ∙ ap (turned f separator item s) e

abbrev pub items : {V : Type 0} → ℕ → (List ℕ → Option (List ℕ)) → Reader V → Reader (List V)
items f separator item s = option_and_then (taken f separator item) (item s)

pub behind_mark : {V : Type 0} (f k : ℕ) (separator : List ℕ → Option (List ℕ)) (item : Reader V) (s t : List ℕ) → f ≡ suc k → separator s ≡ Some t → more_at f separator item s ≡ items k separator item t
behind_mark f k separator item s t e c = turn f k separator item s e ∙ ap (turned k separator item s) c

-- an item, where those behind it are read
item_then : {V : Type 0} (f : ℕ) (separator : List ℕ → Option (List ℕ)) (item : Reader V) (s : List ℕ) (one : Read V) (more : Read (List V)) → item s ≡ Some one → more_at f separator item one.rest ≡ Some more →
    items f separator item s ≡ Some (with_front (one.value ∷ []) one.marks more)
item_then f separator item s one more e c = ap (option_and_then (taken f separator item)) e ∙ ap (option_map (with_front (one.value ∷ []) one.marks)) c

pub last_given : {V : Type 0} (f : ℕ) (separator : List ℕ → Option (List ℕ)) (item : Reader V) (s r : List ℕ) (v : V) (m : Marks) → item s ≡ given v m r → separator r ≡ None →
    items f separator item s ≡ given (v ∷ []) m r
last_given {V} f separator item s r v m e c =
    item_then f separator item s (record { value = v; marks = m; rest = r }) (no_more r) e (ends_more f separator item r c)
    ∙ ap (λ (k : Marks). let o : Option (Read (List V)) = given (v ∷ []) k r in o) (joined-fine m)

pub more_given : {V : Type 0} (f k : ℕ) (separator : List ℕ → Option (List ℕ)) (item : Reader V) (s t w r : List ℕ) (v : V) (vs : List V) (m n : Marks) → f ≡ suc k →
    item s ≡ given v m t → separator t ≡ Some w → items k separator item w ≡ given vs n r → items f separator item s ≡ given (v ∷ vs) (joined m n) r
more_given f k separator item s t w r v vs m n fuel e c rest =
    item_then f separator item s (record { value = v; marks = m; rest = t }) (record { value = vs; marks = n; rest = r }) e (behind_mark f k separator item t w fuel c ∙ rest)

-- ---- what may follow

abbrev pub closes : ℕ → Bool
closes b = b == 44 || (b == 93 || b == 41)

abbrev pub follows_all : ℕ → Bool
follows_all b = closes b || b == 124

abbrev pub follows_item : ℕ → Bool
follows_item b = follows_all b || b == 38

abbrev pub follows_term : ℕ → Bool
follows_term b = follows_item b || (b == 61 || (b == 33 || (b == 60 || b == 62)))

-- after blanks, such a byte
abbrev pub Next : (ℕ → Bool) → List ℕ → Type 0
Next test r = is_next test (skip_blanks r) ≡ true

or_left : (a b : Bool) → a ≡ true → (a || b) ≡ true
or_left true b e = refl
or_left false b e = cc

pub wider : (p q : ℕ → Bool) → ((b : ℕ) → p b ≡ true → q b ≡ true) → (s : List ℕ) → is_next p s ≡ true → is_next q s ≡ true
wider p q h [] e = e
wider p q h (x ∷ xs) e = h x e

pub to_all : (r : List ℕ) → Next closes r → Next follows_all r
to_all r = wider closes follows_all (λ b. or_left (closes b) (b == 124)) (skip_blanks r)

pub to_item : (r : List ℕ) → Next follows_all r → Next follows_item r
to_item r = wider follows_all follows_item (λ b. or_left (follows_all b) (b == 38)) (skip_blanks r)

pub to_term : (r : List ℕ) → Next follows_item r → Next follows_term r
to_term r = wider follows_item follows_term (λ b. or_left (follows_item b) (b == 61 || (b == 33 || (b == 60 || b == 62)))) (skip_blanks r)

-- blanks before a byte that is none
pub after_blanks : {s r : List ℕ} (b : ℕ) → IsBlank s (b ∷ r) → is_of class.Blank b ≡ false → skip_blanks s ≡ b ∷ r
after_blanks b k h = skipped k h

pub next_after : {s r : List ℕ} (test : ℕ → Bool) (b : ℕ) → IsBlank s (b ∷ r) → is_of class.Blank b ≡ false → test b ≡ true → Next test s
next_after test b k h e = ap (is_next test) (after_blanks b k h) ∙ e

pub no_pair : (b : ℕ) (test : ℕ → Bool) (r : List ℕ) → Next test r → test b ≡ false → after_pair b r ≡ None
no_pair b test r h k = ap (λ o. option_map skip_blanks (option_and_then (after_byte b) o)) (no_byte test b (skip_blanks r) h k)

pub pair_given : {s u w : List ℕ} (b : ℕ) → IsBlank s (b ∷ b ∷ u) → is_of class.Blank b ≡ false → ((x : List ℕ) → after_byte b (b ∷ x) ≡ Some x) → IsBlank u w → is_next (is_of class.Blank) w ≡ false → after_pair b s ≡ Some w
pair_given {s} {u} {w} b k h same l t =
    ap (λ x. option_map skip_blanks (option_and_then (after_byte b) (after_byte b x))) (after_blanks b k h)
    ∙ ap (λ o. option_map skip_blanks (option_and_then (after_byte b) o)) (same (b ∷ u))
    ∙ ap (option_map skip_blanks) (same u) ∙ ap (λ (x : List ℕ). Some x) (skipped l t)

pub comma_given : {s u w : List ℕ} → IsBlank s (44 ∷ u) → IsBlank u w → is_next (is_of class.Blank) w ≡ false → comma s ≡ Some w
unfolding comma
comma_given {s} {u} {w} k l t = ap (λ x. option_map skip_blanks (after_byte 44 x)) (after_blanks 44 k refl) ∙ ap (λ (x : List ℕ). Some x) (skipped l t)

pub no_comma : (b : ℕ) {s r : List ℕ} → IsBlank s (b ∷ r) → is_of class.Blank b ≡ false → (b == 44) ≡ false → comma s ≡ None
unfolding comma
no_comma b {s} {r} k h e = ap (λ x. option_map skip_blanks (after_byte 44 x)) (after_blanks b k h) ∙ ap (λ t. option_map skip_blanks (cond t (Some r) None)) e

pub no_operator : (r : List ℕ) → Next follows_item r → comparison_at (skip_blanks r) ≡ None
unfolding comparison_at
no_operator r h = go (skip_blanks r) h
  where
    go : (s : List ℕ) → is_next follows_item s ≡ true → comparison_at s ≡ None
    go [] h = refl
    go (x ∷ xs) h = rw (apart follows_item x 61 h refl) (rw (apart follows_item x 33 h refl) (rw (apart follows_item x 60 h refl) (rw (apart follows_item x 62 h refl) refl)))

-- no segment begins where a term ends
pub no_segment_start : (r : List ℕ) → Next follows_term r → segment_start r ≡ None
unfolding segment_start
no_segment_start r h = ap (λ (t : Bool). cond t (Some (skip_blanks r)) None) (go (skip_blanks r) h)
  where
    go : (s : List ℕ) → is_next follows_term s ≡ true → is_next begins_segment s ≡ false
    go [] h = refl
    go (x ∷ xs) h = rw (apart follows_term x 91 h refl) (rw (apart follows_term x 46 h refl) refl)

-- no parenthesis opens there
pub no_call : (r : List ℕ) → Next follows_term r → after_byte 40 r ≡ None
no_call [] h = refl
no_call (x ∷ xs) h =
    elim (cases_Bool (is_of class.Blank x)) [
      | inl b ↦ no_byte (is_of class.Blank) 40 (x ∷ xs) b refl
      | inr b ↦ no_byte follows_term 40 (x ∷ xs) (ap (is_next follows_term) (sym (stays (x ∷ xs) b)) ∙ h) refl
    ]
