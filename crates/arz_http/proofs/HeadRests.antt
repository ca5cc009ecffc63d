-- What was followed of a head is the beginning of one, and no head has ended in it.
use Rattle.std.proofs.Common.{◌≡◌, ℕ, zero, suc, ◌+◌, ◌-◌, ◌<◌, ◌≤◌, true, false, cond, List, [], ◌∷◌, ◌++◌, length, drop, refl, sym, ap, ◌∙◌, subst, append_assoc, append-nil, drop-cons, inl, inr, Option, Some, None, arith, add-one}
use Rattle.std.proofs.lemmas.Bool.{eqb-true, eq-eqb, ltb-true, ltb-false, lt-ltb, le-ltb, leb-true, and_parts, cond-true, cond-false}
use Rattle.std.proofs.lemmas.List.{drop_all}
use Rattle.std.proofs.lemmas.List.Elements.{All-nil, All-cons, All-head, All-tail}
use Rattle.std.proofs.lemmas.Option.{option_and_then_some}
use Rattle.std.specs.Prelude.{nat_lt, nat_le, ◌==◌, slice_index}
use Rattle.std.specs.Option.{option_and_then}
use Rattle.std.specs.List.{All}
use Rattle.std.specs.Char.{is_ascii_digit}
use Rattle.std.specs.Int.{is_in_range}
use Rattle.httparse.specs.Grammar.{LineEnd, crlf, lf, print_end, print_blank, print_version, print_reason, reason_phrase, is_token_byte, is_value_byte, AllPass, IsToken, Field, IsField, print_section, ResponseHead, print_response, IsResponseHead, HasNoResponse, MayBecomeResponse}
use Rattle.arz_http.specs.declared.head_lines.HeadAt.{HeadAt}
use Rattle.arz_http.specs.declared.head_lines.HeadAt.TheVariants.{Start, StartReturn, Version, Minor, Code, Line, Name, Text, Return, EndReturn}
use Rattle.arz_http.specs.HeadSteps.{version_front, behind_text, head_next, followed}
use Rattle.arz_http.proofs.Steps.{chosen}

-- ---- bytes with which a head ends

pub data Ends : HeadAt → List ℕ → Type 0 where
  empty_line : Ends Line (10 ∷ [])
  empty_return : Ends EndReturn (10 ∷ [])
  more : {s u : HeadAt} {b : ℕ} {t : List ℕ} → head_next s b ≡ Some u → Ends u t → Ends s (b ∷ t)

return_is_no_token : is_token_byte 13 ≡ false
unfolding is_token_byte
return_is_no_token = refl

feed_is_no_token : is_token_byte 10 ≡ false
unfolding is_token_byte
feed_is_no_token = refl

colon_is_no_token : is_token_byte 58 ≡ false
unfolding is_token_byte
colon_is_no_token = refl

line_stops : head_next Line 10 ≡ None
line_stops = cond-false (is_token_byte 10) _ _ feed_is_no_token

none_some : {A : Type 0} (u : HeadAt) → ◌≡◌ {A = Option HeadAt} None (Some u) → A
none_some u e = absurd cc

some_same : (x u : HeadAt) → ◌≡◌ {A = Option HeadAt} (Some x) (Some u) → x ≡ u
some_same x u e = cc

-- a head that has ended isn't followed on
pub ends_stop : {s : HeadAt} {t : List ℕ} (rest : List ℕ) (u : HeadAt) → Ends s t → followed s (t ++ rest) ≡ Some u → ⊥
ends_stop rest u empty_line e = none_some u (sym (ap (option_and_then (λ (next : HeadAt). followed next rest)) line_stops) ∙ e)
ends_stop rest u empty_return e = none_some u e
ends_stop rest u (more {u = v} {t = t} step x) e = ends_stop rest u x (sym (ap (option_and_then (λ (next : HeadAt). followed next (t ++ rest))) step) ∙ e)

pub ends_from : (w : List ℕ) (s u : HeadAt) (t : List ℕ) → followed s w ≡ Some u → Ends u t → Ends s (w ++ t)
ends_from [] s u t e x = subst (λ (v : HeadAt). Ends v t) (sym (some_same s u e)) x
ends_from (b ∷ w) s u t e x = option_and_then_some (λ (next : HeadAt). followed next w) (head_next s b) u e (λ v step go. more step (ends_from w v u t go x))

pub followed_more : (a b : List ℕ) (s u : HeadAt) → followed s a ≡ Some u → followed s (a ++ b) ≡ followed u b
followed_more [] b s u e = ap (λ (v : HeadAt). followed v b) (some_same s u e)
followed_more (x ∷ a) b s u e =
    option_and_then_some (λ (next : HeadAt). followed next a) (head_next s x) u e
    (λ v step go. ap (option_and_then (λ (next : HeadAt). followed next (a ++ b))) step ∙ followed_more a b v u go)

-- ---- the parts of a head are followed to its end

text_ends : (vs t : List ℕ) (e : LineEnd) → AllPass is_value_byte vs → Ends Line t → Ends Text (vs ++ (print_end e ++ t))
text_ends [] t crlf all x = more refl (more refl x)
text_ends [] t lf all x = more refl x
text_ends (v ∷ vs) t e all x =
    more (cond-true (is_value_byte v) _ _ (All-head (λ b. is_value_byte b ≡ true) v vs all)) (text_ends vs t e (All-tail (λ b. is_value_byte b ≡ true) v vs all) x)

name_ends : (ns t : List ℕ) → AllPass is_token_byte ns → Ends Text t → Ends Name (ns ++ 58 ∷ t)
name_ends [] t all x = more (cond-false (is_token_byte 58) _ _ colon_is_no_token) x
name_ends (n ∷ ns) t all x =
    more (cond-true (is_token_byte n) _ _ (All-head (λ b. is_token_byte b ≡ true) n ns all)) (name_ends ns t (All-tail (λ b. is_token_byte b ≡ true) n ns all) x)

line_ends : (name raw t : List ℕ) (e : LineEnd) → IsToken name → AllPass is_value_byte raw → Ends Line t → Ends Line (name ++ 58 ∷ (raw ++ (print_end e ++ t)))
line_ends [] raw t e token all x = absurd (omega (arith, token.0))
line_ends (n ∷ ns) raw t e token all x =
    more (cond-true (is_token_byte n) _ _ (All-head (λ b. is_token_byte b ≡ true) n ns token.1))
    (name_ends ns (raw ++ (print_end e ++ t)) (All-tail (λ b. is_token_byte b ≡ true) n ns token.1) (text_ends raw t e all x))

section_ends : (fs : List Field) (last : LineEnd) → All IsField fs → Ends Line (print_section fs last)
section_ends [] crlf all = more (cond-false (is_token_byte 13) _ _ return_is_no_token) empty_return
section_ends [] lf all = empty_line
section_ends (f ∷ fs) last all =
    let is = All-head IsField f fs all in
    let spelled : f.name ++ 58 ∷ (f.raw ++ (print_end f.end ++ print_section fs last)) ≡ print_section (f ∷ fs) last = simp append_assoc in
    subst (Ends Line) spelled (line_ends f.name f.raw (print_section fs last) f.end is.name is.raw (section_ends fs last (All-tail IsField f fs all)))

code_over : (n b : ℕ) → 3 ≤ n → head_next (Code n) b ≡ cond (b == 32) (Some Text) (behind_text b)
code_over n b over = cond-false (nat_lt n 3) _ _ (le-ltb n 3 over)

reason_ends : (reason : Option (List ℕ)) (n : ℕ) (t : List ℕ) (e : LineEnd) → 3 ≤ n → AllPass is_value_byte (reason_phrase reason) → Ends Line t → Ends (Code n) (print_reason reason ++ (print_end e ++ t))
reason_ends None n t crlf over all x = more (code_over n 13 over) (more refl x)
reason_ends None n t lf over all x = more (code_over n 10 over) x
reason_ends (Some phrase) n t e over all x = more (code_over n 32 over) (text_ends phrase t e all x)

code_ends : (ds : List ℕ) (n : ℕ) (reason : Option (List ℕ)) (t : List ℕ) (e : LineEnd) → n + length ds ≡ 3 → AllPass is_ascii_digit ds → AllPass is_value_byte (reason_phrase reason) → Ends Line t
    → Ends (Code n) (ds ++ (print_reason reason ++ (print_end e ++ t)))
code_ends [] n reason t e count digits all x = reason_ends reason n t e (omega (arith, count)) all x
code_ends (d ∷ ds) n reason t e count digits all x =
    more (cond-true (nat_lt n 3) _ _ (lt-ltb n 3 (omega (arith, count))) ∙ cond-true (is_ascii_digit d) _ _ (All-head (λ b. is_ascii_digit b ≡ true) d ds digits))
    (code_ends ds (n + 1) reason t e (omega (arith, count)) (All-tail (λ b. is_ascii_digit b ≡ true) d ds digits) all x)

minor_byte : (minor : ℕ) → minor ≤ 1 → head_next (Version 7) (48 + minor) ≡ Some Minor
minor_byte zero small = refl
minor_byte (suc zero) small = refl
minor_byte (suc (suc n)) small = absurd (omega (arith, small))

version_ends : (minor : ℕ) (t : List ℕ) → minor ≤ 1 → Ends Minor t → Ends Start (print_version minor ++ t)
version_ends minor t small x = more refl (more refl (more refl (more refl (more refl (more refl (more refl (more (minor_byte minor small) x)))))))

blank_ends : (blank : List LineEnd) (t : List ℕ) → Ends Start t → Ends Start (print_blank blank ++ t)
blank_ends [] t x = x
blank_ends (crlf ∷ es) t x = more refl (more refl (blank_ends es t x))
blank_ends (lf ∷ es) t x = more refl (blank_ends es t x)

pub head_ends : (h : ResponseHead) → IsResponseHead h → Ends Start (print_response h)
unfolding print_response
head_ends h is =
    let spelled : print_blank h.blank ++ (print_version h.minor ++ 32 ∷ (h.digits ++ (print_reason h.reason ++ (print_end h.line_end ++ print_section h.fields h.last)))) ≡ print_response h = simp append_assoc in
    subst (Ends Start) spelled
    (blank_ends h.blank _ (version_ends h.minor _ is.minor (more refl (code_ends h.digits 0 h.reason (print_section h.fields h.last) h.line_end (omega (arith, is.digits.0)) is.digits.1 is.reason (section_ends h.fields h.last is.fields)))))

pub none_ended : (w : List ℕ) (u : HeadAt) → followed Start w ≡ Some u → HasNoResponse w
none_ended w u e h rest reads = ends_stop rest u (head_ends h reads.0) (ap (followed Start) (sym reads.1) ∙ e)

-- ---- what the bytes with which a head ends are

record SectionRest (t : List ℕ) : Type 0 where
  pub fields : List Field
  pub last : LineEnd
  pub each : All IsField fields
  pub spelled : t ≡ print_section fields last

record TextRest (t : List ℕ) : Type 0 where
  pub text : List ℕ
  pub end : LineEnd
  pub rest : List ℕ
  pub each : AllPass is_value_byte text
  pub section : SectionRest rest
  pub spelled : t ≡ text ++ (print_end end ++ rest)

record ReturnRest (t : List ℕ) : Type 0 where
  pub rest : List ℕ
  pub section : SectionRest rest
  pub spelled : t ≡ 10 ∷ rest

record NameRest (t : List ℕ) : Type 0 where
  pub name : List ℕ
  pub value : List ℕ
  pub each : AllPass is_token_byte name
  pub text : TextRest value
  pub spelled : t ≡ name ++ 58 ∷ value

record CodeRest (n : ℕ) (t : List ℕ) : Type 0 where
  pub digits : List ℕ
  pub reason : Option (List ℕ)
  pub end : LineEnd
  pub rest : List ℕ
  pub count : length digits ≡ 3 - n
  pub each : AllPass is_ascii_digit digits
  pub phrase : AllPass is_value_byte (reason_phrase reason)
  pub section : SectionRest rest
  pub spelled : t ≡ digits ++ (print_reason reason ++ (print_end end ++ rest))

record MinorRest (t : List ℕ) : Type 0 where
  pub code : List ℕ
  pub is : CodeRest 0 code
  pub spelled : t ≡ 32 ∷ code

record VersionRest (n : ℕ) (t : List ℕ) : Type 0 where
  pub minor : ℕ
  pub rest : List ℕ
  pub small : minor ≤ 1
  pub is : MinorRest rest
  pub spelled : t ≡ drop n version_front ++ (48 + minor) ∷ rest

record StartRest (t : List ℕ) : Type 0 where
  pub blank : List LineEnd
  pub line : List ℕ
  pub is : VersionRest 0 line
  pub spelled : t ≡ print_blank blank ++ line

record StartReturnRest (t : List ℕ) : Type 0 where
  pub rest : List ℕ
  pub start : StartRest rest
  pub spelled : t ≡ 10 ∷ rest

abbrev HeadRest : HeadAt → List ℕ → Type 0
HeadRest Start t = StartRest t
HeadRest StartReturn t = StartReturnRest t
HeadRest (Version n) t = VersionRest n t
HeadRest Minor t = MinorRest t
HeadRest (Code n) t = CodeRest n t
HeadRest Line t = SectionRest t
HeadRest Name t = NameRest t
HeadRest Text t = TextRest t
HeadRest Return t = ReturnRest t
HeadRest EndReturn t = t ≡ 10 ∷ []

-- the state that a test gave
at_state : (t : List ℕ) (x u : HeadAt) → ◌≡◌ {A = Option HeadAt} (Some x) (Some u) → HeadRest u t → HeadRest x t
at_state t x u e r = subst (λ (v : HeadAt). HeadRest v t) (sym (some_same x u e)) r

-- the end of a line's text
record LineRest (t : List ℕ) : Type 0 where
  pub end : LineEnd
  pub rest : List ℕ
  pub section : SectionRest rest
  pub spelled : t ≡ print_end end ++ rest

text_end : (b : ℕ) (u : HeadAt) (t : List ℕ) → behind_text b ≡ Some u → HeadRest u t → LineRest (b ∷ t)
text_end b u t e r =
    elim (chosen (b == 13) _ _ _ e) [
      | inl p ↦
          let h = at_state t Return u p.1 r in
          record { end = crlf; rest = h.rest; section = h.section; spelled = (λ i. eqb-true b 13 p.0 i ∷ h.spelled i) }
      | inr p ↦ elim (chosen (b == 10) _ _ _ p.1) [
        | inl q ↦
            let h = at_state t Line u q.1 r in
            record { end = lf; rest = t; section = h; spelled = ap (λ (n : ℕ). n ∷ t) (eqb-true b 10 q.0) }
        | inr q ↦ none_some u q.1
      ]
    ]

rest_step : (s : HeadAt) (b : ℕ) (u : HeadAt) (t : List ℕ) → head_next s b ≡ Some u → HeadRest u t → HeadRest s (b ∷ t)
rest_step Start b u t e r =
    elim (chosen (b == 10) _ _ _ e) [
      | inl p ↦
          let h = at_state t Start u p.1 r in
          record { blank = lf ∷ h.blank; line = h.line; is = h.is; spelled = (λ i. eqb-true b 10 p.0 i ∷ h.spelled i) }
      | inr p ↦ elim (chosen (b == 13) _ _ _ p.1) [
        | inl q ↦
            let h = at_state t StartReturn u q.1 r in
            record { blank = crlf ∷ h.start.blank; line = h.start.line; is = h.start.is; spelled = (λ i. eqb-true b 13 q.0 i ∷ (h.spelled ∙ ap (λ (l : List ℕ). 10 ∷ l) h.start.spelled) i) }
        | inr q ↦ elim (chosen (b == 72) _ _ _ q.1) [
          | inl v ↦
              let h = at_state t (Version 1) u v.1 r in
              record { blank = []; line = b ∷ t; is = record { minor = h.minor; rest = h.rest; small = h.small; is = h.is; spelled = (λ i. eqb-true b 72 v.0 i ∷ h.spelled i) }; spelled = refl }
          | inr v ↦ none_some u v.1
        ]
      ]
    ]
rest_step StartReturn b u t e r =
    elim (chosen (b == 10) _ _ _ e) [
      | inl p ↦ let h = at_state t Start u p.1 r in record { rest = t; start = h; spelled = ap (λ (n : ℕ). n ∷ t) (eqb-true b 10 p.0) }
      | inr p ↦ none_some u p.1
    ]
rest_step (Version n) b u t e r =
    elim (chosen (nat_lt n 7) _ _ _ e) [
      | inl p ↦ elim (chosen (b == slice_index version_front n) _ _ _ p.1) [
        | inl q ↦
            let h = at_state t (Version (n + 1)) u q.1 r in
            let inside : n < length version_front = ltb-true n 7 p.0 in
            let front : drop n version_front ≡ slice_index version_front n ∷ drop (n + 1) version_front = drop-cons version_front n 0 inside ∙ ap (λ (k : ℕ). slice_index version_front n ∷ drop k version_front) (sym (add-one n)) in
            record {
              minor = h.minor;
              rest = h.rest;
              small = h.small;
              is = h.is;
              spelled = (λ i. eqb-true b (slice_index version_front n) q.0 i ∷ h.spelled i) ∙ ap (λ (l : List ℕ). l ++ (48 + h.minor) ∷ h.rest) (sym front);
            }
        | inr q ↦ none_some u q.1
      ]
      | inr p ↦ elim (chosen (is_in_range 48 49 b) _ _ _ p.1) [
        | inl q ↦
            let h = at_state t Minor u q.1 r in
            let range = and_parts (nat_le 48 b) (nat_le b 49) q.0 in
            let low : 48 ≤ b = leb-true 48 b range.0 in
            let high : b ≤ 49 = leb-true b 49 range.1 in
            let gone : drop n version_front ≡ [] = drop_all n version_front (ltb-false n 7 p.0) in
            let same : b ≡ 48 + (b - 48) = omega arith in
            record { minor = b - 48; rest = t; small = omega arith; is = h; spelled = (λ i. same i ∷ t) ∙ ap (λ (l : List ℕ). l ++ (48 + (b - 48)) ∷ t) (sym gone) }
        | inr q ↦ none_some u q.1
      ]
    ]
rest_step Minor b u t e r =
    elim (chosen (b == 32) _ _ _ e) [
      | inl p ↦ let h = at_state t (Code 0) u p.1 r in record { code = t; is = h; spelled = ap (λ (n : ℕ). n ∷ t) (eqb-true b 32 p.0) }
      | inr p ↦ none_some u p.1
    ]
rest_step (Code n) b u t e r =
    elim (chosen (nat_lt n 3) _ _ _ e) [
      | inl p ↦ elim (chosen (is_ascii_digit b) _ _ _ p.1) [
        | inl q ↦
            let h = at_state t (Code (n + 1)) u q.1 r in
            record {
              digits = b ∷ h.digits;
              reason = h.reason;
              end = h.end;
              rest = h.rest;
              count = omega (arith, h.count, ltb-true n 3 p.0);
              each = All-cons (λ d. is_ascii_digit d ≡ true) b h.digits q.0 h.each;
              phrase = h.phrase;
              section = h.section;
              spelled = ap (λ (l : List ℕ). b ∷ l) h.spelled;
            }
        | inr q ↦ none_some u q.1
      ]
      | inr p ↦ elim (chosen (b == 32) _ _ _ p.1) [
        | inl q ↦
            let h = at_state t Text u q.1 r in
            record {
              digits = [];
              reason = Some h.text;
              end = h.end;
              rest = h.rest;
              count = omega (arith, ltb-false n 3 p.0);
              each = All-nil (λ d. is_ascii_digit d ≡ true);
              phrase = h.each;
              section = h.section;
              spelled = (λ i. eqb-true b 32 q.0 i ∷ h.spelled i);
            }
        | inr q ↦
            let h = text_end b u t q.1 r in
            record {
              digits = [];
              reason = None;
              end = h.end;
              rest = h.rest;
              count = omega (arith, ltb-false n 3 p.0);
              each = All-nil (λ d. is_ascii_digit d ≡ true);
              phrase = All-nil (λ d. is_value_byte d ≡ true);
              section = h.section;
              spelled = h.spelled;
            }
      ]
    ]
rest_step Line b u t e r =
    elim (chosen (is_token_byte b) _ _ _ e) [
      | inl p ↦
          let h = at_state t Name u p.1 r in
          let f : Field = record { name = b ∷ h.name; raw = h.text.text; end = h.text.end } in
          let is : IsField (record { name = b ∷ h.name; raw = h.text.text; end = h.text.end }) = record { name = (omega arith, All-cons (λ d. is_token_byte d ≡ true) b h.name p.0 h.each); raw = h.text.each } in
          record {
            fields = record { name = b ∷ h.name; raw = h.text.text; end = h.text.end } ∷ h.text.section.fields;
            last = h.text.section.last;
            each = All-cons IsField (record { name = b ∷ h.name; raw = h.text.text; end = h.text.end }) h.text.section.fields is h.text.section.each;
            spelled = ap (λ (l : List ℕ). b ∷ l) (h.spelled ∙ ap (λ (l : List ℕ). h.name ++ 58 ∷ l) (h.text.spelled ∙ ap (λ (l : List ℕ). h.text.text ++ (print_end h.text.end ++ l)) h.text.section.spelled)) ∙ simp append_assoc;
          }
      | inr p ↦ elim (chosen (b == 13) _ _ _ p.1) [
        | inl q ↦
            let h = at_state t EndReturn u q.1 r in
            record { fields = []; last = crlf; each = All-nil IsField; spelled = (λ i. eqb-true b 13 q.0 i ∷ h i) }
        | inr q ↦ none_some u q.1
      ]
    ]
rest_step Name b u t e r =
    elim (chosen (is_token_byte b) _ _ _ e) [
      | inl p ↦
          let h = at_state t Name u p.1 r in
          record { name = b ∷ h.name; value = h.value; each = All-cons (λ d. is_token_byte d ≡ true) b h.name p.0 h.each; text = h.text; spelled = ap (λ (l : List ℕ). b ∷ l) h.spelled }
      | inr p ↦ elim (chosen (b == 58) _ _ _ p.1) [
        | inl q ↦
            let h = at_state t Text u q.1 r in
            record { name = []; value = t; each = All-nil (λ d. is_token_byte d ≡ true); text = h; spelled = ap (λ (n : ℕ). n ∷ t) (eqb-true b 58 q.0) }
        | inr q ↦ none_some u q.1
      ]
    ]
rest_step Text b u t e r =
    elim (chosen (is_value_byte b) _ _ _ e) [
      | inl p ↦
          let h = at_state t Text u p.1 r in
          record { text = b ∷ h.text; end = h.end; rest = h.rest; each = All-cons (λ d. is_value_byte d ≡ true) b h.text p.0 h.each; section = h.section; spelled = ap (λ (l : List ℕ). b ∷ l) h.spelled }
      | inr p ↦
          let h = text_end b u t p.1 r in
          record { text = []; end = h.end; rest = h.rest; each = All-nil (λ d. is_value_byte d ≡ true); section = h.section; spelled = h.spelled }
    ]
rest_step Return b u t e r =
    elim (chosen (b == 10) _ _ _ e) [
      | inl p ↦ let h = at_state t Line u p.1 r in record { rest = t; section = h; spelled = ap (λ (n : ℕ). n ∷ t) (eqb-true b 10 p.0) }
      | inr p ↦ none_some u p.1
    ]
rest_step EndReturn b u t e r = none_some u e

ends_rest : {s : HeadAt} {t : List ℕ} → Ends s t → HeadRest s t
ends_rest empty_line = record { fields = []; last = lf; each = All-nil IsField; spelled = refl }
ends_rest empty_return = refl
ends_rest {s} (more {u = u} {b = b} {t = t} step x) = rest_step s b u t step (ends_rest x)

head_is : (t : List ℕ) → StartRest t → (h : ResponseHead) × IsResponseHead h × (t ≡ print_response h)
unfolding print_response
head_is t r =
    let code = r.is.is.is in
    let h : ResponseHead = record { blank = r.blank; minor = r.is.minor; digits = code.digits; reason = code.reason; line_end = code.end; fields = code.section.fields; last = code.section.last } in (
      record { blank = r.blank; minor = r.is.minor; digits = r.is.is.is.digits; reason = r.is.is.is.reason; line_end = r.is.is.is.end; fields = r.is.is.is.section.fields; last = r.is.is.is.section.last },
      record { minor = r.is.small; digits = (r.is.is.is.count, r.is.is.is.each); reason = r.is.is.is.phrase; fields = r.is.is.is.section.each },
      r.spelled
          ∙ ap (λ (l : List ℕ). print_blank r.blank ++ l) (r.is.spelled ∙ ap (λ (l : List ℕ). version_front ++ (48 + r.is.minor) ∷ l) (r.is.is.spelled ∙ ap (λ (l : List ℕ). 32 ∷ l)
          (r.is.is.is.spelled ∙ ap (λ (l : List ℕ). r.is.is.is.digits ++ (print_reason r.is.is.is.reason ++ (print_end r.is.is.is.end ++ l))) r.is.is.is.section.spelled)))
          ∙ simp append_assoc,
    )

-- ---- bytes that end a head from any state

no_fields : Ends Line (10 ∷ [])
no_fields = empty_line

digits_done : (k n : ℕ) → k ≡ 3 - n → (t : List ℕ) × Ends (Code n) t
digits_done zero n e = (10 ∷ 10 ∷ [], reason_ends None n (10 ∷ []) lf (omega (arith, e)) (All-nil (λ d. is_value_byte d ≡ true)) empty_line)
digits_done (suc k) n e =
    let r = digits_done k (n + 1) (omega (arith, e)) in
    (48 ∷ r.0, more (cond-true (nat_lt n 3) _ _ (lt-ltb n 3 (omega (arith, e)))) r.1)

minor_done : (t : List ℕ) × Ends Minor t
minor_done = let r = digits_done 3 0 refl in (32 ∷ r.0, more refl r.1)

version_done : (k n : ℕ) → k ≡ 7 - n → (t : List ℕ) × Ends (Version n) t
version_done zero n e = (49 ∷ minor_done.0, more (cond-false (nat_lt n 7) _ _ (le-ltb n 7 (omega (arith, e)))) minor_done.1)
version_done (suc k) n e =
    let r = version_done k (n + 1) (omega (arith, e)) in
    (slice_index version_front n ∷ r.0, more (cond-true (nat_lt n 7) _ _ (lt-ltb n 7 (omega (arith, e))) ∙ cond-true (slice_index version_front n == slice_index version_front n) _ _ (eq-eqb _ _ refl)) r.1)

start_done : (t : List ℕ) × Ends Start t
start_done = let r = version_done 6 1 refl in (72 ∷ r.0, more refl r.1)

done : (s : HeadAt) → (t : List ℕ) × Ends s t
done Start = start_done
done StartReturn = (10 ∷ start_done.0, more refl start_done.1)
done (Version n) = version_done (7 - n) n refl
done Minor = minor_done
done (Code n) = digits_done (3 - n) n refl
done Line = (10 ∷ [], empty_line)
done Name = (58 ∷ 10 ∷ 10 ∷ [], more (cond-false (is_token_byte 58) _ _ colon_is_no_token) (more refl empty_line))
done Text = (10 ∷ 10 ∷ [], more refl empty_line)
done Return = (10 ∷ 10 ∷ [], more refl empty_line)
done EndReturn = (10 ∷ [], empty_return)

pub may_end : (w : List ℕ) (u : HeadAt) → followed Start w ≡ Some u → MayBecomeResponse w
may_end w u e =
    let x = ends_from w Start u (done u).0 e (done u).1 in
    let h = head_is (w ++ (done u).0) (ends_rest x) in
    ((done u).0, h.0, (h.1, h.2 ∙ sym (append-nil (print_response h.0))))
