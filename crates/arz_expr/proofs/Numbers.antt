-- Indexes and their digits.
use Rattle.std.proofs.Common.{◌≡◌, ◌⊎◌, inl, inr, ℕ, ◌^◌, ◌<◌, ◌≤◌, true, nat_lt, List, [], ◌∷◌, length, get_or, Some, IfSome, Result, refl, ap, sym, ◌∙◌, arith, lit<, rules}
use Rattle.std.specs.List.{list_all}
use Rattle.std.specs.Char.{is_ascii_digit}
use Rattle.std.specs.Fmt.{decimal}
use Rattle.std.specs.Result.{result_ok}
use Rattle.std.proofs.lemmas.Option.{cond_some}
use Rattle.std.specs.Str.Parse.{digits_value, ParsesUnsigned}
use Rattle.std.proofs.lemmas.Str.Parse.{IsNumeralModel, numerals_by_value, digits_value_short, parse_gives}
use Rattle.std.proofs.lemmas.Fmt.{decimal_nonempty, length-decimal-le, digits_decimal, digits_value-decimal, first_decimal, decimal_digit, decimal-digits_value}
use Rattle.std.proofs.lemmas.Bool.{and_parts, and_from, or_cases, or_left, or_right, eqb-true, eqb-false, ne_eqb, eq-eqb, not-true, not_from_false, ltb-true, leb-true, lt-ltb, le-leb, cases_eq}
use Rattle.arz_expr.specs.Grammar.{is_name_byte, is_name}
use Rattle.arz_expr.specs.Reading.{is_index, index_in}
use Rattle.arz_expr.proofs.Options.{if_some}

abbrev pub AreDigits : List ℕ → Type 0
AreDigits ds = list_all is_ascii_digit ds ≡ true

pub own : IsNumeralModel AreDigits (digits_value 10)
own = numerals_by_value _ (search rules)

pub record IsIndex (ds : List ℕ) : Type 0 where
  pub filled : 0 < length ds
  pub short : length ds ≤ 18
  pub digits : AreDigits ds
  pub leading : get_or ds 0 0 ≡ 48 → length ds ≡ 1

pub index-parts : (ds : List ℕ) → is_index ds ≡ true → IsIndex ds
index-parts ds is =
    let a = and_parts _ _ is in
    let b = and_parts _ _ a.0 in
    let d = and_parts _ _ b.0 in
    record {
      filled = ltb-true _ _ d.0;
      short = leb-true _ _ d.1;
      digits = b.1;
      leading = elim (or_cases _ _ a.1) [ inl h ↦ λ e. eqb-true _ _ h | inr h ↦ λ e. absurd (eqb-false _ _ (not-true _ h) e) ];
    }

pub index-small : (ds : List ℕ) → IsIndex ds → digits_value 10 ds < 10 ^ 18
index-small ds is = digits_value_short own ds 18 is.digits is.short

pub index_in-parts : (ds : List ℕ) → IfSome (index_in ds) (λ i. (nat_lt i (10 ^ 18) ≡ true) × (ds ≡ decimal i))
unfolding index_in
index_in-parts ds =
    if_some (index_in ds) (λ i. (nat_lt i (10 ^ 18) ≡ true) × (ds ≡ decimal i)) (λ i e.
    let p = cond_some (is_index ds) (digits_value 10 ds) i e in
    let is = index-parts ds p.0 in
    let small = index-small ds is in
    (rw (← p.1) (lt-ltb _ _ small), sym (decimal-digits_value own ds is.digits is.filled is.leading (omega (arith, small))) ∙ ap decimal p.1))

-- what `parse` gives of an index's digits
pub parsed : {E : Type 0} (ds : List ℕ) (r : Result ℕ E) → ParsesUnsigned 64 10 ds r → is_index ds ≡ true → result_ok r ≡ index_in ds
unfolding index_in
parsed ds r h is =
    let parts = index-parts ds is in
    let small = index-small ds parts in
    rw is (ap result_ok (parse_gives own 64 ds r h parts.digits parts.filled (omega (arith, small))))

small64 : (i : ℕ) → i < 10 ^ 18 → i < 2 ^ 64
small64 i lt = omega arith

first : (i : ℕ) → i < 10 ^ 18 → (length (decimal i) ≡ 1) ⊎ (get_or (decimal i) 0 0 ≡ 48 → ⊥)
first i lt = elim (cases_eq i 0) [
  | inl e ↦ inl (rw e (ap length (decimal_digit 0 (lit< tt))))
  | inr ne ↦ inr (λ e. let more = first_decimal i (omega arith) (small64 i lt) in omega arith)
]

pub decimal-index : (i : ℕ) → i < 10 ^ 18 → is_index (decimal i) ≡ true
decimal-index i lt =
    let wide = small64 i lt in
    and_from _ _ (and_from _ _ (and_from _ _ (lt-ltb 0 _ (decimal_nonempty i wide)) (le-leb _ _ (length-decimal-le 18 i (lit< tt) lt wide)))
    (digits_decimal own i wide))
    (elim (first i lt) [ inl one ↦ or_left _ _ (eq-eqb (length (decimal i)) 1 one) | inr ne ↦ or_right _ _ (not_from_false _ (ne_eqb _ _ ne)) ])

pub index_in-decimal : (i : ℕ) → i < 10 ^ 18 → index_in (decimal i) ≡ Some i
unfolding index_in
index_in-decimal i lt = rw (decimal-index i lt) (ap Some (digits_value-decimal own i (small64 i lt)))

digits-names : (ds : List ℕ) → AreDigits ds → list_all is_name_byte ds ≡ true
digits-names [] h = refl
digits-names (d ∷ ds) h =
    let parts = and_parts _ _ h in
    and_from _ _ (or_left _ _ (or_left _ _ (or_left _ _ (or_left _ _ parts.0)))) (digits-names ds parts.1)

pub decimal-name : (i : ℕ) → i < 10 ^ 18 → is_name (decimal i) ≡ true
decimal-name i lt = and_from _ _ (lt-ltb 0 _ (decimal_nonempty i (small64 i lt))) (digits-names (decimal i) (digits_decimal own i (small64 i lt)))
