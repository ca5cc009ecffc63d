-- An index of a list has one spelling.
use Rattle.std.proofs.Common.{◌≡◌, ◌+◌, ◌-◌, ◌^◌, ◌<◌, ◌==◌, inl, inr, ℕ, Bool, true, false, cond, List, [], ◌++◌, length, get_or, drop, slice_range, Some, refl, sym, ap, ap₂, ◌∙◌, subst, arith, append-nil, length-take, length-drop}
use Rattle.std.specs.Char.{is_ascii_digit}
use Rattle.std.specs.Fmt.{decimal}
use Rattle.std.specs.Str.Parse.{AllDigits, digits_value}
use Rattle.std.specs.Float.Numeral.{digits_end, exponent_start, has_exponent}
use Rattle.std.proofs.lemmas.Bool.{and_parts, or_cases, eqb-true, eqb-false, not-true, ltb-true}
use Rattle.std.proofs.lemmas.Option.{cond_some}
use Rattle.std.proofs.lemmas.List.{get_or_past, take_all}
use Rattle.std.proofs.lemmas.Str.Parse.{IsNumeralModel}
use Rattle.std.proofs.lemmas.Fmt.{decimal-digits_value}
use Rattle.fast_float.specs.Text.{scan}
use Rattle.fast_float.proofs.Reading.{scan_numeral-AllDigits}
use Rattle.serde_json.specs.Find.{index_of}

own : IsNumeralModel (AllDigits 10) (digits_value 10)
own = record { to = λ ds d. d; from = λ ds d. d; same = λ ds d. refl }

-- an exponent has a digit at its start, so one of no length isn't there
no_exponent : (s : List ℕ) (b c : ℕ) (has : Bool) → (has ≡ true → is_ascii_digit (get_or s c 0) ≡ true) → length (cond has (slice_range s c (digits_end s c)) []) ≡ 0
    → cond has (digits_end s c) b ≡ length s → b ≡ length s
no_exponent s b c false digit none whole = whole
no_exponent s b c true digit none whole =
    let past : length s ≡ c = omega (arith, none, whole, length-take (digits_end s c - c) (drop c s), length-drop c s) in
    let zero : get_or s c 0 ≡ 0 = get_or_past s c 0 (omega (arith, past)) in
    absurd (let bad : is_ascii_digit 0 ≡ true = ap is_ascii_digit (sym zero) ∙ digit refl in cc)

whole_at : (s : List ℕ) (a : ℕ) (point : Bool) → point ≡ false → let b = cond point (digits_end s (a + 1)) a in let c = exponent_start s b in
    length (cond (has_exponent s b) (slice_range s c (digits_end s c)) []) ≡ 0 → cond (has_exponent s b) (digits_end s c) b ≡ length s
    → (slice_range s 0 a ≡ s) × (cond point (slice_range s (a + 1) b) [] ≡ [])
whole_at s a true is none whole = absurd (cc)
whole_at s a false is none whole =
    let end : a ≡ length s = no_exponent s a (exponent_start s a) (has_exponent s a) (λ h. (and_parts _ _ h).1) none whole in
    (take_all (a - 0) (drop 0 s) (omega (arith, end)), refl)

scan_whole : (s : List ℕ) → (scan s).point ≡ false → length (scan s).exponent ≡ 0 → (scan s).len ≡ length s → ((scan s).whole ≡ s) × ((scan s).fraction ≡ [])
unfolding scan
scan_whole s point none whole = whole_at s (digits_end s 0) (get_or s (digits_end s 0) 0 == 46) point none whole

-- the decimal digits of the number
pub index_spelt : (s : List ℕ) (i : ℕ) → index_of s ≡ Some i → s ≡ decimal i
unfolding index_of
index_spelt s i e =
    let p = cond_some _ _ i e in
    let a = and_parts _ _ p.0 in
    let b = and_parts _ _ a.0 in
    let d = and_parts _ _ b.0 in
    let f = and_parts _ _ d.0 in
    let g = and_parts _ _ f.0 in
    let is = scan_whole s (not-true _ g.1) (eqb-true _ _ f.1) (eqb-true _ _ d.1) in
    let digits : AllDigits 10 s = subst (AllDigits 10) is.0 (scan_numeral-AllDigits s).0 in
    let value : digits_value 10 s ≡ i = ap (digits_value 10) (sym (ap₂ (λ x y. x ++ y) is.0 is.1 ∙ append-nil s)) ∙ p.1 in
    let filled : 0 < length s = subst (λ l. 0 < length l) is.0 (ltb-true _ _ g.0) in
    let small : digits_value 10 s < 2 ^ 64 = omega (arith, value, p.1, ltb-true _ _ b.1) in
    sym (decimal-digits_value own s digits filled (elim (or_cases _ _ a.1) [ inl h ↦ λ z. eqb-true _ _ h | inr h ↦ λ z. absurd (eqb-false _ _ (not-true _ h) z) ]) small) ∙ ap decimal value
