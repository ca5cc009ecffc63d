-- What the digits of an integer spell.
use Rattle.std.proofs.Common.{◌≡◌, ◌<◌, ◌^◌, ℕ, List, length, Bool, true, false, nat_lt, Some, None, Result, Ok, Err, refl, ap, rules}
use Rattle.std.proofs.lemmas.Bool.{and_parts, ltb-true, lt-ltb}
use Rattle.std.proofs.lemmas.Str.Parse.{IsNumeralModel, numerals_by_value, parse_digits}
use Rattle.std.specs.Str.Parse.{ParsesUnsigned, digits_value}
use Rattle.std.specs.Result.{OkIff, result_ok}
use Rattle.std.specs.List.{list_all}
use Rattle.std.specs.Char.{is_ascii_digit}
use Rattle.arz_cond.specs.Comparing.{is_numeral, below_64_bits, numeral_in}

own : IsNumeralModel (λ ds. list_all is_ascii_digit ds ≡ true) (digits_value 10)
own = numerals_by_value (λ ds. list_all is_ascii_digit ds ≡ true) (search rules)

past : (n : ℕ) (b : Bool) → nat_lt n (2 ^ 64) ≡ b → (n < 2 ^ 64 → ⊥) → None ≡ below_64_bits n
past n true e h = absurd (h (ltb-true n (2 ^ 64) e))
past n false e h = rw e refl

given : {E : Type 0} (n v : ℕ) (r : Result ℕ E) → 0 < n → OkIff r ((0 < n) × (v < 2 ^ 64)) v → result_ok r ≡ below_64_bits v
given n v (Ok x) some h = rw (lt-ltb v (2 ^ 64) h.0.1) (ap Some h.1)
given n v (Err e) some h = past v _ refl (λ few. h (some, few))

-- what `parse` gives of them
pub parsed : {E : Type 0} (ds : List ℕ) (r : Result ℕ E) → ParsesUnsigned 64 10 ds r → is_numeral ds ≡ true → result_ok r ≡ numeral_in ds
unfolding numeral_in
parsed ds r h is =
    let a = and_parts _ _ is in
    let b = and_parts _ _ a.0 in
    let some : 0 < length ds = ltb-true _ _ b.0 in
    let k : result_ok r ≡ below_64_bits (digits_value 10 ds) = given (length ds) (digits_value 10 ds) r some (parse_digits own 64 ds r h b.1) in
    rw is k
