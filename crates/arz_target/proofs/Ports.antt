-- What the digits of a port write.
use Rattle.std.proofs.Common.{◌≡◌, ◌<◌, ◌^◌, ℕ, List, [], ◌∷◌, length, Bool, true, false, Some, None, Result, Ok, Err, nat_le, refl, ◌∙◌, ap, arith, rules}
use Rattle.std.proofs.lemmas.Str.Parse.{IsNumeralModel, numerals_by_fold, parse_digits}
use Rattle.std.specs.Str.Parse.{ParsesUnsigned}
use Rattle.std.specs.Result.{OkIff, result_ok}
use Rattle.std.specs.List.{list_all}
use Rattle.std.specs.Char.{is_ascii_digit}
use Rattle.std.proofs.lemmas.Grind.{common_steps}
use Rattle.arz_target.specs.Urls.{number_after, is_port, port_in, port_of}

own : IsNumeralModel (λ ds. list_all is_ascii_digit ds ≡ true) (number_after 0)
own = numerals_by_fold (λ ds. list_all is_ascii_digit ds ≡ true) (search rules) number_after (search rules)

within : (n : ℕ) (b : Bool) → nat_le n 65535 ≡ b → n < 2 ^ 16 → Some n ≡ port_in n
within n true e h = rw e refl
within n false e h = grind (arith, common_steps)

past : (n : ℕ) (b : Bool) → nat_le n 65535 ≡ b → (n < 2 ^ 16 → ⊥) → None ≡ port_in n
past n true e h = absurd (h (grind (arith, common_steps)))
past n false e h = rw e refl

parsed : {E : Type 0} (bs : List ℕ) (r : Result ℕ E) → 0 < length bs → OkIff r ((0 < length bs) × (number_after 0 bs < 2 ^ 16)) (number_after 0 bs) → result_ok r ≡ port_in (number_after 0 bs)
parsed bs (Ok n) some h = ap (λ k. Some k) h.1 ∙ within (number_after 0 bs) _ refl h.0.1
parsed bs (Err e) some h = past (number_after 0 bs) _ refl (λ few. h (some, few))

digits_of : (bs : List ℕ) → is_port bs ≡ true → (0 < length bs) × (list_all is_ascii_digit bs ≡ true)
digits_of [] e = absurd (cc)
digits_of (b ∷ bs) e = (omega arith, grind (arith, common_steps))

pub port : {E : Type 0} (bs : List ℕ) (r : Result ℕ E) → is_port bs ≡ true → ParsesUnsigned 16 10 bs r → result_ok r ≡ port_of bs
port bs r e h =
    let d = digits_of bs e in
    let k : result_ok r ≡ port_in (number_after 0 bs) = parsed bs r d.0 (parse_digits own 16 bs r h d.1) in
    rw e k
