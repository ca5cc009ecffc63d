use Rattle.std.proofs.Common.{◌≡◌, ℕ, zero, suc, ◌+◌, ◌-◌, ◌*◌, ◌<◌, List, [], ◌∷◌, length, take, get_or, refl, subst, arith}
use Rattle.std.proofs.lemmas.Grind.{common_steps}
use Rattle.std.proofs.lemmas.List.Folds.{list_all_more}
use Rattle.arz_relation.specs.Retries.{digits_after, is_digit}
use Rattle.arz_relation.proofs.delays.seconds_in.Goals as goal

-- one digit more
digits_next : (text : List ℕ) (i n d : ℕ) → i < length text → digits_after n (take (suc i) text) ≡ digits_after n (take i text) * 10 + (get_or text i d - 48)
digits_next [] i n d lt = absurd (omega (arith, lt))
digits_next (x ∷ xs) zero n d lt = refl
digits_next (x ∷ xs) (suc i) n d lt = digits_next xs i (n * 10 + (x - 48)) d (omega (arith, lt))

digits_more : (text : List ℕ) (i n d : ℕ) → i < length text → digits_after n (take (i + 1) text) ≡ digits_after n (take i text) * 10 + (get_or text i d - 48)
digits_more text i n d lt =
    let same : suc i ≡ i + 1 = omega arith in
    subst (λ j. digits_after n (take j text) ≡ digits_after n (take i text) * 10 + (get_or text i d - 48)) same (digits_next text i n d lt)

pub loop-digit-preserved : goal.loop-digit-preserved
loop-digit-preserved c =
    let text = c.args.text.now in
    let i = c.loop-digit.digit-index in (
      omega (arith, c.min-seconds.ensures, c.from.ensures, c.loop-digit.invariant.0, digits_more text i 0 0 c.loop-digit-test.true),
      grind (arith, common_steps, c.loop-digit.invariant.1, list_all_more is_digit text i 0 c.loop-digit-test.true),
    )
