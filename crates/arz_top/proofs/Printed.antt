-- What the sink holds after the line `memory` was tried.
use Rattle.std.proofs.Common.{◌≡◌, inl, inr, ◌++◌, ℕ, List, [], codes, refl, ap, append_assoc, ◌∙◌}
use Rattle.std.specs.declared.option.Option.{Option}
use Rattle.std.specs.declared.option.Option.TheVariants.{None, Some}
use Rattle.arz_world.specs.Outside.{Gains, IsPrefix, SinkView}
use Rattle.arz_top.specs.declared.ending.Ending.{Ending}
use Rattle.arz_top.specs.Report.{line, report}
use Rattle.arz_top.specs.Ends.{Ends, PartThenMemory}

-- what is gained is also of a wider kind
pub Gains-wider : (P Q : List ℕ → Type 0) (before now : Option (List ℕ)) → ((added : List ℕ) → P added → Q added) → Gains before now P → Gains before now Q
Gains-wider P Q None None wider gains = gains
Gains-wider P Q None (Some new) wider gains = gains
Gains-wider P Q (Some old) None wider gains = gains
Gains-wider P Q (Some old) (Some new) wider gains = (gains.0, gains.1, wider gains.0 gains.2)

-- what is gained first and then makes one gain
pub Gains-then : (P Q R : List ℕ → Type 0) (before mid now : Option (List ℕ)) → ((a b : List ℕ) → P a → Q b → R (a ++ b)) → Gains before mid P → Gains mid now Q → Gains before now R
Gains-then P Q R None None None both first second = second
Gains-then P Q R None None (Some new) both first second = second
Gains-then P Q R None (Some mid) now both first second = absurd first
Gains-then P Q R (Some old) None now both first second = absurd first
Gains-then P Q R (Some old) (Some mid) None both first second = second
Gains-then P Q R (Some old) (Some mid) (Some new) both first second =
    (first.0 ++ second.0, second.1 ∙ (ap (λ l. l ++ second.0) first.1 ∙ append_assoc old first.0 second.0), both first.0 second.0 first.2 second.2)

module _ (Came : Ending → Type 0) (before now : SinkView) (answer : ℕ) where
  -- memory ran out before the report
  pub ran_out : answer ≡ 11 → Gains before.held now.held (λ added. IsPrefix added (line (codes "memory"))) → Ends Came before now answer
  ran_out is put = inr (inr (record {
    answered = is;
    put = Gains-wider _ (PartThenMemory Came before now answer) before.held now.held (λ added prefix. ([], added, refl, prefix, inl refl)) put;
  }))

  -- memory ran out while the report was put
  pub ran_out_after : (o : Ending) (mid : SinkView) → Came o → answer ≡ 11 → Gains before.held mid.held (λ added. IsPrefix added (report o)) → Gains mid.held now.held (λ added. IsPrefix added (line (codes "memory"))) → Ends Came before now answer
  ran_out_after o mid came is first second = inr (inr (record {
    answered = is;
    put = Gains-then _ _ (PartThenMemory Came before now answer) before.held mid.held now.held (λ a b p q. (a, b, refl, q, inr (o, came, p))) first second;
  }))
