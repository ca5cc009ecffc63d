-- Patterns that tell all are steady, and so are those that are asked nothing.
use Rattle.std.proofs.Common.{◌≡◌, inl, inr, ℕ, List, [], ◌∷◌, All, sym, subst, refl, arith}
use Rattle.std.specs.Option.{IsSome}
use Rattle.arz_json.specs.declared.Json.{Json}
use Rattle.arz_criteria.specs.Rules.{patterns_in, AreReadingsTold}
use Rattle.arz_rx.specs.Patterns.{PatternsView}
use Rattle.arz_world.specs.Outside.{FilesView}
use Rattle.arz_top.specs.declared.words.Command.{Command}
use Rattle.arz_top.specs.Steady.{IsSetup, IsDescription, HasPattern}
use Rattle.arz_bundle.proofs.OverlaysTold.{overlaid-told}
use Rattle.arz_top.proofs.AllTold.{all_told}
use Rattle.arz_session.specs.Mock.{answers}
use Rattle.arz_top.specs.Laws.{TellingAll, AskingNothing}

pub telling_all : TellingAll
telling_all before now old new command tells sized = record {
  overlays = λ has path label root tree d file is. overlaid-told old.told tells d tree;
  readings = λ setup description is made k p lt. tells _ [];
  run = λ bundle replies is asks. all_told old.told tells bundle (answers replies);
  sized = λ asks. sized;
}

none_read : (before now : FilesView) (old new : PatternsView) (command : Command) → (HasPattern before now old new command → ⊥) → (setup description : Json) → IsSetup before command setup
    → IsDescription before now old new setup description → (ps : List (List ℕ)) → patterns_in description ≡ ps → AreReadingsTold old.told description
none_read before now old new command none setup description is made [] e =
    subst (All (λ p. IsSome (old.told p []))) (sym e) (λ k p lt. absurd (omega (arith, lt)))
none_read before now old new command none setup description is made (p ∷ ps) e = absurd (none (setup, description, is, made, λ f. cc (e, f)))

pub asking_nothing : AskingNothing
asking_nothing before now old new command no-overlay no-pattern no-judgement = record {
  overlays = λ has. absurd (no-overlay has);
  readings = λ setup description is made. none_read before now old new command no-pattern setup description is made (patterns_in description) refl;
  run = λ bundle replies is asks. absurd (no-judgement (bundle, replies, is, asks));
  sized = λ asks rose. elim asks [ inl o ↦ no-overlay o | inr (inl p) ↦ no-pattern p | inr (inr j) ↦ no-judgement j ];
}
