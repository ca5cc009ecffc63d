-- What is answered of patterns, one answer more at a time.
use Rattle.std.proofs.Common.{◌≡◌, ℕ, ◌+◌, ◌<◌, List, [], ◌∷◌, length, get_or, take, Option, Some, None, Bool, true, false, not, cond, refl, sym, ap, subst, ◌∙◌, arith}
use denote.Ref.{Bor}
use Rattle.std.specs.List.{All}
use Rattle.std.specs.Option.{IsSome, is_some, is_none, unwrap_or}
use Rattle.std.specs.Str.{bytes_eq}
use Rattle.std.proofs.lemmas.List.{length-map, get_or-map}
use Rattle.std.proofs.lemmas.List.Elements.{All-nil, All-cons, All-more, All-weaker}
use Rattle.std.proofs.lemmas.Slice.Eq.{bytes_eq-Decides}
use Rattle.arz_json.specs.declared.tree.Json.{Json}
use Rattle.arz_rx.specs.Patterns.{Told, AnswersAs}
use Rattle.arz_cond.specs.Outcomes.{Patterned}
use Rattle.arz_criteria.specs.declared.readings.Readings.{Readings}
use Rattle.arz_criteria.specs.Rules.{SaysReading, TellsReadings, patterns_in}
use Rattle.arz_criteria.specs.Taken.{texts_of, answer_in, refuses, Fits, AllFit, Notes}

pub none_if_not_some : (o : Option Bool) (r : Bool) → is_some o ≡ not r → r ≡ is_none o
none_if_not_some None true h = refl
none_if_not_some None false h = h
none_if_not_some (Some b) true h = h
none_if_not_some (Some b) false h = refl

says_answer : (t : Told) (r : Option Bool) → AnswersAs t r → SaysReading t (is_none r)
says_answer None r h = tt
says_answer (Some None) r h = ap is_none h
says_answer (Some (Some b)) r h = ap is_none h

alone : (r : Readings) (p : List ℕ) → IsSome (answer_in r p) → All (λ q. IsSome (answer_in r q)) (p ∷ [])
alone r p h = All-cons (λ q. IsSome (answer_in r q)) p [] h (All-nil (λ q. IsSome (answer_in r q)))

module _ (told : Patterned) where
  -- of no pattern
  pub notes_nothing : (r : Readings) → Notes told [] r r
  notes_nothing r = record { fits = λ h. h; kept = λ q h. h; noted = All-nil (λ q. IsSome (answer_in r q)) }

  -- a pattern that was answered before
  pub notes_again : (r : Readings) (p : List ℕ) → IsSome (answer_in r p) → Notes told (p ∷ []) r r
  notes_again r p h = record { fits = λ h. h; kept = λ q h. h; noted = alone r p h }

  -- a pattern that is answered now
  module _ (old new : Readings) (p : List ℕ) (r : Option Bool) (said : AnswersAs (told p []) r)
      (now : (q : List ℕ) → answer_in new q ≡ cond (bytes_eq p q) (Some (is_none r)) (answer_in old q)) where
    fits_at : (q : List ℕ) (b : Bool) → bytes_eq p q ≡ b → Fits told q (answer_in old q) → Fits told q (cond b (Some (is_none r)) (answer_in old q))
    fits_at q true e h = subst (λ (x : List ℕ). SaysReading (told x []) (is_none r)) ((bytes_eq-Decides p q).0 e) (says_answer (told p []) r said)
    fits_at q false e h = h

    kept_at : (q : List ℕ) (b : Bool) → IsSome (answer_in old q) → IsSome (cond b (Some (is_none r)) (answer_in old q))
    kept_at q true h = refl
    kept_at q false h = h

    pub notes_one : Notes told (p ∷ []) old new
    notes_one = record {
      fits = λ h q. subst (Fits told q) (sym (now q)) (fits_at q (bytes_eq p q) refl (h q));
      kept = λ q h. subst (λ (o : Option Bool). IsSome o) (sym (now q)) (kept_at q (bytes_eq p q) h);
      noted = alone new p (subst (λ (o : Option Bool). IsSome o) (sym (now p ∙ ap (λ b. cond b (Some (is_none r)) (answer_in old p)) ((bytes_eq-Decides p p).1 refl))) refl);
    }

  -- one more
  pub notes_more : (ts : List (Bor (List ℕ))) (i : ℕ) (d : Bor (List ℕ)) (old mid new : Readings) → i < length ts
      → Notes told (take i (texts_of ts)) old mid → Notes told ((get_or ts i d).now ∷ []) mid new → Notes told (take (i + 1) (texts_of ts)) old new
  notes_more ts i d old mid new h a b =
      let ps = texts_of ts in
      let below : i < length ps = subst (λ n. i < n) (sym (length-map ts (λ (t : Bor (List ℕ)). t.now))) h in
      record {
        fits = λ k. b.fits (a.fits k);
        kept = λ q k. b.kept q (a.kept q k);
        noted = All-more (λ q. IsSome (answer_in new q)) ps i d.now below (All-weaker (λ q. IsSome (answer_in mid q)) (λ q. IsSome (answer_in new q)) (λ q k. b.kept q k) (take i ps) a.noted)
            (subst (λ q. IsSome (answer_in new q)) (sym (get_or-map (λ (t : Bor (List ℕ)). t.now) ts i d d.now h)) (b.noted 0 d.now (omega arith)));
      }

  at_answer : (q : List ℕ) (o : Option Bool) → IsSome o → Fits told q o → SaysReading (told q []) (unwrap_or o false)
  at_answer q None h k = absurd (cc)
  at_answer q (Some b) h k = k

  -- from none
  pub notes_tell : (ps : List (List ℕ)) (old new : Readings) → ((q : List ℕ) → answer_in old q ≡ None) → Notes told ps old new → All (λ p. SaysReading (told p []) (refuses new p)) ps
  notes_tell ps old new none n =
      let fits : AllFit told new = n.fits (λ q. subst (Fits told q) (sym (none q)) tt) in
      All-weaker (λ q. IsSome (answer_in new q)) (λ p. SaysReading (told p []) (refuses new p)) (λ q h. at_answer q (answer_in new q) h (fits q)) ps n.noted

-- told of a description's patterns
pub readings_tell : (told : Patterned) (root : Json) (ps : List (List ℕ)) (old new : Readings) → ((q : List ℕ) → answer_in old q ≡ None) → ps ≡ patterns_in root → Notes told ps old new → TellsReadings told root (refuses new)
readings_tell told root ps old new none is n = record { exact = subst (All (λ p. SaysReading (told p []) (refuses new p))) is (notes_tell told ps old new none n) }
