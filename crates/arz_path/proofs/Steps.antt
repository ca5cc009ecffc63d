-- One more round of each loop of the evaluation.
use Rattle.std.proofs.Common.{◌≡◌, ◌≤◌, List, [], ◌∷◌, ◌++◌, map, length, Bool, true, false, sym, subst}
use Rattle.std.proofs.lemmas.List.{length-map}
use Rattle.arz_json.specs.declared.tree.Json.{Json}
use Rattle.arz_query.specs.declared.query.Segment.{Segment}
use Rattle.arz_query.specs.declared.query.Selector.{Selector}
use Rattle.arz_query.specs.declared.query.Test.{Test}
use Rattle.arz_json.specs.declared.place.Token.{Token}
use Rattle.arz_path.specs.declared.nodes.Held.{Held}
use Rattle.arz_path.specs.Outcome.{Outcome, given, wide, outcome_map, each, Covers}
use Rattle.arz_path.specs.Selected.{Setting, widest, kept, test_meaning}
use Rattle.arz_path.specs.Spots.{Spot, spots_below, joined, narrow, grown, sifted, picked_at, chosen_at, chosen_each, reached, spots_after, spots_after_all}
use Rattle.arz_path.specs.Seen.{seen, tested_all}
use Rattle.arz_path.proofs.Outcomes.{covers_trans, through, stops, through_map, stops_map, joined_step, joined_stop, joined_none}
use Rattle.arz_path.proofs.Growth.{narrow_none, grown_step, grown_wide, grown_fault, all_step, all_wide, grown_end}

module _ (s s' : Setting) (e : s' ≡ s) where
  -- ---- children that pass a test
  module _ (t : Test) (n : Spot) (w : Outcome (List Spot)) (old : List Spot) (c : Token × Json) (rest rest' : List (Token × Json)) (cut : rest ≡ c ∷ rest')
      (h : Covers w (grown old (sifted s t n rest))) where
    abbrev sifts : Token × Json → Outcome (List Spot)
    sifts c = outcome_map (λ b. spots_below n (kept c b)) (test_meaning t s c.1)

    left : Covers w (grown old (each sifts (c ∷ rest')))
    unfolding sifted
    left = subst (λ r. Covers w (grown old (each sifts r))) cut h

    sifted_bit : (b : Bool) → Covers (test_meaning t s' c.1) (given b) → Covers (sifts c) (given (spots_below n (kept c b)))
    sifted_bit b k = through_map (λ b. spots_below n (kept c b)) (test_meaning t s c.1) b (subst (λ z. Covers (test_meaning t z c.1) (given b)) e k)

    pub sifted_skip : length old ≤ widest → Covers (test_meaning t s' c.1) (given false) → Covers w (grown old (sifted s t n rest'))
    unfolding sifted
    sifted_skip room k = grown_step w sifts old [] old c rest' left (sifted_bit false k) (narrow_none old room)

    pub sifted_take : (mid : List Spot) → Covers (test_meaning t s' c.1) (given true) → narrow (old ++ spots_below n (c ∷ [])) ≡ given mid → Covers w (grown mid (sifted s t n rest'))
    unfolding sifted
    sifted_take mid k l = grown_step w sifts old (spots_below n (c ∷ [])) mid c rest' left (sifted_bit true k) l

    pub sifted_wide : Covers (test_meaning t s' c.1) (given true) → narrow (old ++ spots_below n (c ∷ [])) ≡ wide → Covers w wide
    sifted_wide k l = grown_wide w sifts old (spots_below n (c ∷ [])) c rest' left (sifted_bit true k) l

    pub sifted_fault : Covers (test_meaning t s' c.1) wide → Covers w wide
    sifted_fault k = grown_fault w sifts old c rest' left
        (stops_map (λ b. spots_below n (kept c b)) (test_meaning t s c.1) (subst (λ z. Covers (test_meaning t z c.1) wide) e k))

  -- ---- expressions
  module _ (current : Json) (w : Outcome (List Bool)) (old new : List Bool) (x : Test) (rest rest' : List Test) (cut : rest ≡ x ∷ rest')
      (h : Covers w (joined old (tested_all s current rest))) where
    pub tested_step : (b : Bool) → new ≡ old ++ b ∷ [] → Covers (test_meaning x s' current) (given b) → Covers w (joined new (tested_all s current rest'))
    unfolding tested_all
    tested_step b pushed k = subst (λ ys. Covers w (joined ys (tested_all s current rest'))) (sym pushed)
        (joined_step w (λ t. outcome_map (λ y. y ∷ []) (test_meaning t s current)) old (b ∷ []) x rest'
        (subst (λ r. Covers w (joined old (each (λ t. outcome_map (λ y. y ∷ []) (test_meaning t s current)) r))) cut h)
        (through_map (λ y. y ∷ []) (test_meaning x s current) b (subst (λ z. Covers (test_meaning x z current) (given b)) e k)))

    pub tested_fault : Covers (test_meaning x s' current) wide → Covers w wide
    unfolding tested_all
    tested_fault k = joined_stop w (λ t. outcome_map (λ y. y ∷ []) (test_meaning t s current)) old x rest'
        (subst (λ r. Covers w (joined old (each (λ t. outcome_map (λ y. y ∷ []) (test_meaning t s current)) r))) cut h)
        (stops_map (λ y. y ∷ []) (test_meaning x s current) (subst (λ z. Covers (test_meaning x z current) wide) e k))

  -- ---- segments
  module _ (w : Outcome (List Spot)) (x : Segment) (rest rest' : List Segment) (cut : rest ≡ x ∷ rest') (ns : List Spot)
      (h : Covers w (spots_after_all s rest ns)) where
    run_left : Covers w (spots_after_all s (x ∷ rest') ns)
    run_left = subst (λ r. Covers w (spots_after_all s r ns)) cut h

    pub run_step : (ms : List Spot) → Covers (spots_after s' x ns) (given ms) → Covers w (spots_after_all s rest' ms)
    unfolding spots_after_all
    run_step ms k = covers_trans w _ _ run_left (through (spots_after_all s rest') (spots_after s x ns) ms (subst (λ z. Covers (spots_after z x ns) (given ms)) e k))

    pub run_fault : Covers (spots_after s' x ns) wide → Covers w wide
    unfolding spots_after_all
    run_fault k = covers_trans w _ _ run_left (stops (spots_after_all s rest') (spots_after s x ns) (subst (λ z. Covers (spots_after z x ns) wide) e k))

  -- ---- a segment at each node
  module _ (v : Segment) (w : Outcome (List Spot)) (old : List Spot) (x : Spot) (rest rest' : List Spot) (cut : rest ≡ x ∷ rest')
      (h : Covers w (grown old (each (reached s v) rest))) where
    pub reached_step : (mid : List Spot) → Covers (grown old (reached s' v x)) (given mid) → Covers w (grown mid (each (reached s v) rest'))
    reached_step mid k = all_step w (reached s v) old mid x rest'
        (subst (λ r. Covers w (grown old (each (reached s v) r))) cut h) (subst (λ z. Covers (grown old (reached z v x)) (given mid)) e k)

    pub reached_fault : Covers (grown old (reached s' v x)) wide → Covers w wide
    reached_fault k = all_wide w (reached s v) old x rest'
        (subst (λ r. Covers w (grown old (each (reached s v) r))) cut h) (subst (λ z. Covers (grown old (reached z v x)) wide) e k)

  -- ---- selectors at each node of a walk
  module _ (ss : List Selector) (w : Outcome (List Spot)) (old : List Spot) (x : Spot) (rest rest' : List Spot) (cut : rest ≡ x ∷ rest')
      (h : Covers w (grown old (chosen_each s ss rest))) where
    each_left : Covers w (grown old (each (chosen_at s ss) (x ∷ rest')))
    unfolding chosen_each
    each_left = subst (λ r. Covers w (grown old (each (chosen_at s ss) r))) cut h

    pub below_step : (mid : List Spot) → Covers (grown old (chosen_at s' ss x)) (given mid) → Covers w (grown mid (chosen_each s ss rest'))
    unfolding chosen_each
    below_step mid k = all_step w (chosen_at s ss) old mid x rest' each_left (subst (λ z. Covers (grown old (chosen_at z ss x)) (given mid)) e k)

    pub below_fault : Covers (grown old (chosen_at s' ss x)) wide → Covers w wide
    below_fault k = all_wide w (chosen_at s ss) old x rest' each_left (subst (λ z. Covers (grown old (chosen_at z ss x)) wide) e k)

  -- ---- selectors at a node
  module _ (n n' : Spot × List Spot) (at : n' ≡ n) (w : Outcome (List Spot)) (old : List Spot) (x : Selector) (rest rest' : List Selector) (cut : rest ≡ x ∷ rest')
      (h : Covers w (grown old (chosen_at s rest n.0))) where
    at_left : Covers w (grown old (each (picked_at s n.0) (x ∷ rest')))
    unfolding chosen_at
    at_left = subst (λ r. Covers w (grown old (each (picked_at s n.0) r))) cut h

    pub chosen_step : (mid : List Spot) → Covers (grown old (picked_at s' n'.0 x)) (given mid) → Covers w (grown mid (chosen_at s rest' n.0))
    unfolding chosen_at
    chosen_step mid k = all_step w (picked_at s n.0) old mid x rest' at_left
        (subst (λ z. Covers (grown old (picked_at s z.0 x)) (given mid)) at (subst (λ z. Covers (grown old (picked_at z n'.0 x)) (given mid)) e k))

    pub chosen_fault : Covers (grown old (picked_at s' n'.0 x)) wide → Covers w wide
    chosen_fault k = all_wide w (picked_at s n.0) old x rest' at_left
        (subst (λ z. Covers (grown old (picked_at s z.0 x)) wide) at (subst (λ z. Covers (grown old (picked_at z n'.0 x)) wide) e k))

-- ---- where nothing is left

pub tested_end : (s : Setting) (current : Json) (w : Outcome (List Bool)) (old : List Bool) → Covers w (joined old (tested_all s current [])) → Covers w (given old)
unfolding tested_all
tested_end s current w old h = joined_none w old h

pub run_end : (s : Setting) (w : Outcome (List Spot)) (ns : List Spot) → Covers w (spots_after_all s [] ns) → Covers w (given ns)
unfolding spots_after_all
run_end s w ns h = h

pub seen_room : (olds : List Held) → length olds ≤ widest → length (map seen olds) ≤ widest
seen_room olds room = subst (λ n. n ≤ widest) (sym (length-map olds seen)) room

held_end : (w : Outcome (List Spot)) (olds : List Held) → length olds ≤ widest → Covers w (grown (map seen olds) (given [])) → Covers w (given (map seen olds))
held_end w olds room h = grown_end w (map seen olds) (seen_room olds room) h

pub sifted_end : (s : Setting) (t : Test) (n : Spot) (w : Outcome (List Spot)) (olds : List Held) → length olds ≤ widest → Covers w (grown (map seen olds) (sifted s t n [])) → Covers w (given (map seen olds))
unfolding sifted
sifted_end s t n w olds room h = held_end w olds room h

pub chosen_end : (s : Setting) (n : Spot) (w : Outcome (List Spot)) (olds : List Held) → length olds ≤ widest → Covers w (grown (map seen olds) (chosen_at s [] n)) → Covers w (given (map seen olds))
unfolding chosen_at
chosen_end s n w olds room h = held_end w olds room h

pub below_end : (s : Setting) (ss : List Selector) (w : Outcome (List Spot)) (olds : List Held) → length olds ≤ widest → Covers w (grown (map seen olds) (chosen_each s ss [])) → Covers w (given (map seen olds))
unfolding chosen_each
below_end s ss w olds room h = held_end w olds room h

pub reached_end : (s : Setting) (v : Segment) (w : Outcome (List Spot)) (olds : List Held) → length olds ≤ widest → Covers w (grown (map seen olds) (each (reached s v) [])) → Covers w (given (map seen olds))
reached_end s v w olds room h = held_end w olds room h
