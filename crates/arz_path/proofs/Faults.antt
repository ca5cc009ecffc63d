-- Why nothing is found, carried to the callers.
use Rattle.std.proofs.Common.{◌≡◌, ℕ, ◌≤◌, List, ◌++◌, Bool, true, false, Option, Result, Ok, Err, length, nat_lt, cond, refl, sym, ap, subst, ◌∙◌, arith}
use Rattle.std.specs.Result.{IsErrAnd}
use Rattle.arz_json.specs.declared.tree.Json.{Json}
use Rattle.arz_rx.specs.Patterns.{PatternsView, Rose, Told}
use Rattle.arz_query.specs.declared.query.Operand.{Operand}
use Rattle.arz_path.specs.declared.fault.SelectFault.{SelectFault}
use Rattle.arz_path.specs.declared.fault.SelectFault.TheVariants as fault
use Rattle.arz_path.specs.Outcome.{Outcome, given, wide, and_then, outcome_map, Covers}
use Rattle.arz_json.specs.Answer.{Gives, Fails as Meant}
use Rattle.arz_path.specs.Selected.{Setting, widest, told_of, operand_meaning, pair_of}
use Rattle.arz_path.specs.Spots.{within, narrow, grown}
use Rattle.arz_path.specs.Results.{Asked, cause, Fails, Answers, bit_seen, setting_of}
use Rattle.arz_path.proofs.Outcomes.{covers_equal, covers_trans, through, through_map, stops_map}

pub asked_same : (p : PatternsView) → Asked p p
asked_same p = record { told = refl; count = omega arith }

pub asked_then : (p q r : PatternsView) → Asked p q → Asked q r → Asked p r
asked_then p q r a b = let h = a.count in let k = b.count in record { told = b.told ∙ a.told; count = omega (arith, h, k) }

pub same_setting : (p q : PatternsView) (j : Json) → Asked p q → setting_of q j ≡ setting_of p j
same_setting p q j a = ap (λ t. let s : Setting = record { told = t; root = j } in s) a.told

rose_from : (a b c : ℕ) → a ≤ b → Rose b c → Rose a c
rose_from a b c h k = omega (arith, h, k)

rose_to : (a b c : ℕ) → Rose a b → b ≤ c → Rose a c
rose_to a b c h k = omega (arith, h, k)

-- from a part that begins later
pub fails_from : {Y Z : Type 0} (e : SelectFault) (part : Outcome Z) (whole : Outcome Y) (p q r : PatternsView) →
    Asked p q → (Covers part wide → Covers whole wide) → Fails e part q r → Fails e whole p r
fails_from fault.TooWide part whole p q r a f h = f h
fails_from fault.Pattern part whole p q r a f h = rose_from _ _ _ a.count h
fails_from fault.Memory part whole p q r a f h = tt

pub fails_as : {Y Z : Type 0} (e : SelectFault) (part : Outcome Z) (whole : Outcome Y) (p q : PatternsView) →
    (Covers part wide → Covers whole wide) → Fails e part p q → Fails e whole p q
fails_as e part whole p q f h = fails_from e part whole p p q (asked_same p) f h

pub fails_map : {Y Z : Type 0} (e : SelectFault) (f : Z → Y) (part : Outcome Z) (whole : Outcome Y) (p q : PatternsView) →
    whole ≡ outcome_map f part → Fails e part p q → Fails e whole p q
fails_map e f part whole p q is h = fails_as e part whole p q (λ k. subst (λ o. Covers o wide) (sym is) (stops_map f part k)) h

-- from lists that grow, where no pattern is asked
pub fails_grows : {X Y : Type 0} (e : SelectFault) (xs : List X) (whole : Outcome Y) (p q : PatternsView) →
    (narrow xs ≡ wide → Covers whole wide) → Meant (cause e) (within xs) → Fails e whole p q
fails_grows fault.TooWide xs whole p q f h = f (ap told_of h)
fails_grows {X = X} fault.Pattern xs whole p q f h = of (nat_lt widest (length xs)) h
  where
    of : (b : Bool) → cond b (Err fault.TooWide) (Ok xs) ≡ Err fault.Pattern → Fails fault.Pattern whole p q
    of true h = absurd (cc)
    of false h = absurd (cc)
fails_grows fault.Memory xs whole p q f h = tt

-- what is given is added, if that isn't too wide
pub grown_given : {X : Type 0} (r : Result Unit SelectFault) (old ys new : List X) (meant : Outcome (List X)) (p q : PatternsView) →
    meant ≡ given ys → Gives (λ _. new) cause r (within (old ++ ys)) → Answers (λ _. new) r (grown old meant) p q
grown_given (Ok u) old ys new meant p q e h = covers_equal _ _ (ap (grown old) e ∙ ap told_of h)
grown_given (Err f) old ys new meant p q e h = fails_grows f (old ++ ys) (grown old meant) p q (λ k. covers_equal _ _ (ap (grown old) e ∙ k)) h

-- what the exit of a `?` answers
pub exit : {X Y : Type 0} (view : X → Y) (r : Result X SelectFault) (e : SelectFault) (meant : Outcome Y) (p q : PatternsView) →
    IsErrAnd r (λ y. y ≡ e) → Fails e meant p q → Answers view r meant p q
exit view (Ok x) e meant p q h k = absurd h
exit view (Err y) e meant p q h k = subst (λ z. Fails z meant p q) (sym h) k

-- one operand, and then the other by what is told then
pub pair_given : (s s' : Setting) → s' ≡ s → (current : Json) (a b : Operand) (x y : Option Json) →
    Covers (operand_meaning a s current) (given x) → Covers (operand_meaning b s' current) (given y) →
    Covers (pair_of (operand_meaning a) (operand_meaning b) s current) (given (x, y))
pair_given s s' e current a b x y h k = covers_trans _ _ _
    (through (λ x. outcome_map (λ y. (x, y)) (operand_meaning b s current)) (operand_meaning a s current) x h)
    (through_map (λ (z : Option Json). let p : Option Json × Option Json = (x, z) in p) (operand_meaning b s current) y (subst (λ z. Covers (operand_meaning b z current) (given y)) e k))

-- an answer that goes by what was found and is told at last
pub answers_later : {X : Type 0} (f : (List ℕ → List ℕ → Told) → X → Outcome Bool) (r : Result Bool SelectFault) (part : Outcome X) (x : X) (p q s t : PatternsView) →
    Asked p q → Asked q s → Covers part (given x) → Answers bit_seen r (f s.told x) s t → Answers bit_seen r (and_then (f p.told) part) p t
answers_later f (Ok b) part x p q s t a b' h k = covers_trans _ _ _ (through (f p.told) part x h) (subst (λ z. Covers (f z x) (given b)) (b'.told ∙ a.told) k)
answers_later f (Err e) part x p q s t a b' h k = fails_from e (f s.told x) (and_then (f p.told) part) p s t (asked_then p q s a b')
    (λ w. covers_trans _ _ _ (through (f p.told) part x h) (subst (λ z. Covers (f z x) wide) (b'.told ∙ a.told) w)) k
