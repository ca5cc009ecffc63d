-- What is answered, by the grammar.
use Rattle.std.proofs.Common.{◌≡◌, ℕ, List, [], length, ◌-◌, Option, Some, None, Result, Ok, Err, IfOk, IfErr, refl, sym, ap, subst, ◌∙◌}
use Rattle.std.specs.Result.{IsErrAnd}
use Rattle.arz_query.specs.Words.{Read, chosen}
use Rattle.arz_query.specs.Reading.{reading}
use Rattle.arz_query.specs.Nesting.{too_nested}
use Rattle.arz_query.specs.Grammar.{IsQuery}
use Rattle.arz_query.specs.Answers.{fault_at, fault_of, query_of, answer, Answers, IsRead, Spells, Faults, due, AreSame}
use Rattle.arz_query.specs.declared.pieces.Flaw.{Flaw}
use Rattle.arz_query.specs.declared.pieces.FlawKind.{FlawKind}
use Rattle.arz_query.specs.declared.pieces.FlawKind.TheVariants as kind
use Rattle.arz_query.specs.declared.pieces.Marks.{Marks}
use Rattle.arz_query.specs.declared.query.Segment.{Segment}
use Rattle.arz_query.specs.declared.fault.PathFault.{PathFault}
use Rattle.arz_query.specs.declared.fault.PathFault.TheVariants as fault
use Rattle.arz_query.proofs.Inverse.{some_is}
use Rattle.arz_query.proofs.SoundTerms.{reading_sound}
use Rattle.arz_query.proofs.Complete.{query_given}

abbrev pub Answer : Type 0
Answer = Result (List Segment) PathFault

abbrev pub read_as : ℕ → List Segment → Marks → Answer
read_as total vs m = chosen m.flaw (λ f. Err (fault_of total f)) (Ok vs)

-- how a text stands, and what it is answered by
data Stands (text : List ℕ) : Answer → Type 0 where
  nested : (at : ℕ) → too_nested text ≡ Some at → Stands text (Err (fault.TooNested at))
  no_query : too_nested text ≡ None → ((vs : List Segment) (m : Marks) → IsQuery text vs m → ⊥) → Stands text (Err fault.Syntax)
  query : (vs : List Segment) (m : Marks) → IsRead text vs m → Stands text (read_as (length text) vs m)

stands : (text : List ℕ) → Stands text (answer text)
unfolding answer
stands text = go (too_nested text) refl (reading text) refl
  where
    unread : reading text ≡ None → (vs : List Segment) (m : Marks) → IsQuery text vs m → ⊥
    unread e vs m q = let some : let o : Option (Read (List Segment)) = None in o ≡ Some (record { value = vs; marks = m; rest = [] }) = sym e ∙ query_given q in absurd cc

    go : (t : Option ℕ) → too_nested text ≡ t → (o : Option (Read (List Segment))) → reading text ≡ o →
        Stands text (chosen t (λ at. Err (fault.TooNested at)) (chosen o (query_of (length text)) (Err fault.Syntax)))
    go (Some at) e o k = nested at e
    go None e None k = no_query e (unread k)
    go None e (Some all) k = query all.value all.marks (record { open_enough = e; query = reading_sound text all k })

with_flaw : (text : List ℕ) (vs : List Segment) (m : Marks) → IsRead text vs m → (f : Flaw) → m.flaw ≡ Some f → Faults text (fault_of (length text) f)
with_flaw text vs m r f e = go f.kind refl
  where
    go : (k : FlawKind) → f.kind ≡ k → Faults text (fault_of (length text) f)
    go kind.IllTyped h = subst (λ t. Faults text (fault_at t (length text - f.left))) (sym h) (record { segments = vs; marks = m; flaw = f; read = r; first = e; is = ap (λ t. fault_at t (length text - f.left)) h })
    go kind.Fraction h = subst (λ t. Faults text (fault_at t (length text - f.left))) (sym h) (record { segments = vs; marks = m; flaw = f; read = r; first = e; is = ap (λ t. fault_at t (length text - f.left)) h })
    go kind.IntegerRange h = subst (λ t. Faults text (fault_at t (length text - f.left))) (sym h) (record { segments = vs; marks = m; flaw = f; read = r; first = e; is = ap (λ t. fault_at t (length text - f.left)) h })

-- what an answer says of its text
abbrev Says : List ℕ → Answer → Type 0
Says text (Ok vs) = Spells text vs
Says text (Err e) = Faults text e

said : (text : List ℕ) (a : Answer) → Stands text a → Says text a
said text a (nested at e) = e
said text a (no_query e none) = record { open_enough = e; none = none }
said text a (query vs m r) = go m.flaw refl
  where
    go : (o : Option Flaw) → m.flaw ≡ o → Says text (chosen o (λ f. Err (fault_of (length text) f)) (Ok vs))
    go None e = record { marks = m; read = r; flawless = e }
    go (Some f) e = with_flaw text vs m r f e

-- an answer, or want of memory
as_said : (text : List ℕ) (r a : Answer) → Answers r a → Says text a → Says text r
as_said text (Ok q) a e s = subst (Says text) e s
as_said text (Err fault.Syntax) a e s = subst (Says text) e s
as_said text (Err (fault.IllTyped at)) a e s = subst (Says text) e s
as_said text (Err (fault.Fraction at)) a e s = subst (Says text) e s
as_said text (Err (fault.IntegerRange at)) a e s = subst (Says text) e s
as_said text (Err (fault.TooNested at)) a e s = subst (Says text) e s
as_said text (Err fault.Memory) a e s = tt

if_ok : (text : List ℕ) (r : Answer) → Says text r → IfOk r (Spells text)
if_ok text (Ok q) s = s
if_ok text (Err e) s = tt

pub spells-if : (text : List ℕ) (r : Answer) → Answers r (answer text) → IfOk r (Spells text)
spells-if text r e = if_ok text r (as_said text r (answer text) e (said text (answer text) (stands text)))

pub answer-read : (text : List ℕ) (vs : List Segment) (m : Marks) → IsRead text vs m → answer text ≡ read_as (length text) vs m
unfolding answer
answer-read text vs m d =
    ap (λ t. chosen t (λ at. Err (fault.TooNested at)) (chosen (reading text) (query_of (length text)) (Err fault.Syntax))) d.open_enough
    ∙ ap (λ o. chosen o (query_of (length text)) (Err fault.Syntax)) (query_given d.query)

pub answer-nested : (text : List ℕ) (at : ℕ) → too_nested text ≡ Some at → answer text ≡ Err (fault.TooNested at)
unfolding answer
answer-nested text at e = ap (λ t. chosen t (λ at. Err (fault.TooNested at)) (chosen (reading text) (query_of (length text)) (Err fault.Syntax))) e

-- ---- the answer with the text in place of its segments

abbrev pub Passed : Type 0
Passed = Result (List ℕ) PathFault

abbrev pub passed : List ℕ → Answer → Passed
passed text (Ok vs) = Ok text
passed text (Err e) = Err e

pub answers_then : {X : Type 0} (r s t : Result X PathFault) → Answers r s → Answers s t → Answers r t
answers_then (Ok q) s t e h = subst (λ x. Answers x t) e h
answers_then (Err fault.Syntax) s t e h = subst (λ x. Answers x t) e h
answers_then (Err (fault.IllTyped at)) s t e h = subst (λ x. Answers x t) e h
answers_then (Err (fault.Fraction at)) s t e h = subst (λ x. Answers x t) e h
answers_then (Err (fault.IntegerRange at)) s t e h = subst (λ x. Answers x t) e h
answers_then (Err (fault.TooNested at)) s t e h = subst (λ x. Answers x t) e h
answers_then (Err fault.Memory) s t e h = tt

pub answers_same : {X : Type 0} (r : Result X PathFault) → Answers r r
answers_same (Ok q) = refl
answers_same (Err fault.Syntax) = refl
answers_same (Err (fault.IllTyped at)) = refl
answers_same (Err (fault.Fraction at)) = refl
answers_same (Err (fault.IntegerRange at)) = refl
answers_same (Err (fault.TooNested at)) = refl
answers_same (Err fault.Memory) = tt

passed_answers : (text : List ℕ) (r a : Answer) → Answers r a → Answers (passed text r) (passed text a)
passed_answers text (Ok vs) a e = ap (passed text) e
passed_answers text (Err fault.Syntax) a e = ap (passed text) e
passed_answers text (Err (fault.IllTyped at)) a e = ap (passed text) e
passed_answers text (Err (fault.Fraction at)) a e = ap (passed text) e
passed_answers text (Err (fault.IntegerRange at)) a e = ap (passed text) e
passed_answers text (Err (fault.TooNested at)) a e = ap (passed text) e
passed_answers text (Err fault.Memory) a e = tt

pub exit_passed : (text : List ℕ) (p : Passed) (e : PathFault) → IsErrAnd p (λ y. y ≡ e) → Answers p (passed text (Err e))
exit_passed text (Ok q) e h = absurd h
exit_passed text (Err y) e h = subst (λ z. let r : Passed = Err z in Answers (Err y) r) h (answers_same (Err y))

-- what is handed on is an answer to the text
pub handed : (text : List ℕ) (r : Answer) (p : Passed) → Answers r (answer text) → Answers p (passed text r) → Answers p (passed text (answer text))
handed text r p e h = answers_then p (passed text r) (passed text (answer text)) h (passed_answers text r (answer text) e)

abbrev SaysText : List ℕ → Passed → Type 0
SaysText text (Ok q) = Unit {0}
SaysText text (Err e) = Faults text e

says_text : (text : List ℕ) (a : Answer) → Says text a → SaysText text (passed text a)
says_text text (Ok vs) s = tt
says_text text (Err e) s = s

text_said : (text : List ℕ) (r a : Passed) → Answers r a → SaysText text a → SaysText text r
text_said text (Ok q) a e s = tt
text_said text (Err fault.Syntax) a e s = subst (SaysText text) e s
text_said text (Err (fault.IllTyped at)) a e s = subst (SaysText text) e s
text_said text (Err (fault.Fraction at)) a e s = subst (SaysText text) e s
text_said text (Err (fault.IntegerRange at)) a e s = subst (SaysText text) e s
text_said text (Err (fault.TooNested at)) a e s = subst (SaysText text) e s
text_said text (Err fault.Memory) a e s = tt

handed_said : (text : List ℕ) (p : Passed) → Answers p (passed text (answer text)) → SaysText text p
handed_said text p e = text_said text p (passed text (answer text)) e (says_text text (answer text) (said text (answer text) (stands text)))

fault_in : (text : List ℕ) (p : Passed) → SaysText text p → IfErr p (Faults text)
fault_in text (Ok q) s = tt
fault_in text (Err e) s = s

pub fault-if : (text : List ℕ) (p : Passed) → Answers p (passed text (answer text)) → IfErr p (Faults text)
fault-if text p e = fault_in text p (handed_said text p e)

due_passed : (text : List ℕ) (vs : List Segment) (m : Marks) → passed text (read_as (length text) vs m) ≡ due text m
due_passed text vs m = go m.flaw
  where
    go : (o : Option Flaw) → passed text (chosen o (λ f. Err (fault_of (length text) f)) (Ok vs)) ≡ chosen o (λ f. Err (fault_of (length text) f)) (Ok text)
    go None = refl
    go (Some f) = refl

pub complete-if : (text : List ℕ) (p : Passed) → Answers p (passed text (answer text)) → (vs : List Segment) (m : Marks) → IsRead text vs m → Answers p (due text m)
complete-if text p e vs m d = subst (Answers p) (ap (passed text) (answer-read text vs m d) ∙ due_passed text vs m) e

pub nested-if : (text : List ℕ) (p : Passed) → Answers p (passed text (answer text)) → (at : ℕ) → too_nested text ≡ Some at → Answers p (Err (fault.TooNested at))
nested-if text p e at n = subst (Answers p) (ap (passed text) (answer-nested text at n)) e

pub one-reading : (text : List ℕ) (vs ws : List Segment) (m n : Marks) → IsQuery text vs m → IsQuery text ws n → AreSame vs ws m n
one-reading text vs ws m n p q =
    let same = some_is (sym (query_given p) ∙ query_given q) in
    (ap (λ (r : Read (List Segment)). r.value) same, ap (λ (r : Read (List Segment)). r.marks) same)
