-- Texts that are queries.
use Rattle.std.proofs.Common.{◌≡◌, ◌≢◌, ℕ, List, [], length, true, false, cond, Option, Some, None, Result, Ok, Err, refl, sym, ap, ◌∙◌, subst}
use Rattle.std.specs.Prelude.{IfOk, IfErr, unwrap_or}
use Rattle.std.specs.Option.{is_some}
use Rattle.arz_query.specs.Words.{chosen}
use Rattle.arz_query.specs.Answers.{answer, Spells, IsSpelled, Faults, fault_of}
use Rattle.arz_query.specs.declared.fault.PathFault.{PathFault}
use Rattle.arz_query.specs.declared.fault.PathFault.TheVariants as fault
use Rattle.arz_query.specs.declared.query.Segment.{Segment}
use Rattle.arz_query.proofs.Contract.{Answer, answer-read, spells-if, answers_same, one-reading}
use Rattle.arz_overlay.specs.Applied.{ReadAs}
use Rattle.arz_overlay.specs.Documents.{given_by, query_in, is_query, segments_of, QueriesAreThoseOfTheGrammar}

pub spelled_in : (text : List ℕ) (vs : List Segment) → Spells text vs → query_in text ≡ Some vs
spelled_in text vs s =
    ap given_by (answer-read text vs s.marks s.read)
    ∙ ap (λ o. (let r : Answer = chosen o (λ f. Err (fault_of (length text) f)) (Ok vs) in given_by r)) s.flawless

ok_of : (r : Answer) (vs : List Segment) → given_by r ≡ Some vs → r ≡ Ok vs
ok_of (Ok ws) vs e = let is : ws ≡ vs = cc in ap (λ l. Ok l) is
ok_of (Err f) vs e = absurd (cc)

pub in_spelled : (text : List ℕ) (vs : List Segment) → query_in text ≡ Some vs → Spells text vs
in_spelled text vs e =
    let P : Answer → Type 0 = λ r. IfOk r (Spells text) in
    subst P (ok_of (answer text) vs e) (spells-if text (answer text) (answers_same (answer text)))

pub queries_are_those_of_the_grammar : QueriesAreThoseOfTheGrammar
queries_are_those_of_the_grammar text vs = (in_spelled text vs, spelled_in text vs)

-- a text that spells a query has no fault
against : (text : List ℕ) (vs : List Segment) (e : PathFault) → Spells text vs → Faults text e → e ≢ fault.Memory → ⊥
against text vs fault.Syntax s f h = f.none vs s.marks s.read.query
against text vs (fault.IllTyped at) s f h = let same = (one-reading text vs f.segments s.marks f.marks s.read.query f.read.query).1 in cc (ap (λ m. m.flaw) same, s.flawless, f.first)
against text vs (fault.Fraction at) s f h = let same = (one-reading text vs f.segments s.marks f.marks s.read.query f.read.query).1 in cc (ap (λ m. m.flaw) same, s.flawless, f.first)
against text vs (fault.IntegerRange at) s f h = let same = (one-reading text vs f.segments s.marks f.marks s.read.query f.read.query).1 in cc (ap (λ m. m.flaw) same, s.flawless, f.first)
against text vs (fault.TooNested at) s f h = cc (s.read.open_enough, f)
against text vs fault.Memory s f h = h refl

pub no_query : (text : List ℕ) (e : PathFault) → Faults text e → e ≢ fault.Memory → is_query text ≡ false
no_query text e f h = go (query_in text) refl
  where
    go : (o : Option (List Segment)) → query_in text ≡ o → is_some o ≡ false
    go None is = refl
    go (Some vs) is = absurd (against text vs e (in_spelled text vs is) f h)

-- ---- a target that was read, or not

pub taken : (t q : List ℕ) → q ≡ t → (vs : List Segment) → Spells q vs → Some q ≡ cond (is_query t) (Some t) None
taken t q is vs s =
    ap (λ l. Some l) is ∙ sym (ap (λ o. cond (is_some o) (Some t) None) (spelled_in t vs (subst (λ l. Spells l vs) is s)))

pub left_out : (t : List ℕ) (e : PathFault) → Faults t e → e ≢ fault.Memory → (let none : Option (List ℕ) = None in none ≡ cond (is_query t) (Some t) None)
left_out t e f h = sym (ap (λ b. cond b (Some t) None) (no_query t e f h))

-- the segments of a target that is one
pub spelled_target : (t : List ℕ) → is_query t ≡ true → Spells t (segments_of t)
spelled_target t h = go (query_in t) refl
  where
    go : (o : Option (List Segment)) → query_in t ≡ o → Spells t (segments_of t)
    go None e = absurd (cc (ap is_some e))
    go (Some vs) e = subst (Spells t) (sym (ap (λ o. unwrap_or o []) e)) (in_spelled t vs e)

abbrev pub Target : List ℕ → Option (List ℕ) → Type 0
Target t q = q ≡ cond (is_query t) (Some t) None

-- what was read is the target, where it is a query
pub as_query : (t : List ℕ) (r : Result (List ℕ) PathFault) (o : Option (List ℕ)) → IfOk r (λ q. q ≡ t) → IfOk r IsSpelled → IfErr r (Faults t) → ReadAs r o → Target t o
as_query t (Ok q) o is s f h = h ∙ taken t q is s.segments s.spells
as_query t (Err e) o is s f h = h.0 ∙ left_out t e f h.1
