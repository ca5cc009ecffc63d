-- What is answered, by the grammar.
use Rattle.std.proofs.Common.{◌≡◌, ◌≢◌, inl, inr, codes, ℕ, List, Bool, true, false, Option, Some, None, Result, Ok, Err, IfOk, IfSome, refl, sym, subst, ◌∙◌}
use Rattle.std.specs.Result.{IsErrAnd}
use Rattle.std.specs.declared.alloc.AllocError.{AllocError}
use Rattle.arz_query.proofs.Inverse.{some_is}
use Rattle.arz_expr.specs.Grammar.{Reads}
use Rattle.arz_expr.specs.Reading.{reading as expression_of}
use Rattle.arz_expr.specs.declared.syntax.Expr.{Expr}
use Rattle.arz_expr.proofs.Options.{from_some}
use Rattle.arz_expr.proofs.Endings.{reading-sound, reading-complete}
use Rattle.arz_cond.specs.Grammar.{IsCondition}
use Rattle.arz_cond.specs.Criteria.{Criterion, IsKind, IsContext, IsNoContext, NeedsFraction, IsNoCondition, Refuses}
use Rattle.arz_cond.specs.Parsing.{RefusesText, RefusesContext, RefusesQuery, Parses}
use Rattle.arz_cond.specs.declared.test.Parsed.{Parsed}
use Rattle.arz_cond.specs.declared.fault.TestFault.{TestFault}
use Rattle.arz_cond.specs.declared.fault.TestFault.TheVariants as fault
use Rattle.arz_cond.specs.Reading.{reading}
use Rattle.arz_cond.specs.declared.term.Term.{Term}
use Rattle.arz_cond.proofs.Sound.{reading_sound}
use Rattle.arz_cond.proofs.Complete.{condition_given}

-- ---- expressions

reads_of : (text : List ℕ) (e : Expr) → expression_of text ≡ Some e → Reads text e
reads_of text e h = from_some (expression_of text) (Reads text) e (reading-sound text) h

pub expression-is : (text : List ℕ) (r : Result (Option Expr) AllocError) → IfOk r (λ o. IfSome o (λ e. Reads text e)) → ((e : Expr) → Reads text e → IfOk r (λ o. o ≡ Some e)) → IfOk r (λ o. o ≡ expression_of text)
expression-is text (Ok (Some e)) reads complete = sym (reading-complete text e reads)
expression-is text (Ok None) reads complete = go (expression_of text) refl
  where
    go : (o : Option Expr) → expression_of text ≡ o → let n : Option Expr = None in n ≡ expression_of text
    go None k = sym k
    go (Some e) k = complete e (reads_of text e k) ∙ sym k
expression-is text (Err e) reads complete = tt

pub is_context : (context : Option (List ℕ)) (text : List ℕ) (e : Expr) → context ≡ Some text → expression_of text ≡ Some e → IsContext context e
is_context context text e c h = (text, (c, reads_of text e h))

pub no_context : (context : Option (List ℕ)) (text : List ℕ) → context ≡ Some text → expression_of text ≡ None → IsNoContext context
no_context context text c h e is =
    let same : text ≡ is.0 = some_is (sym c ∙ is.1.0) in
    let some : let n : Option Expr = None in n ≡ Some e = sym h ∙ reading-complete text e (subst (λ (t : List ℕ). Reads t e) (sym same) is.1.1) in
    absurd cc

-- ---- conditions

unread : (f : Bool) (text : List ℕ) → reading f text ≡ None → (t : Term) → IsCondition f text t → ⊥
unread f text e t d = let some : let n : Option Term = None in n ≡ Some t = sym e ∙ condition_given d in absurd cc

pub is_condition : (text : List ℕ) (t : Term) → reading false text ≡ Some t → IsCondition false text t
is_condition = reading_sound false

pub needs_fraction : (text : List ℕ) (t : Term) → reading false text ≡ None → reading true text ≡ Some t → NeedsFraction text
needs_fraction text t e h = record { none = unread false text e; term = t; fractional = reading_sound true text t h }

pub no_condition : (text : List ℕ) → reading false text ≡ None → reading true text ≡ None → IsNoCondition text
no_condition text e h = record { none = unread false text e; no_fraction = unread true text h }

pub one-reading : (f : Bool) (text : List ℕ) (t u : Term) → IsCondition f text t → IsCondition f text u → t ≡ u
one-reading f text t u p q = some_is (sym (condition_given p) ∙ condition_given q)

-- ---- criteria

pub text_refuses : (c : Criterion) (e : TestFault) → c.kind ≡ codes "simple" → RefusesText c.condition e → Refuses c e
text_refuses c fault.Fraction k h = (k, h)
text_refuses c fault.BadCondition k h = (k, h)
text_refuses c fault.BadExpression k h = absurd h
text_refuses c (fault.BadPath f) k h = absurd h
text_refuses c fault.Memory k h = tt

pub context_refuses : (c : Criterion) (e : TestFault) → c.kind ≢ codes "simple" → RefusesContext c.context e → Refuses c e
context_refuses c fault.Fraction k h = absurd h
context_refuses c fault.BadCondition k h = absurd h
context_refuses c fault.BadExpression k h = (k, h)
context_refuses c (fault.BadPath f) k h = absurd h
context_refuses c fault.Memory k h = tt

pub query_refuses : (c : Criterion) (x : Expr) (e : TestFault) → c.kind ≡ codes "jsonpath" → IsContext c.context x → RefusesQuery c.condition e → Refuses c e
query_refuses c x fault.Fraction k is h = absurd h
query_refuses c x fault.BadCondition k is h = absurd h
query_refuses c x fault.BadExpression k is h = absurd h
query_refuses c x (fault.BadPath f) k is h = (k, record { expression = x; reads = is; told = h.0; fault = h.1 })
query_refuses c x fault.Memory k is h = tt

pub last_kind : (kind : List ℕ) → IsKind kind → kind ≢ codes "simple" → kind ≢ codes "regex" → kind ≡ codes "jsonpath"
last_kind kind (inl h) a b = absurd (a h)
last_kind kind (inr (inl h)) a b = absurd (b h)
last_kind kind (inr (inr h)) a b = h

-- the fault that was handed on
pub handed : (c : Criterion) (r : Result Parsed TestFault) (e : TestFault) → IsErrAnd r (λ y. y ≡ e) → Refuses c e → Parses c r
handed c (Ok p) e h k = absurd h
handed c (Err y) e h k = subst (Refuses c) (sym h) k
