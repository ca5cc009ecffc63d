-- What texts stand for, by the grammar.
use Rattle.std.proofs.Common.{◌≡◌, ℕ, zero, suc, Bool, true, not, ◌==◌, List, [], ◌∷◌, ◌++◌, Option, Result, Ok, Err, refl, ap, sym, ◌∙◌, arith, append_assoc}
use Rattle.std.specs.List.{list_all}
use Rattle.std.proofs.lemmas.Bool.{and_parts, and_from, eqb-false, not-true}
use Rattle.arz_json.specs.Answer.{◌>>=◌}
use Rattle.arz_json.specs.declared.tree.Json.{Json}
use Rattle.arz_expr.specs.Grammar.{Reads}
use Rattle.arz_expr.specs.Reading.{chosen}
use Rattle.arz_expr.specs.Filling.{Fault, Embedded, mapped, resolved, embedded, text_of_piece, joined, mixed, filled_text, pieces}
use Rattle.arz_json.specs.declared.tree.Json.TheVariants.{Text}
use Rattle.arz_expr.specs.declared.syntax.Base.{Base}
use Rattle.arz_expr.specs.declared.syntax.Expr.{Expr}
use Rattle.arz_expr.proofs.Endings.{reading-complete}
use Rattle.arz_expr.proofs.Plain.{is_other, IsPlain, plain-reads}
use Rattle.serde_json.proofs.Paths.{Lacks}
use Rattle.arz_expr.proofs.Cutting.{cut-embedded, pieces-all}
use Rattle.arz_expr.proofs.Joins.{joined-append, joined-behind, joined-bytes}

-- no byte is a `}`
abbrev pub is_unclosed : List ℕ → Bool
is_unclosed text = list_all (λ b. not (b == 125)) text

lacks-brace : (xs : List ℕ) → is_unclosed xs ≡ true → Lacks 125 xs
lacks-brace [] h i lt = absurd (omega arith)
lacks-brace (x ∷ xs) h zero lt = eqb-false x 125 (not-true (x == 125) (and_parts (not (x == 125)) (is_unclosed xs) h).0)
lacks-brace (x ∷ xs) h (suc i) lt = lacks-brace xs (and_parts (not (x == 125)) (is_unclosed xs) h).1 i (omega arith)

unclosed-plain : (xs : List ℕ) → IsPlain xs → is_unclosed xs ≡ true
unclosed-plain [] h = refl
unclosed-plain (x ∷ xs) h =
    let parts = and_parts (is_other x) (list_all is_other xs) h in
    and_from (not (x == 125)) (is_unclosed xs) (and_parts (not (x == 123)) (not (x == 125)) parts.0).1 (unclosed-plain xs parts.1)

unclosed-append : (xs ys : List ℕ) → is_unclosed xs ≡ true → is_unclosed ys ≡ true → is_unclosed (xs ++ ys) ≡ true
unclosed-append [] ys h k = k
unclosed-append (x ∷ xs) ys h k =
    let parts = and_parts (not (x == 125)) (is_unclosed xs) h in
    and_from (not (x == 125)) (is_unclosed (xs ++ ys)) parts.0 (unclosed-append xs ys parts.1 k)

-- a text that is an expression
pub text-expression : (found : Base → Option Json) (text : List ℕ) (e : Expr) → Reads text e → filled_text found text ≡ resolved found e
unfolding filled_text
text-expression found text e reads = ap (λ (o : Option Expr). chosen o (resolved found) (mapped Text (mixed found text))) (reading-complete text e reads)

before : (plain : List ℕ) (r s : Result (List ℕ) Fault)
    → (mapped (λ t. plain ++ t) r >>= (λ t. mapped (λ u. t ++ u) s)) ≡ (r >>= (λ t. mapped (λ u. plain ++ (t ++ u)) s))
before plain (Ok t) (Ok u) = ap Ok (append_assoc plain t u)
before plain (Ok t) (Err f) = refl
before plain (Err f) s = refl

-- an expression in braces, where no `}` stands before it
pub text-embedded : (found : Base → Option Json) (plain text rest : List ℕ) (e : Expr) → Reads text e → is_unclosed plain ≡ true
    → mixed found (plain ++ 123 ∷ (text ++ 125 ∷ rest)) ≡ (resolved found e >>= embedded >>= (λ t. mapped (λ u. plain ++ (t ++ u)) (mixed found rest)))
text-embedded found plain text rest e reads free =
    let whole = plain ++ 123 ∷ (text ++ 125 ∷ rest) in
    let front = plain ++ 123 ∷ text in
    let unclosed : is_unclosed front ≡ true = unclosed-append plain (123 ∷ text) free (unclosed-plain text (plain-reads text e reads)) in
    let cut = cut-embedded whole front rest plain text e (sym (append_assoc plain (123 ∷ text) (125 ∷ rest))) (lacks-brace front unclosed) refl (reading-complete text e reads) in
    ap (joined found) cut.0 ∙ joined-append found _ (pieces rest)
    ∙ ap (λ (r : Result (List ℕ) Fault). r >>= (λ t. mapped (λ u. t ++ u) (mixed found rest))) (joined-behind found plain (Embedded e))
    ∙ before plain (text_of_piece found (Embedded e)) (mixed found rest)

-- a text without `}`
pub text-unclosed : (found : Base → Option Json) (text : List ℕ) → is_unclosed text ≡ true → mixed found text ≡ Ok text
text-unclosed found text free = ap (joined found) (pieces-all text (lacks-brace text free)) ∙ joined-bytes found text
