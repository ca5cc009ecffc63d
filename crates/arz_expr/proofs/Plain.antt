-- An expression holds no brace.
use Rattle.std.proofs.Common.{◌≡◌, ℕ, ◌^◌, Bool, true, not, ◌==◌, ◌&&◌, nat_lt, List, [], ◌∷◌, ◌++◌, length, codes, Option, Some, None, refl, sym, subst, arith}
use Rattle.std.specs.List.{list_all}
use Rattle.std.specs.Fmt.{decimal}
use Rattle.std.proofs.lemmas.Bool.{and_parts, and_from, ltb-true, true≢false}
use Rattle.arz_expr.specs.Grammar.{is_name_byte, is_name, is_pointer_byte, has_pointer, is_rooted, escapes_tildes, is_tail, print_base, print_tail, print_tails, print_pointer, names_in, printed, IsExpr, Reads}
use Rattle.arz_expr.specs.Reading.{reading}
use Rattle.arz_expr.specs.declared.syntax.Base.{Base}
use Rattle.arz_expr.specs.declared.syntax.Base.TheVariants as base
use Rattle.arz_expr.specs.declared.syntax.Tail.{Tail}
use Rattle.arz_expr.specs.declared.syntax.Tail.TheVariants.{Member, Index}
use Rattle.arz_expr.specs.declared.syntax.Expr.{Expr}
use Rattle.arz_expr.proofs.Options.{none_unless, from_some}
use Rattle.arz_expr.proofs.Numbers.{decimal-name}
use Rattle.arz_expr.proofs.Endings.{reading-sound}

abbrev pub is_other : ℕ → Bool
is_other b = not (b == 123) && not (b == 125)

abbrev pub IsPlain : List ℕ → Type 0
IsPlain text = list_all is_other text ≡ true

plain-append : (xs ys : List ℕ) → IsPlain xs → IsPlain ys → IsPlain (xs ++ ys)
plain-append [] ys h k = k
plain-append (x ∷ xs) ys h k =
    let parts = and_parts (is_other x) (list_all is_other xs) h in
    and_from (is_other x) (list_all is_other (xs ++ ys)) parts.0 (plain-append xs ys parts.1 k)

plain-all : (p : ℕ → Bool) → ((b : ℕ) → p b ≡ true → is_other b ≡ true) → (xs : List ℕ) → list_all p xs ≡ true → IsPlain xs
plain-all p f [] h = refl
plain-all p f (x ∷ xs) h =
    let parts = and_parts (p x) (list_all p xs) h in
    and_from (is_other x) (list_all is_other xs) (f x parts.0) (plain-all p f xs parts.1)

name-byte : (b : ℕ) → is_name_byte b ≡ true → is_other b ≡ true
name-byte b h = grind arith

pointer-byte : (b : ℕ) → is_pointer_byte b ≡ true → is_other b ≡ true
pointer-byte b h = grind arith

plain-name : (n : List ℕ) → is_name n ≡ true → IsPlain n
plain-name n h = plain-all is_name_byte name-byte n (and_parts (nat_lt 0 (length n)) (list_all is_name_byte n) h).1

plain-pointer : (p : Option (List ℕ)) → has_pointer p ≡ true → IsPlain (print_pointer p)
plain-pointer None h = refl
plain-pointer (Some p) h =
    let front = and_parts (is_rooted p && list_all is_pointer_byte p) (escapes_tildes p) h in
    let bytes = and_parts (is_rooted p) (list_all is_pointer_byte p) front.0 in
    plain-all is_pointer_byte pointer-byte p bytes.1

plain-tail : (t : Tail) → is_tail t ≡ true → IsPlain (print_tail t)
plain-tail (Member n) h = plain-name n h
plain-tail (Index i) h = plain-append (decimal i) (codes "]") (plain-name (decimal i) (decimal-name i (ltb-true i (10 ^ 18) h))) refl

plain-tails : (ts : List Tail) → list_all is_tail ts ≡ true → IsPlain (print_tails ts)
plain-tails [] h = refl
plain-tails (t ∷ ts) h =
    let parts = and_parts (is_tail t) (list_all is_tail ts) h in
    plain-append (print_tail t) (print_tails ts) (plain-tail t parts.0) (plain-tails ts parts.1)

-- a key, and one name
keyed : (key n : List ℕ) → IsPlain key → (is_name n && true) ≡ true → IsPlain (key ++ n)
keyed key n k h = plain-append key n k (plain-name n (and_parts (is_name n) true h).0)

-- a name between two keys
closed : (front n key : List ℕ) → IsPlain front → IsPlain key → (is_name n && true) ≡ true → IsPlain (front ++ (n ++ key))
closed front n key f k h = plain-append front (n ++ key) f (plain-append n key (plain-name n (and_parts (is_name n) true h).0) k)

-- two names, each behind a key
paired : (front m key n : List ℕ) → IsPlain front → IsPlain key → (is_name m && (is_name n && true)) ≡ true → IsPlain (front ++ (m ++ (key ++ n)))
paired front m key n f k h =
    let parts = and_parts (is_name m) (is_name n && true) h in
    plain-append front (m ++ (key ++ n)) f (plain-append m (key ++ n) (plain-name m parts.0) (keyed key n k parts.1))

plain-base : (b : Base) → list_all is_name (names_in b) ≡ true → IsPlain (print_base b)
plain-base base.Url h = refl
plain-base base.Method h = refl
plain-base base.StatusCode h = refl
plain-base (base.RequestHeader n) h = keyed (codes "$request.header.") n refl h
plain-base (base.RequestQuery n) h = keyed (codes "$request.query.") n refl h
plain-base (base.RequestPath n) h = keyed (codes "$request.path.") n refl h
plain-base base.RequestBody h = refl
plain-base (base.ResponseHeader n) h = keyed (codes "$response.header.") n refl h
plain-base base.ResponseBody h = refl
plain-base (base.Input n) h = keyed (codes "$inputs.") n refl h
plain-base (base.Output n) h = keyed (codes "$outputs.") n refl h
plain-base (base.StepOutput m n) h = paired (codes "$steps.") m (codes ".outputs.") n refl refl h
plain-base (base.WorkflowInput m n) h = paired (codes "$workflows.") m (codes ".inputs.") n refl refl h
plain-base (base.WorkflowOutput m n) h = paired (codes "$workflows.") m (codes ".outputs.") n refl refl h
plain-base (base.SourceUrl n) h = closed (codes "$sourceDescriptions.") n (codes ".url") refl refl h
plain-base (base.SourceName n) h = closed (codes "$sourceDescriptions.") n (codes ".name") refl refl h
plain-base (base.SourceKind n) h = closed (codes "$sourceDescriptions.") n (codes ".type") refl refl h

plain-printed : (e : Expr) → IsExpr e → IsPlain (printed e)
unfolding printed
plain-printed e is =
    plain-append (print_base e.base) (print_tails e.tail ++ print_pointer e.pointer) (plain-base e.base is.names)
    (plain-append (print_tails e.tail) (print_pointer e.pointer) (plain-tails e.tail is.tail) (plain-pointer e.pointer is.pointer))

opened : (front inside : List ℕ) → IsPlain (front ++ 123 ∷ inside) → ⊥
opened [] inside h = true≢false (sym h)
opened (x ∷ front) inside h = opened front inside (and_parts (is_other x) (list_all is_other (front ++ 123 ∷ inside)) h).1

pub reading-printed : (text : List ℕ) (e : Expr) → reading text ≡ Some e → text ≡ printed e
reading-printed text e h = (from_some (reading text) (Reads text) e (reading-sound text) h).1

pub plain-reads : (text : List ℕ) (e : Expr) → Reads text e → IsPlain text
plain-reads text e reads = subst IsPlain (sym reads.1) (plain-printed e reads.0)

pub reading-open : (front inside : List ℕ) → reading (front ++ 123 ∷ inside) ≡ None
reading-open front inside =
    let text = front ++ 123 ∷ inside in
    none_unless (reading text) (λ e h.
    let reads = from_some (reading text) (Reads text) e (reading-sound text) h in
    opened front inside (plain-reads text e reads))
