-- What follows a step of a tail is text again.
use Rattle.std.proofs.Common.{◌≡◌, ℕ, ◌^◌, ◌<◌, true, nat_lt, List, [], ◌∷◌, ◌++◌, length, Some, IsUtf8, subst, arith, append_assoc, lit<}
use Rattle.std.specs.List.{list_all}
use Rattle.std.specs.Fmt.{decimal}
use Rattle.std.proofs.lemmas.Bool.{and_parts, ltb-true}
use Rattle.std.proofs.lemmas.Str.{IsUtf8-drop, IsCharBoundary-after_ascii}
use Rattle.arz_expr.specs.Grammar.{is_name_byte, is_name, is_tail, print_tail}
use Rattle.arz_expr.specs.Reading.{tail_at}
use Rattle.arz_expr.specs.declared.syntax.Tail.{Tail}
use Rattle.arz_expr.specs.declared.syntax.Tail.TheVariants.{Member, Index}
use Rattle.arz_expr.proofs.Options.{from_some}
use Rattle.arz_expr.proofs.Numbers.{decimal-name}
use Rattle.arz_expr.proofs.Sound.{IsTailOf, tail-sound}

skip-byte : (b : ℕ) (text : List ℕ) → b < 128 → IsUtf8 (b ∷ text) → IsUtf8 text
skip-byte b text lt u = IsUtf8-drop (b ∷ text) 1 u (IsCharBoundary-after_ascii (b ∷ text) 0 u (omega arith) lt)

name-ascii : (b : ℕ) → is_name_byte b ≡ true → b < 128
name-ascii b h = grind arith

skip-name : (name rest : List ℕ) → list_all is_name_byte name ≡ true → IsUtf8 (name ++ rest) → IsUtf8 rest
skip-name [] rest h u = u
skip-name (b ∷ name) rest h u =
    let parts = and_parts (is_name_byte b) (list_all is_name_byte name) h in
    skip-name name rest parts.1 (skip-byte b (name ++ rest) (name-ascii b parts.0) u)

run : (name : List ℕ) → is_name name ≡ true → list_all is_name_byte name ≡ true
run name h = (and_parts (nat_lt 0 (length name)) (list_all is_name_byte name) h).1

skip-tail : (t : Tail) (rest : List ℕ) → is_tail t ≡ true → IsUtf8 (print_tail t ++ rest) → IsUtf8 rest
skip-tail (Member n) rest is u = skip-name n rest (run n is) (skip-byte 46 (n ++ rest) (lit< tt) u)
skip-tail (Index i) rest is u =
    let inside = skip-byte 91 ((decimal i ++ 93 ∷ []) ++ rest) (lit< tt) u in
    let closing = skip-name (decimal i) (93 ∷ rest) (run (decimal i) (decimal-name i (ltb-true i (10 ^ 18) is))) (subst IsUtf8 (append_assoc (decimal i) (93 ∷ []) rest) inside) in
    skip-byte 93 rest (lit< tt) closing

pub rest-text : (text : List ℕ) (t : Tail × List ℕ) → IsUtf8 text → tail_at text ≡ Some t → IsUtf8 t.1
rest-text text t u e =
    let is = from_some (tail_at text) (IsTailOf text) t (tail-sound text) e in
    skip-tail t.0 t.1 is.0 (subst IsUtf8 is.1 u)
