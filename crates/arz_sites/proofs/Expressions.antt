-- What reading an expression gives is what the definition reads.
use Rattle.std.proofs.Common.{◌≡◌, ℕ, List, Option, Some, None, IfSome, sym}
use Rattle.arz_expr.specs.Grammar.{Reads}
use Rattle.arz_expr.specs.Reading.{reading}
use Rattle.arz_expr.specs.declared.syntax.Expr.{Expr}
use Rattle.arz_expr.proofs.Endings.{reading-sound, reading-complete}
use Rattle.arz_expr.proofs.Options.{none_unless, from_some}

pub is_reading : (text : List ℕ) (r : Option Expr) → IfSome r (Reads text) → ((e : Expr) → Reads text e → r ≡ Some e) → r ≡ reading text
is_reading text None sound complete =
    sym (none_unless (reading text) (λ e h. let k : None ≡ Some e = complete e (from_some (reading text) (Reads text) e (reading-sound text) h) in cc))
is_reading text (Some e) sound complete = sym (reading-complete text e sound)
