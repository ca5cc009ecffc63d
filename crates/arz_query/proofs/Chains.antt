-- Chains of tests.
use Rattle.std.proofs.Common.{◌≡◌, ℕ, List, length, Some, None, option_and_then, ap}
use Rattle.arz_query.specs.Words.{Read, Reader}
use Rattle.arz_query.specs.Typing.{as_test}
use Rattle.arz_query.specs.Reading.{tested}
use Rattle.arz_query.specs.declared.terms.Term.{Term}

pub tested_none : (reader : Reader Term) (s : List ℕ) → reader s ≡ None → tested reader s ≡ None
unfolding tested
tested_none reader s e = ap (option_and_then (as_test (length s))) e

pub tested_some : (reader : Reader Term) (s : List ℕ) (one : Read Term) → reader s ≡ Some one → tested reader s ≡ as_test (length s) one
unfolding tested
tested_some reader s one e = ap (option_and_then (as_test (length s))) e
