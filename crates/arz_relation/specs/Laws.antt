-- Statements of the laws of asks and ends, where `told` is what is told of patterns.
use Rattle.std.specs.Prelude.{ℕ, ◌<◌, ◌≤◌, ◌≡◌, ◌≢◌, true, List, [], ◌∷◌, ◌++◌, Some, length, slice_get, false}
use Rattle.arz_flow.specs.declared.bundle.Bundle.{Bundle}
use Rattle.arz_world.specs.declared.Request.{Request}
use Rattle.arz_flow.specs.declared.answers.Ask.{Ask}
use Rattle.arz_flow.specs.declared.answers.Ask.TheVariants.{Send}
use Rattle.arz_flow.specs.declared.answers.Answer.{Answer}
use Rattle.arz_relation.specs.declared.ends.End.{End}
use Rattle.arz_relation.specs.declared.ends.End.TheVariants.{Out, Budget}
use Rattle.arz_relation.specs.Play.{Spent, sends_in, waits_in}
use Rattle.arz_relation.specs.Executions.{fits, execution, fuel, whole, pace, HasPace, IsPrefixOf, asks, end, Fitting, IsTold}
use Rattle.arz_relation.specs.Valid.{IsValid}
use Rattle.arz_relation.specs.Verdicts.{Patterned, asks_patterns}

-- The fuel suffices for each list of answers, and more of it gives the same play; the turns keep the pace.
abbrev pub OneEnd : Patterned → Type 0
OneEnd told = (b : Bundle) (r : List Answer) → (whole told b r ≢ Spent) × ((n : ℕ) → fuel b (length r) ≤ n → execution told b r n ≡ whole told b r) × ((n : ℕ) → execution told b r n ≢ Spent → execution told b r n ≡ whole told b r) × HasPace (pace b) (whole told b r)

-- Over answers that fit, the execution of a valid bundle has an end, where all that it needs of patterns is told.
abbrev pub HasEnd : Patterned → Type 0
HasEnd told = (b : Bundle) (r : List Answer) → IsValid b → Fitting told b r → IsTold told b r → (e : End) × (end told b r ≡ Some e)

-- There are as many asks as answers that fit.
abbrev pub AsManyAsks : Patterned → Type 0
AsManyAsks told = (b : Bundle) (r : List Answer) → Fitting told b r → length (asks told b r) ≡ length r

-- One more answer takes the ask that was next.
abbrev pub OneMore : Patterned → Type 0
OneMore told = (b : Bundle) (r : List Answer) (q : Ask) (x : Answer) → Fitting told b r → end told b r ≡ Some (Out q) → fits q x ≡ true →
    Fitting told b (r ++ x ∷ []) × (asks told b (r ++ x ∷ []) ≡ asks told b r ++ q ∷ [])

-- A proper prefix ends at the next ask: the one that the next answer of the whole list was given to.
abbrev pub PrefixFits : Patterned → Type 0
PrefixFits told = (b : Bundle) (p : List Answer) (x : Answer) (rest : List Answer) → Fitting told b (p ++ x ∷ rest) →
    Fitting told b p × ((q : Ask) × (end told b p ≡ Some (Out q)) × (slice_get (asks told b (p ++ x ∷ rest)) (length p) ≡ Some q) × (fits q x ≡ true) × IsPrefixOf (asks told b p ++ q ∷ []) (asks told b (p ++ x ∷ rest)))

-- No more requests are sent than the bundle lets be sent.
abbrev pub SendsKept : Patterned → Type 0
SendsKept told = (b : Bundle) (r : List Answer) → sends_in (asks told b r) ≤ b.max_attempts

-- Where a request is next, fewer were sent.
abbrev pub SendsLeft : Patterned → Type 0
SendsLeft told = (b : Bundle) (r : List Answer) (q : Request) → end told b r ≡ Some (Out (Send q)) → sends_in (asks told b r) < b.max_attempts

-- No more often than requests were sent was anything waited for.
abbrev pub WaitsKept : Patterned → Type 0
WaitsKept told = (b : Bundle) (r : List Answer) → waits_in (asks told b r) ≤ sends_in (asks told b r)

-- Where the execution ends for the budget, it tells the bundle's, and as many were sent.
abbrev pub BudgetSpent : Patterned → Type 0
BudgetSpent told = (b : Bundle) (r : List Answer) (n : ℕ) → end told b r ≡ Some (Budget n) → (n ≡ b.max_attempts) × (sends_in (asks told b r) ≡ b.max_attempts)

-- What is told over more answers was told over fewer.
abbrev pub ToldBefore : Patterned → Type 0
ToldBefore told = (b : Bundle) (r more : List Answer) → IsTold told b (r ++ more) → IsTold told b r

-- Where each criterion is a simple one, no pattern is needed.
abbrev pub NeedsNoPattern : Patterned → Type 0
NeedsNoPattern told = (b : Bundle) (r : List Answer) → asks_patterns b ≡ false → IsTold told b r
