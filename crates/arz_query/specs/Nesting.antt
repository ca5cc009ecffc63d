-- How many of `[` and `(` are open at once, outside quoted texts.
use Rattle.std.specs.Prelude.{ℕ, ◌+◌, ◌-◌, ◌==◌, ◌||◌, nat_lt, true, false, List, [], ◌∷◌, if◌then◌else◌, Option, Some, None}
use Rattle.arz_query.specs.declared.nesting.Count.{Count}

abbrev pub at_start : Count
at_start = record { quote = None; passes_over = false; open_now = 0 }

-- inside a quoted text that began with q
abbrev pub quoted_step : ℕ → Count → ℕ → Count
quoted_step q c b =
    if c.passes_over then record { quote = Some q; passes_over = false; open_now = c.open_now }
    else if b == 92 then record { quote = Some q; passes_over = true; open_now = c.open_now }
    else if b == q then record { quote = None; passes_over = false; open_now = c.open_now }
    else c

-- outside quoted texts
abbrev pub plain_step : Count → ℕ → Count
plain_step c b =
    if b == 39 || b == 34 then record { quote = Some b; passes_over = false; open_now = c.open_now }
    else if b == 91 || b == 40 then record { quote = None; passes_over = false; open_now = c.open_now + 1 }
    else if b == 93 || b == 41 then record { quote = None; passes_over = false; open_now = c.open_now - 1 }
    else c

abbrev pub step_by : Option ℕ → Count → ℕ → Count
step_by None c b = plain_step c b
step_by (Some q) c b = quoted_step q c b

unfoldable pub step : Count → ℕ → Count
step c b = step_by c.quote c b

-- the offset of the first character that makes 65 open, from one where so many are
abbrev pub too_nested_from : ℕ → Count → List ℕ → Option ℕ
too_nested_from at c [] = None
too_nested_from at c (b ∷ s) = if nat_lt 64 (step c b).open_now then Some at else too_nested_from (at + 1) (step c b) s

abbrev pub too_nested : List ℕ → Option ℕ
too_nested text = too_nested_from 0 at_start text
