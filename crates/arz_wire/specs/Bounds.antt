-- What a number of so many bytes more stays below.
use Rattle.std.specs.Prelude.{ℕ, zero, suc, ◌*◌}

abbrev pub bound : ℕ → ℕ
bound zero = 256
bound (suc more) = 128 * bound more
