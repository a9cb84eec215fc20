-- C(a, b), the number of ways to choose b of a things. Assumes nothing.
use Rattle.std.specs.Prelude.{ℕ, zero, suc, ◌+◌}

unfoldable pub choose : ℕ → ℕ → ℕ
choose a zero = 1
choose zero (suc b) = 0
choose (suc a) (suc b) = choose a b + choose a (suc b)
