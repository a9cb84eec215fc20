-- The constants of SHA-256, from roots of the first primes. Assumes nothing.
use Rattle.std.specs.Prelude.{ℕ, zero, suc, ◌+◌, ◌-◌, ◌*◌, ◌%◌, ◌^◌, Bool, cond, not, ◌&&◌, List, map, take, filter, ◌==◌, nat_le}
use Rattle.std.specs.List.{range_with_len, list_all}

-- a number from 2 on that no number from 2 to the one below it divides
unfoldable pub is_prime : ℕ → Bool
is_prime n = nat_le 2 n && list_all (λ d. not (n % d == 0)) (range_with_len 2 (n - 2))

-- the primes up to 311, which are the first 64
unfoldable pub primes : List ℕ
primes = filter is_prime (range_with_len 0 312)

-- y with one more bit, where the number then passes the test
unfoldable pub raised : (ℕ → Bool) → ℕ → ℕ → ℕ
raised f bit y = cond (f (y + bit)) (y + bit) y

-- the greatest number below 2 ^ 37 that passes a test which fails from some number on: its n highest bits, one by one
unfoldable pub greatest : (ℕ → Bool) → ℕ → ℕ
greatest f zero = 0
greatest f (suc n) = raised f (2 ^ (36 - n)) (greatest f n)

-- the greatest y with y³ ≤ x, and the greatest with y² ≤ x, where it is below 2 ^ 37
unfoldable pub cube_root : ℕ → ℕ
cube_root x = greatest (λ y. nat_le (y ^ 3) x) 37

unfoldable pub square_root : ℕ → ℕ
square_root x = greatest (λ y. nat_le (y ^ 2) x) 37

-- the first 32 bits of the fractions of the primes' cube roots
unfoldable pub round_constants : List ℕ
round_constants = map (λ p. cube_root (p * 2 ^ 96) % 2 ^ 32) primes

-- and of the square roots of the first eight: the hash before the first block
unfoldable pub initial : List ℕ
initial = map (λ p. square_root (p * 2 ^ 64) % 2 ^ 32) (take 8 primes)
