-- The roots are the greatest, by one test over the primes. Assumes nothing.
use Rattle.std.proofs.Common.{◌≡◌, ℕ, ◌+◌, ◌*◌, ◌^◌, ◌<◌, Bool, true, ◌&&◌, ltb, leb, length, refl, arith}
use Rattle.std.proofs.lemmas.Bool.{and_parts, leb-true, ltb-true}
use Rattle.std.specs.List.{list_all}
use Rattle.std.proofs.lemmas.List.Sums.{AllPass-from_list_all}
use Rattle.sha256.specs.Primes.{is_prime, primes, raised, greatest, cube_root, square_root}
use Rattle.sha256.specs.Laws.{Root, RootsGreatest, PrimesCounted}

is_root : ℕ → ℕ → ℕ → Bool
is_root k x y = leb (y ^ k) x && ltb x ((y + 1) ^ k)

root_is : (k x y : ℕ) → is_root k x y ≡ true → Root k x y
unfolding is_root
root_is k x y t =
    let parts = and_parts (leb (y ^ k) x) (ltb x ((y + 1) ^ k)) t in
    record { low = leb-true _ _ parts.0; high = ltb-true _ _ parts.1 }

pub primes_counted : PrimesCounted
unfolding PrimesCounted is_prime primes
primes_counted = refl

cubes_test : list_all (λ p. is_root 3 (p * 2 ^ 96) (cube_root (p * 2 ^ 96))) primes ≡ true
unfolding is_prime primes raised greatest cube_root is_root
cubes_test = refl

squares_test : list_all (λ p. is_root 2 (p * 2 ^ 64) (square_root (p * 2 ^ 64))) primes ≡ true
unfolding is_prime primes raised greatest square_root is_root
squares_test = refl

many : (i : ℕ) → i < 64 → i < length primes
unfolding PrimesCounted
many i h = omega (arith, primes_counted)

pub roots_greatest : RootsGreatest
unfolding RootsGreatest
roots_greatest = (
  λ i h. root_is 3 _ _ (AllPass-from_list_all (λ p. is_root 3 (p * 2 ^ 96) (cube_root (p * 2 ^ 96))) primes cubes_test i 0 (many i h)),
  λ i h. root_is 2 _ _ (AllPass-from_list_all (λ p. is_root 2 (p * 2 ^ 64) (square_root (p * 2 ^ 64))) primes squares_test i 0 (many i (omega arith))),
)
