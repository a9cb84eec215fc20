-- Binomials: past the diagonal they are 0, and a table that passes one test has them all. Assumes nothing.
use Rattle.std.proofs.Common.{◌≡◌, ℕ, zero, suc, ◌+◌, ◌<◌, ◌≤◌, Bool, true, eqb, refl, ap₂, arith}
use Rattle.std.proofs.lemmas.Bool.{eqb-true}
use Rattle.sharing.specs.Choose.{choose}
use Rattle.sharing.proofs.Finite.{all_below, below_at}

pub choose_past : (a b : ℕ) → a < b → choose a b ≡ 0
unfolding choose
choose_past a zero h = absurd (omega arith)
choose_past zero (suc b) h = refl
choose_past (suc a) (suc b) h = ap₂ (λ x y. x + y) (choose_past a b (omega arith)) (choose_past a (suc b) (omega arith))

row : (ℕ → ℕ → ℕ) → ℕ → Bool
row f a = all_below (λ b. eqb (f a b) (choose a b)) 9

unfoldable pub triangle : (ℕ → ℕ → ℕ) → Bool
unfolding row
triangle f = all_below (row f) 9

pub table_is : (f : ℕ → ℕ → ℕ) → triangle f ≡ true → (a b : ℕ) → a ≤ 8 → b ≤ 8 → f a b ≡ choose a b
unfolding row triangle
table_is f t a b p q = eqb-true _ _ (below_at _ 9 b (below_at (row f) 9 a t (omega arith)) (omega arith))
