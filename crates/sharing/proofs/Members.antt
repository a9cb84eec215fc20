-- The places of a group within n. Assumes nothing.
use Rattle.std.proofs.Common.{◌≡◌, ℕ, ◌+◌, ◌-◌, ◌^◌, ◌<◌, ◌≤◌, true, false, leb, ◌⊎◌, sym, ap, ◌∙◌, ⊎_elim, one-mul, arith, pow_mono}
use lib.Bits.{bit_and, and_comm, and_shifted}
use Rattle.std.proofs.lemmas.Bool.{both_ways, cases_lt, and_parts, and_left, and_right, lt-leb, leb-true, eq-eqb, not_from_true}
use Rattle.sharing.specs.Masks.{member}

-- a place above n is in no group within n
pub past_group : (n p group : ℕ) → group < 2 ^ n → n < p → member p group ≡ false
past_group n p group low past =
    let high : n ≤ p - 1 = omega arith in
    let none : bit_and group (2 ^ (p - 1)) ≡ 0 =
    and_comm group (2 ^ (p - 1)) ∙ ap (λ x. bit_and x group) (sym (one-mul (2 ^ (p - 1)))) ∙ and_shifted 1 (p - 1) group (omega (arith, pow_mono {i = n} {j = p - 1} high)) in
    and_right (leb 1 p) _ (not_from_true _ (eq-eqb _ 0 none))

pub member_range : (n p group : ℕ) → group < 2 ^ n → member p group ≡ true → (1 ≤ p) × (p < 1 + n)
member_range n p group low is = (
  leb-true 1 p (and_parts (leb 1 p) _ is).0,
  ⊎_elim (λ past. absurd (both_ways (member p group) (past_group n p group low past) is)) (λ within. omega arith) (cases_lt n p),
)

-- the same of a byte, and of the place 0
pub past_byte : (p group : ℕ) → group < 256 → (p < 1) ⊎ (8 < p) → member p group ≡ false
past_byte p group byte = ⊎_elim (λ low. and_left (leb 1 p) _ (lt-leb 1 p low)) (past_group 8 p group byte)
