-- Exclusive or and conjunction of bits. Assumes nothing.
use Rattle.std.proofs.Common.{◌≡◌, ℕ, zero, suc, ◌+◌, ◌*◌, ◌/◌, ◌%◌, ◌<◌, sym, refl, ap, ◌∙◌, ap₂, mod-lt, div-add-mod', arith}
use lib.Arith.{bin_ind}
use lib.Bits.{bit_and, bit_xor, and_comm, and_shr, and_mod, xor_assoc, xor_comm, xor_self, xor_shr, xor_mod}

by_halves : (m n : ℕ) → m / 2 ≡ n / 2 → m % 2 ≡ n % 2 → m ≡ n
by_halves m n p q = sym (div-add-mod' m 2) ∙ ap₂ (λ (x y : ℕ). x * 2 + y) p q ∙ div-add-mod' n 2

digit_and_xor : (x y z : ℕ) → x < 2 → y < 2 → z < 2 → bit_and x (bit_xor y z) ≡ bit_xor (bit_and x y) (bit_and x z)
digit_and_xor zero y z hx hy hz = refl
digit_and_xor (suc zero) zero z hx hy hz = refl
digit_and_xor (suc zero) (suc zero) zero hx hy hz = refl
digit_and_xor (suc zero) (suc zero) (suc zero) hx hy hz = refl
digit_and_xor (suc zero) (suc zero) (suc (suc z)) hx hy hz = absurd (omega arith)
digit_and_xor (suc zero) (suc (suc y)) z hx hy hz = absurd (omega arith)
digit_and_xor (suc (suc x)) y z hx hy hz = absurd (omega arith)

pub and_xor : (a b c : ℕ) → bit_and a (bit_xor b c) ≡ bit_xor (bit_and a b) (bit_and a c)
and_xor =
    bin_ind (λ (n : ℕ). (b c : ℕ) → bit_and n (bit_xor b c) ≡ bit_xor (bit_and n b) (bit_and n c)) (λ b c. refl)
    (λ n ih b c. by_halves _ _
    (and_shr n (bit_xor b c) 1 ∙ ap (bit_and (n / 2)) (xor_shr b c 1) ∙ ih (b / 2) (c / 2)
    ∙ sym (xor_shr (bit_and n b) (bit_and n c) 1 ∙ ap₂ bit_xor (and_shr n b 1) (and_shr n c 1)))
    (and_mod n (bit_xor b c) 1 ∙ ap (bit_and (n % 2)) (xor_mod b c 1)
    ∙ digit_and_xor (n % 2) (b % 2) (c % 2) (mod-lt n (omega arith)) (mod-lt b (omega arith)) (mod-lt c (omega arith))
    ∙ sym (xor_mod (bit_and n b) (bit_and n c) 1 ∙ ap₂ bit_xor (and_mod n b 1) (and_mod n c 1))))

-- of two equal terms nothing is left
pub xor_cancel : (a b : ℕ) → bit_xor a (bit_xor a b) ≡ b
xor_cancel a b = sym (xor_assoc a a b) ∙ ap (λ x. bit_xor x b) (xor_self a)

pub xor_swap : (a b c : ℕ) → bit_xor a (bit_xor b c) ≡ bit_xor b (bit_xor a c)
xor_swap a b c = sym (xor_assoc a b c) ∙ ap (λ x. bit_xor x c) (xor_comm a b) ∙ xor_assoc b a c

pub xor_and : (a b c : ℕ) → bit_and (bit_xor a b) c ≡ bit_xor (bit_and a c) (bit_and b c)
xor_and a b c = and_comm (bit_xor a b) c ∙ and_xor c a b ∙ ap₂ bit_xor (and_comm c a) (and_comm c b)
