-- The shorter forms of choice and majority. Assumes nothing.
use Rattle.std.proofs.Common.{◌≡◌, ℕ, ◌-◌, ◌^◌, ◌<◌, sym, ap, ◌∙◌, ap₂, mod-eq_of_lt}
use lib.Bits.{bit_and, bit_xor, and_comm, and_mask, and_self, xor_comm}
use Rattle.blocks.proofs.Bits.{and_xor, xor_and, xor_cancel, xor_swap}
use Rattle.sha256.specs.Words.{choice, majority}

-- z with the bits of x and z together taken out has the bits of z where x has zeros
without : (x z : ℕ) → z < 2 ^ 32 → bit_xor (bit_and x z) z ≡ bit_and (bit_xor x (2 ^ 32 - 1)) z
without x z h =
    ap (bit_xor (bit_and x z)) (sym (and_comm (2 ^ 32 - 1) z ∙ and_mask z 32 ∙ mod-eq_of_lt h))
    ∙ sym (xor_and x (2 ^ 32 - 1) z)

pub choice_is : (x y z : ℕ) → z < 2 ^ 32 → bit_xor z (bit_and x (bit_xor y z)) ≡ choice x y z
choice_is x y z h =
    ap (bit_xor z) (and_xor x y z) ∙ xor_swap z (bit_and x y) (bit_and x z)
    ∙ ap (bit_xor (bit_and x y)) (xor_comm z (bit_and x z) ∙ without x z h)

pub majority_is : (x y z : ℕ) → bit_xor y (bit_and (bit_xor x y) (bit_xor y z)) ≡ majority x y z
majority_is x y z =
    ap (bit_xor y) (xor_and x y (bit_xor y z) ∙ ap₂ bit_xor (and_xor x y z) (and_xor y y z ∙ ap (λ v. bit_xor v (bit_and y z)) (and_self y)))
    ∙ xor_swap y (bit_xor (bit_and x y) (bit_and x z)) (bit_xor y (bit_and y z))
    ∙ ap (bit_xor (bit_xor (bit_and x y) (bit_and x z))) (xor_cancel y (bit_and y z))
