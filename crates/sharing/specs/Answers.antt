-- What each call answers, at every input. Assumes nothing.
use Rattle.std.specs.Prelude.{ℕ, ◌*◌, Bool, cond, ◌&&◌, Ok, Err, Option, Result, nat_le, nat_lt}
use Rattle.std.specs.Bool.{then_some}
use Rattle.sharing.specs.Choose.{choose}
use Rattle.sharing.specs.Masks.{lawful, is_within, is_share_mask, shares, mask_of, rank_of}
use Rattle.sharing.specs.Groups.{unit_has, equal_shares}
use Rattle.sharing.specs.Split.{is_quorum, falls_to}
use Rattle.sharing.specs.declared.refusal.Refusal.{Refusal}
use Rattle.sharing.specs.declared.refusal.Refusal.TheVariants.{Parameters, Rank, Mask, Group, Quorum}

-- taken with a value where the test passes, else refused
abbrev pub provided : {X : Type 0} → Bool → X → Refusal → Result X Refusal
provided test value refusal = cond test (Ok value) (Err refusal)

-- the number of ways to choose b of at most 8 things
abbrev pub chosen_answer : ℕ → ℕ → Result ℕ Refusal
chosen_answer a b = provided (nat_le a 8) (choose a b) Parameters

-- a scheme for n units with threshold t
abbrev pub scheme_answer : ℕ → ℕ → Result (ℕ × ℕ) Refusal
scheme_answer n t = provided (lawful n t) (n, t) Parameters

abbrev pub mask_answer : ℕ → ℕ → ℕ → Result ℕ Refusal
mask_answer n t rank = provided (nat_lt rank (shares n t)) (mask_of n t rank) Rank

abbrev pub rank_answer : ℕ → ℕ → ℕ → Result ℕ Refusal
rank_answer n t mask = provided (is_share_mask n t mask) (rank_of n t mask) Mask

-- where a unit's share of a rank begins in a dealing, 16 bytes for each rank by rising rank
abbrev pub share_at : ℕ → ℕ → ℕ → ℕ → Option ℕ
share_at n t p rank = then_some (unit_has n t p rank) (16 * rank)

abbrev pub falls_answer : ℕ → ℕ → ℕ → ℕ → Result ℕ Refusal
falls_answer n t q rank = cond (is_quorum n t q) (provided (nat_lt rank (shares n t)) (falls_to n t q rank) Rank) (Err Quorum)

abbrev pub equal_answer : ℕ → ℕ → ℕ → ℕ → Result Bool Refusal
equal_answer n t a b = provided (is_within n a && is_within n b) (equal_shares n t a b) Group
