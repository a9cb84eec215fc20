-- Worked examples, most of them for 5 units with threshold 3. Assumes nothing.
use Rattle.std.specs.Prelude.{◌≡◌, ℕ, not, [], ◌∷◌, filter}
use Rattle.sharing.specs.Masks.{group_of, shares, rank_of}
use Rattle.sharing.specs.Groups.{ranks, unit_ranks, group_has}
use Rattle.sharing.specs.Split.{falling_to}

-- the units 1 and 2, and the quorum of the units 2, 3 and 5
abbrev pub pair : ℕ
pair = group_of (1 ∷ 2 ∷ [])

abbrev pub trio : ℕ
trio = group_of (2 ∷ 3 ∷ 5 ∷ [])

pub record Examples : Type 0 where
  pub shares_of_five : shares 5 3 ≡ 10
  pub shares_of_eight : shares 8 5 ≡ 70
  pub rank_of_mask : rank_of 5 3 26 ≡ 8
  pub ranks_of_unit : unit_ranks 5 3 1 ≡ 0 ∷ 1 ∷ 2 ∷ 4 ∷ 5 ∷ 7 ∷ []
  pub lacked_by_pair : filter (λ rank. not (group_has 5 3 pair rank)) (ranks 5 3) ≡ 9 ∷ []
  pub to_second : falling_to 5 3 trio 2 ≡ 0 ∷ 1 ∷ 3 ∷ 4 ∷ 6 ∷ 8 ∷ []
  pub to_third : falling_to 5 3 trio 3 ≡ 2 ∷ 5 ∷ 9 ∷ []
  pub to_fifth : falling_to 5 3 trio 5 ≡ 7 ∷ []
