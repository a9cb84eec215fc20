-- Ranks and masks belong to each other, and the rank is the sum of binomials: one computed test of each. Assumes nothing.
use Rattle.std.proofs.Common.{◌≡◌, ℕ, ◌^◌, ◌<◌, ◌≤◌, Bool, true, ◌&&◌, eqb, ltb, leb, List, length, get_or, refl, ap, ◌∙◌, arith}
use lib.Count.{ones, ones_in}
use Rattle.std.specs.List.{position_or_len, range_with_len, zip, list_all}
use Rattle.std.proofs.lemmas.Bool.{and_parts, eqb-true, leb-true, ltb-true}
use Rattle.std.proofs.lemmas.List.Sums.{AllPass-from_list_all}
use Rattle.sharing.specs.Choose.{choose}
use Rattle.sharing.specs.Masks.{lawful, is_share_mask, share_masks, shares, mask_of, rank_of, bits_of, rank_sum}
use Rattle.sharing.specs.Laws.{RankIsSum, RanksAndMasks}
use Rattle.sharing.proofs.Finite.{all_below, below_at}
use Rattle.sharing.proofs.Order.{shares_few}
use Rattle.sharing.proofs.Schemes.{every_scheme, scheme_at, each_group, group_at}

-- where a mask stands in the list ms
abbrev place : List ℕ → ℕ → ℕ
place ms m = position_or_len (eqb m) ms

-- of a share mask in the list ms
of_mask : ℕ → ℕ → List ℕ → ℕ → Bool
of_mask n t ms m = eqb (place ms m) (rank_sum m) && (ltb (place ms m) (shares n t) && eqb (get_or ms (place ms m) 0) m)

masks_pass : every_scheme (each_group is_share_mask of_mask) ≡ true
unfolding each_group of_mask every_scheme all_below choose rank_sum bits_of share_masks ones ones_in
masks_pass = refl

mask_passes : (n t mask : ℕ) → lawful n t ≡ true → is_share_mask n t mask ≡ true → of_mask n t (share_masks n t) mask ≡ true
mask_passes n t mask h is = group_at is_share_mask of_mask masks_pass n t mask h (ltb-true mask (2 ^ n) (and_parts (ltb mask (2 ^ n)) _ is).0) is

pub rank_is_sum : RankIsSum
unfolding RankIsSum of_mask
rank_is_sum n t mask h is = eqb-true _ _ (and_parts (eqb (rank_of n t mask) (rank_sum mask)) _ (mask_passes n t mask h is)).0

-- of a rank
of_rank : ℕ → ℕ → List ℕ → ℕ → Bool
of_rank n t ms rank = is_share_mask n t (get_or ms rank 0) && eqb (place ms (get_or ms rank 0)) rank

ranks_pass : (n t : ℕ) → lawful n t ≡ true → all_below (of_rank n t (share_masks n t)) (shares n t) ≡ true
unfolding of_rank every_scheme all_below choose share_masks ones ones_in
ranks_pass = scheme_at (λ n t. all_below (of_rank n t (share_masks n t)) (shares n t)) refl

pub ranks_and_masks : RanksAndMasks
unfolding RanksAndMasks of_mask of_rank
ranks_and_masks n t h = (
  λ rank low.
      let both = and_parts (is_share_mask n t (mask_of n t rank)) _ (below_at (of_rank n t (share_masks n t)) (shares n t) rank (ranks_pass n t h) low) in
      (both.0, eqb-true _ _ both.1),
  λ mask is.
      let all = and_parts (eqb (rank_of n t mask) (rank_sum mask)) _ (mask_passes n t mask h is) in
      let both = and_parts (ltb (rank_of n t mask) (shares n t)) _ all.1 in
      (ltb-true _ _ both.0, eqb-true _ _ both.1),
)

-- the bits of a mask's ones, each with its number
abbrev pub pairs : ℕ → List (ℕ × ℕ)
pairs mask = zip (bits_of mask) (range_with_len 1 8)

low_pair : ℕ × ℕ → Bool
low_pair p = leb p.0 8 && leb p.1 8

pairs_pass : all_below (λ mask. list_all low_pair (pairs mask)) 256 ≡ true
unfolding all_below bits_of low_pair
pairs_pass = refl

-- no table entry beyond the eighth row or column is summed up
pub pair_low : (mask k : ℕ) (p : ℕ × ℕ) → mask < 256 → k < length (pairs mask) → p ≡ get_or (pairs mask) k p → (p.0 ≤ 8) × (p.1 ≤ 8)
unfolding low_pair
pair_low mask k p byte inside at =
    let low : low_pair p ≡ true = ap low_pair at ∙ AllPass-from_list_all low_pair (pairs mask) (below_at (λ m. list_all low_pair (pairs m)) 256 mask pairs_pass byte) k p inside in
    let both = and_parts (leb p.0 8) (leb p.1 8) low in
    (leb-true p.0 8 both.0, leb-true p.1 8 both.1)

pub sum_few : (n t mask : ℕ) → lawful n t ≡ true → is_share_mask n t mask ≡ true → rank_sum mask < 70
unfolding RankIsSum RanksAndMasks
sum_few n t mask h is = omega (arith, rank_is_sum n t mask h is, ((ranks_and_masks n t h).1 mask is).0, shares_few n t h)
