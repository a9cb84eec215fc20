-- What holds of shares, groups and quorums, for every lawful number of units and threshold. Assumes nothing.
use Rattle.std.specs.Prelude.{◌≡◌, ℕ, ◌^◌, ◌<◌, ◌≤◌, true, false, ◌⊎◌, length, count_ones}
use Rattle.sharing.specs.Masks.{lawful, group_of, member, is_share_mask, share_masks, shares, mask_of, rank_of, rank_sum}
use Rattle.sharing.specs.Groups.{members, unit_has, group_has, ranks, group_ranks}
use Rattle.sharing.specs.Split.{is_quorum, falls_to}

-- a group within n is the mask of its members
unfoldable pub GroupOfMembers : Type 0
GroupOfMembers = (n group : ℕ) → n ≤ 8 → group < 2 ^ n → group_of (members n group) ≡ group

-- there are C(n, t - 1) share masks
unfoldable pub SharesCounted : Type 0
SharesCounted = (n t : ℕ) → lawful n t ≡ true → length (share_masks n t) ≡ shares n t

-- each rank is that of its mask, and each share mask is that of its rank
unfoldable pub RanksAndMasks : Type 0
RanksAndMasks =
    (n t : ℕ) → lawful n t ≡ true
    → ((rank : ℕ) → rank < shares n t → (is_share_mask n t (mask_of n t rank) ≡ true) × (rank_of n t (mask_of n t rank) ≡ rank))
    × ((mask : ℕ) → is_share_mask n t mask ≡ true → (rank_of n t mask < shares n t) × (mask_of n t (rank_of n t mask) ≡ mask))

-- a mask's position among the share masks is C(p1, 1) + C(p2, 2) + .., where p1 < p2 < .. are the bits of its ones
unfoldable pub RankIsSum : Type 0
RankIsSum = (n t mask : ℕ) → lawful n t ≡ true → is_share_mask n t mask ≡ true → rank_of n t mask ≡ rank_sum mask

-- a rank falls to place p in a quorum: p is a member that has the rank, and no smaller member has it
pub record Falls (n t quorum rank p : ℕ) : Type 0 where
  pub chosen : member p quorum ≡ true
  pub has : unit_has n t p rank ≡ true
  pub smallest : (i : ℕ) → member i quorum ≡ true → unit_has n t i rank ≡ true → p ≤ i

-- in a quorum each rank falls to exactly one member, who has it
unfoldable pub FallsToOne : Type 0
FallsToOne =
    (n t quorum rank : ℕ) → lawful n t ≡ true → is_quorum n t quorum ≡ true → rank < shares n t
    → Falls n t quorum rank (falls_to n t quorum rank) × ((p : ℕ) → Falls n t quorum rank p → p ≡ falls_to n t quorum rank)

-- a group of t or more units has every rank
unfoldable pub EnoughHaveAll : Type 0
EnoughHaveAll = (n t group : ℕ) → lawful n t ≡ true → group < 2 ^ n → t ≤ count_ones group → group_ranks n t group ≡ ranks n t

-- a smaller group lacks one
unfoldable pub FewLackOne : Type 0
FewLackOne =
    (n t group : ℕ) → lawful n t ≡ true → group < 2 ^ n → count_ones group < t
    → (rank : ℕ) × (rank < shares n t) × (group_has n t group rank ≡ false)

-- two groups hold equal shares exactly when they are the same group or each has at least t units
unfoldable pub EqualShares : Type 0
EqualShares =
    (n t a b : ℕ) → lawful n t ≡ true → a < 2 ^ n → b < 2 ^ n
    → (group_ranks n t a ≡ group_ranks n t b → (a ≡ b) ⊎ ((t ≤ count_ones a) × (t ≤ count_ones b)))
    × ((a ≡ b) ⊎ ((t ≤ count_ones a) × (t ≤ count_ones b)) → group_ranks n t a ≡ group_ranks n t b)
