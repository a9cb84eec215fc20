-- Which numbers of units and thresholds there are, the share masks and their ranks. Assumes nothing.
use Rattle.std.specs.Prelude.{ℕ, ◌+◌, ◌-◌, ◌^◌, Bool, not, ◌&&◌, List, sum_by, filter, ◌==◌, bit_and, count_ones, nat_le, nat_lt, slice_index}
use Rattle.std.specs.List.{range_with_len, position_or_len, zip}
use Rattle.sharing.specs.Choose.{choose}

-- n units with threshold t can be dealt to
abbrev pub lawful : ℕ → ℕ → Bool
lawful n t = nat_le 2 t && (nat_le t n && nat_le n 8)

-- a group is a mask to which place p, counted from 1, adds 2 ^ (p - 1)
abbrev pub group_of : List ℕ → ℕ
group_of ps = sum_by (λ p. 2 ^ (p - 1)) ps

-- place p is in the group
abbrev pub member : ℕ → ℕ → Bool
member p group = nat_le 1 p && not (bit_and group (2 ^ (p - 1)) == 0)

-- the group has no place above n
abbrev pub is_within : ℕ → ℕ → Bool
is_within n group = nat_lt group (2 ^ n)

-- exactly `size` places, all of them within n
abbrev pub is_group_of : ℕ → ℕ → ℕ → Bool
is_group_of size n group = is_within n group && count_ones group == size

-- a mask below 2 ^ n with exactly n - t + 1 ones
abbrev pub is_share_mask : ℕ → ℕ → ℕ → Bool
is_share_mask n t mask = is_group_of (n - t + 1) n mask

-- the share masks in increasing order
unfoldable pub share_masks : ℕ → ℕ → List ℕ
share_masks n t = filter (is_share_mask n t) (range_with_len 0 (2 ^ n))

-- d, the number of shares of a dealing
abbrev pub shares : ℕ → ℕ → ℕ
shares n t = choose n (t - 1)

-- the mask that has a rank: the one at that position, counted from 0
abbrev pub mask_of : ℕ → ℕ → ℕ → ℕ
mask_of n t rank = slice_index (share_masks n t) rank

-- the rank of a mask: where it stands among the share masks, counted from 0
abbrev pub rank_of : ℕ → ℕ → ℕ → ℕ
rank_of n t mask = position_or_len (λ m. mask == m) (share_masks n t)

-- the bits p1 < p2 < .. at which a mask of eight bits has its ones
unfoldable pub bits_of : ℕ → List ℕ
bits_of mask = filter (λ p. member (p + 1) mask) (range_with_len 0 8)

-- C(p1, 1) + C(p2, 2) + .. over a mask's ones
unfoldable pub rank_sum : ℕ → ℕ
rank_sum mask = sum_by (λ p. choose p.0 p.1) (zip (bits_of mask) (range_with_len 1 8))
