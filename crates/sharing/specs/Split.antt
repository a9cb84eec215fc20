-- Quorums, and to whom a rank falls in one. Assumes nothing.
use Rattle.std.specs.Prelude.{ℕ, Bool, ◌&&◌, Option, unwrap_or, List, filter, find, nat_eq}
use Rattle.sharing.specs.Masks.{member, is_group_of, mask_of}
use Rattle.sharing.specs.Groups.{places, ranks}

-- exactly t places within n
abbrev pub is_quorum : ℕ → ℕ → ℕ → Bool
is_quorum n t q = is_group_of t n q

-- the smallest place of 1 to n that is in both groups
unfoldable pub first_common : ℕ → ℕ → ℕ → Option ℕ
first_common n a b = find (λ p. member p a && member p b) (places n)

-- the smallest place that is both in the quorum and in the rank's mask, or 0 where there is none
abbrev pub falls_to : ℕ → ℕ → ℕ → ℕ → ℕ
falls_to n t q rank = unwrap_or (first_common n q (mask_of n t rank)) 0

-- the ranks that fall to place p
abbrev pub falling_to : ℕ → ℕ → ℕ → ℕ → List ℕ
falling_to n t q p = filter (λ rank. nat_eq (falls_to n t q rank) p) (ranks n t)
