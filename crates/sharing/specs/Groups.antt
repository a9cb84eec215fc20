-- Which ranks a unit and a group have. Assumes nothing.
use Rattle.std.specs.Prelude.{ℕ, Bool, ◌&&◌, List, filter}
use Rattle.std.specs.List.{range_with_len, list_any}
use Rattle.std.specs.Str.{bytes_eq as same_list}
use Rattle.sharing.specs.Masks.{member, shares, mask_of}

-- a unit has the share of a rank if its place is in that rank's mask
abbrev pub unit_has : ℕ → ℕ → ℕ → ℕ → Bool
unit_has n t p rank = member p (mask_of n t rank)

-- the places 1 to n
abbrev pub places : ℕ → List ℕ
places n = range_with_len 1 n

-- the ranks 0 to d - 1
abbrev pub ranks : ℕ → ℕ → List ℕ
ranks n t = range_with_len 0 (shares n t)

-- a group has a rank if one of its units has it
abbrev pub group_has : ℕ → ℕ → ℕ → ℕ → Bool
group_has n t group rank = list_any (λ p. member p group && unit_has n t p rank) (places n)

-- the places of a group within n
abbrev pub members : ℕ → ℕ → List ℕ
members n group = filter (λ p. member p group) (places n)

-- the ranks that a unit has, and those that a group's units have between them
abbrev pub unit_ranks : ℕ → ℕ → ℕ → List ℕ
unit_ranks n t p = filter (unit_has n t p) (ranks n t)

abbrev pub group_ranks : ℕ → ℕ → ℕ → List ℕ
group_ranks n t group = filter (group_has n t group) (ranks n t)

-- two groups hold equal shares if their units have the same ranks between them
abbrev pub equal_shares : ℕ → ℕ → ℕ → ℕ → Bool
equal_shares n t a b = same_list (group_ranks n t a) (group_ranks n t b)
