-- To whom a rank falls in a quorum. Assumes nothing.
use Rattle.std.proofs.Common.{◌≡◌, ℕ, ◌^◌, ◌<◌, Bool, true, ◌&&◌, eqb, ltb, Some, get_or, arith}
use lib.Count.{ones}
use Rattle.std.proofs.lemmas.Bool.{and_parts, and_from, eqb-true, ltb-true}
use Rattle.sharing.specs.Masks.{lawful, member, shares, mask_of}
use Rattle.sharing.specs.Groups.{unit_has, places}
use Rattle.sharing.specs.Split.{is_quorum, first_common, falls_to}
use Rattle.sharing.specs.Laws.{Falls, FallsToOne}
use Rattle.sharing.proofs.Finite.{some_at, FoundBy, found_by}
use Rattle.sharing.proofs.Groups.{enough_has}
use Rattle.sharing.proofs.Members.{member_range}

module _ (n t quorum rank : ℕ) (h : lawful n t ≡ true) (is : is_quorum n t quorum ≡ true) (low : rank < shares n t) where
  below : quorum < 2 ^ n
  below = ltb-true quorum (2 ^ n) (and_parts (ltb quorum (2 ^ n)) (eqb (ones quorum) t) is).0

  size : ones quorum ≡ t
  size = eqb-true (ones quorum) t (and_parts (ltb quorum (2 ^ n)) (eqb (ones quorum) t) is).1

  abbrev shared : ℕ → Bool
  shared p = member p quorum && unit_has n t p rank

  found : (i : ℕ) → shared i ≡ true → FoundBy shared (first_common n quorum (mask_of n t rank)) i
  unfolding first_common
  found i is =
      let range = member_range n i quorum below (and_parts (member i quorum) _ is).0 in
      found_by shared 1 n i range.0 range.1 is

  some : (i : ℕ) × (shared i ≡ true)
  some = let at = some_at shared (places n) (enough_has n t quorum rank h below (omega (arith, size)) low) in (get_or (places n) at.0 0, at.2)

  pub common_found : first_common n quorum (mask_of n t rank) ≡ Some (falls_to n t quorum rank)
  common_found = (found some.0 some.1).0

  pub falls : Falls n t quorum rank (falls_to n t quorum rank)
  falls =
      let both = and_parts (member (falls_to n t quorum rank) quorum) _ (found some.0 some.1).1 in
      record { chosen = both.0; has = both.1; smallest = λ i in_quorum has. (found i (and_from (member i quorum) _ in_quorum has)).2 }

pub falls_to_one : FallsToOne
unfolding FallsToOne
falls_to_one n t quorum rank h is low =
    let one = falls n t quorum rank h is low in
    (one, λ p other. omega (arith, one.smallest p other.chosen other.has, other.smallest _ one.chosen one.has))
