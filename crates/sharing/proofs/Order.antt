-- The share masks in their order. Assumes nothing.
use Rattle.std.proofs.Common.{◌≡◌, ℕ, ◌+◌, ◌-◌, ◌^◌, ◌<◌, ◌≤◌, Bool, true, false, ◌&&◌, ◌==◌, eqb, leb, List, length, get_or, set, take, replicate, filter, length-set, refl, ◌∙◌, ⊎_elim, arith}
use lib.Count.{ones, ones_in}
use Rattle.std.specs.List.{range_with_len, enumerate_from, list_all}
use Rattle.std.specs.Str.{bytes_eq}
use Rattle.std.proofs.lemmas.Bool.{and_parts, and_right, cases_lt, eqb-true, leb-true}
use Rattle.std.proofs.lemmas.List.{get_or_past, get_or-replicate}
use Rattle.std.proofs.lemmas.List.Sums.{AllPass-from_list_all}
use Rattle.std.proofs.lemmas.Grind.{common_steps}
use Rattle.std.proofs.lemmas.List.FromFn.{length-enumerate_from, get_or-enumerate_from}
use Rattle.std.proofs.lemmas.Slice.Eq.{bytes_eq-Decides}
use Rattle.sharing.specs.Choose.{choose}
use Rattle.sharing.specs.Masks.{lawful, share_masks, shares}
use Rattle.sharing.specs.Groups.{unit_has}
use Rattle.sharing.specs.Laws.{SharesCounted}
use Rattle.sharing.proofs.Finite.{all_below}
use Rattle.sharing.proofs.Schemes.{every_scheme, scheme_at}

counts : ℕ → ℕ → Bool
counts n t = eqb (length (share_masks n t)) (shares n t) && leb (shares n t) 70

counted : (n t : ℕ) → lawful n t ≡ true → counts n t ≡ true
unfolding counts every_scheme all_below choose share_masks ones ones_in
counted = scheme_at counts refl

-- there are d share masks, at most 70
pub length_masks : (n t : ℕ) → lawful n t ≡ true → length (share_masks n t) ≡ shares n t
unfolding counts
length_masks n t h = eqb-true _ _ (and_parts _ _ (counted n t h)).0

pub shares_few : (n t : ℕ) → lawful n t ≡ true → shares n t ≤ 70
unfolding counts
shares_few n t h = leb-true _ _ (and_parts _ _ (counted n t h)).1

pub shares_counted : SharesCounted
unfolding SharesCounted
shares_counted = length_masks

masks_of_range : ℕ → ℕ → Bool
masks_of_range n t = bytes_eq (filter (λ m. ones m == n - t + 1) (range_with_len 0 (2 ^ n))) (share_masks n t)

-- below 2 ^ n the number of ones tells
pub from_range : (n t : ℕ) → lawful n t ≡ true → filter (λ m. ones m == n - t + 1) (range_with_len 0 (2 ^ n)) ≡ share_masks n t
unfolding masks_of_range every_scheme all_below share_masks ones ones_in
from_range n t h = (bytes_eq-Decides _ _).0 (scheme_at masks_of_range refl n t h)

bytes_alone : ℕ → ℕ → Bool
bytes_alone n t = list_all (λ m. leb m 255) (share_masks n t)

-- a share mask is a byte
pub mask_is_byte : (n t rank : ℕ) → lawful n t ≡ true → rank < length (share_masks n t) → get_or (share_masks n t) rank 0 ≤ 255
unfolding bytes_alone every_scheme all_below share_masks ones ones_in
mask_is_byte n t rank h low = leb-true _ _ (AllPass-from_list_all (λ m. leb m 255) (share_masks n t) (scheme_at bytes_alone refl n t h) rank 0 low)

pub unit_past : (n t p rank : ℕ) → lawful n t ≡ true → shares n t ≤ rank → unit_has n t p rank ≡ false
unit_past n t p rank h past = rw (get_or_past (share_masks n t) rank 0 (omega (arith, length_masks n t h))) (and_right (leb 1 p) false refl)

-- the table xs has the first c of ms, and zeros after them
abbrev pub Filled : List ℕ → List ℕ → ℕ → Type 0
Filled xs ms c = (length xs ≡ 70) × ((k : ℕ) → get_or xs k 0 ≡ get_or (take c ms) k 0)

pub filled_none : (ms : List ℕ) → Filled (replicate 70 0) ms 0
filled_none ms = (refl, λ k. ⊎_elim (get_or-replicate 70 k 0 0) (get_or_past (replicate 70 0) k 0) (cases_lt k 70))

pub filled_all : (xs ms : List ℕ) (c : ℕ) → length ms ≤ c → Filled xs ms c → (k : ℕ) → get_or xs k 0 ≡ get_or ms k 0
filled_all xs ms c all old k = let same = old.1 k in grind (arith, common_steps)

-- what `enumerate` gives at the place c
pub pair_at : (ms : List ℕ) (c rank mask : ℕ) → (c < length (enumerate_from 0 ms)) × ((rank, mask) ≡ get_or (enumerate_from 0 ms) c (rank, mask)) → (c < length ms) × (rank ≡ c) × (mask ≡ get_or ms c 0)
pair_at ms c rank mask h =
    let low : c < length ms = omega (arith, h.0, length-enumerate_from 0 ms) in
    let same = h.1 ∙ get_or-enumerate_from 0 ms c (rank, mask) low in
    (low, grind (arith, common_steps), grind (arith, common_steps))

pub filled_more : (xs ms : List ℕ) (c v : ℕ) → c < length ms → c < 70 → v ≡ get_or ms c 0 → Filled xs ms c → Filled (set xs c v) ms (c + 1)
filled_more xs ms c v in_masks in_table e old = (
  length-set xs c v ∙ old.0,
  λ k. let same = old.1 k in
      grind (arith, common_steps),
)
