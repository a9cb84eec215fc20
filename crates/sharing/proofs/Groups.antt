-- Which groups have which ranks. One computed test for each fact over all groups, and the law of equal shares from them. Assumes nothing.
use Rattle.std.proofs.Common.{◌≡◌, ℕ, ◌+◌, ◌^◌, ◌<◌, ◌≤◌, Bool, true, false, not, ◌&&◌, ◌||◌, eqb, ltb, leb, ◌⊎◌, List, length, Decides, sym, refl, ap, ◌∙◌, inl, inr, ⊎_elim, arith}
use lib.Count.{ones, ones_in}
use Rattle.std.specs.List.{list_all, list_any}
use Rattle.std.proofs.lemmas.Slice.Eq.{bytes_eq-Decides}
use Rattle.std.proofs.lemmas.List.Sums.{AllPass-from_list_all}
use Rattle.std.proofs.lemmas.Bool.{false≢true, false_from_ne_true, not-true, cases_lt, and_parts, and_from, or_cases, eqb-true, ltb-true, le-leb, lt-ltb}
use Rattle.std.proofs.lemmas.Bool.Decides.{same_from_decides, Decides-like}
use Rattle.sharing.specs.Choose.{choose}
use Rattle.sharing.specs.Masks.{lawful, group_of, member, is_within, share_masks, shares, mask_of}
use Rattle.sharing.specs.Groups.{places, ranks, members, group_has, group_ranks, equal_shares}
use Rattle.sharing.specs.Laws.{GroupOfMembers, EnoughHaveAll, FewLackOne, EqualShares}
use Rattle.sharing.proofs.Finite.{all_below, below_at, in_range, some_at, some_in, kept_same, kept_all, kept_tells}
use Rattle.sharing.proofs.Order.{length_masks}
use Rattle.sharing.proofs.Schemes.{n_high, every_scheme, each_group, group_at}

-- some place is in both
abbrev meets : ℕ → ℕ → ℕ → Bool
meets n group mask = list_any (λ p. member p group && member p mask) (places n)

-- at least t places, and fewer
enough : ℕ → ℕ → ℕ → Bool
enough n t group = leb t (ones group)

few : ℕ → ℕ → ℕ → Bool
few n t group = ltb (ones group) t

has_all : ℕ → ℕ → List ℕ → ℕ → Bool
has_all n t ms group = list_all (meets n group) ms

all_passes : every_scheme (each_group enough has_all) ≡ true
unfolding each_group enough has_all every_scheme all_below choose share_masks ones ones_in
all_passes = refl

-- the ranks are as many as the masks
below_length : (n t rank : ℕ) → lawful n t ≡ true → rank < shares n t → rank < length (share_masks n t)
below_length n t rank h low = omega (arith, length_masks n t h)

pub enough_has : (n t group rank : ℕ) → lawful n t ≡ true → group < 2 ^ n → t ≤ ones group → rank < shares n t → group_has n t group rank ≡ true
unfolding enough has_all
enough_has n t group rank h low many is =
    AllPass-from_list_all (meets n group) (share_masks n t) (group_at enough has_all all_passes n t group h low (le-leb t (ones group) many)) rank 0 (below_length n t rank h is)

pub enough_have_all : EnoughHaveAll
unfolding EnoughHaveAll
enough_have_all n t group h low enough =
    kept_same (group_has n t group) (λ _. true) 0 (shares n t) (λ rank _ high. enough_has n t group rank h low enough (omega arith)) ∙ kept_all (ranks n t)

lacks_one : ℕ → ℕ → List ℕ → ℕ → Bool
lacks_one n t ms group = list_any (λ mask. not (meets n group mask)) ms

one_passes : every_scheme (each_group few lacks_one) ≡ true
unfolding each_group few lacks_one every_scheme all_below choose share_masks ones ones_in
one_passes = refl

pub few_lack_one : FewLackOne
unfolding FewLackOne few lacks_one
few_lack_one n t group h low small =
    let at = some_at (λ mask. not (meets n group mask)) (share_masks n t) (group_at few lacks_one one_passes n t group h low (lt-ltb (ones group) t small)) in
    (at.0, omega (arith, at.1, length_masks n t h), not-true (group_has n t group at.0) at.2)

-- of each place outside a small group, some mask has it and none of the group
lacks_other : ℕ → ℕ → List ℕ → ℕ → Bool
lacks_other n t ms group =
    list_all (λ p. member p group || list_any (λ mask. member p mask && not (meets n group mask)) ms) (places n)

other_passes : every_scheme (each_group few lacks_other) ≡ true
unfolding each_group few lacks_other every_scheme all_below choose share_masks ones ones_in
other_passes = refl

-- the place of a unit whose ranks a small group has is in the group
has_only_own : (n t a b p : ℕ) → lawful n t ≡ true → a < 2 ^ n → ones a < t → ((rank : ℕ) → rank < shares n t → group_has n t a rank ≡ group_has n t b rank) → 1 ≤ p → p < 1 + n → member p b ≡ true → member p a ≡ true
unfolding few lacks_other
has_only_own n t a b p h low small same first last is =
    let test = λ (mask : ℕ). member p mask && not (meets n a mask) in
    let tests = in_range (λ q. member q a || list_any (λ mask. member q mask && not (meets n a mask)) (share_masks n t)) 1 n p first last (group_at few lacks_other other_passes n t a h low (lt-ltb (ones a) t small)) in
    ⊎_elim (λ own. own)
    (λ some.
    let at = some_at test (share_masks n t) some in
    let rank = at.0 in
    let inside : rank < shares n t = omega (arith, at.1, length_masks n t h) in
    let parts = and_parts (member p (mask_of n t rank)) (not (meets n a (mask_of n t rank))) at.2 in
    let has : group_has n t b rank ≡ true = some_in (λ q. member q b && member q (mask_of n t rank)) 1 n p first last (and_from (member p b) (member p (mask_of n t rank)) is parts.0) in
    absurd (false≢true (sym (not-true (group_has n t a rank) parts.1) ∙ same rank inside ∙ has)))
    (or_cases (member p a) _ tests)

groups_pass : all_below (λ n. all_below (λ group. eqb (group_of (members n group)) group) (2 ^ n)) 9 ≡ true
unfolding all_below
groups_pass = refl

pub group_of_members : GroupOfMembers
unfolding GroupOfMembers
group_of_members n group few low =
    eqb-true _ _ (below_at (λ g. eqb (group_of (members n g)) g) (2 ^ n) group (below_at (λ m. all_below (λ g. eqb (group_of (members m g)) g) (2 ^ m)) 9 n groups_pass (omega arith)) low)

same_group : (n a b : ℕ) → n ≤ 8 → a < 2 ^ n → b < 2 ^ n → ((p : ℕ) → 1 ≤ p → p < 1 + n → member p a ≡ member p b) → a ≡ b
unfolding GroupOfMembers
same_group n a b few low_a low_b same =
    sym (group_of_members n a few low_a) ∙ ap group_of (kept_same (λ p. member p a) (λ p. member p b) 1 n same) ∙ group_of_members n b few low_b

pub equal_shares_lem : EqualShares
unfolding EqualShares EnoughHaveAll FewLackOne
equal_shares_lem n t a b h low_a low_b = (forth, back)
  where
    at_rank : group_ranks n t a ≡ group_ranks n t b → (rank : ℕ) → rank < shares n t → group_has n t a rank ≡ group_has n t b rank
    at_rank e rank low = kept_tells (group_has n t a) (group_has n t b) 0 (shares n t) e rank (omega arith) (omega arith)

    apart : (x y : ℕ) → x < 2 ^ n → y < 2 ^ n → ones x < t → t ≤ ones y → ((rank : ℕ) → rank < shares n t → group_has n t x rank ≡ group_has n t y rank) → ⊥
    apart x y low_x low_y few enough same =
        let lack = few_lack_one n t x h low_x few in
        false≢true (sym lack.2 ∙ same lack.0 lack.1 ∙ enough_has n t y lack.0 h low_y enough lack.1)

    both_small : ones a < t → ones b < t → ((rank : ℕ) → rank < shares n t → group_has n t a rank ≡ group_has n t b rank) → a ≡ b
    both_small few_a few_b same =
        same_group n a b (n_high n t h) low_a low_b
        (λ p first last. same_from_decides (member p a) (member p b) (has_only_own n t b a p h low_b few_b (λ rank low. sym (same rank low)) first last, has_only_own n t a b p h low_a few_a same first last) (λ e. e, λ e. e))

    forth : group_ranks n t a ≡ group_ranks n t b → (a ≡ b) ⊎ ((t ≤ ones a) × (t ≤ ones b))
    forth e =
        let same = at_rank e in
        ⊎_elim
        (λ few_a. ⊎_elim (λ few_b. inl (both_small few_a few_b same)) (λ enough_b. absurd (apart a b low_a low_b few_a enough_b same)) (cases_lt (ones b) t))
        (λ enough_a. ⊎_elim (λ few_b. absurd (apart b a low_b low_a few_b enough_a (λ rank low. sym (same rank low)))) (λ enough_b. inr (enough_a, enough_b)) (cases_lt (ones b) t))
        (cases_lt (ones a) t)

    back : (a ≡ b) ⊎ ((t ≤ ones a) × (t ≤ ones b)) → group_ranks n t a ≡ group_ranks n t b
    back = ⊎_elim (ap (group_ranks n t)) (λ both. enough_have_all n t a h low_a both.0 ∙ sym (enough_have_all n t b h low_b both.1))

-- the law's right side decides whether two groups hold equal shares
module _ (n t a b : ℕ) (h : lawful n t ≡ true) (within : (is_within n a && is_within n b) ≡ true) where
  equal_ranks : Decides (equal_shares n t a b) ((a ≡ b) ⊎ ((t ≤ ones a) × (t ≤ ones b)))
  unfolding EqualShares
  equal_ranks =
      let lows = and_parts (is_within n a) (is_within n b) within in
      let law = equal_shares_lem n t a b h (ltb-true a (2 ^ n) lows.0) (ltb-true b (2 ^ n) lows.1) in
      Decides-like (equal_shares n t a b) law.0 law.1 (bytes_eq-Decides (group_ranks n t a) (group_ranks n t b))

  pub equal_if : (a ≡ b) ⊎ ((t ≤ ones a) × (t ≤ ones b)) → equal_shares n t a b ≡ true
  equal_if = equal_ranks.1

  pub equal_unless : (a ≡ b → ⊥) → ((t ≤ ones a) × (t ≤ ones b) → ⊥) → equal_shares n t a b ≡ false
  equal_unless apart few = false_from_ne_true (equal_shares n t a b) (λ e. ⊎_elim apart few (equal_ranks.0 e))
