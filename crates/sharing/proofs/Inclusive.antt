-- What `a..=b` gives as an iterator of unsigned numbers. Assumes nothing.
use Rattle.std.proofs.Common.{◌≡◌, ℕ, ◌+◌, ◌-◌, Bool, true, false, List, ◌∷◌, Option, sym, refl, ap, ap₂, ◌∙◌, subst, add-one, arith}
use Rattle.std.specs.List.{range_with_len}
use Rattle.std.specs.Range.{range_inclusive_start, range_inclusive_end, range_inclusive_exhausted, range_inclusive_left, range_inclusive_len, range_inclusive_steps}
use Rattle.std.specs.declared.ops.RangeInclusive.{RangeInclusive}
use Rattle.std.proofs.lemmas.Iterator.{YieldsList}
use Rattle.std.proofs.lemmas.Iterator.Consumers.{YieldsList-from_shown}
use Rattle.std.proofs.lemmas.List.FromFn.{length-range_with_len}

abbrev gap : ℕ → ℕ → ℕ
gap x y = y - x

abbrev pub inclusive_steps : RangeInclusive ℕ → Option ℕ → RangeInclusive ℕ → Type 0
inclusive_steps = range_inclusive_steps gap (λ x y. y ≡ x + 1)

-- the numbers that are left
abbrev left : RangeInclusive ℕ → List ℕ
left s = range_with_len (range_inclusive_start s) (range_inclusive_left gap s)

-- a step from a to b, where b is no matter if nothing is left there
step : (a b e n : ℕ) (spent : Bool) → (spent ≡ false → b ≡ a + 1) → range_inclusive_len gap b e spent + 1 ≡ n → range_with_len a n ≡ a ∷ range_with_len b (range_inclusive_len gap b e spent)
step a b e n true next less = rw (sym less) refl
step a b e n false next less = rw (sym less, add-one (range_inclusive_len gap b e false), next refl) refl

YieldsList-from_left : (s : RangeInclusive ℕ) → YieldsList inclusive_steps (λ x. x) s (left s)
YieldsList-from_left = YieldsList-from_shown inclusive_steps (λ x. x) left (λ s t h. length-range_with_len _ _ ∙ h.1.0) (λ s x t h. step _ _ _ _ _ h.1.2 h.1.1 ∙ ap (λ y. y ∷ left t) (sym h.1.0))

pub YieldsList-from_inclusive : {s : RangeInclusive ℕ} (a n : ℕ) → range_inclusive_start s ≡ a → range_inclusive_end s + 1 - a ≡ n → range_inclusive_exhausted s ≡ false → YieldsList inclusive_steps (λ x. x) s (range_with_len a n)
YieldsList-from_inclusive {s} a n start end fresh =
    let len : range_inclusive_left gap s ≡ n = omega (arith, ap (range_inclusive_len gap (range_inclusive_start s) (range_inclusive_end s)) fresh) in
    subst (YieldsList inclusive_steps (λ x. x) s) (ap₂ range_with_len start len) (YieldsList-from_left s)
