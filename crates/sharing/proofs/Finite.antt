-- Tests over a range or a list, which antt computes, and what each tells of one number. Assumes nothing.
use Rattle.std.proofs.Common.{◌≡◌, ℕ, zero, suc, ◌+◌, ◌-◌, ◌<◌, ◌≤◌, Bool, true, ◌&&◌, eqb, List, [], ◌∷◌, Some, Option, unwrap_or, length, get_or, filter, find, sym, refl, ap, ◌∙◌, ⊎_elim, arith}
use Rattle.std.specs.List.{range_with_len, list_all, list_any}
use Rattle.std.proofs.lemmas.Bool.{both_ways, cases_Bool, cases_eq, eqb-true, eq-eqb}
use Rattle.std.proofs.Math.Bool.{and-true}
use Rattle.std.proofs.lemmas.Grind.{get_or_default_zero}
use Rattle.std.proofs.lemmas.List.Folds.{Any-from_list_any, list_any_at}
use Rattle.std.proofs.lemmas.List.FromFn.{length-range_with_len, get_or-range_with_len}
use Rattle.std.proofs.lemmas.List.Sums.{AllPass-from_list_all}
use Rattle.std.proofs.lemmas.Map.Views.{any-filter_same}

-- passes at each number below k
unfoldable pub all_below : (ℕ → Bool) → ℕ → Bool
all_below f k = list_all f (range_with_len 0 k)

module _ (f : ℕ → Bool) (a n i : ℕ) (low : a ≤ i) (high : i < a + n) where
  inside : i - a < length (range_with_len a n)
  inside = omega (arith, length-range_with_len a n)

  at : get_or (range_with_len a n) (i - a) 0 ≡ i
  at = omega (arith, get_or-range_with_len a n (i - a) 0 (omega arith))

  pub in_range : list_all f (range_with_len a n) ≡ true → f i ≡ true
  in_range all = sym (ap f at) ∙ AllPass-from_list_all f (range_with_len a n) all (i - a) 0 inside

  pub some_in : f i ≡ true → list_any f (range_with_len a n) ≡ true
  some_in is = list_any_at f (range_with_len a n) (i - a) 0 inside (ap f at ∙ is)

pub below_at : (f : ℕ → Bool) (k i : ℕ) → all_below f k ≡ true → i < k → f i ≡ true
unfolding all_below
below_at f k i all low = in_range f 0 k i (omega arith) (omega arith) all

-- somewhere in the list
pub some_at : (f : ℕ → Bool) (xs : List ℕ) → list_any f xs ≡ true → (i : ℕ) × (i < length xs) × (f (get_or xs i 0) ≡ true)
some_at f xs some =
    let any = Any-from_list_any f xs some in
    (any.0, any.2, ap f (sym (get_or_default_zero xs any.0 any.1 any.2) ∙ any.3) ∙ any.4)

-- what a search found passes, and is not above i
abbrev pub FoundBy : (ℕ → Bool) → Option ℕ → ℕ → Type 0
FoundBy f found i = (found ≡ Some (unwrap_or found 0)) × (f (unwrap_or found 0) ≡ true) × (unwrap_or found 0 ≤ i)

pub found_by : (f : ℕ → Bool) (a n i : ℕ) → a ≤ i → i < a + n → f i ≡ true → FoundBy f (find f (range_with_len a n)) i
found_by f a zero i low high is = absurd (omega arith)
found_by f a (suc n) i low high is =
    ⊎_elim (λ here. rw here (refl, here, low))
    (λ no.
    let apart : a < i = ⊎_elim (λ e. absurd (both_ways (f a) no (ap f (sym e) ∙ is))) (λ ne. omega arith) (cases_eq i a) in
    rw no (found_by f (a + 1) n i (omega arith) (omega arith) is))
    (cases_Bool (f a))

-- what a test keeps of a range depends on the test there, and tells it
pub kept_same : (f g : ℕ → Bool) (a n : ℕ) → ((k : ℕ) → a ≤ k → k < a + n → f k ≡ g k) → filter f (range_with_len a n) ≡ filter g (range_with_len a n)
kept_same f g a zero e = refl
kept_same f g a (suc n) e =
    let rest = kept_same f g (a + 1) n (λ k low high. e k (omega arith) (omega arith)) in
    let here : f a ≡ g a = e a (omega arith) (omega arith) in
    rw (here, rest) refl

pub kept_all : (xs : List ℕ) → filter (λ _. true) xs ≡ xs
kept_all [] = refl
kept_all (x ∷ xs) = ap (λ l. x ∷ l) (kept_all xs)

pub kept_tells : (f g : ℕ → Bool) (a n : ℕ) → filter f (range_with_len a n) ≡ filter g (range_with_len a n) → (k : ℕ) → a ≤ k → k < a + n → f k ≡ g k
kept_tells f g a n e k low high =
    let is = λ (x : ℕ). eqb x k in
    let has = λ (h : ℕ → Bool). sym (and-true (h k)) ∙ ap (λ b. h k && b) (sym (some_in is a n k low high (eq-eqb k k refl))) ∙ sym (any-filter_same is h (h k) (λ x at. ap h (eqb-true x k at)) (range_with_len a n)) in
    has f ∙ ap (list_any is) e ∙ sym (has g)
