-- Arrays that the library makes by calls of a closure which leaves what it captures as it is. Assumes nothing.
use Rattle.std.proofs.Common.{◌≡◌, ℕ, zero, suc, ◌+◌, ◌<◌, ◌≤◌, List, map, length, get_or, sym, ap, ◌∙◌, subst, ⊎_elim, arith}
use Rattle.std.specs.Array.{IsFromFnResultFrom, IsFromFnResult, MapsFrom, IsMapOf}
use denote.Param.Members.{Mut, Called}
use Rattle.std.specs.List.{range_with_len}
use Rattle.std.proofs.lemmas.Bool.{cases_lt}
use Rattle.std.proofs.lemmas.List.{ext_get_or, get_or-map, length-map}
use Rattle.std.proofs.lemmas.List.FromFn.{fill_by_all}

module _ {F B : Type 0} (g : Mut F (ℕ × Unit {0}) B) (v : ℕ → B) (f : F) (n : ℕ) (calls : (i : ℕ) (y : B) (q : F) → i < n → Called g f (i, tt) y q → (y ≡ v i) × (q ≡ f)) where
  each_made : (ys : List B) (i m : ℕ) → i + m ≡ n → IsFromFnResultFrom g f ys i m → (d : B) (k : ℕ) → i ≤ k → k < n → get_or ys k d ≡ v k
  each_made ys i zero e t d k l h = absurd (omega arith)
  each_made ys i (suc m) e t d k l h =
      let called = calls i t.1 t.0 (omega arith) t.3 in
      let rest = subst (λ q. IsFromFnResultFrom g q ys (i + 1) m) called.1 t.4 in
      ⊎_elim (λ later. each_made ys (i + 1) m (omega arith) rest d k (omega arith) h)
      (λ first. let here : k ≡ i = omega arith in rw here (t.2.1 d ∙ called.0))
      (cases_lt i k)

  -- `array::from_fn` gives the values of a function at each index
  pub from_fn_is : (ys : List B) (d : B) → IsFromFnResult g f ys n → ys ≡ map v (range_with_len 0 n)
  from_fn_is ys d r = fill_by_all v ys n d r.long (λ k h. each_made ys 0 n (omega arith) r.each d k (omega arith) h)

module _ {F A B : Type 0} (g : Mut F (A × Unit {0}) B) (v : A → B) (f : F) (calls : (x : A) (y : B) (q : F) → Called g f (x, tt) y q → (y ≡ v x) × (q ≡ f)) where
  each_mapped : (xs : List A) (ys : List B) (i n : ℕ) → MapsFrom g f xs ys i n → (c : A) (d : B) (k : ℕ) → i ≤ k → k < i + n → get_or ys k d ≡ v (get_or xs k c)
  each_mapped xs ys i zero t c d k l h = absurd (omega arith)
  each_mapped xs ys i (suc n) t c d k l h =
      let called = calls t.1 t.2 t.0 t.5 in
      let rest = subst (λ q. MapsFrom g q xs ys (i + 1) n) called.1 t.6 in
      ⊎_elim (λ later. each_mapped xs ys (i + 1) n rest c d k (omega arith) (omega arith))
      (λ first. let here : k ≡ i = omega arith in rw here (t.4.1 d ∙ called.0 ∙ ap v (sym (t.3.1 c))))
      (cases_lt i k)

  -- an array's `map` gives the values of a function at each element
  pub array_map_is : (xs : List A) (ys : List B) (n : ℕ) (c : A) → length xs ≡ n → IsMapOf g f xs ys n → ys ≡ map v xs
  array_map_is xs ys n c long r =
      ext_get_or (v c) ys (map v xs) (r.long ∙ sym (length-map xs v ∙ long))
      (λ k h. each_mapped xs ys 0 n r.each c (v c) k (omega arith) (omega (arith, r.long)) ∙ sym (get_or-map v xs k c (v c) (omega (arith, r.long))))
