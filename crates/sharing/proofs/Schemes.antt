-- A test over every lawful number of units and threshold. Assumes nothing.
use Rattle.std.proofs.Common.{◌≡◌, ℕ, ◌^◌, ◌<◌, ◌≤◌, Bool, true, cond, List, ◌∙◌, sym, arith, rules, tests}
use Rattle.std.proofs.lemmas.Bool.{cond-true}
use Rattle.sharing.specs.Masks.{lawful, share_masks}
use Rattle.sharing.proofs.Finite.{all_below, below_at}

pub t_high : (n t : ℕ) → lawful n t ≡ true → t ≤ n
t_high n t h = search (rules, tests)

pub n_high : (n t : ℕ) → lawful n t ≡ true → n ≤ 8
n_high n t h = search (rules, tests)

abbrev pub at_lawful : (ℕ → ℕ → Bool) → ℕ → ℕ → Bool
at_lawful f n t = cond (lawful n t) (f n t) true

unfoldable pub every_scheme : (ℕ → ℕ → Bool) → Bool
every_scheme f = all_below (λ n. all_below (at_lawful f n) 9) 9

pub scheme_at : (f : ℕ → ℕ → Bool) → every_scheme f ≡ true → (n t : ℕ) → lawful n t ≡ true → f n t ≡ true
unfolding every_scheme
scheme_at f all n t h =
    let high = n_high n t h in
    let low = t_high n t h in
    sym (cond-true (lawful n t) (f n t) true h) ∙ below_at (at_lawful f n) 9 t (below_at (λ m. all_below (at_lawful f m) 9) 9 n all (omega arith)) (omega arith)

-- a test, beside the share masks, of each group within n that p picks
unfoldable pub each_group : (ℕ → ℕ → ℕ → Bool) → (ℕ → ℕ → List ℕ → ℕ → Bool) → ℕ → ℕ → Bool
each_group p f n t = all_below (λ group. cond (p n t group) (f n t (share_masks n t) group) true) (2 ^ n)

pub group_at : (p : ℕ → ℕ → ℕ → Bool) (f : ℕ → ℕ → List ℕ → ℕ → Bool) → every_scheme (each_group p f) ≡ true → (n t group : ℕ) → lawful n t ≡ true → group < 2 ^ n → p n t group ≡ true → f n t (share_masks n t) group ≡ true
unfolding each_group
group_at p f all n t group h low picked =
    sym (cond-true _ _ _ picked) ∙ below_at (λ g. cond (p n t g) (f n t (share_masks n t) g) true) (2 ^ n) group (scheme_at (each_group p f) all n t h) low
