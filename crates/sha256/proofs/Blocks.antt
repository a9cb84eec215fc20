-- A block in four times sixteen rounds, and blocks one after the other. Assumes nothing.
use Rattle.std.proofs.Common.{◌≡◌, ℕ, zero, suc, ◌+◌, ◌*◌, ◌<◌, ◌≤◌, List, [], ◌∷◌, ◌++◌, length, get_or, take, drop, sym, refl, ap, ◌∙◌, ap₂, suc-add, zero-add, add-one, arith, drop-cons}
use Rattle.std.specs.Prelude.{fold}
use Rattle.std.specs.Simd.{first_chunks}
use Rattle.std.proofs.lemmas.List.{take-append-drop, take-append-le, take_all, drop-append-le, drop-drop, length-take-le, length-drop}
use Rattle.sha256.specs.Primes.{is_prime, primes, round_constants, initial}
use Rattle.sha256.specs.Rounds.{rounds, schedule}
use Rattle.sha256.specs.Inner.{next_window}
use Rattle.sha256.specs.Compress.{block_words, compressed, compressed_all}
use Rattle.sha256.specs.declared.round.Working.{Working}
use Rattle.sha256.proofs.Rounds.{rounds_append}
use Rattle.sha256.proofs.Windows.{window_length, schedule_windows}

pub constants_length : length round_constants ≡ 64
unfolding is_prime primes round_constants
constants_length = refl

pub initial_length : length initial ≡ 8
unfolding is_prime primes initial
initial_length = refl

pub block_words_length : (block : List ℕ) → length (block_words block) ≡ 16
unfolding block_words
block_words_length block = refl

-- the working variables after a row of constants each, and the next sixteen words of the schedule after it
unfoldable pub onward : Working → List ℕ → List (List ℕ) → Working
onward s ws [] = s
onward s ws (ks ∷ rows) = onward (rounds s ks ws) (next_window ws) rows

pub onward_none : (s : Working) (ws : List ℕ) → onward s ws [] ≡ s
unfolding onward
onward_none s ws = refl

pub onward_more : (s : Working) (ws : List ℕ) (rows : List (List ℕ)) (i : ℕ) (d : List ℕ) → i < length rows
    → onward (rounds s (get_or rows i d) ws) (next_window ws) (drop (i + 1) rows) ≡ onward s ws (drop i rows)
unfolding onward
onward_more s ws rows i d h = rw (add-one i) (sym (ap (onward s ws) (drop-cons rows i d h)))

-- sixteen of a list, and the rest
sixteen : (n : ℕ) (ks : List ℕ) → length ks ≡ 16 + n → (length (take 16 ks) ≡ 16) × (length (drop 16 ks) ≡ n) × (ks ≡ take 16 ks ++ drop 16 ks)
sixteen n ks h = (length-take-le 16 ks (omega arith), length-drop 16 ks ∙ omega arith, sym (take-append-drop 16 ks))

-- four rows of sixteen are all the rounds
pub four_rows : (s : Working) (ks ws : List ℕ) (rows : List (List ℕ)) → rows ≡ first_chunks 16 4 ks → length ks ≡ 64 → length ws ≡ 16
    → onward s ws rows ≡ rounds s ks (schedule ws)
unfolding onward
four_rows s ks ws rows e h k =
    let rest1 = drop 16 ks in
    let rest2 = drop 16 rest1 in
    let rest3 = drop 16 rest2 in
    let ks1 = take 16 ks in
    let ks2 = take 16 rest1 in
    let ks3 = take 16 rest2 in
    let ks4 = take 16 rest3 in
    let a = sixteen 48 ks h in
    let b = sixteen 32 rest1 a.1 in
    let c = sixteen 16 rest2 b.1 in
    let d = take_all 16 rest3 (omega (arith, c.1)) in
    let w1 = next_window ws in
    let w2 = next_window w1 in
    let w3 = next_window w2 in
    let e1 = window_length ws k in
    let e2 = window_length w1 e1 in
    let s1 = rounds s ks1 ws in
    let s2 = rounds s1 ks2 w1 in
    let whole = a.2 ∙ ap (λ x. ks1 ++ x) (b.2 ∙ ap (λ x. ks2 ++ x) (c.2 ∙ ap (λ x. ks3 ++ x) (sym d))) in
    ap (onward s ws) e
    ∙ sym
    (ap₂ (λ x y. rounds s x y) whole (schedule_windows ws k)
    ∙ rounds_append s ks1 ws (ks2 ++ (ks3 ++ ks4)) (w1 ++ (w2 ++ w3)) (a.0 ∙ sym k)
    ∙ rounds_append s1 ks2 w1 (ks3 ++ ks4) (w2 ++ w3) (b.0 ∙ sym e1)
    ∙ rounds_append s2 ks3 w2 ks4 w3 (c.0 ∙ sym e2))

pub all_front : (n : ℕ) (hash xs ys : List ℕ) → 64 * n ≤ length xs → compressed_all n hash (xs ++ ys) ≡ compressed_all n hash xs
unfolding compressed_all
all_front zero hash xs ys h = refl
all_front (suc n) hash xs ys h =
    ap₂ (λ a b. compressed_all n (compressed hash a) b) (take-append-le 64 xs ys (omega arith)) (drop-append-le 64 xs ys (omega arith))
    ∙ all_front n (compressed hash (take 64 xs)) (drop 64 xs) ys (omega (arith, length-drop 64 xs))

pub all_add : (m n : ℕ) (hash xs : List ℕ) → compressed_all (m + n) hash xs ≡ compressed_all n (compressed_all m hash xs) (drop (64 * m) xs)
unfolding compressed_all
all_add zero n hash xs = ap (λ k. compressed_all k hash xs) (zero-add n)
all_add (suc m) n hash xs =
    let at : 64 + 64 * m ≡ 64 * suc m = omega arith in
    ap (λ k. compressed_all k hash xs) (suc-add m n)
    ∙ all_add m n (compressed hash (take 64 xs)) (drop 64 xs)
    ∙ ap (compressed_all n (compressed_all m (compressed hash (take 64 xs)) (drop 64 xs))) (drop-drop (64 * m) 64 xs ∙ ap (λ i. drop i xs) at)

-- blocks one after the other, as chunks of the bytes
pub all_chunks : (n : ℕ) (hash bytes : List ℕ) → fold compressed hash (first_chunks 64 n bytes) ≡ compressed_all n hash bytes
unfolding compressed_all
all_chunks zero hash bytes = refl
all_chunks (suc n) hash bytes = all_chunks n (compressed hash (take 64 bytes)) (drop 64 bytes)
