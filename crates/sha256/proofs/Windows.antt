-- The schedule, sixteen words at a time. Assumes nothing.
use Rattle.std.proofs.Common.{◌≡◌, ℕ, zero, suc, ◌+◌, ◌-◌, ◌≤◌, List, ◌++◌, map, length, get_or, slice_index_or, slice_set, ◌%◌, take, drop, sym, refl, ap, ◌∙◌, subst, suc-add, zero-add, arith}
use Rattle.std.specs.List.{range_with_len}
use Rattle.std.proofs.lemmas.List.{append_assoc, length-append, length-drop, get_or-append_right, take-append-drop, take_all, take_at, take-take}
use Rattle.std.proofs.lemmas.List.FromFn.{fill_by_all}
use Rattle.sha256.specs.Rounds.{next_word, with_next, extended, schedule}
use Rattle.sha256.specs.Inner.{next_window}

next_length : (ws : List ℕ) → length (with_next ws) ≡ length ws + 1
unfolding with_next
next_length ws = length-append ws _

extended_length : (n : ℕ) (ws : List ℕ) → length (extended n ws) ≡ length ws + n
unfolding extended
extended_length zero ws = omega arith
extended_length (suc n) ws = omega (arith, extended_length n (with_next ws), next_length ws)

extended_add : (m n : ℕ) (ws : List ℕ) → extended (m + n) ws ≡ extended n (extended m ws)
unfolding extended
extended_add zero n ws = ap (λ k. extended k ws) (zero-add n)
extended_add (suc m) n ws = ap (λ k. extended k ws) (suc-add m n) ∙ extended_add m n (with_next ws)

-- the words that were there stay
next_keeps : (ws : List ℕ) → take (length ws) (with_next ws) ≡ ws
unfolding with_next
next_keeps ws = take_at ws _ (length ws) refl

extended_keeps : (n : ℕ) (ws : List ℕ) → take (length ws) (extended n ws) ≡ ws
unfolding extended
extended_keeps zero ws = take_all (length ws) ws (omega arith)
extended_keeps (suc n) ws =
    sym (take-take (length ws) (length (with_next ws)) (extended n (with_next ws)) (omega (arith, next_length ws)))
    ∙ ap (take (length ws)) (extended_keeps n (with_next ws))
    ∙ next_keeps ws

-- ---- a word more

-- a word comes from the last sixteen alone
next_after : (xs ws : List ℕ) → 16 ≤ length ws → with_next (xs ++ ws) ≡ xs ++ with_next ws
unfolding with_next
next_after xs ws h =
    let at : (k : ℕ) → k ≤ 16 → 1 ≤ k → get_or (xs ++ ws) (length (xs ++ ws) - k) 0 ≡ get_or ws (length ws - k) 0 =
    (λ k l m. get_or-append_right xs ws (length xs) (length (xs ++ ws) - k) 0 refl (omega (arith, length-append xs ws))
    ∙ ap (λ i. get_or ws i 0) (omega (arith, length-append xs ws))) in
    rw (at 2 (omega arith) (omega arith), at 7 (omega arith) (omega arith), at 15 (omega arith) (omega arith), at 16 (omega arith) (omega arith))
    (append_assoc xs ws _)

extended_after : (n : ℕ) (xs ws : List ℕ) → 16 ≤ length ws → extended n (xs ++ ws) ≡ xs ++ extended n ws
unfolding extended
extended_after zero xs ws h = refl
extended_after (suc n) xs ws h =
    ap (extended n) (next_after xs ws h) ∙ extended_after n xs (with_next ws) (omega (arith, next_length ws))

-- ---- sixteen words more

-- a list of sixteen words, written out
unfoldable pub written : List ℕ → List ℕ
written ws = map (λ k. get_or ws k 0) (range_with_len 0 16)

pub written_is : (ws : List ℕ) → length ws ≡ 16 → ws ≡ written ws
unfolding written
written_is ws h = fill_by_all (λ k. get_or ws k 0) ws 16 0 h (λ k l. refl)

pub window_length : (ws : List ℕ) → length ws ≡ 16 → length (next_window ws) ≡ 16
unfolding next_window
window_length ws h = length-drop 16 (extended 16 ws) ∙ omega (arith, extended_length 16 ws)

with_window : (ws : List ℕ) → length ws ≡ 16 → extended 16 ws ≡ ws ++ next_window ws
unfolding next_window
with_window ws h =
    sym (take-append-drop 16 (extended 16 ws))
    ∙ ap (λ x. x ++ drop 16 (extended 16 ws)) (ap (λ k. take k (extended 16 ws)) (sym h) ∙ extended_keeps 16 ws)

-- sixteen words, and the rest after the next sixteen
window_first : (n : ℕ) (ws : List ℕ) → length ws ≡ 16 → extended (16 + n) ws ≡ ws ++ extended n (next_window ws)
window_first n ws h =
    extended_add 16 n ws ∙ ap (extended n) (with_window ws h)
    ∙ extended_after n ws (next_window ws) (omega (arith, window_length ws h))

pub schedule_windows : (ws : List ℕ) → length ws ≡ 16 → schedule ws ≡ ws ++ (next_window ws ++ (next_window (next_window ws) ++ next_window (next_window (next_window ws))))
unfolding schedule
schedule_windows ws h =
    let h1 = window_length ws h in
    let h2 = window_length (next_window ws) h1 in
    window_first 32 ws h
    ∙ ap (λ x. ws ++ x)
    (window_first 16 (next_window ws) h1 ∙ ap (λ x. next_window ws ++ x) (with_window (next_window (next_window ws)) h2))

-- ---- sixteen words that move on in their places

-- the word that comes to a place
abbrev pub next_at : List ℕ → ℕ → ℕ
next_at ws i = next_word (slice_index_or ws ((i + 14) % 16) 0) (slice_index_or ws ((i + 9) % 16) 0) (slice_index_or ws ((i + 1) % 16) 0) (slice_index_or ws i 0)

-- after the first places
unfoldable pub turned : ℕ → List ℕ → List ℕ
turned zero ws = ws
turned (suc i) ws =
    let us = turned i ws in
    slice_set us i (next_at us i)

pub turned_more : (i v : ℕ) (us ws : List ℕ) → us ≡ turned i ws → v ≡ next_at us i → slice_set us i v ≡ turned (i + 1) ws
unfolding turned
turned_more i v us ws h w =
    let more : suc i ≡ i + 1 = omega arith in
    ap (slice_set us i) w ∙ ap (λ xs. slice_set xs i (next_at xs i)) h ∙ ap (λ k. turned k ws) more

all_written : (ws : List ℕ) → turned 16 (written ws) ≡ next_window (written ws)
unfolding turned next_window extended with_next written
all_written ws = refl

pub all_turned : (ws : List ℕ) → length ws ≡ 16 → turned 16 ws ≡ next_window ws
all_turned ws h = subst (λ us. turned 16 us ≡ next_window us) (sym (written_is ws h)) (all_written ws)
