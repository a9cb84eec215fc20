-- The message schedule and the rounds of SHA-256. Assumes nothing.
use Rattle.std.specs.Prelude.{ℕ, zero, suc, ◌-◌, List, [], ◌∷◌, ◌++◌, length, fold, slice_index}
use Rattle.std.specs.List.{zip}
use Rattle.sha256.specs.Words.{add32, big_sigma0, big_sigma1, small_sigma0, small_sigma1, choice, majority}
use Rattle.sha256.specs.declared.round.Working.{Working}

-- a word of the schedule, from those 2, 7, 15 and 16 places before it
unfoldable pub next_word : ℕ → ℕ → ℕ → ℕ → ℕ
next_word w2 w7 w15 w16 = add32 (add32 (add32 (small_sigma1 w2) w7) (small_sigma0 w15)) w16

-- a list of words with its next word
unfoldable pub with_next : List ℕ → List ℕ
with_next ws =
    let t = length ws in
    ws ++ next_word (slice_index ws (t - 2)) (slice_index ws (t - 7)) (slice_index ws (t - 15)) (slice_index ws (t - 16)) ∷ []

-- and with n more words
unfoldable pub extended : ℕ → List ℕ → List ℕ
extended zero ws = ws
extended (suc n) ws = extended n (with_next ws)

-- the schedule: the sixteen words of a block, and 48 more
unfoldable pub schedule : List ℕ → List ℕ
schedule ws = extended 48 ws

-- one round, with its constant and its word of the schedule
unfoldable pub round_of : Working → ℕ → ℕ → Working
round_of s k w =
    let t1 = add32 (add32 (add32 (add32 s.h (big_sigma1 s.e)) (choice s.e s.f s.g)) k) w in
    let t2 = add32 (big_sigma0 s.a) (majority s.a s.b s.c) in
    record { a = add32 t1 t2; b = s.a; c = s.b; d = s.c; e = add32 s.d t1; f = s.e; g = s.f; h = s.g }

-- a round for each constant with its word
unfoldable pub rounds : Working → List ℕ → List ℕ → Working
rounds s ks ws = fold (λ t p. round_of t p.0 p.1) s (zip ks ws)
