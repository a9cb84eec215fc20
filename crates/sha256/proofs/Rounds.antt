-- Rounds one after the other. Assumes nothing.
use Rattle.std.proofs.Common.{◌≡◌, ℕ, List, [], ◌∷◌, ◌++◌, length, refl, arith}
use Rattle.sha256.specs.Rounds.{round_of, rounds}
use Rattle.sha256.specs.declared.round.Working.{Working}

pub rounds_append : (s : Working) (ks ws ks' ws' : List ℕ) → length ks ≡ length ws → rounds s (ks ++ ks') (ws ++ ws') ≡ rounds (rounds s ks ws) ks' ws'
unfolding rounds
rounds_append s [] [] ks' ws' e = refl
rounds_append s [] (w ∷ ws) ks' ws' e = absurd (omega arith)
rounds_append s (k ∷ ks) [] ks' ws' e = absurd (omega arith)
rounds_append s (k ∷ ks) (w ∷ ws) ks' ws' e = rounds_append (round_of s k w) ks ws ks' ws' (omega arith)
