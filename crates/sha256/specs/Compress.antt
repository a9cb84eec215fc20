-- The compression of a block into the hash. Assumes nothing.
use Rattle.std.specs.Prelude.{ℕ, zero, suc, ◌*◌, List, [], ◌∷◌, map, take, drop, slice_index}
use Rattle.std.specs.List.{range_with_len}
use Rattle.blocks.specs.Words.{word_at}
use Rattle.sha256.specs.Primes.{round_constants}
use Rattle.sha256.specs.Words.{add32}
use Rattle.sha256.specs.Rounds.{schedule, rounds}
use Rattle.sha256.specs.declared.round.Working.{Working}

-- the sixteen words of a block of 64 bytes
unfoldable pub block_words : List ℕ → List ℕ
block_words block = map (λ i. word_at block (4 * i)) (range_with_len 0 16)

-- the working variables before the first round
unfoldable pub working_of : List ℕ → Working
working_of hash =
    record {
      a = slice_index hash 0;
      b = slice_index hash 1;
      c = slice_index hash 2;
      d = slice_index hash 3;
      e = slice_index hash 4;
      f = slice_index hash 5;
      g = slice_index hash 6;
      h = slice_index hash 7;
    }

-- the hash with the working variables after the last round added
unfoldable pub added_to : List ℕ → Working → List ℕ
added_to hash s =
    add32 (slice_index hash 0) s.a ∷ add32 (slice_index hash 1) s.b ∷ add32 (slice_index hash 2) s.c ∷ add32 (slice_index hash 3) s.d
    ∷ add32 (slice_index hash 4) s.e
    ∷ add32 (slice_index hash 5) s.f
    ∷ add32 (slice_index hash 6) s.g
    ∷ add32 (slice_index hash 7) s.h
    ∷ []

-- the hash after a block
unfoldable pub compressed : List ℕ → List ℕ → List ℕ
compressed hash block = added_to hash (rounds (working_of hash) round_constants (schedule (block_words block)))

-- the hash after n blocks that stand at the front of a list
unfoldable pub compressed_all : ℕ → List ℕ → List ℕ → List ℕ
compressed_all zero hash bytes = hash
compressed_all (suc n) hash bytes = compressed_all n (compressed hash (take 64 bytes)) (drop 64 bytes)
