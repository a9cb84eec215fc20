-- Numbers as bytes, highest first. Assumes nothing.
use Rattle.std.specs.Prelude.{ℕ, ◌+◌, ◌*◌, ◌/◌, ◌%◌, ◌^◌, List, [], ◌∷◌, fold, slice_index}

-- the number that a list of bytes is
abbrev pub number_of : List ℕ → ℕ
number_of bytes = fold (λ n byte. n * 256 + byte) 0 bytes

-- the word of 32 bits whose four bytes begin at a place of a list
abbrev pub word_at : List ℕ → ℕ → ℕ
word_at bytes i = slice_index bytes i * 2 ^ 24 + slice_index bytes (i + 1) * 2 ^ 16 + slice_index bytes (i + 2) * 2 ^ 8 + slice_index bytes (i + 3)

-- the four bytes of a word
abbrev pub word_bytes : ℕ → List ℕ
word_bytes x = (x / 2 ^ 24 % 256) ∷ (x / 2 ^ 16 % 256) ∷ (x / 2 ^ 8 % 256) ∷ (x % 256) ∷ []
