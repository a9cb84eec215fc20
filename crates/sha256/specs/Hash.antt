-- SHA-256 of a list of bytes. Assumes nothing.
use Rattle.std.specs.Prelude.{ℕ, ◌-◌, ◌*◌, ◌/◌, ◌%◌, ◌^◌, List, [], ◌∷◌, ◌++◌, length, replicate}
use Rattle.std.specs.List.{flat_map}
use Rattle.blocks.specs.Words.{word_bytes}
use Rattle.sha256.specs.Primes.{initial}
use Rattle.sha256.specs.Compress.{compressed_all}

-- the bytes of a hash
unfoldable pub hash_bytes : List ℕ → List ℕ
hash_bytes hash = flat_map word_bytes hash

-- how many zero bytes bring n bytes, one more and the length's eight to a multiple of 64
abbrev pub zeros_after : ℕ → ℕ
zeros_after n = (119 - n % 64) % 64

-- the length of n bytes in bits, modulo 2 ^ 64, highest byte first
abbrev pub length_field : ℕ → List ℕ
length_field n =
    let bits = (n * 8) % 2 ^ 64 in
    (bits / 2 ^ 56 % 256) ∷ (bits / 2 ^ 48 % 256) ∷ (bits / 2 ^ 40 % 256) ∷ (bits / 2 ^ 32 % 256) ∷ (bits / 2 ^ 24 % 256)
    ∷ (bits / 2 ^ 16 % 256)
    ∷ (bits / 2 ^ 8 % 256)
    ∷ (bits % 256)
    ∷ []

-- what follows a message of n bytes: a one bit, zeros, and the length
unfoldable pub padding : ℕ → List ℕ
padding n = (128 ∷ replicate (zeros_after n) 0) ++ length_field n

unfoldable pub padded : List ℕ → List ℕ
padded message = message ++ padding (length message)

-- SHA-256
unfoldable pub sha256 : List ℕ → List ℕ
sha256 message = hash_bytes (compressed_all (length (padded message) / 64) initial (padded message))
