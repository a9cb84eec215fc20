-- The tables that the keyed functions and the commitments mean. Assumes nothing.
use Rattle.std.specs.Prelude.{ℕ, List, ◌++◌, take}
use Rattle.sha256.specs.Hash.{sha256}
use Rattle.sha256.specs.Hmac.{hmac}

-- keyed function 2: the first 16 bytes of HMAC-SHA-256
unfoldable pub hmac_table : List ℕ → List ℕ → List ℕ
hmac_table key input = take 16 (hmac key input)

-- commitment 1: SHA-256 of the opening bytes followed by the message
abbrev pub hash_commitment : List ℕ → List ℕ → List ℕ
hash_commitment opening message = sha256 (opening ++ message)

-- commitment 2: HMAC-SHA-256 of the message, with the opening bytes as its key
abbrev pub hmac_commitment : List ℕ → List ℕ → List ℕ
hmac_commitment opening message = hmac opening message
