-- Hashing part by part: the hash so far, the bytes that wait for a block to be whole, and how many bytes have come.
-- Assumes nothing.
use Rattle.std.specs.Prelude.{ℕ, ◌+◌, ◌*◌, ◌/◌, ◌%◌, ◌^◌, List, [], ◌++◌, length, drop}
use Rattle.sha256.specs.Primes.{initial}
use Rattle.sha256.specs.Compress.{compressed_all}
use Rattle.sha256.specs.Hash.{hash_bytes, padding}

pub record Running : Type 0 where
  pub hash : List ℕ
  pub rest : List ℕ
  pub count : ℕ

-- after count bytes in whole blocks, which left a hash
abbrev pub resumed : List ℕ → ℕ → Running
resumed hash count = record { hash = hash; rest = []; count = count }

-- before the first byte
unfoldable pub begun : Running
begun = resumed initial 0

-- after more bytes: every block that is whole goes into the hash
unfoldable pub absorbed : Running → List ℕ → Running
absorbed r bytes =
    let all = r.rest ++ bytes in
    let blocks = length all / 64 in
    record { hash = compressed_all blocks r.hash all; rest = drop (64 * blocks) all; count = (r.count + length bytes) % 2 ^ 64 }

-- the digest of what has come
unfoldable pub finished : Running → List ℕ
finished r = hash_bytes (absorbed r (padding r.count)).hash
