-- HMAC-SHA-256, and a key prepared for it. Assumes nothing.
use Rattle.std.specs.Prelude.{ℕ, ◌-◌, cond, List, ◌++◌, map, length, replicate, bit_xor, nat_le}
use Rattle.sha256.specs.Primes.{initial}
use Rattle.sha256.specs.Compress.{compressed}
use Rattle.sha256.specs.Hash.{sha256}
use Rattle.sha256.specs.Running.{resumed, absorbed, finished}
use Rattle.sha256.specs.declared.hmac.HmacKey.{HmacKey}

-- a list with zeros up to 64 bytes
abbrev pub zero_filled : List ℕ → List ℕ
zero_filled bytes = bytes ++ replicate (64 - length bytes) 0

-- the key in a block: itself, or its digest where it is longer than that, and zeros
unfoldable pub key_block : List ℕ → List ℕ
key_block key = zero_filled (cond (nat_le (length key) 64) key (sha256 key))

-- a block with a byte in the exclusive or with each of its own
unfoldable pub masked : ℕ → List ℕ → List ℕ
masked pad block = map (λ x. bit_xor x pad) block

-- HMAC, with ipad 0x36 and opad 0x5c
unfoldable pub hmac : List ℕ → List ℕ → List ℕ
hmac key message = sha256 (masked 0x5c (key_block key) ++ sha256 (masked 0x36 (key_block key) ++ message))

-- the hash after a masked block
unfoldable pub midstate : ℕ → List ℕ → List ℕ
midstate pad block = compressed initial (masked pad block)

-- a prepared key: both midstates
abbrev pub prepared_key : List ℕ → HmacKey
prepared_key key = record { inner = midstate 0x36 (key_block key); outer = midstate 0x5c (key_block key) }

-- the digest of a block, which left a hash, and of bytes after it
unfoldable pub digest_after : List ℕ → List ℕ → List ℕ
digest_after hash bytes = finished (absorbed (resumed hash 64) bytes)

-- what a prepared key makes of a message
abbrev pub mac_of : HmacKey → List ℕ → List ℕ
mac_of key message = digest_after key.outer (digest_after key.inner message)
