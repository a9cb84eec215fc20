-- A digest has 32 bytes, and so has a code. Assumes nothing.
use Rattle.std.proofs.Common.{◌≡◌, ℕ, zero, suc, ◌*◌, ◌/◌, ◌<◌, List, [], ◌∷◌, length, take, drop, refl, ◌∙◌, arith}
use Rattle.std.proofs.ByRecursion.{All-take}
use Rattle.std.proofs.lemmas.List.{length-take-le}
use Rattle.std.specs.List.{flat_map, AllByRecursion}
use Rattle.blocks.specs.Bytes.{Bytes}
use Rattle.blocks.specs.Words.{word_bytes}
use Rattle.sha256.specs.Primes.{initial}
use Rattle.sha256.specs.Compress.{added_to, compressed, compressed_all}
use Rattle.sha256.specs.Hash.{hash_bytes, padded, sha256}
use Rattle.sha256.specs.Hmac.{hmac}
use Rattle.sha256.specs.Laws.{DigestBytes}
use Rattle.sha256.proofs.Blocks.{initial_length}

compressed_length : (hash block : List ℕ) → length (compressed hash block) ≡ 8
unfolding compressed added_to
compressed_length hash block = refl

all_length : (n : ℕ) (hash bytes : List ℕ) → length hash ≡ 8 → length (compressed_all n hash bytes) ≡ 8
unfolding compressed_all
all_length zero hash bytes h = h
all_length (suc n) hash bytes h = all_length n (compressed hash (take 64 bytes)) (drop 64 bytes) (compressed_length hash (take 64 bytes))

joined_length : (hash : List ℕ) → length (flat_map word_bytes hash) ≡ 4 * length hash
joined_length [] = refl
joined_length (x ∷ xs) = omega (arith, joined_length xs)

joined_bytes : (hash : List ℕ) → AllByRecursion (λ x. x < 256) (flat_map word_bytes hash)
joined_bytes [] = tt
joined_bytes (x ∷ xs) = (omega arith, (omega arith, (omega arith, (omega arith, joined_bytes xs))))

pub sha256_length : (message : List ℕ) → length (sha256 message) ≡ 32
unfolding sha256 hash_bytes
sha256_length message =
    let blocks = length (padded message) / 64 in
    let hash = compressed_all blocks initial (padded message) in
    joined_length hash ∙ omega (arith, all_length blocks initial (padded message) initial_length)

pub sha256_bytes : (message : List ℕ) → AllByRecursion (λ x. x < 256) (sha256 message)
unfolding sha256 hash_bytes
sha256_bytes message = joined_bytes _

pub digest_bytes : DigestBytes
unfolding DigestBytes
digest_bytes message = record { size = sha256_length message; small = sha256_bytes message }

pub hmac_length : (key message : List ℕ) → length (hmac key message) ≡ 32
unfolding hmac
hmac_length key message = sha256_length _

pub hmac_bytes : (key message : List ℕ) → AllByRecursion (λ x. x < 256) (hmac key message)
unfolding hmac
hmac_bytes key message = sha256_bytes _

-- the first half of a code
pub hmac_front_bytes : (key message : List ℕ) → Bytes 16 (take 16 (hmac key message))
hmac_front_bytes key message =
    record {
      size = length-take-le 16 (hmac key message) (omega (arith, hmac_length key message));
      small = All-take (λ x. x < 256) 16 (hmac key message) (hmac_bytes key message);
    }
