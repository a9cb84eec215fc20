-- What holds of SHA-256. Assumes nothing.
use Rattle.std.specs.Prelude.{◌≡◌, ℕ, ◌+◌, ◌*◌, ◌%◌, ◌^◌, ◌<◌, ◌≤◌, List, ◌++◌, length, take, drop, replicate, slice_index}
use Rattle.blocks.specs.Bytes.{Bytes}
use Rattle.sha256.specs.Primes.{primes, cube_root, square_root}
use Rattle.sha256.specs.Hash.{zeros_after, padded, sha256}
use Rattle.sha256.specs.Running.{begun, absorbed, finished}
use Rattle.sha256.specs.Examples.{Published}
use Rattle.sha256.specs.Hmac.{hmac, prepared_key, mac_of}

-- y is the greatest number whose power to k is at most x
pub record Root (k x y : ℕ) : Type 0 where
  pub low : y ^ k ≤ x
  pub high : x < (y + 1) ^ k

-- the constants come from the greatest such numbers
unfoldable pub RootsGreatest : Type 0
RootsGreatest =
    ((i : ℕ) → i < 64 → Root 3 (slice_index primes i * 2 ^ 96) (cube_root (slice_index primes i * 2 ^ 96)))
    × ((i : ℕ) → i < 8 → Root 2 (slice_index primes i * 2 ^ 64) (square_root (slice_index primes i * 2 ^ 64)))

-- there are 64 primes up to 311
unfoldable pub PrimesCounted : Type 0
PrimesCounted = length primes ≡ 64

-- a padded message is whole blocks, with no more zeros than that takes
unfoldable pub PaddedInBlocks : Type 0
PaddedInBlocks = (message : List ℕ) → (length (padded message) % 64 ≡ 0) × (zeros_after (length message) < 64)

-- a digest is 32 bytes
unfoldable pub DigestBytes : Type 0
DigestBytes = (message : List ℕ) → Bytes 32 (sha256 message)

-- hashing in two parts is hashing the whole, whatever the cut
unfoldable pub InTwoParts : Type 0
InTwoParts =
    (message : List ℕ) (cut : ℕ)
    → finished (absorbed (absorbed begun (take cut message)) (drop cut message)) ≡ sha256 message

-- all of these, and the published examples
pub record Laws : Type 0 where
  pub parts : InTwoParts
  pub size : DigestBytes
  pub blocks : PaddedInBlocks
  pub primes : PrimesCounted
  pub roots : RootsGreatest
  pub examples : Published

-- a prepared key makes of each message what HMAC does with the key
unfoldable pub PreparedIsHmac : Type 0
PreparedIsHmac = (key message : List ℕ) → mac_of (prepared_key key) message ≡ hmac key message

-- zeros after a key, up to a block, change nothing
unfoldable pub ZerosAfterKey : Type 0
ZerosAfterKey =
    (key message : List ℕ) (n : ℕ) → length key + n ≤ 64 → hmac (key ++ replicate n 0) message ≡ hmac key message
