-- The published examples, computed, and all laws together. Assumes nothing.
use Rattle.std.proofs.Common.{refl}
use Rattle.sha256.specs.Primes.{is_prime, primes, raised, greatest, cube_root, square_root, round_constants, initial}
use Rattle.sha256.specs.Rounds.{next_word, with_next, extended, schedule, round_of, rounds}
use Rattle.sha256.specs.Compress.{block_words, working_of, added_to, compressed, compressed_all}
use Rattle.sha256.specs.Hash.{hash_bytes, padding, padded, sha256}
use Rattle.sha256.specs.Hmac.{key_block, masked, hmac}
use Rattle.sha256.specs.Examples.{Published}
use Rattle.sha256.specs.Laws.{Laws}
use Rattle.sha256.proofs.Parts.{in_two_parts, padded_in_blocks}
use Rattle.sha256.proofs.Digests.{digest_bytes}
use Rattle.sha256.proofs.Roots.{primes_counted, roots_greatest}

published : Published
unfolding is_prime primes raised greatest cube_root square_root round_constants initial next_word with_next extended schedule round_of rounds block_words working_of added_to compressed compressed_all hash_bytes padding padded sha256 key_block masked hmac
published = record { empty = refl; abc = refl; two_blocks = refl; code = refl }

pub laws : Laws
laws =
    record {
      parts = in_two_parts;
      size = digest_bytes;
      blocks = padded_in_blocks;
      primes = primes_counted;
      roots = roots_greatest;
      examples = published;
    }
