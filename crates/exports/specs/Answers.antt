-- What each call answers, and what it leaves in the buffer. Assumes nothing.
use Rattle.std.specs.Prelude.{Bool, cond, List, ◌++◌, ℕ, length, drop, nat_le, Ok, Err, Result}
use Rattle.sha256.specs.Hash.{sha256}
use Rattle.exports.specs.Refusals.{number_of}
use Rattle.exports.specs.declared.refusal.Refusal.{Refusal}
use Rattle.exports.specs.declared.refusal.Refusal.TheVariants.{ShortBuffer}

-- a buffer has room for a digest
abbrev pub has_room : List ℕ → Bool
has_room buffer = nat_le 32 (length buffer)

abbrev pub write_answer : List ℕ → Result (Unit {0}) Refusal
write_answer buffer = cond (has_room buffer) (Ok tt) (Err ShortBuffer)

abbrev pub digest_written : List ℕ → List ℕ → List ℕ
digest_written message buffer = cond (has_room buffer) (sha256 message ++ drop 32 buffer) buffer

-- the number that a program in C gets for an answer: 0, or that of the refusal
abbrev pub code_of : Result (Unit {0}) Refusal → ℕ
code_of (Ok _) = 0
code_of (Err refusal) = number_of refusal

abbrev pub digest_answer : List ℕ → ℕ
digest_answer buffer = code_of (write_answer buffer)
