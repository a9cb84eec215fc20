-- What a call answers, at every input. Assumes nothing.
use Rattle.std.specs.Prelude.{ℕ, Bool, cond, List, length, Ok, Err, Result, nat_le}
use Rattle.keyed.specs.declared.refusal.Refusal.{Refusal}
use Rattle.keyed.specs.declared.refusal.Refusal.TheVariants.{TooLong}

-- the longest input of a keyed function, and the longest message of a commitment
abbrev pub longest : ℕ
longest = 65536

abbrev pub fits : ℕ → Bool
fits size = nat_le size longest

-- the question about an input's length
abbrev pub length_answer : ℕ → Result (Unit {0}) Refusal
length_answer size = cond (fits size) (Ok tt) (Err TooLong)

-- what a table has for two lists, of which the second is not too long
abbrev pub table_answer : (List ℕ → List ℕ → List ℕ) → List ℕ → List ℕ → Result (List ℕ) Refusal
table_answer table key input = cond (fits (length input)) (Ok (table key input)) (Err TooLong)
