-- The checksum of numbers in their order. Assumes nothing.
use Rattle.std.specs.Prelude.{ℕ, ◌+◌, ◌*◌, ◌%◌, ◌^◌, List}
use Rattle.std.specs.List.{fold}

-- the checksum after one number more
abbrev pub sum_with : ℕ → ℕ → ℕ
sum_with sum number = (31 * sum + number) % 2 ^ 32

-- the checksum after more numbers
abbrev pub sum_after : ℕ → List ℕ → ℕ
sum_after = fold sum_with

-- a refusal's number, past all answers
abbrev pub past_answers : ℕ → ℕ
past_answers number = 1000 + number
