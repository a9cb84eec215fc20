-- What holds of every script. Assumes nothing.
use Rattle.std.specs.Prelude.{◌≡◌, ℕ, ◌+◌, ◌/◌, ◌%◌, ◌^◌, ◌<◌, ◌≤◌, cond, Ok, List, [], ◌∷◌, ◌++◌, length, codes, decimal, ◌==◌, ◌≢◌, slice_index_or}
use Rattle.std.specs.List.{flat_map, AllByRecursion}
use Rattle.script.specs.Lines.{line_feed, lines_of}
use Rattle.script.specs.Commands.{command_of}
use Rattle.script.specs.Answers.{answer_to, answer_line}
use Rattle.script.specs.Output.{most_bytes, output_of}
use Rattle.script.specs.declared.command.Command.TheVariants.{Deal}

abbrev pub with_feed : List ℕ → List ℕ
with_feed line = line ++ line_feed ∷ []

-- a script with a line feed after its last byte, if that is none
unfoldable pub ended : List ℕ → List ℕ
ended [] = []
ended (b ∷ []) = cond (b == line_feed) (b ∷ []) (b ∷ line_feed ∷ [])
ended (b ∷ c ∷ bs) = b ∷ ended (c ∷ bs)

-- the lines have no line feed, and with one after each they are the script
unfoldable pub LinesAreScript : Type 0
LinesAreScript = (script : List ℕ) → (flat_map with_feed (lines_of script) ≡ ended script) × AllByRecursion (AllByRecursion (λ b. b ≢ line_feed)) (lines_of script)

-- a number is written by its decimal digits, the highest first and with no zero in front
unfoldable pub DecimalDigits : Type 0
DecimalDigits =
    ((n : ℕ) → n < 10 → decimal n ≡ (48 + n) ∷ [])
    × ((n : ℕ) → 10 ≤ n → n < 2 ^ 64 → decimal n ≡ decimal (n / 10) ++ (48 + n % 10) ∷ [])

-- a line deals for n units with threshold t exactly when it is `d N T`
unfoldable pub DealIsLine : Type 0
DealIsLine =
    (line : List ℕ) (n t : ℕ)
    → (command_of line ≡ Ok (Deal n t) → (n < 10) × (t < 10) × (line ≡ codes "d " ++ (decimal n ++ (codes " " ++ decimal t))))
    × (n < 10 → t < 10 → line ≡ codes "d " ++ (decimal n ++ (codes " " ++ decimal t)) → command_of line ≡ Ok (Deal n t))

-- the output has a line for each line of the script: the answer to it, under its number
unfoldable pub EachLineAnswered : Type 0
EachLineAnswered =
    (script : List ℕ) → length script ≤ most_bytes
    → (length (lines_of (output_of script)) ≡ length (lines_of script))
    × ((k : ℕ) → k < length (lines_of script) → with_feed (slice_index_or (lines_of (output_of script)) k []) ≡ answer_line (k + 1) (answer_to (command_of (slice_index_or (lines_of script) k []))))
