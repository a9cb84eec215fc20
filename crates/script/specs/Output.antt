-- What a script's output is. Assumes nothing.
use Rattle.std.specs.Prelude.{ℕ, ◌+◌, cond, Err, List, [], ◌∷◌, ◌++◌, length, nat_le}
use Rattle.script.specs.Lines.{lines_of}
use Rattle.script.specs.Commands.{command_of}
use Rattle.script.specs.Answers.{answer_to, answer_line}
use Rattle.script.specs.declared.refusal.Refusal.TheVariants.{TooLong}

-- the answers to lines, of which the first has this number
unfoldable pub answers_from : ℕ → List (List ℕ) → List ℕ
answers_from number [] = []
answers_from number (line ∷ lines) = answer_line number (answer_to (command_of line)) ++ answers_from (number + 1) lines

-- the bytes that a script may have
abbrev pub most_bytes : ℕ
most_bytes = 16384

-- each line answered under its number, from 1; a script of more bytes is refused as a whole
abbrev pub output_of : List ℕ → List ℕ
output_of input = cond (nat_le (length input) most_bytes) (answers_from 1 (lines_of input)) (answer_line 0 (Err TooLong))
