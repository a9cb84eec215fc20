-- What a line answers, and the bytes of an answer. Assumes nothing.
use Rattle.std.specs.Prelude.{ℕ, cond, Result, Ok, Err, List, ◌++◌, codes, decimal}
use Rattle.sharing.specs.Masks.{lawful, shares}
use Rattle.sharing.specs.Refusals as sharing
use Rattle.sharing.specs.declared.refusal.Refusal.TheVariants.{Parameters}
use Rattle.script.specs.declared.command.Command.{Command}
use Rattle.script.specs.declared.command.Command.TheVariants.{Deal}
use Rattle.script.specs.declared.answer.Answer.{Answer}
use Rattle.script.specs.declared.answer.Answer.TheVariants.{Dealt}
use Rattle.script.specs.declared.refusal.Refusal.{Refusal}
use Rattle.script.specs.declared.refusal.Refusal.TheVariants.{Sharing, TooLong, NoCommand}

-- the number of each refusal
abbrev pub number_of : Refusal → ℕ
number_of (Sharing refusal) = sharing.number_of refusal
number_of TooLong = 61
number_of NoCommand = 62

-- the answer to a command, or to a line that is none
abbrev pub answer_to : Result Command Refusal → Result Answer Refusal
answer_to (Ok (Deal n t)) = cond (lawful n t) (Ok (Dealt (shares n t))) (Err (Sharing Parameters))
answer_to (Err refusal) = Err refusal

-- what follows the line's number
abbrev pub words_of : Result Answer Refusal → List ℕ
words_of (Ok (Dealt count)) = codes "dealt " ++ decimal count
words_of (Err refusal) = codes "refused " ++ decimal (number_of refusal)

-- an output line
abbrev pub answer_line : ℕ → Result Answer Refusal → List ℕ
answer_line number answer = decimal number ++ (codes " " ++ (words_of answer ++ codes "\n"))
