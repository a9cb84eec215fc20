-- The answers are the lines of the output. Assumes nothing.
use Rattle.std.proofs.Common.{◌≡◌, ℕ, zero, suc, ◌+◌, ◌%◌, ◌^◌, ◌<◌, ◌≤◌, Result, Ok, Err, List, [], ◌∷◌, ◌++◌, length, get_or, codes, decimal, sym, refl, ap, ◌∙◌, subst, append_assoc, append-nil, add-zero, add_comm, arith}
use Rattle.std.proofs.lemmas.Fmt.{decimal_digit, decimal_step, decimal_by_steps}
use Rattle.std.proofs.ByRecursion.{All-append, All-push}
use Rattle.std.proofs.lemmas.Bool.{cond_both, le-leb}
use Rattle.sharing.specs.Masks.{lawful, shares}
use Rattle.sharing.specs.declared.refusal.Refusal.TheVariants.{Parameters}
use Rattle.sharing.proofs.Order.{shares_few}
use Rattle.script.specs.Lines.{line_feed, lines_of}
use Rattle.script.specs.Commands.{command_of}
use Rattle.script.specs.Answers.{number_of, answer_to, words_of, answer_line}
use Rattle.script.specs.Output.{answers_from, output_of}
use Rattle.script.specs.Laws.{with_feed, DecimalDigits, EachLineAnswered}
use Rattle.script.specs.declared.command.Command.{Command}
use Rattle.script.specs.declared.command.Command.TheVariants.{Deal}
use Rattle.script.specs.declared.answer.Answer.{Answer}
use Rattle.script.specs.declared.answer.Answer.TheVariants.{Dealt}
use Rattle.script.specs.declared.refusal.Refusal.{Refusal}
use Rattle.script.specs.declared.refusal.Refusal.TheVariants.{Sharing}
use Rattle.script.proofs.Lines.{NoFeed, lines_cons, lines_few}

pub decimal_digits : DecimalDigits
unfolding DecimalDigits
decimal_digits = (decimal_digit, decimal_step)

decimal_plain : (n : ℕ) → n < 2 ^ 64 → NoFeed (decimal n)
decimal_plain = decimal_by_steps (λ n ds. NoFeed ds) (λ n h. ((λ e. omega arith), tt)) (λ n ds h old. All-push (λ b. b ≡ line_feed → ⊥) ds (48 + n % 10) old (λ e. omega arith))

-- the numbers that an answer writes
abbrev Writable : Result Answer Refusal → Type 0
Writable (Ok (Dealt count)) = count < 2 ^ 64
Writable (Err refusal) = number_of refusal < 2 ^ 64

writable : (command : Result Command Refusal) → Writable (answer_to command)
writable (Ok (Deal n t)) = cond_both (lawful n t) (Ok (Dealt (shares n t))) (Err (Sharing Parameters)) Writable (λ h. omega (arith, shares_few n t h)) (λ _. omega arith)
writable (Err refusal) = grind arith

-- an answer's line without its line feed
abbrev plain : ℕ → Result Answer Refusal → List ℕ
plain number answer = decimal number ++ (codes " " ++ words_of answer)

plain_feed : (number : ℕ) (answer : Result Answer Refusal) → answer_line number answer ≡ with_feed (plain number answer)
plain_feed number answer = simp append_assoc

abbrev other : ℕ → Type 0
other b = b ≡ line_feed → ⊥

words_none : (answer : Result Answer Refusal) → Writable answer → NoFeed (words_of answer)
words_none (Ok (Dealt count)) h = All-append other (codes "dealt ") (decimal count) (grind arith) (decimal_plain count h)
words_none (Err refusal) h = All-append other (codes "refused ") (decimal (number_of refusal)) (grind arith) (decimal_plain (number_of refusal) h)

-- an answer in front of the others
lines_answer : (number : ℕ) (command : Result Command Refusal) (rest : List ℕ) → number < 2 ^ 64 → lines_of (answer_line number (answer_to command) ++ rest) ≡ plain number (answer_to command) ∷ lines_of rest
lines_answer number command rest h =
    let answer = answer_to command in
    let none = All-append other (decimal number) _ (decimal_plain number h) (λ e. omega arith, words_none answer (writable command)) in
    ap lines_of (ap (λ l. l ++ rest) (plain_feed number answer) ∙ append_assoc (plain number answer) (line_feed ∷ []) rest) ∙ lines_cons (plain number answer) rest none

abbrev Answered : ℕ → List (List ℕ) → List (List ℕ) → Type 0
Answered number lines out =
    (length out ≡ length lines)
    × ((k : ℕ) → k < length lines → with_feed (get_or out k []) ≡ answer_line (number + k) (answer_to (command_of (get_or lines k []))))

answered : (number : ℕ) (lines : List (List ℕ)) → number + length lines < 2 ^ 64 → Answered number lines (lines_of (answers_from number lines))
unfolding answers_from lines_of
answered number [] few = (refl, λ k h. absurd (omega arith))
answered number (line ∷ lines) few =
    let rest = answered (number + 1) lines (omega arith) in
    let out = lines_answer number (command_of line) (answers_from (number + 1) lines) (omega arith) in
    subst (Answered number (line ∷ lines)) (sym out) (ap suc rest.0, at rest)
  where
    at : Answered (number + 1) lines (lines_of (answers_from (number + 1) lines)) → (k : ℕ) → k < length (line ∷ lines) → with_feed (get_or (plain number (answer_to (command_of line)) ∷ lines_of (answers_from (number + 1) lines)) k []) ≡ answer_line (number + k) (answer_to (command_of (get_or (line ∷ lines) k [])))
    at rest zero h = rw (add-zero number) (sym (plain_feed number (answer_to (command_of line))))
    at rest (suc k) h =
        let e : (number + 1) + k ≡ number + suc k = omega arith in
        rest.1 k (omega arith) ∙ ap (λ m. answer_line m (answer_to (command_of (get_or lines k [])))) e

-- no line is left
pub output_of_answers : (output : List ℕ) (number : ℕ) (rest script : List ℕ) → output ++ answers_from number (lines_of rest) ≡ answers_from 1 (lines_of script) → length rest ≡ 0 → length script ≤ 16384 → output ≡ output_of script
unfolding answers_from lines_of
output_of_answers output number [] script all none few = rw (le-leb (length script) 16384 few) (sym (append-nil output) ∙ all)
output_of_answers output number (b ∷ rest) script all none few = absurd (omega arith)

pub each_line_answered : EachLineAnswered
unfolding EachLineAnswered
each_line_answered script small =
    let few = lines_few script in
    let all = answered 1 (lines_of script) (omega arith) in
    rw (le-leb (length script) 16384 small) (all.0, λ k h. all.1 k h ∙ ap (λ m. answer_line m (answer_to (command_of (get_or (lines_of script) k [])))) (add_comm 1 k))
