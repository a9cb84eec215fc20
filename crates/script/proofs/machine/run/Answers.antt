use Rattle.std.proofs.Common.{◌≡◌, ℕ, ◌+◌, Result, List, ◌∷◌, ◌++◌, length, length-append, ap, ◌∙◌, append_assoc, sym, arith, rules}
use Rattle.std.proofs.lemmas.Fn.{always_returns_same}
use Rattle.script.specs.Lines.{lines_of}
use Rattle.script.specs.Commands.{command_of}
use Rattle.script.specs.Answers.{answer_to, answer_line}
use Rattle.script.specs.Output.{answers_from}
use Rattle.script.specs.declared.answer.Answer.{Answer}
use Rattle.script.specs.declared.refusal.Refusal.{Refusal}
use Rattle.script.proofs.Lines.{is_feed, line_of_piece}
use Rattle.script.proofs.machine.run.Goals as goal

-- one line more is answered
step : (old new : List ℕ) (number given next : ℕ) (line : List ℕ) (answer : Result Answer Refusal) (script after all : List ℕ) → given ≡ number → next ≡ given + 1 → answer ≡ answer_to (command_of line) → new ≡ old ++ answer_line given answer → lines_of script ≡ line ∷ lines_of after → old ++ answers_from number (lines_of script) ≡ all → new ++ answers_from next (lines_of after) ≡ all
unfolding answers_from
step old new number given next line answer script after all same up is grown cut before =
    rw (grown, up, same, is) (append_assoc old _ _ ∙ ap (λ l. old ++ answers_from number l) (sym cut) ∙ before)

pub loop-number-preserved : goal.loop-number-preserved
loop-number-preserved c =
    let counted = c.in-Some.ensures.steps.0 in
    let split = c.in-Some.ensures.steps.1 in
    let first = (split.1.2 is_feed (always_returns_same _ _ _ (λ a r q k. (search rules, search rules)))).1 in
    let cut = line_of_piece _ _ _ _ split.1.0 split.2 split.0 split.1.1 first c.line_of.ensures in
    record {
      few = omega (arith, simp length-append at (ap length split.0));
      answered = step _ _ _ _ _ _ _ _ _ _ counted.0 counted.1 c.answer.ensures c.in_ok-push_answer-2.ensures cut c.loop-number.invariant.answered;
    }
