use Rattle.std.proofs.Common.{◌≡◌}
use Rattle.sha256.proofs.Windows.{turned}
use Rattle.sha256.proofs.schedule.next_words.Given as goal

abbrev pub invariant-loop-i : goal.invariant-loop-i
invariant-loop-i l = l.w ≡ turned l.i l.fn.w
