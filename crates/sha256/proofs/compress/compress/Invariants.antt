use Rattle.std.proofs.Common.{◌≡◌, drop}
use Rattle.sha256.proofs.Blocks.{onward}
use Rattle.sha256.proofs.compress.compress.Given as goal

abbrev pub invariant-loop-j : goal.invariant-loop-j
invariant-loop-j l = onward l.s l.w (drop l.j l.k-items) ≡ onward l.initial.s l.initial.w l.k-items
