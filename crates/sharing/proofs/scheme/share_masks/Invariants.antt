use Rattle.std.proofs.Common.{length}
use Rattle.sharing.specs.Masks.{share_masks}
use Rattle.sharing.proofs.Order.{Filled}
use Rattle.sharing.proofs.scheme.share_masks.Given as goal

abbrev pub invariant-loop-rank : goal.invariant-loop-rank
invariant-loop-rank l = Filled l.masks (share_masks l.fn.n l.fn.t) (length l.yielded)
