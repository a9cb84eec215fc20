use Rattle.std.proofs.Common.{◌≡◌, take}
use Rattle.std.specs.Prelude.{fold}
use Rattle.sha256.specs.Compress.{compressed}
use Rattle.sha256.proofs.compress.compress_all.Given as goal

abbrev pub invariant-loop-block : goal.invariant-loop-block
invariant-loop-block l = l.hash ≡ fold compressed l.initial.hash (take l.block-index l.blocks)
