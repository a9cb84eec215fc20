use Rattle.std.proofs.Common.{◌≡◌, ◌++◌, ◌+◌, ◌≤◌, length, vec_items}
use Rattle.std.specs.Iterator.Adapters.{zip_first, zip_second}
use Rattle.std.specs.Slice.Iter.{split_inclusive_rest}
use Rattle.script.specs.Lines.{lines_of}
use Rattle.script.specs.Output.{answers_from}
use Rattle.script.proofs.machine.run.Given as goal

abbrev pub invariant-loop-number : goal.invariant-loop-number
invariant-loop-number l =
    let number = (zip_first l.number-iterator).start in
    let rest = split_inclusive_rest (zip_second l.number-iterator) in
    record {
      few : number + length rest ≤ 16385;
      answered : vec_items l.output ++ answers_from number (lines_of rest) ≡ answers_from 1 (lines_of l.script);
    }
