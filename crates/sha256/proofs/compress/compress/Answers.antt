use Rattle.std.proofs.Common.{◌≡◌, ◌+◌, [], length, drop, sym, ap, ◌∙◌, ap₂, arith}
use Rattle.std.proofs.lemmas.List.{drop_all}
use Rattle.sha256.specs.Primes.{round_constants}
use Rattle.sha256.specs.Inner.{next_window}
use Rattle.sha256.specs.Compress.{working_of, added_to, block_words, compressed}
use Rattle.sha256.specs.declared.round.Working.{Working}
use Rattle.sha256.proofs.Blocks.{constants_length, block_words_length, onward, onward_none, onward_more, four_rows}
use Rattle.sha256.proofs.compress.compress.Goals as goal
use Rattle.sha256.proofs.compress.compress.Goals.{then-j-lt3, else-j-lt3}

pub loop-j-preserved : goal.loop-j-preserved
loop-j-preserved c =
    let rows = c.round_constants-k-items.result.now in
    let j = c.loop-j.j in
    let s = c.sixteen_rounds.new.self in
    let four = ap length c.round_constants-k-items.ensures in
    let onwards : onward s c.if-j-lt3.w (drop (j + 1) rows) ≡ onward s (next_window c.loop-j.w) (drop (j + 1) rows) =
    elim c.if-j-lt3.branch [
      | then-j-lt3 w ↦ ap (λ v. onward s v (drop (j + 1) rows)) (w.w-is ∙ w.next_words.ensures)
      | else-j-lt3 w ↦
          let none : drop (j + 1) rows ≡ [] = drop_all (j + 1) rows (omega (arith, w.if-j-lt3.false)) in
          rw none (onward_none s c.if-j-lt3.w ∙ sym (onward_none s (next_window c.loop-j.w)))
    ] in
    onwards
    ∙ ap (λ (v : Working). onward v (next_window c.loop-j.w) (drop (j + 1) rows)) c.sixteen_rounds.ensures
    ∙ onward_more c.loop-j.s c.loop-j.w rows j [] (omega arith)
    ∙ c.loop-j.invariant

pub returns : goal.returns
unfolding compressed
returns c =
    let hash = c.args.hash.now in
    let block = c.args.block.now in
    let rows = c.round_constants-k-items.result.now in
    let j = c.loop-j.j in
    let four = ap length c.round_constants-k-items.ensures in
    let last = sym (onward_none c.loop-j.s c.loop-j.w) ∙ ap (onward c.loop-j.s c.loop-j.w) (sym (drop_all j rows (omega arith))) in
    c.add_to.ensures
    ∙ ap (added_to hash)
    (last ∙ c.loop-j.invariant
    ∙ ap₂ (λ s w. onward s w rows) c.from-s.ensures c.block_words-w.ensures
    ∙ four_rows (working_of hash) round_constants (block_words block) rows c.round_constants-k-items.ensures constants_length (block_words_length block))
