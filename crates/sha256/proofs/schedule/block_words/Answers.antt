use Rattle.std.proofs.Common.{◌≡◌, ℕ, ◌*◌, ◌/◌, List, [], get_or, ap, ◌∙◌, rules}
use Rattle.std.specs.Simd.{first_chunks}
use Rattle.blocks.specs.Words.{word_at}
use Rattle.blocks.proofs.Arrays.{from_fn_is}
use Rattle.sha256.specs.Compress.{block_words}
use Rattle.sha256.proofs.Words.{chunk_word}
use Rattle.sha256.proofs.schedule.block_words.Goals as goal

pub returns : goal.returns
unfolding block_words
returns c =
    let block = c.args.block.now in
    let words = c.as_chunks.result.0.now in
    let chunks = c.as_chunks.ensures.front ∙ ap (λ n. first_chunks 4 (n / 4) block) c.told-block in
    from_fn_is _ (λ (i : ℕ). word_at block (4 * i)) _ 16
    (λ i y q l k. (let h : y ≡ word_at (get_or words i []) 0 = search rules in h ∙ ap (λ (ws : List (List ℕ)). word_at (get_or ws i []) 0) chunks ∙ chunk_word block i l c.told-block, search rules))
    c.from_fn.result 0 c.from_fn.ensures.items
