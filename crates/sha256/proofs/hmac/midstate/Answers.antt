use Rattle.std.proofs.Common.{ℕ, get_or, map, sym, ◌∙◌, ap₂, rules, arith}
use lib.Bits.{bit_xor}
use Rattle.std.proofs.lemmas.List.{length-map, get_or-map}
use Rattle.std.proofs.lemmas.List.FromFn.{fill_by_all}
use Rattle.blocks.proofs.Arrays.{from_fn_is}
use Rattle.sha256.specs.Compress.{compressed}
use Rattle.sha256.specs.Hmac.{masked, midstate}
use Rattle.sha256.proofs.hmac.midstate.Goals as goal

pub returns : goal.returns
unfolding masked midstate
returns c =
    let block = c.args.block.now in
    let pad = c.args.pad in
    let f : ℕ → ℕ = λ x. bit_xor x pad in
    let at : ℕ → ℕ = λ i. f (get_or block i 0) in
    let made = from_fn_is _ at _ 64 (λ i y q l k. (search rules, search rules)) c.from_fn.result 0 c.from_fn.ensures.items in
    let whole = fill_by_all at (map f block) 64 0 (length-map block f ∙ c.told-block) (λ k l. get_or-map f block k 0 0 (omega (arith, c.told-block))) in
    c.compress.ensures ∙ ap₂ compressed c.initial-hash.ensures (made ∙ sym whole)
