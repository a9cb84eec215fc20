use Rattle.std.proofs.Common.{ap, ◌∙◌, rules, arith}
use Rattle.std.specs.List.{flat_map}
use Rattle.std.proofs.lemmas.List.{take_all}
use Rattle.std.proofs.lemmas.List.Folds.{flat_map-map}
use Rattle.blocks.specs.Words.{word_bytes}
use Rattle.blocks.proofs.Arrays.{array_map_is}
use Rattle.sha256.specs.Hash.{hash_bytes}
use Rattle.sha256.proofs.hasher.hash_bytes.Goals as goal

pub returns : goal.returns
unfolding hash_bytes
returns c =
    let hash = c.args.hash.now in
    let words = array_map_is _ word_bytes _ (λ x y q k. search rules) hash c.map.result 8 0 c.told-hash c.map.ensures.items in
    let whole = rw c.unwrap.ensures at c.first_chunk.ensures.cases in
    whole.same
    ∙ take_all 32 c.as_flattened.result.now (omega (arith, c.as_flattened.ensures.len, c.map.ensures.items.long))
    ∙ c.as_flattened.ensures.value
    ∙ ap (flat_map (λ x. x)) words
    ∙ flat_map-map (λ x. x) word_bytes hash
