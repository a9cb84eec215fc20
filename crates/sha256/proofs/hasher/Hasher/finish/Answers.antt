use Rattle.std.proofs.Common.{◌+◌, ◌∷◌, take, replicate, ap, ◌∙◌, ap₂, add-one, arith}
use Rattle.std.proofs.lemmas.List.{take-replicate}
use Rattle.sha256.specs.Hash.{hash_bytes, zeros_after, length_field, padding}
use Rattle.sha256.specs.Running.{Running, absorbed, finished}
use Rattle.sha256.proofs.Parts.{absorbed_two}
use Rattle.sha256.proofs.hasher.Hasher.finish.Goals as goal

pub returns : goal.returns
unfolding finished padding
returns c =
    let r = c.args.self in
    let zeros = zeros_after r.count in
    let count = ap (λ (s : Running). s.count) c.self.view_is in
    let size = ap (λ n. n + 1) (c.zeros_after-zeros.ensures ∙ ap zeros_after count) ∙ add-one zeros in
    let front = ap₂ take size c.one_and_zeros.ensures ∙ ap (λ x. 128 ∷ x) (take-replicate zeros 63 0 (omega arith)) in
    c.hash_bytes.ensures
    ∙ ap (λ (s : Running). hash_bytes s.hash)
    (c.self-2.view_is
    ∙ c.update-2.ensures
    ∙ ap₂ absorbed (c.update.ensures ∙ ap (absorbed r) front) (c.length_field-length.ensures ∙ ap length_field count)
    ∙ absorbed_two r (128 ∷ replicate zeros 0) (length_field r.count))
