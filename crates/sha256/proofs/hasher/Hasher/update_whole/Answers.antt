use Rattle.std.proofs.Common.{◌≡◌, ℕ, ◌+◌, ◌-◌, ◌/◌, ◌%◌, ◌^◌, ◌<◌, [], ◌++◌, length, take, drop, sym, ap, ◌∙◌, ap₂, mul_comm, arith}
use Rattle.std.specs.Prelude.{fold}
use Rattle.sha256.specs.Compress.{compressed, compressed_all}
use Rattle.sha256.specs.Running.{Running, absorbed}
use Rattle.sha256.proofs.Blocks.{all_chunks}
use Rattle.sha256.proofs.Parts.{same, of_blocks, absorbed_few, waiting_is}
use Rattle.sha256.proofs.hasher.Hasher.update_whole.Goals as goal

pub returns : goal.returns
returns c =
    let h = c.self.inside in
    let r = c.args.self.now in
    let bytes = c.args.bytes.now in
    let rest = c.as_chunks.result.1.now in
    let n = length bytes / 64 in
    let size = c.as_chunks.ensures.back_len in
    let count = (h.count + (length bytes - length rest)) % 2 ^ 64 in
    let waiting = waiting_is h.hash h.block h.count c.args.self.now c.self.told.1 c.self.view_is in
    let none : count % 64 ≡ 0 = omega arith in
    let before : Running = record { hash = c.compress_all.new.hash; rest = take (count % 64) h.block; count = count } in
    let first : Running = record { hash = h.hash; rest = take (h.count % 64) h.block; count = h.count } in
    let empty : take (count % 64) h.block ≡ [] = ap (λ (k : ℕ). take k h.block) none in
    let zero : h.count % 64 ≡ 0 = omega arith in
    let begun : take (h.count % 64) h.block ≡ [] = ap (λ (k : ℕ). take k h.block) zero in
    let few : length (take (count % 64) h.block) + length rest < 64 = omega (arith, ap length empty) in
    let hash = c.compress_all.ensures ∙ ap (fold compressed h.hash) c.as_chunks.ensures.front ∙ all_chunks n h.hash bytes in
    let total : (count + length rest) % 2 ^ 64 ≡ (h.count + length bytes) % 2 ^ 64 = omega arith in
    c.keep.ensures
    ∙ absorbed_few before rest few
    ∙ same (hash ∙ ap (λ x. compressed_all n h.hash (x ++ bytes)) (sym begun)) (ap (λ x. x ++ rest) empty ∙ c.as_chunks.ensures.back ∙ ap₂ drop (mul_comm n 64) (ap (λ x. x ++ bytes) (sym begun))) total
    ∙ sym (of_blocks first bytes n (ap (λ x. length (x ++ bytes) / 64) begun))
    ∙ ap (λ s. absorbed s bytes) c.self.view_is
