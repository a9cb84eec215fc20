use Rattle.std.proofs.Common.{◌≡◌, ℕ, ◌+◌, ◌-◌, ◌%◌, ◌^◌, ◌++◌, length, take, sym, refl, ap, ◌∙◌, ap₂, arith, rules}
use Rattle.std.proofs.lemmas.List.{places, take_all}
use Rattle.std.proofs.lemmas.Slice.{take-put_mid}
use borrow.Rule.Slice.PartMut.{put_mid}
use Rattle.sha256.specs.Compress.{compressed}
use Rattle.sha256.specs.Running.{Running, absorbed}
use Rattle.sha256.proofs.Parts.{same, absorbed_block, waiting_is}
use Rattle.sha256.proofs.hasher.Hasher.complete.Goals as goal

pub returns : goal.returns
returns c =
    let h = c.self.inside in
    let bytes = c.args.bytes.now in
    let part = c.copy_from_slice.ensures.after in
    let start = c.waiting-start.result in
    let block = put_mid start (64 - start) h.block c.copy_from_slice.new.self in
    let before : Running = record { hash = h.hash; rest = take (h.count % 64) h.block; count = h.count } in
    let waiting = waiting_is h.hash h.block h.count c.args.self.now c.self.told.1 c.self.view_is in
    let told = c.waiting-start.ensures in
    let from : start ≡ h.count % 64 = omega (arith, told.value) in
    let none : ((h.count + length bytes) % 2 ^ 64) % 64 ≡ 0 = omega arith in
    let size : length block ≡ 64 = search (rules, places) in
    let filled : block ≡ take (h.count % 64) h.block ++ bytes =
    sym (take_all 64 block (omega arith))
    ∙ take-put_mid start (64 - start) h.block c.copy_from_slice.new.self 64 (omega (arith, ap length part)) (omega (arith, c.self.told.1))
    ∙ ap₂ (λ k x. take k h.block ++ x) from part in
    same (c.compress.ensures ∙ ap (compressed h.hash) filled) (ap (λ (n : ℕ). take n block) none) refl
    ∙ sym (absorbed_block before bytes (omega arith))
    ∙ ap (λ r. absorbed r bytes) c.self.view_is
