use Rattle.std.proofs.Common.{◌≡◌, ℕ, ◌+◌, ◌-◌, ◌%◌, ◌^◌, ◌++◌, length, take, sym, refl, ap, ◌∙◌, ap₂, arith}
use borrow.Rule.Slice.PartMut.{put_mid}
use Rattle.std.proofs.lemmas.Slice.{take-put_mid}
use Rattle.sha256.specs.Running.{Running, absorbed}
use Rattle.sha256.proofs.Parts.{same, absorbed_few, waiting_is}
use Rattle.sha256.proofs.hasher.Hasher.keep.Goals as goal

pub returns : goal.returns
returns c =
    let h = c.self.inside in
    let bytes = c.args.bytes.now in
    let part = c.copy_from_slice.ensures.after in
    let start = c.waiting-start.result in
    let stop = start + length bytes in
    let block = put_mid start (stop - start) h.block c.copy_from_slice.new.self in
    let before : Running = record { hash = h.hash; rest = take (h.count % 64) h.block; count = h.count } in
    let waiting = waiting_is h.hash h.block h.count c.args.self.now c.self.told.1 c.self.view_is in
    let told = c.waiting-start.ensures in
    let from : start ≡ h.count % 64 = omega (arith, told.value) in
    let end : ((h.count + length bytes) % 2 ^ 64) % 64 ≡ stop = omega (arith, from) in
    same refl
    (ap (λ (n : ℕ). take n block) end ∙ take-put_mid start (stop - start) h.block c.copy_from_slice.new.self stop (omega (arith, ap length part)) (omega (arith, c.self.told.1)) ∙ ap₂ (λ k x. take k h.block ++ x) from part)
    refl
    ∙ sym (absorbed_few before bytes (omega arith))
    ∙ ap (λ r. absorbed r bytes) c.self.view_is
