use Rattle.std.proofs.Common.{◌-◌, length, take, drop, ap, ◌∙◌, ap₂, arith}
use Rattle.std.proofs.lemmas.List.{take-append-drop}
use Rattle.sha256.specs.Running.{Running, absorbed}
use Rattle.sha256.proofs.Parts.{absorbed_block, absorbed_two}
use Rattle.sha256.proofs.hasher.Hasher.update.Goals as goal

pub update_whole-requires-else-bytes-room : goal.update_whole-requires-else-bytes-room
update_whole-requires-else-bytes-room c =
    let told = c.waiting-room.ensures in
    ap (λ (r : Running). length r.rest) (c.complete.ensures ∙ absorbed_block c.args.self.now c.split_at.result.0.now (omega (arith, told.value, told.unfilled, c.split_at.ensures.front_len)))

pub returns-else-bytes-room : goal.returns-else-bytes-room
returns-else-bytes-room c =
    let r = c.args.self.now in
    let bytes = c.args.bytes.now in
    let room = 64 - c.waiting-room.result in
    c.update_whole-else-bytes-room.ensures
    ∙ ap₂ absorbed (c.complete.ensures ∙ ap (absorbed r) c.split_at.ensures.front) c.split_at.ensures.back
    ∙ absorbed_two r (take room bytes) (drop room bytes)
    ∙ ap (absorbed r) (take-append-drop room bytes)
