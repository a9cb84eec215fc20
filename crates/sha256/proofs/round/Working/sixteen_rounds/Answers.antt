use Rattle.std.proofs.Common.{◌≡◌, ap₂, ◌∙◌, sym}
use Rattle.sha256.specs.Rounds.{rounds}
use Rattle.sha256.proofs.Windows.{written, written_is}
use Rattle.sha256.proofs.round.Working.sixteen_rounds.Goals as goal

pub returns : goal.returns
unfolding rounds written
returns c =
    let s = c.args.self.now in
    let ks = c.args.k.now in
    let ws = c.args.w.now in
    let e : c.round.result ≡ rounds s (written ks) (written ws) = cc in
    e ∙ sym (ap₂ (rounds s) (written_is ks c.told-k) (written_is ws c.told-w))
