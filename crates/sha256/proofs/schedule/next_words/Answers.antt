use Rattle.std.proofs.Common.{◌≡◌, refl, ap, ◌∙◌, arith}
use Rattle.sha256.proofs.Windows.{turned, turned_more, all_turned}
use Rattle.sha256.proofs.schedule.next_words.Goals as goal

pub loop-i-init : goal.loop-i-init
unfolding turned
loop-i-init c = refl

pub loop-i-preserved : goal.loop-i-preserved
loop-i-preserved c = turned_more c.loop-i.i c.next_word.result c.loop-i.w c.args.w.now c.loop-i.invariant c.next_word.ensures

pub returns : goal.returns
returns c =
    let all : c.loop-i.i ≡ 16 = omega (arith, c.loop-i-test.false, c.loop-i.auto.i-end) in
    c.loop-i.invariant ∙ ap (λ i. turned i c.args.w.now) all ∙ all_turned c.args.w.now c.told-w
