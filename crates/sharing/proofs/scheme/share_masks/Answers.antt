use Rattle.std.proofs.Common.{◌≡◌, ◌+◌, ◌-◌, ◌*◌, ◌%◌, ◌^◌, ◌<◌, ◌≤◌, ◌==◌, count_ones, length, get_or, refl, subst, rules, tests, arith}
use Rattle.std.proofs.lemmas.Nat.{one_shl}
use Rattle.std.specs.List.{enumerate_from}
use Rattle.std.proofs.lemmas.Iterator.{YieldsList, YieldsList-from_range}
use Rattle.std.proofs.lemmas.Iterator.Consumers.{YieldsList-at, YieldsList-from_filter, YieldsList-from_enumerate, YieldsList-turn, YieldsList-end}
use Rattle.std.proofs.lemmas.List.{length_push}
use Rattle.std.proofs.lemmas.List.FromFn.{length-enumerate_from}
use Rattle.sharing.specs.Masks.{share_masks}
use Rattle.sharing.proofs.Schemes.{n_high}
use Rattle.sharing.proofs.Order.{shares_few, from_range, mask_is_byte, length_masks, filled_none, filled_more, filled_all, pair_at}
use Rattle.sharing.proofs.scheme.share_masks.Goals as goal
use Rattle.sharing.proofs.scheme.share_masks.Given as given
use Rattle.sharing.proofs.scheme.share_masks.Goals.{In-Some, After-into_iter-rank-iterator}

pub loop-rank-init : goal.loop-rank-init
loop-rank-init c = filled_none (share_masks c.args.n c.args.t)

-- the share masks come with their ranks
road : (c : After-into_iter-rank-iterator) → YieldsList (given.iterator-loop-rank).next_gives (λ p. (p.0, p.1)) c.into_iter-rank-iterator.result (enumerate_from 0 (share_masks c.args.n c.args.t))
road c =
    let n = c.args.n in
    let t = c.args.t in
    let few = n_high n t c.requires in
    let shift = one_shl n 16 (omega arith) in
    subst (λ ms. YieldsList (given.iterator-loop-rank).next_gives (λ p. (p.0, p.1)) c.into_iter-rank-iterator.result (enumerate_from 0 ms)) (from_range n t c.requires)
    (YieldsList-at c.into_iter-rank-iterator.ensures.into_iter_gives (YieldsList-from_enumerate (YieldsList-at c.enumerate-rank-items.ensures.source (YieldsList-from_filter _ (λ m. count_ones m == n - t + 1) (YieldsList-at c.filter.ensures.source (YieldsList-from_range 0 ((1 * 2 ^ n) % 2 ^ 16) (2 ^ n) refl (omega (arith, shift)))) c.filter.ensures.closure (λ x b q k. search (rules, tests)))) c.enumerate-rank-items.ensures.count))

-- the next rank and its mask
turn : (c : In-Some) → (length c.loop-rank.yielded < length (share_masks c.args.n c.args.t)) × (c.in-Some.rank ≡ length c.loop-rank.yielded) × (c.in-Some.mask ≡ get_or (share_masks c.args.n c.args.t) (length c.loop-rank.yielded) 0)
turn c =
    pair_at (share_masks c.args.n c.args.t) _ _ _ (YieldsList-turn (road (goal.at.bounds-masks-rank c).After-into_iter-rank-iterator) c.loop-rank.yielded _ c.loop-rank.yielded_by _ _ (c.in-Some.rank, c.in-Some.mask) c.in-Some.is c.next.ensures.steps)

-- its place is in the table
low : (c : In-Some) → c.in-Some.rank < 70
low c = omega (arith, turn c, length_masks c.args.n c.args.t c.requires, shares_few c.args.n c.args.t c.requires)

-- and its mask is a byte
byte : (c : In-Some) → c.in-Some.mask ≤ 255
byte c =
    let t = turn c in
    rw t.2 (mask_is_byte c.args.n c.args.t (length c.loop-rank.yielded) c.requires t.0)

pub bounds-masks-rank : goal.bounds-masks-rank
bounds-masks-rank c = low c

pub overflow_cast-masks : goal.overflow_cast-masks
overflow_cast-masks c = record { fits = omega (arith, byte c) }

pub loop-rank-preserved : goal.loop-rank-preserved
loop-rank-preserved c =
    let t = turn c in
    let place = low c in
    rw (length_push c.loop-rank.yielded (c.in-Some.rank, c.in-Some.mask), t.1) (filled_more c.loop-rank.masks (share_masks c.args.n c.args.t) (length c.loop-rank.yielded) c.in-Some.mask t.0 (omega (arith, t, place)) t.2 c.loop-rank.invariant)

pub returns : goal.returns
returns c =
    let masks = share_masks c.args.n c.args.t in
    let end = YieldsList-end (road (goal.at.returns c).After-into_iter-rank-iterator) c.loop-rank.yielded _ c.loop-rank.yielded_by _ _ c.in-None.is c.next.ensures.steps in
    filled_all c.loop-rank.masks masks (length c.loop-rank.yielded) (omega (arith, end.1, length-enumerate_from 0 masks)) c.loop-rank.invariant
