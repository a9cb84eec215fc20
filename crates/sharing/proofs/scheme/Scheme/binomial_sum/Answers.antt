use Rattle.std.proofs.Common.{◌+◌, ◌∙◌, sym, refl, rules, tests, arith}
use Rattle.std.proofs.lemmas.Iterator.{YieldsList-from_range, YieldsList-from_zip, YieldsList-from_map, serves_from_Range}
use Rattle.std.proofs.lemmas.Iterator.Consumers.{YieldsList-at, YieldsList-from_filter, sum_by_from_yields_List, fits_by_from_yields_list}
use Rattle.std.proofs.lemmas.Iterator.Adapters.{serves_from_places}
use Rattle.sharing.specs.Choose.{choose}
use Rattle.sharing.specs.Masks.{member, bits_of, rank_sum}
use Rattle.sharing.specs.Laws.{RankIsSum}
use Rattle.sharing.proofs.Ranks.{pairs, pair_low, rank_is_sum, sum_few}
use Rattle.sharing.proofs.scheme.Scheme.binomial_sum.Goals as goal

-- One chain stands in three answers: without a loop the type of its steps has no name to state a lemma by.
pub sum-requires-clause-can : goal.sum-requires-clause-can
unfolding bits_of
sum-requires-clause-can c = (
  ((tt, tt, serves_from_Range (λ x q k. search rules) (λ x low high. search rules)), tt),
  serves_from_places
      (YieldsList-at c.map.ensures.source (YieldsList-from_zip (YieldsList-at c.zip.ensures.first (YieldsList-from_filter _ (λ p. member (p + 1) c.args.mask) (YieldsList-at c.filter.ensures.source (YieldsList-from_range 0 8 8 refl refl)) c.filter.ensures.closure (λ x b q k. search (rules, tests)))) (YieldsList-at c.zip.ensures.second (YieldsList-from_range 1 9 8 refl refl))))
      (λ x q k. search rules)
      (λ p k inside at. let low = pair_low c.args.mask k p c.ranges.mask.fits inside at in search rules),
)

pub sum-requires-clause-fits : goal.sum-requires-clause-fits
unfolding rank_sum bits_of
sum-requires-clause-fits c =
    let scheme = c.args.self.now in
    let few = sum_few scheme.n scheme.t c.args.mask scheme.allowed c.requires in
    fits_by_from_yields_list (λ p. choose p.0 p.1) (pairs c.args.mask) c.map.result 256 (YieldsList-from_map _ (λ p. choose p.0 p.1) (YieldsList-at c.map.ensures.source (YieldsList-from_zip (YieldsList-at c.zip.ensures.first (YieldsList-from_filter _ (λ p. member (p + 1) c.args.mask) (YieldsList-at c.filter.ensures.source (YieldsList-from_range 0 8 8 refl refl)) c.filter.ensures.closure (λ x b q k. search (rules, tests)))) (YieldsList-at c.zip.ensures.second (YieldsList-from_range 1 9 8 refl refl)))) c.map.ensures.closure (λ x r q k. search rules)) (omega arith)

pub returns : goal.returns
unfolding RankIsSum rank_sum bits_of
returns c =
    let scheme = c.args.self.now in
    sum_by_from_yields_List (λ p. choose p.0 p.1) (pairs c.args.mask) c.map.result c.sum.result c.sum.ensures.ran (YieldsList-from_map _ (λ p. choose p.0 p.1) (YieldsList-at c.map.ensures.source (YieldsList-from_zip (YieldsList-at c.zip.ensures.first (YieldsList-from_filter _ (λ p. member (p + 1) c.args.mask) (YieldsList-at c.filter.ensures.source (YieldsList-from_range 0 8 8 refl refl)) c.filter.ensures.closure (λ x b q k. search (rules, tests)))) (YieldsList-at c.zip.ensures.second (YieldsList-from_range 1 9 8 refl refl)))) c.map.ensures.closure (λ x r q k. search rules)) ∙ sym (rank_is_sum scheme.n scheme.t c.args.mask scheme.allowed c.requires)
