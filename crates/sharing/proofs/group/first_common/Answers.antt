use Rattle.std.proofs.Common.{◌∙◌, sym, rules, tests, arith}
use Rattle.std.proofs.lemmas.Iterator.Search.{find_from_yields_List}
use Rattle.std.proofs.lemmas.Iterator.Adapters.{option_map_id}
use Rattle.sharing.specs.Split.{first_common}
use Rattle.sharing.proofs.Inclusive.{YieldsList-from_inclusive}
use Rattle.sharing.proofs.group.first_common.Goals as goal

pub returns : goal.returns
unfolding first_common
returns c =
    sym (option_map_id c.find.result) ∙ find_from_yields_List _ _ _ c.find.result c.find.ensures.ran (YieldsList-from_inclusive 1 c.args.n c.new.ensures.start (omega arith) c.new.ensures.exhausted) (λ x b q k. search (rules, tests))
