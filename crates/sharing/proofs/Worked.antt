-- The worked examples are computed. Assumes nothing.
use Rattle.std.proofs.Common.{refl}
use lib.Count.{ones, ones_in}
use Rattle.sharing.specs.Choose.{choose}
use Rattle.sharing.specs.Masks.{share_masks}
use Rattle.sharing.specs.Split.{first_common}
use Rattle.sharing.specs.Examples.{Examples}

pub examples : Examples
unfolding choose share_masks first_common ones ones_in
examples = record {
  shares_of_five = refl;
  shares_of_eight = refl;
  rank_of_mask = refl;
  ranks_of_unit = refl;
  lacked_by_pair = refl;
  to_second = refl;
  to_third = refl;
  to_fifth = refl;
}
