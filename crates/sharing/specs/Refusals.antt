-- The number and the text of each refusal. Assumes nothing.
use Rattle.std.specs.Prelude.{ℕ, List, ◌++◌, codes, decimal}
use Rattle.sharing.specs.declared.refusal.Refusal.{Refusal}
use Rattle.sharing.specs.declared.refusal.Refusal.TheVariants.{Parameters, Rank, Mask, Group, Quorum}

abbrev pub number_of : Refusal → ℕ
number_of Parameters = 11
number_of Rank = 71
number_of Mask = 72
number_of Group = 73
number_of Quorum = 74

-- a refusal as text
abbrev pub text_of : Refusal → List ℕ
text_of refusal = codes "refused " ++ decimal (number_of refusal)
