-- The number and the text of each refusal. Assumes nothing.
use Rattle.std.specs.Prelude.{ℕ, List, ◌++◌, codes, decimal}
use Rattle.keyed.specs.declared.refusal.Refusal.{Refusal}
use Rattle.keyed.specs.declared.refusal.Refusal.TheVariants.{TooLong}

abbrev pub number_of : Refusal → ℕ
number_of TooLong = 17

-- a refusal as text
abbrev pub text_of : Refusal → List ℕ
text_of refusal = codes "refused " ++ decimal (number_of refusal)
