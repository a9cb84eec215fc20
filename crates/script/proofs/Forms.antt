-- A line that deals is `d N T`. Assumes nothing.
use Rattle.std.proofs.Common.{◌≡◌, ℕ, ◌+◌, ◌<◌, Ok, List, [], ◌∷◌, ◌++◌, codes, decimal, sym, refl, ap, ◌∙◌, arith, length-drop, get_or-drop}
use Rattle.std.proofs.lemmas.Fmt.{decimal_digit}
use Rattle.std.proofs.lemmas.Slice.Eq.{text_from_reads}
use Rattle.std.proofs.lemmas.Bool.Decides.{nat_tests}
use Rattle.script.specs.Commands.{command_of}
use Rattle.script.specs.Laws.{DealIsLine}
use Rattle.script.specs.declared.command.Command.TheVariants.{Deal}

-- the line, byte by byte
abbrev pub bytes : ℕ → ℕ → List ℕ
bytes n t = 100 ∷ 32 ∷ (48 + n) ∷ 32 ∷ (48 + t) ∷ []

pub deal_bytes : (n t : ℕ) → n < 10 → t < 10 → codes "d " ++ (decimal n ++ (codes " " ++ decimal t)) ≡ bytes n t
deal_bytes n t p q = rw (decimal_digit n p, decimal_digit t q) refl

back : (n t : ℕ) → n < 10 → t < 10 → command_of (bytes n t) ≡ Ok (Deal n t)
back n t p q = grind (arith, nat_tests)

forth : (line : List ℕ) (n t : ℕ) → command_of line ≡ Ok (Deal n t) → (n < 10) × (t < 10) × (line ≡ bytes n t)
forth line n t e =
    (grind (arith, nat_tests), grind (arith, nat_tests), text_from_reads line (bytes n t) (grind (arith, nat_tests, length-drop)) (grind (arith, nat_tests, get_or-drop)))

pub deal_is_line : DealIsLine
unfolding DealIsLine
deal_is_line line n t = (
  λ e. let parts = forth line n t e in (parts.0, parts.1, parts.2 ∙ sym (deal_bytes n t parts.0 parts.1)),
  λ p q e. ap command_of (e ∙ deal_bytes n t p q) ∙ back n t p q,
)
