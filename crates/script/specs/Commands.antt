-- What a line asks for. Assumes nothing.
use Rattle.std.specs.Prelude.{ℕ, ◌-◌, Bool, cond, ◌&&◌, Result, Ok, Err, List, length, drop, ◌==◌, nat_le, slice_index}
use Rattle.script.specs.declared.command.Command.{Command}
use Rattle.script.specs.declared.command.Command.TheVariants.{Deal}
use Rattle.script.specs.declared.refusal.Refusal.{Refusal}
use Rattle.script.specs.declared.refusal.Refusal.TheVariants.{NoCommand}

abbrev pub blank : ℕ
blank = 32

-- the codes of 0 to 9
abbrev pub is_digit : ℕ → Bool
is_digit b = nat_le 48 b && nat_le b 57

-- after the letter d, with code 100, and a blank: a digit, a blank and a digit
abbrev pub deal_of : List ℕ → Result Command Refusal
deal_of rest =
    cond (length rest == 3 && (is_digit (slice_index rest 0) && (slice_index rest 1 == blank && is_digit (slice_index rest 2)))) (Ok (Deal (slice_index rest 0 - 48) (slice_index rest 2 - 48))) (Err NoCommand)

-- a letter, a blank, and what the letter wants
abbrev pub command_of : List ℕ → Result Command Refusal
command_of line =
    cond (nat_le 2 (length line) && slice_index line 1 == blank) (cond (slice_index line 0 == 100) (deal_of (drop 2 line)) (Err NoCommand)) (Err NoCommand)
