-- What the inner functions of the code work on: no public contract names it. Assumes nothing.
use Rattle.std.specs.Prelude.{ℕ, List, drop}
use Rattle.sha256.specs.Rounds.{extended}

-- the sixteen words of the schedule that follow sixteen words of it
unfoldable pub next_window : List ℕ → List ℕ
next_window ws = drop 16 (extended 16 ws)
