-- The lines of a script. Assumes nothing.
use Rattle.std.proofs.Common.{◌≡◌, ℕ, zero, suc, ◌+◌, ◌-◌, min, ◌<◌, ◌≤◌, Bool, true, false, cond, eqb, List, [], ◌∷◌, ◌++◌, length, get_or, take, sym, refl, ap, ◌∙◌, arith}
use Rattle.std.specs.List.{flat_map, AllByRecursion, IsFirstMatchOrLen}
use Rattle.std.proofs.lemmas.List.{get_or_append_left, length-append}
use Rattle.script.specs.Lines.{line_feed, in_front, lines_of}
use Rattle.script.specs.Laws.{with_feed, ended, LinesAreScript}

abbrev pub is_feed : ℕ → Bool
is_feed b = eqb b line_feed

-- a piece whose inner bytes are no line feeds, and its last one is, unless nothing follows
lines_piece : (piece after : List ℕ) (i : ℕ) → length piece ≡ suc i → ((k : ℕ) → k < i → is_feed (get_or piece k 0) ≡ false) → (0 < length after → is_feed (get_or piece i 0) ≡ true) → lines_of (piece ++ after) ≡ cond (is_feed (get_or piece i 0)) (take i piece) piece ∷ lines_of after
unfolding lines_of in_front
lines_piece [] after i size inner last = absurd (omega arith)
lines_piece (b ∷ []) [] i size inner last = let none : i ≡ 0 = omega arith in grind arith
lines_piece (b ∷ []) (c ∷ after) i size inner last = let none : i ≡ 0 = omega arith in let h = last (omega arith) in grind arith
lines_piece (b ∷ c ∷ piece) after zero size inner last = absurd (omega arith)
lines_piece (b ∷ c ∷ piece) after (suc i) size inner last =
    let first = inner 0 (omega arith) in
    let others = lines_piece (c ∷ piece) after i (omega arith) (λ k h. inner (suc k) (omega arith)) last in
    grind arith

-- the piece up to the first line feed, without that feed, is the first line
pub line_of_piece : (all piece after line : List ℕ) (i : ℕ) → 0 < length all → all ≡ piece ++ after → length piece ≡ min (i + 1) (length all) → IsFirstMatchOrLen is_feed all i → line ≡ cond (is_feed (get_or piece (length piece - 1) 0)) (take (length piece - 1) piece) piece → lines_of all ≡ line ∷ lines_of after
line_of_piece all piece after line i some cut size first stripped =
    let size_all : length all ≡ length piece + length after = ap length cut ∙ length-append piece after in
    let same : (k : ℕ) → k < length piece → get_or all k 0 ≡ get_or piece k 0 = λ k h. ap (λ l. get_or l k 0) cut ∙ get_or_append_left piece after 0 k h in
    ap lines_of cut
    ∙ lines_piece piece after (length piece - 1) (omega (arith, size))
    (λ k h. ap is_feed (sym (same k (omega (arith, size)))) ∙ first.0 k 0 (omega arith) (omega (arith, size)))
    (λ h. let last : length piece - 1 ≡ i = omega (arith, size) in rw last (ap is_feed (sym (same i (omega (arith, size)))) ∙ first.1 (omega (arith, size)) 0))
    ∙ ap (λ l. l ∷ lines_of after) (sym stripped)

abbrev pub NoFeed : List ℕ → Type 0
NoFeed = AllByRecursion (λ b. b ≡ line_feed → ⊥)

-- a line in front of a script
pub lines_cons : (line rest : List ℕ) → NoFeed line → lines_of (line ++ line_feed ∷ rest) ≡ line ∷ lines_of rest
unfolding lines_of in_front
lines_cons [] rest none = refl
lines_cons (b ∷ line) rest none = let others = lines_cons line rest none.1 in grind arith

ended_some : (b : ℕ) (bs : List ℕ) → 0 < length (ended (b ∷ bs))
unfolding ended
ended_some b bs = grind arith

front_joined : (b c : ℕ) (bs : List ℕ) (lines : List (List ℕ)) → flat_map with_feed lines ≡ ended (c ∷ bs) → flat_map with_feed (in_front b lines) ≡ b ∷ ended (c ∷ bs)
unfolding in_front
front_joined b c bs [] e = absurd (omega (arith, ap length e, ended_some c bs))
front_joined b c bs (line ∷ lines) e = ap (λ l. b ∷ l) e

front_none : (b : ℕ) (lines : List (List ℕ)) → (b ≡ line_feed → ⊥) → AllByRecursion NoFeed lines → AllByRecursion NoFeed (in_front b lines)
unfolding in_front
front_none b lines ne all = grind arith

whole : (bs : List ℕ) → flat_map with_feed (lines_of bs) ≡ ended bs
unfolding lines_of in_front ended
whole [] = refl
whole (b ∷ []) = grind arith
whole (b ∷ c ∷ bs) = let others = whole (c ∷ bs) in grind (arith, front_joined)

none : (bs : List ℕ) → AllByRecursion NoFeed (lines_of bs)
unfolding lines_of
none [] = tt
none (b ∷ bs) = let others = none bs in grind (arith, front_none)

pub lines_are_script : LinesAreScript
unfolding LinesAreScript
lines_are_script script = (whole script, none script)

front_few : (b : ℕ) (lines : List (List ℕ)) → length (in_front b lines) ≤ suc (length lines)
unfolding in_front
front_few b lines = grind arith

pub lines_few : (bs : List ℕ) → length (lines_of bs) ≤ length bs
unfolding lines_of
lines_few [] = omega arith
lines_few (b ∷ bs) = let others = lines_few bs in grind (arith, front_few)
