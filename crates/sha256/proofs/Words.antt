-- The words of a block, from chunks of four bytes. Assumes nothing.
use Rattle.std.proofs.Common.{◌≡◌, ℕ, zero, suc, ◌+◌, ◌*◌, ◌<◌, List, [], length, get_or, take, drop, map, ap, ◌∙◌, add-zero, arith}
use Rattle.std.specs.Simd.{first_chunks}
use Rattle.std.specs.List.{range_with_len}
use Rattle.std.proofs.lemmas.List.{drop-drop, length-take-le, length-drop, get_or-take, get_or-drop}
use Rattle.std.proofs.lemmas.List.FromFn.{fill_by_all}
use Rattle.blocks.specs.Words.{word_at}

chunk_is : (n k i : ℕ) (xs : List ℕ) → i < k → get_or (first_chunks n k xs) i [] ≡ take n (drop (n * i) xs)
chunk_is n zero i xs h = absurd (omega arith)
chunk_is n (suc k) zero xs h = let none : n * 0 ≡ 0 = omega arith in rw none
chunk_is n (suc k) (suc i) xs h =
    let next : n + n * i ≡ n * suc i = omega arith in
    chunk_is n k i (drop n xs) (omega arith) ∙ ap (take n) (drop-drop (n * i) n xs ∙ ap (λ m. drop m xs) next)

pub chunk_word : (block : List ℕ) (i : ℕ) → i < 16 → length block ≡ 64 → word_at (get_or (first_chunks 4 16 block) i []) 0 ≡ word_at block (4 * i)
chunk_word block i h e =
    let j = 4 * i in
    let four : take 4 (drop j block) ≡ map (λ k. get_or block (j + k) 0) (range_with_len 0 4) =
    fill_by_all (λ k. get_or block (j + k) 0) (take 4 (drop j block)) 4 0 (length-take-le 4 (drop j block) (omega (arith, length-drop j block)))
    (λ k l. get_or-take 4 (drop j block) k 0 l ∙ get_or-drop j block k 0) in
    ap (λ bytes. word_at bytes 0) (chunk_is 4 16 i block h ∙ four) ∙ rw (add-zero j)
