-- Hashing part by part. Assumes nothing.
use Rattle.std.proofs.Common.{◌≡◌, ℕ, ◌+◌, ◌*◌, ◌/◌, ◌%◌, ◌^◌, ◌<◌, ◌≤◌, List, [], ◌∷◌, ◌++◌, length, take, drop, replicate, sym, refl, ap, ◌∙◌, ap₂, zero-add, arith}
use Rattle.std.proofs.lemmas.List.{append_assoc, take-append-drop, take_all, drop-append-le, drop-drop, drop_all, length-take-le, length-append, length-drop, length-replicate}
use Rattle.sha256.specs.Primes.{initial}
use Rattle.sha256.specs.Compress.{compressed, compressed_all}
use Rattle.sha256.specs.Hash.{hash_bytes, zeros_after, length_field, padding, padded, sha256}
use Rattle.sha256.specs.Running.{Running, resumed, begun, absorbed, finished}
use Rattle.sha256.proofs.Blocks.{all_front, all_add}
use Rattle.sha256.specs.Laws.{PaddedInBlocks, InTwoParts}

-- ---- what a part of the bytes leaves

pub same : {a b c d : List ℕ} {m n : ℕ} → a ≡ b → c ≡ d → m ≡ n → ◌≡◌ {A = Running} (record { hash = a; rest = c; count = m }) (record { hash = b; rest = d; count = n })
same p q r = cc

-- as many bytes wait as the count is past whole blocks
pub waiting_is : (hash block : List ℕ) (count : ℕ) (r : Running) → length block ≡ 64 → ◌≡◌ {A = Running} (record { hash = hash; rest = take (count % 64) block; count = count }) r
    → (length (take (count % 64) block) ≡ count % 64) × (length r.rest ≡ count % 64)
waiting_is hash block count r long is =
    let size = length-take-le (count % 64) block (omega arith) in
    (size, ap (λ (s : Running). length s.rest) (sym is) ∙ size)

-- bytes taken in that leave a hash and a rest
abbrev pub taken : Running → List ℕ → List ℕ → List ℕ → Running
taken r bytes hash rest = record { hash = hash; rest = rest; count = (r.count + length bytes) % 2 ^ 64 }

-- a part after which n blocks are whole
pub of_blocks : (r : Running) (bytes : List ℕ) (n : ℕ) → length (r.rest ++ bytes) / 64 ≡ n
    → absorbed r bytes ≡ taken r bytes (compressed_all n r.hash (r.rest ++ bytes)) (drop (64 * n) (r.rest ++ bytes))
unfolding absorbed
of_blocks r bytes n e =
    let all = r.rest ++ bytes in
    ap (λ k. taken r bytes (compressed_all k r.hash all) (drop (64 * k) all)) e

pub absorbed_few : (r : Running) (bytes : List ℕ) → length r.rest + length bytes < 64
    → absorbed r bytes ≡ taken r bytes r.hash (r.rest ++ bytes)
unfolding compressed_all
absorbed_few r bytes h = of_blocks r bytes 0 (omega (arith, length-append r.rest bytes))

pub absorbed_whole : (r : Running) (bytes : List ℕ) (n : ℕ) → length r.rest + length bytes ≡ 64 * n
    → absorbed r bytes ≡ taken r bytes (compressed_all n r.hash (r.rest ++ bytes)) []
absorbed_whole r bytes n h =
    let long = length-append r.rest bytes in
    of_blocks r bytes n (omega (arith, long)) ∙ same refl (drop_all (64 * n) (r.rest ++ bytes) (omega (arith, long))) refl

pub absorbed_block : (r : Running) (bytes : List ℕ) → length r.rest + length bytes ≡ 64
    → absorbed r bytes ≡ taken r bytes (compressed r.hash (r.rest ++ bytes)) []
unfolding compressed_all
absorbed_block r bytes h =
    absorbed_whole r bytes 1 (omega arith)
    ∙ same (ap (compressed r.hash) (take_all 64 (r.rest ++ bytes) (omega (arith, length-append r.rest bytes)))) refl refl

-- two parts one after the other are one part
pub absorbed_two : (r : Running) (xs ys : List ℕ) → absorbed (absorbed r xs) ys ≡ absorbed r (xs ++ ys)
absorbed_two r xs ys =
    let all = r.rest ++ xs in
    let m = length all / 64 in
    let left = drop (64 * m) all in
    let n = length (left ++ ys) / 64 in
    let within : 64 * m ≤ length all = omega arith in
    let whole = append_assoc r.rest xs ys in
    let longer = length-append all ys in
    let count_is : ((r.count + length xs) % 2 ^ 64 + length ys) % 2 ^ 64 ≡ (r.count + length (xs ++ ys)) % 2 ^ 64 = omega (arith, length-append xs ys) in
    let blocks : length (r.rest ++ (xs ++ ys)) / 64 ≡ m + n = omega (arith, ap length whole, longer, length-append left ys, length-drop (64 * m) all) in
    let at : 64 * m + 64 * n ≡ 64 * (m + n) = omega arith in
    ap (λ s. absorbed s ys) (of_blocks r xs m refl)
    ∙ of_blocks (taken r xs (compressed_all m r.hash all) left) ys n refl
    ∙ same
    (ap₂ (compressed_all n) (sym (all_front m r.hash all ys within)) (sym (drop-append-le (64 * m) all ys within))
    ∙ sym (all_add m n r.hash (all ++ ys)) ∙ ap (compressed_all (m + n) r.hash) whole)
    (ap (drop (64 * n)) (sym (drop-append-le (64 * m) all ys within)) ∙ drop-drop (64 * n) (64 * m) (all ++ ys) ∙ ap₂ drop at whole)
    count_is
    ∙ sym (of_blocks r (xs ++ ys) (m + n) blocks)

-- ---- the whole

-- what follows a message goes by its length modulo 2 ^ 64
padding_wraps : (n : ℕ) → padding (n % 2 ^ 64) ≡ padding n
unfolding padding
padding_wraps n =
    let zeros : zeros_after (n % 2 ^ 64) ≡ zeros_after n = omega arith in
    let bits : ((n % 2 ^ 64) * 8) % 2 ^ 64 ≡ (n * 8) % 2 ^ 64 = omega arith in
    rw (zeros, bits)

counted : (message : List ℕ) → (absorbed (resumed initial 0) message).count ≡ length message % 2 ^ 64
unfolding absorbed
counted message = ap (λ k. k % 2 ^ 64) (zero-add (length message))

pub finished_whole : (message : List ℕ) → finished (absorbed begun message) ≡ sha256 message
unfolding finished begun sha256 padded
finished_whole message =
    let n = length message in
    let r = absorbed (resumed initial 0) message in
    ap (λ k. hash_bytes (absorbed r (padding k)).hash) (counted message)
    ∙ ap (λ p. hash_bytes (absorbed r p).hash) (padding_wraps n)
    ∙ ap (λ s. hash_bytes s.hash) (absorbed_two (resumed initial 0) message (padding n) ∙ of_blocks (resumed initial 0) (message ++ padding n) _ refl)

-- two parts one after the other are hashed as the whole
pub in_parts : (xs ys : List ℕ) → finished (absorbed (absorbed begun xs) ys) ≡ sha256 (xs ++ ys)
in_parts xs ys = ap finished (absorbed_two begun xs ys) ∙ finished_whole (xs ++ ys)

pub in_two_parts : InTwoParts
unfolding InTwoParts
in_two_parts message cut = in_parts (take cut message) (drop cut message) ∙ ap sha256 (take-append-drop cut message)

padding_length : (n : ℕ) → length (padding n) ≡ zeros_after n + 9
unfolding padding
padding_length n = length-append (128 ∷ replicate (zeros_after n) 0) (length_field n) ∙ omega (arith, length-replicate {A = ℕ} (zeros_after n) 0)

pub padded_in_blocks : PaddedInBlocks
unfolding PaddedInBlocks padded
padded_in_blocks message =
    let long = length-append message (padding (length message)) in
    (omega (arith, long, padding_length (length message)), omega arith)
