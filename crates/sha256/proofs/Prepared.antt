-- A prepared key makes what HMAC makes. Assumes nothing.
use Rattle.std.proofs.Common.{◌≡◌, ℕ, ◌+◌, ◌-◌, ◌≤◌, leb, List, ◌++◌, length, replicate, sym, refl, ap, ◌∙◌, arith}
use Rattle.std.proofs.lemmas.List.{append_assoc, length-append, length-map, length-replicate, replicate-append-replicate}
use Rattle.std.proofs.lemmas.Bool.{cond_both, cond-true, leb-true, le-leb}
use Rattle.sha256.specs.Primes.{initial}
use Rattle.sha256.specs.Compress.{compressed}
use Rattle.sha256.specs.Hash.{sha256}
use Rattle.sha256.specs.Running.{resumed, begun, absorbed, finished}
use Rattle.sha256.specs.Hmac.{zero_filled, key_block, masked, hmac, midstate, prepared_key, digest_after, mac_of}
use Rattle.sha256.specs.declared.hmac.HmacKey.{HmacKey}
use Rattle.sha256.specs.Laws.{PreparedIsHmac, ZerosAfterKey}
use Rattle.sha256.proofs.Parts.{same, absorbed_block, absorbed_two, finished_whole}
use Rattle.sha256.proofs.Digests.{sha256_length}

filled_length : (bytes : List ℕ) → length bytes ≤ 64 → length (zero_filled bytes) ≡ 64
filled_length bytes h = length-append bytes _ ∙ omega (arith, length-replicate {A = ℕ} (64 - length bytes) 0)

block_length : (key : List ℕ) → length (key_block key) ≡ 64
unfolding key_block
block_length key =
    cond_both (leb (length key) 64) key (sha256 key) (λ k. length (zero_filled k) ≡ 64)
    (λ short. filled_length key (leb-true _ _ short)) (λ long. filled_length (sha256 key) (omega (arith, sha256_length key)))

masked_length : (pad : ℕ) (key : List ℕ) → length (masked pad (key_block key)) ≡ 64
unfolding masked
masked_length pad key = length-map (key_block key) _ ∙ block_length key

after_block : (block : List ℕ) → length block ≡ 64 → absorbed begun block ≡ resumed (compressed initial block) 64
unfolding begun
after_block block h = absorbed_block (resumed initial 0) block (omega arith) ∙ same refl refl (omega arith)

digest_after_lem : (pad : ℕ) (key bytes : List ℕ) → digest_after (midstate pad (key_block key)) bytes ≡ sha256 (masked pad (key_block key) ++ bytes)
unfolding digest_after midstate
digest_after_lem pad key bytes =
    let block = masked pad (key_block key) in
    ap (λ r. finished (absorbed r bytes)) (sym (after_block block (masked_length pad key)))
    ∙ ap finished (absorbed_two begun block bytes)
    ∙ finished_whole (block ++ bytes)

pub prepared_is_hmac : PreparedIsHmac
unfolding PreparedIsHmac hmac
prepared_is_hmac key message =
    ap (digest_after (midstate 0x5c (key_block key))) (digest_after_lem 0x36 key message) ∙ digest_after_lem 0x5c key _

-- a key of at most a block stands for itself
short_block : (key : List ℕ) → length key ≤ 64 → key_block key ≡ zero_filled key
unfolding key_block
short_block key h = ap zero_filled (cond-true (leb (length key) 64) key (sha256 key) (le-leb (length key) 64 h))

-- zeros after a key are among those that fill it
filled_on : (key : List ℕ) (n : ℕ) → length key + n ≤ 64 → zero_filled (key ++ replicate n 0) ≡ zero_filled key
filled_on key n h =
    let long = length-append key (replicate n 0) ∙ ap (λ m. length key + m) (length-replicate {A = ℕ} n 0) in
    let rest : n + (64 - (length key + n)) ≡ 64 - length key = omega arith in
    append_assoc key (replicate n 0) (replicate (64 - length (key ++ replicate n 0)) 0)
    ∙ ap (λ m. key ++ (replicate n 0 ++ replicate (64 - m) 0)) long
    ∙ ap (λ x. key ++ x) (replicate-append-replicate n (64 - (length key + n)) 0 ∙ ap (λ m. replicate m 0) rest)

pub zeros_after_key : ZerosAfterKey
unfolding ZerosAfterKey hmac
zeros_after_key key message n h =
    let long = length-append key (replicate n 0) ∙ ap (λ m. length key + m) (length-replicate {A = ℕ} n 0) in
    let block : key_block (key ++ replicate n 0) ≡ key_block key =
    short_block (key ++ replicate n 0) (omega (arith, long)) ∙ filled_on key n h ∙ sym (short_block key (omega arith)) in
    ap (λ b. sha256 (masked 0x5c b ++ sha256 (masked 0x36 b ++ message))) block

pub mac_is_hmac : (key message : List ℕ) (prepared : HmacKey) → prepared ≡ prepared_key key → mac_of prepared message ≡ hmac key message
unfolding PreparedIsHmac
mac_is_hmac key message prepared e = ap (λ p. mac_of p message) e ∙ prepared_is_hmac key message
