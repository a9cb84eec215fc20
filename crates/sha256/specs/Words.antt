-- SHA-256's functions on words of 32 bits. Assumes nothing.
use Rattle.std.specs.Prelude.{ℕ, ◌+◌, ◌-◌, ◌*◌, ◌/◌, ◌%◌, ◌^◌, bit_and, bit_or, bit_xor}

-- addition modulo 2 ^ 32
abbrev pub add32 : ℕ → ℕ → ℕ
add32 x y = (x + y) % 2 ^ 32

-- x turned right by k bits
abbrev pub rotate_right : ℕ → ℕ → ℕ
rotate_right k x = bit_or (x / 2 ^ k) ((x * 2 ^ (32 - k)) % 2 ^ 32)

-- x moved right by k bits
abbrev pub shift_right : ℕ → ℕ → ℕ
shift_right k x = x / 2 ^ k

-- Σ, by three numbers of bits
abbrev pub big_sigma : ℕ → ℕ → ℕ → ℕ → ℕ
big_sigma a b c x = bit_xor (bit_xor (rotate_right a x) (rotate_right b x)) (rotate_right c x)

-- Σ0 and Σ1
abbrev pub big_sigma0 : ℕ → ℕ
big_sigma0 x = big_sigma 2 13 22 x

abbrev pub big_sigma1 : ℕ → ℕ
big_sigma1 x = big_sigma 6 11 25 x

-- σ, by three numbers of bits
abbrev pub small_sigma : ℕ → ℕ → ℕ → ℕ → ℕ
small_sigma a b c x = bit_xor (bit_xor (rotate_right a x) (rotate_right b x)) (shift_right c x)

-- σ0 and σ1
abbrev pub small_sigma0 : ℕ → ℕ
small_sigma0 x = small_sigma 7 18 3 x

abbrev pub small_sigma1 : ℕ → ℕ
small_sigma1 x = small_sigma 17 19 10 x

-- every bit of x the other way round
abbrev pub complement : ℕ → ℕ
complement x = bit_xor x (2 ^ 32 - 1)

-- Ch: the bits of y where x has ones, and those of z where x has zeros
abbrev pub choice : ℕ → ℕ → ℕ → ℕ
choice x y z = bit_xor (bit_and x y) (bit_and (complement x) z)

-- Maj: each bit as at least two of the three have it
abbrev pub majority : ℕ → ℕ → ℕ → ℕ
majority x y z = bit_xor (bit_xor (bit_and x y) (bit_and x z)) (bit_and y z)
