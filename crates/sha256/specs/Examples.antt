-- Published examples: those of FIPS 180-4, and RFC 4231's test case 2. Assumes nothing.
use Rattle.std.specs.Prelude.{◌≡◌, [], ◌++◌, replicate, codes}
use Rattle.blocks.specs.Words.{number_of}
use Rattle.sha256.specs.Hash.{sha256}
use Rattle.sha256.specs.Hmac.{hmac}

pub record Published : Type 0 where
  pub empty : number_of (sha256 []) ≡ 0xe3b0c44298fc1c149afbf4c8996fb92427ae41e4649b934ca495991b7852b855
  pub abc : number_of (sha256 (codes "abc")) ≡ 0xba7816bf8f01cfea414140de5dae2223b00361a396177a9cb410ff61f20015ad
  pub two_blocks :
      number_of (sha256 (codes "abcdbcdecdefdefgefghfghighijhijkijkljklmklmnlmnomnopnopq"))
      ≡ 0x248d6a61d20638b8e5c026930c3e6039a33ce45964ff2167f6ecedd419db06c1
  pub code :
      number_of (hmac (codes "Jefe" ++ replicate 12 0) (codes "what do ya want for nothing?"))
      ≡ 0x5bdcc146bf60754e6a042426089575c75a003f089d2739839dec58b964ec3843
