-- The paper's vectors P1 to P6, as one list.
use Rattle.std.specs.Prelude.{◌≡◌, List, [], ◌∷◌, ℕ, Ok, Err}
use Rattle.atr.specs.declared.refusal.Refusal.TheVariants.{Start, Length, Parameter}
use Rattle.atr.specs.Answer.{Answer, answer_of}

pub record Vector : Type 0 where
  pub bytes : List ℕ
  pub answer : Answer

abbrev pub AllHold : List Vector → Type 0
AllHold [] = Unit {0}
AllHold (v ∷ vs) = (answer_of v.bytes ≡ v.answer) × AllHold vs

abbrev pub vectors : List Vector
vectors =
    -- P1: IFSC 32, distance 12, CWT 43, BWT 15,371
    record {
      bytes = 0x3B ∷ 0xE0 ∷ 0x00 ∷ 0x00 ∷ 0x81 ∷ 0x31 ∷ 0x20 ∷ 0x45 ∷ 0x35 ∷ [];
      answer = Ok (record { ifsc = 32; distance = 12; cwt = 43; bwt = 15371; used = 1; historical = 0; f = 372; d = 1 });
    }
    -- P2: accepted, distance 11
    ∷ record {
      bytes = 0x3B ∷ 0xE0 ∷ 0x00 ∷ 0xFF ∷ 0x81 ∷ 0x31 ∷ 0x20 ∷ 0x40 ∷ 0xCF ∷ [];
      answer = Ok (record { ifsc = 32; distance = 11; cwt = 12; bwt = 15371; used = 1; historical = 0; f = 372; d = 1 });
    }
    -- P3: 12, as 1 is below 2
    ∷ record { bytes = 0x3B ∷ 0xE0 ∷ 0x00 ∷ 0x01 ∷ 0x81 ∷ 0x31 ∷ 0x20 ∷ 0x40 ∷ 0x31 ∷ []; answer = Err Parameter }
    -- P4: D 4, IFSC 254
    ∷ record {
      bytes = 0x3B ∷ 0xF0 ∷ 0x13 ∷ 0x00 ∷ 0x00 ∷ 0x91 ∷ 0x01 ∷ 0x31 ∷ 0xFE ∷ 0x45 ∷ 0xF9 ∷ [];
      answer = Ok (record { ifsc = 254; distance = 12; cwt = 43; bwt = 15371; used = 4; historical = 0; f = 372; d = 4 });
    }
    -- P5: the empty ATR, 9
    ∷ record { bytes = []; answer = Err Length }
    -- P6: the single byte 3C, 8
    ∷ record { bytes = 0x3C ∷ []; answer = Err Start }
    ∷ []
