-- The codec's part of the paper's vectors P7 to P10, as one list.
use Rattle.std.specs.Prelude.{◌≡◌, false, List, [], ◌∷◌, ℕ}
use Rattle.block.specs.Block.{block_of}
use Rattle.block.specs.Reader.{read_of, inf_read}
use Rattle.block.specs.declared.event.Event.{Event}
use Rattle.block.specs.declared.event.Event.TheVariants.{I, IfsResponse, Wtx, Edc, Other}

pub data Vector : Type 0 where
  sent : (pcb : ℕ) (inf block : List ℕ) → Vector
  received : (kind : ℕ) (bytes : List ℕ) (event : Event) (inf : List ℕ) → Vector

abbrev pub Holds : Vector → Type 0
Holds (sent p inf b) = block_of p inf ≡ b
Holds (received k s e inf) = (read_of k s ≡ e) × (inf_read k s ≡ inf)

abbrev pub AllHold : List Vector → Type 0
AllHold [] = Unit {0}
AllHold (v ∷ vs) = Holds v × AllHold vs

abbrev pub vectors : List Vector
vectors =
    -- P7: IFS request, answered
    sent 0xC1 (0xFE ∷ []) (0x00 ∷ 0xC1 ∷ 0x01 ∷ 0xFE ∷ 0x3E ∷ [])
    ∷ received 0 (0x00 ∷ 0xE1 ∷ 0x01 ∷ 0xFE ∷ 0x1E ∷ []) (IfsResponse 0xFE) (0xFE ∷ [])
    -- P8: a command, and the answer that delivers 90 00
    ∷ sent 0x00 (0x00 ∷ 0xA4 ∷ 0x04 ∷ 0x00 ∷ []) (0x00 ∷ 0x00 ∷ 0x04 ∷ 0x00 ∷ 0xA4 ∷ 0x04 ∷ 0x00 ∷ 0xA4 ∷ [])
    ∷ received 0 (0x00 ∷ 0x00 ∷ 0x02 ∷ 0x90 ∷ 0x00 ∷ 0x92 ∷ []) (I 0 false) (0x90 ∷ 0x00 ∷ [])
    -- P9: a parity fault, and silence
    ∷ received 1 (0x00 ∷ 0x00 ∷ 0x02 ∷ 0x90 ∷ 0x00 ∷ 0x92 ∷ []) Edc []
    ∷ sent 0x81 [] (0x00 ∷ 0x81 ∷ 0x00 ∷ 0x81 ∷ [])
    ∷ received 2 [] Other []
    ∷ sent 0x82 [] (0x00 ∷ 0x82 ∷ 0x00 ∷ 0x82 ∷ [])
    -- P10: a request for time, answered
    ∷ received 0 (0x00 ∷ 0xC3 ∷ 0x01 ∷ 0x03 ∷ 0xC1 ∷ []) (Wtx 0x03) (0x03 ∷ [])
    ∷ sent 0xE3 (0x03 ∷ []) (0x00 ∷ 0xE3 ∷ 0x01 ∷ 0x03 ∷ 0xE1 ∷ [])
    ∷ []
