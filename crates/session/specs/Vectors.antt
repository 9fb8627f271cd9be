-- P1 to P12 of document 01 as one list: what open answers, the calls, and every field of every answer.
use Rattle.std.specs.Prelude.{ℕ, zero, suc, ◌≡◌, cond, List, [], ◌∷◌, ◌++◌, get_or, replicate}
use Rattle.atr.specs.declared.report.Report.{Report}
use Rattle.atr.specs.Answer.{zeros}
use Rattle.shares.specs.Pool.{Pool, fit}
use Rattle.shares.specs.Rack.{Call, on, Rack, answers}
use Rattle.session.specs.Slot.{empty}
use Rattle.session.specs.Call.{Lent, attach, command, event, collect, Answer, refuses, says}
use Rattle.session.specs.Protocol.{t1}

pub record Vector : Type 0 where
  pub shares : List ℕ
  pub ceilings : List ℕ
  -- open: 0, or 2
  pub opens : ℕ
  pub calls : List (Call t1)
  pub wanted : List Answer

abbrev pub pool_of : Vector → Pool
pool_of v = record { holders = 8; cells = 96; share = λ i. get_or v.shares i 0; ceiling = λ i. get_or v.ceilings i 0 }

-- all slots empty
abbrev pub idle : Rack t1
idle i = empty

abbrev pub AllHold : List Vector → Type 0
AllHold [] = Unit {0}
AllHold (v ∷ vs) = ((cond (fit (pool_of v)) 0 2 ≡ v.opens) × (answers (pool_of v) t1 idle v.calls ≡ v.wanted)) × AllHold vs

-- ---- the racks: share 10 for all, ceiling 96 for slot 0, 10 elsewhere; and shares alone

abbrev pub tens : List (Call t1) → List Answer → Vector
tens calls wanted = record { shares = replicate 8 10; ceilings = 96 ∷ replicate 7 10; opens = 0; calls = calls; wanted = wanted }

abbrev pub shares_are : List ℕ → (opens : ℕ) → Vector
shares_are shares opens = record { shares = shares; ceilings = replicate 8 96; opens = opens; calls = []; wanted = [] }

-- enough for every call
abbrev pub lent : Lent
lent = record { table = 32768; output = 258; answer = 64 }

-- ---- attach

abbrev pub atr1 : List ℕ
atr1 = 0x3B ∷ 0xE0 ∷ 0x00 ∷ 0x00 ∷ 0x81 ∷ 0x31 ∷ 0x20 ∷ 0x45 ∷ 0x35 ∷ []

abbrev pub report1 : Report
report1 = record { ifsc = 32; distance = 12; cwt = 43; bwt = 15371; used = 1; historical = 0; f = 372; d = 1 }

-- greeting, one block sent, the wait 1 × BWT: the IFS request of P7
abbrev pub greets : Report → Answer
greets rep = says 1 0 1 rep.bwt rep (0x00 ∷ 0xC1 ∷ 0x01 ∷ 0xFE ∷ 0x3E ∷ [])

abbrev pub attaches : (atr : List ℕ) → Answer → Vector
attaches atr a = tens (on 0 (attach lent atr) ∷ []) (a ∷ [])

-- ---- P1's card attached and greeted, P8's command given, and what follows

abbrev pub hears : (kind : ℕ) → List ℕ → Call t1
hears kind bytes = on 0 (event lent kind bytes)

abbrev pub after8 : List (Call t1) → List Answer → Vector
after8 calls wanted =
    tens
    (on 0 (attach lent atr1)
    ∷ hears 0 (0x00 ∷ 0xE1 ∷ 0x01 ∷ 0xFE ∷ 0x1E ∷ [])
    ∷ on 0 (command lent (0x00 ∷ 0xA4 ∷ 0x04 ∷ 0x00 ∷ []))
    ∷ calls)
    (greets report1
    ∷ says 2 0 1 0 zeros []
    ∷ says 3 0 1 15371 zeros (0x00 ∷ 0x00 ∷ 0x04 ∷ 0x00 ∷ 0xA4 ∷ 0x04 ∷ 0x00 ∷ 0xA4 ∷ [])
    ∷ wanted)

-- ---- P11: I-blocks of one byte with more to come, numbered 0 and 1 in turn, and R(1) and R(0) for them

abbrev pub zeroth : Call t1
zeroth = hears 0 (0x00 ∷ 0x20 ∷ 0x01 ∷ 0x55 ∷ 0x74 ∷ [])

abbrev pub first : Call t1
first = hears 0 (0x00 ∷ 0x60 ∷ 0x01 ∷ 0x55 ∷ 0x34 ∷ [])

unfoldable pub pairs : ℕ → List (Call t1)
pairs zero = []
pairs (suc n) = zeroth ∷ first ∷ pairs n

-- by the blocks sent, as literals: sums would be compared term by term
unfoldable pub acknowledged : List ℕ → List Answer
acknowledged [] = []
acknowledged (a ∷ []) = says 3 0 a 15371 zeros (0x00 ∷ 0x90 ∷ 0x00 ∷ 0x90 ∷ []) ∷ []
acknowledged (a ∷ b ∷ l) =
    says 3 0 a 15371 zeros (0x00 ∷ 0x90 ∷ 0x00 ∷ 0x90 ∷ [])
    ∷ says 3 0 b 15371 zeros (0x00 ∷ 0x80 ∷ 0x00 ∷ 0x80 ∷ [])
    ∷ acknowledged l

abbrev pub to27 : List ℕ
to27 = 2 ∷ 3 ∷ 4 ∷ 5 ∷ 6 ∷ 7 ∷ 8 ∷ 9 ∷ 10 ∷ 11 ∷ 12 ∷ 13 ∷ 14 ∷ 15 ∷ 16 ∷ 17 ∷ 18 ∷ 19 ∷ 20 ∷ 21 ∷ 22 ∷ 23 ∷ 24 ∷ 25 ∷ 26 ∷ 27 ∷ []

-- ---- the list

abbrev pub vectors : List Vector
vectors =
    -- P1: IFSC 32, distance 12, CWT 43, BWT 15,371
    attaches atr1 (greets report1)
    -- P2: accepted, distance 11
    ∷ attaches (0x3B ∷ 0xE0 ∷ 0x00 ∷ 0xFF ∷ 0x81 ∷ 0x31 ∷ 0x20 ∷ 0x40 ∷ 0xCF ∷ [])
    (greets (record { ifsc = 32; distance = 11; cwt = 12; bwt = 15371; used = 1; historical = 0; f = 372; d = 1 }))
    -- P3: 12, as 1 is below 2
    ∷ attaches (0x3B ∷ 0xE0 ∷ 0x00 ∷ 0x01 ∷ 0x81 ∷ 0x31 ∷ 0x20 ∷ 0x40 ∷ 0x31 ∷ []) (refuses 12)
    -- P4: D 4, IFSC 254
    ∷ attaches (0x3B ∷ 0xF0 ∷ 0x13 ∷ 0x00 ∷ 0x00 ∷ 0x91 ∷ 0x01 ∷ 0x31 ∷ 0xFE ∷ 0x45 ∷ 0xF9 ∷ [])
    (greets (record { ifsc = 254; distance = 12; cwt = 43; bwt = 15371; used = 4; historical = 0; f = 372; d = 4 }))
    -- P5: the empty ATR, 9; P6: the single byte 3C, 8
    ∷ attaches [] (refuses 9)
    ∷ attaches (0x3C ∷ []) (refuses 8)
    -- P7 and P8: greeted, the command sent, 90 00 delivered
    ∷ after8 (hears 0 (0x00 ∷ 0x00 ∷ 0x02 ∷ 0x90 ∷ 0x00 ∷ 0x92 ∷ []) ∷ on 0 (collect lent) ∷ [])
    (says 4 0 1 0 zeros [] ∷ says 2 0 0 0 zeros (0x90 ∷ 0x00 ∷ []) ∷ [])
    -- P9: a parity fault in place of that answer, and silence
    ∷ after8 (hears 1 [] ∷ []) (says 3 0 2 15371 zeros (0x00 ∷ 0x81 ∷ 0x00 ∷ 0x81 ∷ []) ∷ [])
    ∷ after8 (hears 2 [] ∷ []) (says 3 0 2 15371 zeros (0x00 ∷ 0x82 ∷ 0x00 ∷ 0x82 ∷ []) ∷ [])
    -- P10: a request for time, the wait 3 × BWT
    ∷ after8 (hears 0 (0x00 ∷ 0xC3 ∷ 0x01 ∷ 0x03 ∷ 0xC1 ∷ []) ∷ []) (says 3 0 2 46113 zeros (0x00 ∷ 0xE3 ∷ 0x01 ∷ 0x03 ∷ 0xE1 ∷ []) ∷ [])
    -- P11: the 26th cell is given, the 27th ends with 20
    ∷ after8 (pairs 13 ++ (zeroth ∷ [])) (acknowledged to27 ++ (says 5 20 27 0 zeros [] ∷ []))
    -- P12: shares adding to 96 open; 97 is refused with 2
    ∷ shares_are (replicate 8 12) 0
    ∷ shares_are (13 ∷ replicate 7 12) 2
    ∷ []
