-- The record of an answer, 64 bytes, numbers high byte first, as in docs/LAYOUT.md.
use Rattle.std.specs.Prelude.{ℕ, List, ◌∷◌, ◌++◌, replicate}
use Rattle.lent.specs.Place.{splice}
use Rattle.lent.specs.Number.{bytes_of}
use Rattle.atr.specs.declared.report.Report.{Report}
use Rattle.session.specs.Call.{Answer}
use Rattle.slot.specs.View.{slot_no}
use Rattle.slot.specs.declared.parts.Next.{Next}

-- bytes 0 to 15: number, state, ending, a 0, blocks sent, length written to the output, wait
unfoldable pub front_bytes : (number state ending sent written wait : ℕ) → List ℕ
front_bytes number state ending sent written wait =
    number ∷ state ∷ ending ∷ 0 ∷ bytes_of 4 sent ++ (bytes_of 4 written ++ bytes_of 4 wait)

-- bytes 16 to 31, attach's: IFSC, D in use, historical count, D offered, F offered, character distance, CWT, BWT
unfoldable pub report_bytes : Report → List ℕ
report_bytes r =
    r.ifsc ∷ r.used ∷ r.historical ∷ r.d ∷ bytes_of 2 r.f ++ (bytes_of 2 r.distance ++ (bytes_of 4 r.cwt ++ bytes_of 4 r.bwt))

-- and 32 bytes that are not used
unfoldable pub field_bytes : (number state ending sent written wait : ℕ) → Report → List ℕ
field_bytes number state ending sent written wait r =
    front_bytes number state ending sent written wait ++ (report_bytes r ++ replicate 32 0)

unfoldable pub record_bytes : Answer → List ℕ
record_bytes a = field_bytes a.number a.state a.ending a.sent a.written a.wait a.report

-- a record with an answer in it: bytes beyond 64 are left, and so is a shorter record
unfoldable pub told : List ℕ → Answer → List ℕ
told rec a = splice rec 0 (record_bytes a)

-- the same of what a call gives, so many bytes being written to the output
unfoldable pub told_of : List ℕ → Next → (written : ℕ) → Report → List ℕ
told_of rec n written r = splice rec 0 (field_bytes 0 (slot_no n.slot) n.ending n.sent written n.wait r)
