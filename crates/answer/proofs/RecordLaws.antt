-- A record has 64 bytes, and is written part by part. Assumes nothing.
use Prim.Native.Nat.{ℕ, ◌≤◌, ◌<◌}
use mathlib.Core.Path.{◌≡◌, refl, ap, ◌∙◌}
use mathlib.Core.List.{List, ◌++◌, append_assoc}
use native.Mathlib.Omega.{arith}
use lib.ListN.{length, replicate, length-append}
use Rattle.lent.specs.Place.{splice}
use Rattle.lent.specs.Number.{bytes_of}
use Rattle.lent.proofs.PlaceLaws.{splice-append, splice_out}
use Rattle.atr.specs.declared.report.Report.{Report}
use Rattle.answer.specs.Record.{front_bytes, report_bytes, field_bytes}

length_front : (number state ending sent written wait : ℕ) → length (front_bytes number state ending sent written wait) ≡ 16
unfolding front_bytes bytes_of
length_front number state ending sent written wait = refl

length-report : (r : Report) → length (report_bytes r) ≡ 16
unfolding report_bytes bytes_of
length-report r = refl

module _ (number state ending sent written wait : ℕ) (r : Report) where
  pub length_fields : length (field_bytes number state ending sent written wait r) ≡ 64
  unfolding field_bytes front_bytes report_bytes bytes_of
  length_fields = refl

  module _ (rec : List ℕ) where
    pub fields_short : length rec < 64 → splice rec 0 (field_bytes number state ending sent written wait r) ≡ rec
    fields_short h = splice_out rec 0 (field_bytes number state ending sent written wait r) (omega (arith, length_fields))

    -- the front, then the report, then zeros
    pub fields_steps : 64 ≤ length rec
        → splice (splice (splice rec 0 (front_bytes number state ending sent written wait)) 16 (report_bytes r)) 32 (replicate 32 0)
        ≡ splice rec 0 (field_bytes number state ending sent written wait r)
    unfolding field_bytes
    fields_steps h =
        let f : List ℕ = front_bytes number state ending sent written wait in
        let b : List ℕ = report_bytes r in
        let z : List ℕ = replicate 32 0 in
        let lf : length f ≡ 16 = length_front number state ending sent written wait in
        let lb : length b ≡ 16 = length-report r in
        let both : length (f ++ b) ≡ 32 = omega (arith, length-append f b) in
        let lz : length z ≡ 32 = refl in
        ap (λ (l : List ℕ). splice l 32 z) (rw lf at (splice-append rec 0 f b (omega arith)))
        ∙ rw both at (splice-append rec 0 (f ++ b) z (omega arith))
        ∙ ap (splice rec 0) (append_assoc f b z)
