use Rattle.answer.specs.Record.{front_bytes, told_of}
use Rattle.lent.specs.Place.{splice}
use Rattle.slot.specs.View.{slot_no}
use Rattle.answer.proofs.RecordLaws.{fields_short, fields_steps}
use mathlib.Core.Path.{◌∙◌, ap, ap₂, sym}
use mathlib.Core.List.{List}
use Prim.Native.Nat.{ℕ}
use lib.ListN.{replicate}
use Rattle.answer.proofs.tell.Goals as goal

pub returns-then-rec-lt-RECORD : goal.returns-then-rec-lt-RECORD
unfolding told_of
returns-then-rec-lt-RECORD c = let a = c.args in let n = a.n in sym (fields_short 0 (slot_no n.slot) n.ending n.sent a.written n.wait a.r a.rec.now c.if-rec-lt-RECORD.true)

pub returns : goal.returns
unfolding told_of
returns c =
    let a = c.args in
    let n = a.n in
    let f = c.front-front.ensures ∙ ap (λ (k : ℕ). front_bytes 0 k n.ending n.sent a.written n.wait) c.from.ensures.1 in
    let one = c.put.ensures.t_after ∙ ap (splice a.rec.now 0) f in
    let two = c.put-2.ensures.t_after ∙ ap₂ (λ (l b : List ℕ). splice l 16 b) one c.report.ensures in
    c.fill.ensures.t_after
    ∙ ap (λ (l : List ℕ). splice l 32 (replicate 32 0)) two
    ∙ fields_steps 0 (slot_no n.slot) n.ending n.sent a.written n.wait a.r a.rec.now c.if-rec-lt-RECORD.false
