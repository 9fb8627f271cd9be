use Rattle.answer.specs.Record.{report_bytes}
use Rattle.lent.specs.Number.{bytes_of}
use mathlib.Core.Path.{◌∙◌}
use native.Mathlib.Nat.{div-one}
use Rattle.answer.proofs.report.Goals as goal

pub returns : goal.returns
unfolding report_bytes bytes_of
returns c =
    let r = c.args.r in
    let f = c.copy_from_slice.ensures.after ∙ c.to_be_bytes.ensures in
    let distance = c.copy_from_slice-2.ensures.after ∙ c.to_be_bytes-2.ensures in
    let cwt = c.copy_from_slice-3.ensures.after ∙ c.to_be_bytes-3.ensures in
    let bwt = c.copy_from_slice-4.ensures.after ∙ c.to_be_bytes-4.ensures in
    rw (f, distance, cwt, bwt, div-one r.f, div-one r.distance, div-one r.cwt, div-one r.bwt)
