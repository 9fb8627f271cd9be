use mathlib.Core.Path.{◌∙◌, sym}
use Rattle.call.proofs.OpenLaws.{open_given, open_refused}
use Rattle.answer.specs.Refusal.{refusal_no}
use Rattle.rack.proofs.RefusedLaws.{refusal_some}
use Rattle.rack.proofs.exports.rack_open.Goals as goal

pub returns-in-Ok-clause-table_after : goal.returns-in-Ok-clause-table_after
returns-in-Ok-clause-table_after c =
    let a = c.args in
    c.lay_out.ensures.t_after ∙ (open_given a.table.now a.shares.now a.ceilings.now a.rec.now (sym c.in-Ok.ensures)).1.0

pub returns-in-Err-clause-table_after : goal.returns-in-Err-clause-table_after
returns-in-Err-clause-table_after c =
    let a = c.args in
    let r = c.in-Err.refusal in
    (open_refused a.table.now a.shares.now a.ceilings.now a.rec.now (refusal_no r) (sym c.in-Err.ensures) (refusal_some r)).1.0
