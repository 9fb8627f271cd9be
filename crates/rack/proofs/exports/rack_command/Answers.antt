use Rattle.call.specs.Call.{commanding}
use Rattle.table.specs.Layout.{entry_in}
use Rattle.slot.specs.Blocks.{sent_length}
use Rattle.entry.specs.Entry.{line_in}
use Rattle.turn.specs.Calls.{commanded}
use mathlib.Core.Path.{◌∙◌, refl, sym}
use Rattle.call.proofs.AnswerLaws as call
use Rattle.rack.proofs.RefusedLaws.{err_leaves}
use Rattle.rack.proofs.exports.rack_command.Goals as goal

pub returns-in-Ok-clause-table_after : goal.returns-in-Ok-clause-table_after
returns-in-Ok-clause-table_after c =
    let a = c.args in
    let t = a.table.now in
    let out = a.out.now in
    let bs = a.bytes.now in
    let n = commanded (line_in (entry_in t a.slot)) bs in
    let f = call.command_leaves t out a.rec.now a.slot n (sent_length out n.send bs) bs (sym c.in-Ok.ensures) refl refl in
    c.command-in-Ok.ensures.t_after ∙ f.1.0

pub returns-in-Err-clause-table_after : goal.returns-in-Err-clause-table_after
returns-in-Err-clause-table_after c =
    let a = c.args in
    let t = a.table.now in
    let out = a.out.now in
    let rec = a.rec.now in
    (err_leaves t out rec a.slot (commanding t out rec a.bytes.now) c.in-Err.refusal c.in-Err.ensures).1.0
