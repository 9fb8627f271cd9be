use Rattle.call.specs.Call.{attaching}
use Rattle.table.specs.Layout.{command_in, with_slot}
use Rattle.slot.specs.Blocks.{sent_length, sent_out}
use Rattle.atr.specs.declared.report.Report.{Report}
use Rattle.answer.specs.Record.{told_of}
use Rattle.atr.specs.Answer.{answer_of, report_in}
use Rattle.greeting.specs.Greeting.{attached}
use mathlib.Core.Path.{◌∙◌, ap, refl, sym}
use Rattle.call.proofs.AnswerLaws as call
use Rattle.rack.proofs.RefusedLaws.{err_leaves}
use Rattle.rack.proofs.exports.rack_attach.Goals as goal

pub returns-in-Ok : goal.returns-in-Ok
returns-in-Ok c =
    let a = c.args in
    let t = a.table.now in
    let out = a.out.now in
    let rec = a.rec.now in
    let p = c.in-Ok.ensures.report in
    let r = report_in (answer_of a.atr.now) in
    let f = call.attach_leaves t out rec a.slot (attached r) (sent_length out (attached r).send (command_in t a.slot)) a.atr.now r (sym c.in-Ok.ensures.number) refl refl refl in record {
      value = f.0;
      table_after = c.attach-in-Ok.ensures.t_after ∙ ap (λ (q : Report). with_slot t a.slot (attached q).slot) p ∙ f.1.0;
      out_after = c.attach-in-Ok.ensures.out_after ∙ ap (λ (q : Report). sent_out out (attached q).send (command_in t a.slot)) p ∙ f.1.1.0;
      rec_after = c.attach-in-Ok.ensures.rec_after ∙ ap (λ (q : Report). told_of rec (attached q) (sent_length out (attached q).send (command_in t a.slot)) q) p ∙ f.1.1.1;
    }

pub returns-in-Err : goal.returns-in-Err
returns-in-Err c =
    let a = c.args in
    let t = a.table.now in
    let out = a.out.now in
    let rec = a.rec.now in
    let f = err_leaves t out rec a.slot (attaching t out rec a.atr.now) c.in-Err.refusal c.in-Err.ensures.number in record {
      value = c.refused.ensures.value ∙ f.0;
      table_after = f.1.0;
      out_after = f.1.1.0;
      rec_after = c.refused.ensures.rec_after ∙ f.1.1.1;
    }
