use Rattle.call.specs.Call.{refusal_of, removing}
use Rattle.table.proofs.SoundLaws.{sound_long}
use Rattle.call.proofs.NoneLaws.{none_sound}
use mathlib.Core.Path.{◌∙◌, ◌≡◌, sym}
use Rattle.call.proofs.AnswerLaws as call
use Rattle.leaving.proofs.LeaveLaws as left
use Rattle.answer.specs.Refusal.{refusal_no}
use Rattle.rack.proofs.RefusedLaws.{refusal_some}
use Rattle.rack.proofs.exports.rack_remove.Goals as goal

pub returns-in-Ok : goal.returns-in-Ok
returns-in-Ok c =
    let a = c.args in
    let t = a.table.now in
    let rec = a.rec.now in
    let none : refusal_of t a.slot (removing t rec) ≡ 0 = sym c.in-Ok.ensures in
    let g = left.removed_long t rec a.slot (sound_long t (none_sound t a.slot (removing t rec) none)) in
    let f = call.remove_leaves t rec a.slot none in record {
      value = f.0;
      table_after = c.remove-in-Ok.ensures.t_after ∙ sym g.0 ∙ f.1.0;
      rec_after = c.remove-in-Ok.ensures.rec_after ∙ sym g.1 ∙ f.1.1;
    }

pub returns-in-Err : goal.returns-in-Err
returns-in-Err c =
    let a = c.args in
    let t = a.table.now in
    let rec = a.rec.now in
    let r = c.in-Err.refusal in
    let f = call.remove-refused t rec a.slot (refusal_no r) (sym c.in-Err.ensures) (refusal_some r) in record {
      value = c.refused.ensures.value ∙ f.0;
      table_after = f.1.0;
      rec_after = c.refused.ensures.rec_after ∙ f.1.1;
    }
