use Rattle.call.specs.Call.{hearing, lends, refusal_of}
use Rattle.table.specs.Layout.{command_in}
use Rattle.slot.specs.Blocks.{sent_length}
use Rattle.table.proofs.SoundLaws.{sound_long}
use Rattle.call.proofs.NoneLaws.{none_sound}
use Rattle.call.proofs.EventLaws.{event-refusal}
use Rattle.hearing.specs.Event.{event_in, event_pool}
use mathlib.Core.Path.{◌∙◌, ◌≡◌, refl, sym}
use lib.ListN.{length}
use Rattle.call.proofs.AnswerLaws as call
use Rattle.hearing.proofs.PartLaws as heard
use Rattle.rack.proofs.RefusedLaws.{err_leaves}
use Rattle.rack.proofs.exports.rack_event.Goals as goal

pub returns-in-Ok : goal.returns-in-Ok
returns-in-Ok c =
    let a = c.args in
    let t = a.table.now in
    let out = a.out.now in
    let rec = a.rec.now in
    let bs = a.bytes.now in
    let none : refusal_of t a.slot (hearing t out rec a.kind bs) ≡ 0 =
    event-refusal t a.slot (lends (length t) (length out) (length rec)) a.kind bs ∙ sym c.in-Ok.ensures in
    let n = event_in t a.slot a.kind bs in
    let v = event_pool t a.slot a.kind bs in
    let g = heard.left_long t out rec a.slot a.kind bs (sound_long t (none_sound t a.slot (hearing t out rec a.kind bs) none)) in
    let f = call.event_leaves t out rec a.slot n (sent_length out n.send (command_in v a.slot)) (lends 0 0 0) a.kind bs v none refl refl refl in record {
      value = f.0;
      table_after = c.event-in-Ok.ensures.t_after ∙ sym g.0 ∙ f.1.0;
      out_after = c.event-in-Ok.ensures.out_after ∙ sym g.1 ∙ f.1.1.0;
      rec_after = c.event-in-Ok.ensures.rec_after ∙ sym g.2 ∙ f.1.1.1;
    }

pub returns-in-Err : goal.returns-in-Err
returns-in-Err c =
    let a = c.args in
    let t = a.table.now in
    let out = a.out.now in
    let rec = a.rec.now in
    let f = err_leaves t out rec a.slot (hearing t out rec a.kind a.bytes.now) c.in-Err.refusal (c.in-Err.ensures ∙ sym (event-refusal t a.slot (lends (length t) (length out) (length rec)) a.kind a.bytes.now)) in record {
      value = c.refused.ensures.value ∙ f.0;
      table_after = f.1.0;
      out_after = f.1.1.0;
      rec_after = c.refused.ensures.rec_after ∙ f.1.1.1;
    }
