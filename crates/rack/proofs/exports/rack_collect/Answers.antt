use Rattle.call.specs.Call.{collecting, refusal_of}
use Rattle.table.specs.Layout.{pool_in}
use Rattle.table.proofs.SoundLaws.{sound_long}
use Rattle.call.proofs.NoneLaws.{none_sound}
use Rattle.leaving.specs.Leave.{collected_in}
use Rattle.pool.specs.Calls.{response}
use mathlib.Core.Path.{◌∙◌, ◌≡◌, refl, sym}
use lib.ListN.{length}
use Rattle.call.proofs.AnswerLaws as call
use Rattle.leaving.proofs.LeaveLaws as left
use Rattle.rack.proofs.RefusedLaws.{err_leaves}
use Rattle.rack.proofs.exports.rack_collect.Goals as goal

pub returns-in-Ok : goal.returns-in-Ok
returns-in-Ok c =
    let a = c.args in
    let t = a.table.now in
    let out = a.out.now in
    let rec = a.rec.now in
    let none : refusal_of t a.slot (collecting t out rec) ≡ 0 = sym c.in-Ok.ensures in
    let g = left.collected_long t out rec a.slot (sound_long t (none_sound t a.slot (collecting t out rec) none)) in
    let f = call.collect_leaves t out rec a.slot (collected_in t a.slot out) (length (response (pool_in t) a.slot)) none refl refl in record {
      value = f.0;
      table_after = c.collect-in-Ok.ensures.t_after ∙ sym g.0 ∙ f.1.0;
      out_after = c.collect-in-Ok.ensures.out_after ∙ sym g.1 ∙ f.1.1.0;
      rec_after = c.collect-in-Ok.ensures.rec_after ∙ sym g.2 ∙ f.1.1.1;
    }

pub returns-in-Err : goal.returns-in-Err
returns-in-Err c =
    let a = c.args in
    let t = a.table.now in
    let out = a.out.now in
    let rec = a.rec.now in
    let f = err_leaves t out rec a.slot (collecting t out rec) c.in-Err.refusal c.in-Err.ensures in record {
      value = c.refused.ensures.value ∙ f.0;
      table_after = f.1.0;
      out_after = f.1.1.0;
      rec_after = c.refused.ensures.rec_after ∙ f.1.1.1;
    }
