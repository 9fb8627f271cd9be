use mathlib.Core.Path.{sym, ◌∙◌}
use Rattle.slot.proofs.FitLaws.{in_range_lem}
use Rattle.slot.proofs.fit.is_talk_fit.Goals as goal
use Rattle.slot.proofs.fit.is_talk_fit.Goals.{then-is_in_range, else-is_in_range}

pub are_steps_fit-requires : goal.are_steps_fit-requires
are_steps_fit-requires c =
    in_range_lem c.args.t (sym c.is_in_range.ensures ∙ elim c.if-is_in_range.branch [
      | then-is_in_range w ↦ w.if-is_in_range.true
      | else-is_in_range w ↦ sym w.value-is ∙ c.if-not-has_more.true
    ])
