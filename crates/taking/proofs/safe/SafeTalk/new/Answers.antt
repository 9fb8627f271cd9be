use mathlib.Core.Path.{sym, ◌∙◌}
use Rattle.slot.specs.Safe.{Safe}
use Rattle.slot.proofs.SafeLaws.{range_safe}
use Rattle.taking.proofs.safe.SafeTalk.new.Goals as goal

-- a talk in its ranges is safe
pub invariant_of-result : goal.invariant_of-result
invariant_of-result c =
    let safe : Safe c.args.talk = range_safe c.args.talk (sym c.is_in_range.ensures ∙ c.if-is_in_range.true) in
    record { numbers = safe.numbers; cut = safe.cut }
