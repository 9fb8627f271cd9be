use Rattle.slot.specs.Safe.{Safe}
use Rattle.slot.proofs.SafeLaws.{range_safe}
use mathlib.Core.Path.{sym, ◌∙◌}
use Rattle.turn.proofs.calls.hear.Goals as goal

-- a talk in its ranges is safe
pub invariant_of-busy : goal.invariant_of-busy
invariant_of-busy c =
    let safe : Safe c.args.t = range_safe c.args.t (sym c.is_in_range.ensures ∙ c.if-is_in_range.true) in
    record { numbers = safe.numbers; cut = safe.cut; nibble = ∣ safe.nibble ∣₁ }
