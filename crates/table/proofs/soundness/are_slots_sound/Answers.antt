use mathlib.Core.Path.{refl, ◌∙◌}
use Rattle.std.proofs.Common.{rules, tests}
use Rattle.std.proofs.lemmas.Iterator.{YieldsList-from_range}
use Rattle.std.proofs.lemmas.Iterator.Search.{all_from_yields_List}
use Rattle.region.specs.Layout.{holders}
use Rattle.table.specs.Sound.{slot_sound}
use Rattle.sound.proofs.RangeLaws.{all_range}
use Rattle.table.proofs.soundness.are_slots_sound.Goals as goal

pub returns : goal.returns
returns c =
    let f = slot_sound c.args.t.now in
    all_from_yields_List f _ _ _ c.all.ensures.ran (YieldsList-from_range 0 holders holders refl refl) (λ x b q k. search (rules, tests))
    ∙ all_range f holders
