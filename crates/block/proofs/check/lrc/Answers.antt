use mathlib.Core.Path.{◌≡◌, ◌∙◌}
use Rattle.std.proofs.Common.{rules}
use lib.Bits.{bit_xor}
use Rattle.std.specs.List.{fold}
use Rattle.block.proofs.LrcLaws.{lrc_fold}
use Rattle.block.proofs.check.lrc.Goals as goal

pub returns : goal.returns
returns c =
    let s = c.args.s.now in
    let e : c.fold.result ≡ fold bit_xor 0 s = search rules in
    e ∙ lrc_fold 0 s
