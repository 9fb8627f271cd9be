use Prim.Native.Nat.{◌/◌, ◌%◌}
use mathlib.Core.Path.{◌≡◌, ◌∙◌}
use native.Mathlib.Omega.{arith}
use Rattle.lent.specs.Number.{bytes_of}
use Rattle.entry.proofs.writing.two.Goals as goal

pub returns : goal.returns
unfolding bytes_of
returns c =
    let v = c.args.v in
    let high : v % 65536 / 256 % 256 ≡ v / 256 % 256 = omega arith in
    let low : v % 65536 % 256 ≡ v / 1 % 256 = omega arith in
    c.to_be_bytes.ensures ∙ rw (high, low)
