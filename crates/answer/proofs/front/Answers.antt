use Rattle.answer.specs.Record.{front_bytes}
use Rattle.lent.specs.Number.{bytes_of}
use mathlib.Core.Path.{◌∙◌, ap}
use mathlib.Core.List.{List}
use Prim.Native.Nat.{ℕ}
use lib.ListN.{drop, take}
use native.Mathlib.Nat.{div-one}
use Rattle.answer.proofs.front.Goals as goal

pub returns : goal.returns
unfolding front_bytes bytes_of
returns c =
    let a = c.args in
    let sent = c.copy_from_slice.ensures.after ∙ c.to_be_bytes.ensures in
    let written = c.copy_from_slice-2.ensures.after ∙ ap (λ (b : List ℕ). take 4 (drop 4 b)) c.to_be_bytes-2.ensures in
    let wait = c.copy_from_slice-3.ensures.after ∙ c.to_be_bytes-3.ensures in
    rw (c.from.ensures, sent, written, wait, div-one a.sent, div-one a.written, div-one a.wait)
