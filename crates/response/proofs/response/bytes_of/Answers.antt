use Prim.Native.Nat.{◌+◌, ◌*◌}
use mathlib.Core.Path.{sym, ap, ◌∙◌}
use native.Mathlib.Omega.{arith}
use Rattle.region.specs.Layout.{cell_size, cells_at}
use Rattle.pool.specs.Calls.{bytes_in}
use Rattle.pool.proofs.ResponseLaws.{bytes-piece, bytes_far, bytes_long}
use Rattle.lent.specs.Place.{window}
use Rattle.response.proofs.response.bytes_of.Goals as goal

pub returns-then-c-ge-CELLS : goal.returns-then-c-ge-CELLS
returns-then-c-ge-CELLS c = sym (bytes_far c.args.r.now c.args.c (omega arith))

pub returns-then-n-gt-CELL : goal.returns-then-n-gt-CELL
returns-then-n-gt-CELL c =
    let t = c.r.inside.bytes.now in
    sym (bytes_long t c.args.c (omega arith) (omega (arith, c.from-n.ensures))) ∙ ap (λ u. bytes_in u c.args.c) c.r.view_is

pub returns : goal.returns
returns c =
    let t = c.r.inside.bytes.now in
    c.part.ensures
    ∙ ap (window t (cells_at + c.args.c * cell_size)) c.from-n.ensures
    ∙ sym (bytes-piece t c.args.c (omega arith) (omega (arith, c.from-n.ensures)))
    ∙ ap (λ u. bytes_in u c.args.c) c.r.view_is
