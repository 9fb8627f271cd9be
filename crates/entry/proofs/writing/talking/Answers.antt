use Prim.Native.Nat.{◌%◌}
use mathlib.Core.Path.{◌≡◌, refl}
use mathlib.Core.Bool.{Bool, true, false, cond}
use mathlib.Core.List.{[], ◌∷◌}
use mir.Val.{bool_byte}
use Rattle.lent.specs.Number.{bytes_of}
use Rattle.entry.specs.Entry.{line_bytes, plain_bytes, cut_bytes, talk_bytes}
use Rattle.entry.proofs.EntryLaws.{low, last_three}
use Rattle.entry.proofs.writing.talking.Goals as goal

-- `u8::from` of a flag
flag : (a : Bool) → bool_byte a ≡ cond a 1 0
flag true = refl
flag false = refl

pub returns : goal.returns
unfolding talk_bytes plain_bytes line_bytes cut_bytes bytes_of
returns c =
    let t = c.args.t in
    rw (
      c.plain-b.ensures,
      c.copy_from_slice.ensures.after,
      c.copy_from_slice-2.ensures.after,
      c.two.ensures,
      c.two-2.ensures,
      c.from.ensures,
      c.last.ensures,
      flag t.acked,
      low t.cut.len,
      low t.turn.requests,
      last_three t.turn.last (t.turn.go ∷ t.turn.requests % 256 ∷ []),
    )
