use Rattle.lent.specs.Number.{bytes_of}
use Rattle.entry.specs.Entry.{plain_bytes, line_bytes}
use Rattle.entry.proofs.writing.plain.Goals as goal

pub returns : goal.returns
unfolding plain_bytes line_bytes bytes_of
returns c = rw (c.bare-b.ensures, c.copy_from_slice.ensures.after, c.copy_from_slice-2.ensures.after, c.two.ensures, c.two-2.ensures)
