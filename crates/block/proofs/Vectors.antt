-- The paper's vectors hold: the definitions compute. Assumes nothing.
use mathlib.Core.Path.{refl}
use Rattle.lent.specs.Place.{window}
use Rattle.block.specs.Lrc.{lrc_of}
use Rattle.block.specs.Check.{check_of, check_right}
use Rattle.block.specs.Block.{inf_part, head_of, block_of}
use Rattle.block.specs.Event.{named_of, sort_of, inf_of}
use Rattle.block.specs.Reader.{whole, bytes_of, read_of, inf_read}
use Rattle.block.specs.Vectors.{AllHold, vectors}

pub vectors_hold : AllHold vectors
unfolding window lrc_of check_of check_right inf_part head_of block_of named_of sort_of whole bytes_of read_of inf_of inf_read
vectors_hold = (refl, ((refl, refl), (refl, ((refl, refl), ((refl, refl), (refl, ((refl, refl), (refl, ((refl, refl), (refl, tt))))))))))
