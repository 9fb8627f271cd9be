-- What the calls' code asks of a slot's numbers, so that nothing overflows. Numbers in their ranges have it.
use Rattle.std.specs.Prelude.{◌+◌, ◌≤◌, ◌<◌}
use Rattle.slot.specs.declared.parts.Line.{Line}
use Rattle.slot.specs.declared.parts.Cut.{Cut}
use Rattle.slot.specs.declared.parts.Last as last
use Rattle.slot.specs.declared.parts.Last.{Last}
use Rattle.slot.specs.declared.parts.Talk.{Talk}

pub record LineSafe (l : Line) : Type 0 where
  pub s : l.s ≤ 1
  pub r : l.r ≤ 1
  pub bwt : l.bwt ≤ 15371

-- its numbers, and room for one block more
pub record Numbers (t : Talk) : Type 0 where
  pub line : LineSafe t.line
  pub sent : t.turn.sent < 65536

-- the last I-block lies within the command
pub record Within (c : Cut) : Type 0 where
  pub ends : c.from + c.len ≤ c.whole
  pub whole : c.whole ≤ 261

abbrev pub Nibble : Last → Type 0
Nibble last.TheVariants.I = Unit
Nibble (last.TheVariants.R n) = n ≤ 2
Nibble (last.TheVariants.S pcb byte) = Unit

pub record Safe (t : Talk) : Type 0 where
  pub numbers : Numbers t
  pub cut : Within t.cut
  pub nibble : Nibble t.turn.last
