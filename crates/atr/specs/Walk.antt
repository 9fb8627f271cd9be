-- "Reading an ATR" of document 01: the walk over its bytes. It goes byte by byte, and ends where the bytes say or end.
use Rattle.std.specs.Prelude.{ℕ, zero, suc, ◌+◌, ◌/◌, ◌%◌, Bool, false, cond, not, ◌||◌, List, [], ◌∷◌, ltb, eqb, length, get_or, drop}
use Rattle.block.specs.Block.{bit}
use Rattle.atr.specs.declared.walk.Group.{Group}
use Rattle.atr.specs.declared.walk.Interface.{Interface}
use Rattle.atr.specs.declared.walk.End.{End}

-- ---- bytes

abbrev pub high : ℕ → ℕ
high x = x / 16 % 16

abbrev pub low : ℕ → ℕ
low x = x % 16

-- an interface byte that is not there is 256, which no byte is
abbrev pub absent : ℕ
absent = 256

abbrev pub present : ℕ → Bool
present x = ltb x absent

-- ---- TS, T0, then TA1, TB1, TC1, TD1 as b5 to b8 of T0 say; each TDi announces the next group in the same way

abbrev pub ts : List ℕ → ℕ
ts s = get_or s 0 0

abbrev pub t0 : List ℕ → ℕ
t0 s = get_or s 1 0

pub data Letter : Type 0 where
  A : Letter
  B : Letter
  C : Letter
  D : Letter

abbrev pub said : (bit : ℕ) → Letter → List Letter → List Letter
said b l due = cond (eqb b 1) (l ∷ due) due

-- which of TA, TB, TC and TD a byte announces
abbrev pub announced : ℕ → List Letter
announced y = said (bit 5 y) A (said (bit 6 y) B (said (bit 7 y) C (said (bit 8 y) D [])))

-- a group of which nothing is there
abbrev pub none : Group
none = record { ta = absent; tb = absent; tc = absent; td = absent }

-- and with a byte that is
abbrev pub put : Letter → ℕ → Group → Group
put A x g = record { ta = x; tb = g.tb; tc = g.tc; td = g.td }
put B x g = record { ta = g.ta; tb = x; tc = g.tc; td = g.td }
put C x g = record { ta = g.ta; tb = g.tb; tc = x; td = g.td }
put D x g = record { ta = g.ta; tb = g.tb; tc = g.tc; td = x }

-- the groups, and how many bytes are announced for them
pub record Walk : Type 0 where
  pub groups : List Group
  pub size : ℕ

abbrev pub longer : Walk → Walk
longer w = record { groups = w.groups; size = 1 + w.size }

abbrev pub after : Group → Walk → Walk
after g w = record { groups = g ∷ w.groups; size = w.size }

-- the bytes from here on, the letters that are due, and what is there of their group
unfoldable pub walk : List ℕ → (due : List Letter) → Group → Walk
-- the bytes have ended: what is due is not there
walk [] due g = record { groups = g ∷ []; size = length due }
-- nothing is due: this was the last group
walk (x ∷ s) [] g = record { groups = g ∷ []; size = 0 }
walk (x ∷ s) (A ∷ due) g = longer (walk s due (put A x g))
walk (x ∷ s) (B ∷ due) g = longer (walk s due (put B x g))
walk (x ∷ s) (C ∷ due) g = longer (walk s due (put C x g))
-- TDi ends its group and announces the next one
walk (x ∷ s) (D ∷ due) g = longer (after (put D x g) (walk s (announced x) none))

-- what y announces, from place p on
abbrev pub walk_from : List ℕ → (p y : ℕ) → Walk
walk_from s p y = walk (drop p s) (announced y) none

unfoldable pub walk_of : List ℕ → Walk
walk_of s = walk_from s 2 (t0 s)

-- ---- the interface bytes that are read. TB1, TB2, TC2 and groups from the fourth on are walked over unread.

-- the group behind i others
abbrev pub behind : ℕ → List Group → Group
behind i [] = none
behind zero (g ∷ gs) = g
behind (suc i) (g ∷ gs) = behind i gs

abbrev pub read_from : (g1 g2 g3 : Group) → Interface
read_from g1 g2 g3 =
    record {
      ta1 = g1.ta;
      tc1 = g1.tc;
      td1 = g1.td;
      ta2 = g2.ta;
      td2 = g2.td;
      ta3 = g3.ta;
      tb3 = g3.tb;
      tc3 = g3.tc;
    }

unfoldable pub interface_of : List ℕ → Interface
interface_of s = read_from (behind 0 (walk_of s).groups) (behind 1 (walk_of s).groups) (behind 2 (walk_of s).groups)

-- ---- after the last group come as many historical bytes as T0's low nibble says, and TCK if some TDi names a
-- protocol other than 0

abbrev pub historical : List ℕ → ℕ
historical s = low (t0 s)

-- its low nibble names the protocol; that of an absent TDi is 0
abbrev pub other_than0 : (td : ℕ) → Bool
other_than0 td = not (eqb (low td) 0)

unfoldable pub some_other : List Group → Bool
some_other [] = false
some_other (g ∷ gs) = other_than0 g.td || some_other gs

-- where the groups end, TS and T0 being two bytes, and whether TCK is there
unfoldable pub end_of : List ℕ → End
end_of s = record { at = 2 + (walk_of s).size; tck = some_other (walk_of s).groups }

-- the length that the ATR announces
abbrev pub length_of : End → (historical : ℕ) → ℕ
length_of e h = e.at + h + cond e.tck 1 0

-- ---- a step of the code: the byte at a place, if the bit that announces it is 1 and the bytes reach that far

unfoldable pub field_at : List ℕ → (p bit : ℕ) → ℕ
field_at s p b = cond (eqb b 1) (get_or s p absent) absent
