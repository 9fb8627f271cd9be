-- An ATR laid out of its groups: the walk's sentence the other way round, which the walk is held against.
use Rattle.std.specs.Prelude.{◌≡◌, cond, List, [], ◌∷◌, ℕ, ◌+◌, eqb, length}
use Rattle.block.specs.Block.{bit}
use Rattle.atr.specs.declared.walk.Group.{Group}
use Rattle.atr.specs.Walk.{absent, Letter, A, B, C, D, announced}

abbrev pub byte_of : Letter → Group → ℕ
byte_of A g = g.ta
byte_of B g = g.tb
byte_of C g = g.tc
byte_of D g = g.td

-- the bytes of a group, letter by letter, and then what stands behind it
unfoldable pub laid_group : List Letter → Group → List ℕ → List ℕ
laid_group [] g r = r
laid_group (l ∷ ls) g r = byte_of l g ∷ laid_group ls g r

-- groups one behind the other, the first announced by y and each further one by the TD before it; and then the rest
unfoldable pub laid : (y : ℕ) → List Group → List ℕ → List ℕ
laid y [] r = r
laid y (g ∷ gs) r = laid_group (announced y) g (laid g.td gs r)

-- how many bytes the groups have
unfoldable pub laid_size : (y : ℕ) → List Group → ℕ
laid_size y [] = 0
laid_size y (g ∷ gs) = length (announced y) + laid_size g.td gs

-- a group of which only that is there which y announces
abbrev pub kept : (bit x : ℕ) → ℕ
kept b x = cond (eqb b 1) x absent

abbrev pub only : (y : ℕ) → Group → Group
only y g =
    record {
      ta = kept (bit 5 y) g.ta;
      tb = kept (bit 6 y) g.tb;
      tc = kept (bit 7 y) g.tc;
      td = kept (bit 8 y) g.td;
    }

-- groups that may stand behind y: of each only that is there which is announced, and the last has no TD
abbrev pub Follow : (y : ℕ) → List Group → Type 0
Follow y [] = ⊥
Follow y (g ∷ []) = (only y g ≡ g) × (bit 8 y ≡ 0)
Follow y (g ∷ h ∷ gs) = (only y g ≡ g) × (bit 8 y ≡ 1) × Follow g.td (h ∷ gs)
