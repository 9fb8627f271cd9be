-- What numbers of any width keep, as they are written and read.
use Rattle.std.specs.Prelude.{ℕ, ◌+◌, ◌^◌, ◌<◌, ◌≤◌, ◌≡◌, List, length}
use Rattle.lent.specs.Place.{splice}

pub record NumberLaws {A : Type 0} (width : ℕ) (value : A → ℕ) (number : List ℕ → ℕ → A) (bytes : A → List ℕ) : Type 0 where
  -- it takes so many bytes
  pub taken : (v : A) → length (bytes v) ≡ width
  -- what was written is read
  pub read_back : (t : List ℕ) (a : ℕ) (v : A) → a + width ≤ length t → value v < 256 ^ width → number (splice t a (bytes v)) a ≡ v
