-- Numbers of one, two and four bytes keep what numbers of any width do. Assumes nothing.
use mathlib.Core.Path.{refl}
use Rattle.std.specs.Prelude.{ℕ, [], ◌∷◌, get_or}
use Rattle.lent.specs.Number.{bytes_of, number_at}
use Rattle.lent.specs.Laws.{NumberLaws}
use Rattle.lent.proofs.NumberLaws.{length-bytes, number_same, byte_same}

pub byte_laws : NumberLaws 1 (λ v. v) (λ t a. get_or t a 0) (λ v. v ∷ [])
byte_laws = record { taken = λ v. refl; read_back = λ t a v h l. byte_same t a v h }

pub wide_laws : (n : ℕ) → NumberLaws n (λ v. v) (λ t a. number_at t a n) (bytes_of n)
wide_laws n = record { taken = length-bytes n; read_back = λ t a v. number_same t a n v }
