-- A protocol of fair rows is lawful. Assumes nothing.
use Prim.Native.Nat.{ℕ, suc, ◌≤◌}
use mathlib.Core.Bool.{true, false}
use native.Mathlib.Omega.{arith}
use Rattle.shares.specs.Rack.{Lawful}
use Rattle.shares.specs.Decide.{Row, plain, ask, row_state, decided, Fair}

with_it : {S A : Type 0} (held : S → ℕ) (n : ℕ) (w : Row S A) → Fair held n w → held (row_state w true) ≤ suc n
with_it held n (plain s a) f = omega arith
with_it held n (ask s a t b) f = f.0

without_it : {S A : Type 0} (held : S → ℕ) (n : ℕ) (w : Row S A) → Fair held n w → held (row_state w false) ≤ n
without_it held n (plain s a) f = f
without_it held n (ask s a t b) f = f.1

pub decided_lawful : (S I A : Type 0) (held : S → ℕ) (row : S → I → Row S A) (refused : I → A)
    → ((s : S) (x : I) → Fair held (held s) (row s x)) → Lawful (decided S I A held row refused)
decided_lawful S I A held row refused f = record {
  keeps = λ i s x. without_it held (held s) (row s x) (f s x);
  takes = λ i s x. with_it held (held s) (row s x) (f s x);
}
