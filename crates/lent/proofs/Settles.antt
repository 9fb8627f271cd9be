-- What it is for a promise to settle something: any two outcomes that it allows for the same arguments agree on it.
-- `Out` is a function's `ensures` as the checker reads it off the source (`Reads.Post`), so a looser promise is no longer settled.
-- Assumes nothing.
use mathlib.Core.Path.{◌≡◌}
use mathlib.Core.List.{List}
use Prim.Native.Nat.{ℕ}
use contract.Lifetimes.{Lfts}
use denote.Triple.Clauses.{AtExit}
use borrow.Fn.Kinds.{ParamKind, ResultKind, Dens, Out, res_t, ended_of}

-- `see` takes what is to be settled from the result and the parameters at exit
module _ {n : ℕ} (ps : List (ParamKind n)) (r : ResultKind n) where
  abbrev pub Settles : {A : Type 0} → Out n ps r → ((κs : Lfts n) → (res_t r κs).Denot → AtExit (ended_of n ps r) κs → A) → Type 0
  Settles P see =
      (κs : Lfts n) (a : Dens κs ps) (x y : (res_t r κs).Denot) (s t : AtExit (ended_of n ps r) κs)
      → P κs a x s → P κs a y t → see κs x s ≡ see κs y t
