-- P11 and P12, by computation. Assumes nothing.
use Prim.Native.Nat.{suc, ◌≤◌}
use mathlib.Core.Path.{refl}
use mathlib.Core.Bool.{true, false}
use native.Mathlib.Omega.{arith}
use Rattle.lent.specs.Fold.{all, sum}
use Rattle.shares.specs.Pool.{fit, limit, given, granted}
use Rattle.shares.specs.Rack.{Lawful, after, answer_to, run, answers}
use Rattle.shares.proofs.TestLaws.{beyond_fit}
use Rattle.shares.specs.Vectors.{Asker, busy, ended, asker_held, asker_next, asker, Eleven, Twelve}

pub eleven : Eleven
unfolding answers answer_to run after granted given sum
eleven = record { told = refl; free_26 = refl; lacking_26 = refl; free_27 = refl; lacking_27 = refl }

pub twelve : Twelve
unfolding fit limit all sum
twelve = record { adds_96 = refl; opens = refl; adds_97 = refl; refused = refl; beyond = beyond_fit }

-- the asking protocol is lawful, so that demand 3 speaks of it
pub asker_lawful : Lawful asker
asker_lawful = record { keeps = λ i s x. keeps s; takes = λ i s x. takes s }
  where
    keeps : (s : Asker) → asker_held (asker_next s false) ≤ asker_held s
    keeps (busy n) = omega arith
    keeps ended = omega arith

    takes : (s : Asker) → asker_held (asker_next s true) ≤ suc (asker_held s)
    takes (busy n) = omega arith
    takes ended = omega arith
