-- P11 and P12: the rule computed on numbers, carried to bytes by what is promised. Assumes nothing.
use Prim.Native.Nat.{ℕ, ◌≤◌}
use mathlib.Core.Path.{◌≡◌, refl, ap, fun_ext}
use mathlib.Core.Bool.{true}
use mathlib.Core.List.{List}
use native.Mathlib.Omega.{arith}
use lib.ListN.{length, take}
use lib.Seq.{take_all}
use Rattle.lent.specs.Fold.{all, sum}
use Rattle.shares.specs.Pool.{limit, fit, given, granted, others_lack}
use Rattle.region.specs.Layout.{size}
use Rattle.region.specs.Holding.{held_by}
use Rattle.pool.specs.Calls.{lays_out, laid_out}
use Rattle.pool.specs.Contents.{sized}
use Rattle.pool.specs.Shows.{Fresh}
use Rattle.pool.specs.Vectors.{after, shares11, ceilings11, pool11, Filled, Eleven, shares12, ceilings12, Twelve}
use Rattle.pool.proofs.CallLaws.{lays_long}
use Rattle.pool.proofs.Shows.{promised}
use Rattle.pool.proofs.ElevenLaws.{idle_but, answers, holds_after, Ran, run, free_after, held_after}

-- ---- P11

opens : (r : List ℕ) → size ≤ length r → lays_out r shares11 ceilings11 ≡ true
unfolding fit limit all sum
opens r = lays_long r shares11 ceilings11

module _ (r : List ℕ) (xss : List (List ℕ)) (long : size ≤ length r) (many : length xss ≡ 27) (fits : sized xss ≡ true) where
  abbrev q : List ℕ
  q = laid_out r shares11 ceilings11

  laid : Fresh r shares11 ceilings11
  laid = promised.fresh r shares11 ceilings11 refl refl (opens r long)

  ran : (k : ℕ) → k ≤ 27 → Ran q 0 k xss
  ran k h =
      run q 0 k xss laid.sound (rw laid.shows (record { limits = refl; own = refl; others = λ j d. refl })) fits (omega arith)

  lacking : (k : ℕ) → k ≤ 27 → others_lack pool11 (held_by (after q 0 (take k xss))) 0 ≡ others_lack pool11 (idle_but (holds_after 0 k)) 0
  lacking k h = ap (λ (f : ℕ → ℕ). others_lack pool11 f 0) (fun_ext (held_after (ran k h)))

  fills : Filled q xss
  unfolding answers holds_after granted given sum
  fills = record {
    told = rw (take_all 27 xss (omega arith)) at (ran 27 (omega arith)).told;
    free_26 = free_after (ran 25 (omega arith));
    lacking_26 = lacking 25 (omega arith);
    free_27 = free_after (ran 26 (omega arith));
    lacking_27 = lacking 26 (omega arith);
    held_27 = held_after (ran 26 (omega arith)) 0;
  }

pub eleven : Eleven
eleven = record { opens = opens; fills = fills }

-- ---- P12

pub twelve : Twelve
unfolding fit limit all sum
twelve = record {
  adds_96 = refl;
  passes = refl;
  opens = λ r. lays_long r (shares12 12) ceilings12;
  adds_97 = refl;
  fails = refl;
  refused = λ r. lays_long r (shares12 13) ceilings12;
}
