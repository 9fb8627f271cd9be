use Rattle.atr.specs.Walk.{announced, behind, walk_of, walk_from, some_other, other_than0, end_of}
use mathlib.Core.Path.{◌≡◌, refl, sym, ap, ap₂, ◌∙◌}
use mathlib.Core.Bool.{Bool, ◌||◌, or-false, or_assoc}
use native.Mathlib.Omega.{arith}
use Prim.Native.Nat.{ℕ, ◌+◌}
use lib.ListN.{length}
use Rattle.atr.proofs.WalkLaws.{Moved, moved, over_size, over_other}
use Rattle.reset.proofs.walk.to_end.Goals as goal

pub loop-walk-init : goal.loop-walk-init
unfolding walk_of
loop-walk-init c =
    let s = c.args.s.now in
    let w = c.new-walk.ensures in record {
      bytes = w.s_same;
      within = rw w.at_start (omega arith);
      td = w.td_bound;
      size = rw (w.at_start, w.td_start) refl;
      other = rw (w.at_start, w.td_start) refl;
    }

pub loop-walk-smaller : goal.loop-walk-smaller
-- a turn passes one group
loop-walk-smaller c =
    let w = c.loop-walk.walk in
    let s = c.args.s.now in
    let g = c.group-g in
    let e : g.result ≡ behind 0 (walk_from s w.at w.td).groups = rw c.loop-walk.invariant.bytes at g.ensures.value in
    let m : Moved s w.at w.td g.result (length (announced w.td)) = moved s w.at w.td g.result _ e refl (omega arith) in
    omega (arith, m, g.ensures.at_after, g.ensures.td_after)

pub loop-walk-preserved : goal.loop-walk-preserved
loop-walk-preserved c =
    let l = c.loop-walk in
    let w = l.walk in
    let s = c.args.s.now in
    let g = c.group-g in
    let n : ℕ = length (announced w.td) in
    let e : g.result ≡ behind 0 (walk_from s w.at w.td).groups = rw l.invariant.bytes at g.ensures.value in
    let m : Moved s w.at w.td g.result n = moved s w.at w.td g.result n e refl (omega arith) in
    let rest = some_other (walk_from s (w.at + n) g.result.td).groups in record {
      bytes = g.ensures.s_after ∙ l.invariant.bytes;
      within = rw (g.ensures.at_after, g.ensures.td_after) m.within;
      td = rw g.ensures.td_after g.ensures.td_bound;
      size = rw (g.ensures.at_after, g.ensures.td_after) (omega (arith, m.size, l.invariant.size));
      other = rw (g.ensures.at_after, g.ensures.td_after) (or_assoc l.tck (other_than0 g.result.td) rest ∙ ap (λ (t : Bool). l.tck || t) (sym m.other) ∙ l.invariant.other);
    }

pub returns-clause-value : goal.returns-clause-value
unfolding end_of
returns-clause-value c =
    let l = c.loop-walk in
    let w = l.walk in
    let s = c.args.s.now in
    let none_left : w.td ≡ 256 = omega arith in
    let at : w.at ≡ 2 + (walk_of s).size = omega (arith, over_size s w.at w.td none_left, l.invariant.size) in
    let tck = sym (or-false l.tck) ∙ ap (λ (t : Bool). l.tck || t) (sym (over_other s w.at w.td none_left)) ∙ l.invariant.other in
    ap₂ (λ (a : ℕ) (t : Bool). record { at = a; tck = t }) at tck
