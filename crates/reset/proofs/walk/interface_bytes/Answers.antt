use Rattle.atr.specs.Walk.{t0, announced, walk_of, walk_from, behind, interface_of}
use Rattle.atr.proofs.WalkLaws.{next_group}
use mathlib.Core.Path.{◌≡◌, refl}
use Prim.Native.Nat.{ℕ, ◌+◌}
use lib.ListN.{length}
use Rattle.reset.proofs.walk.interface_bytes.Goals as goal

pub returns : goal.returns
unfolding interface_of walk_of
returns c =
    let s = c.args.s.now in
    let w = c.new-walk.ensures in
    let g1 = c.group-g1 in
    let g2 = c.group-g2 in
    let g3 = c.group-g3 in
    let y : ℕ = t0 s in
    let n : ℕ = length (announced y) in
    let m : ℕ = length (announced g1.result.td) in
    let e1 : g1.result ≡ behind 0 (walk_from s 2 y).groups = rw (w.s_same, w.at_start, w.td_start) at g1.ensures.value in
    let e2 : g2.result ≡ behind 0 (walk_from s (2 + n) g1.result.td).groups =
    rw (g1.ensures.s_after, g1.ensures.at_after, g1.ensures.td_after, w.s_same, w.at_start, w.td_start) at g2.ensures.value in
    let e3 : g3.result ≡ behind 0 (walk_from s (2 + n + m) g2.result.td).groups =
    rw (g2.ensures.s_after, g2.ensures.at_after, g2.ensures.td_after, g1.ensures.s_after, g1.ensures.at_after, g1.ensures.td_after, w.s_same, w.at_start, w.td_start) at g3.ensures.value in
    let later = next_group s 2 y g1.result n e1 refl in
    simp (e1, later 0 g2.result e2, later 1 g3.result (next_group s (2 + n) g1.result.td g2.result m e2 refl 0 g3.result e3))
