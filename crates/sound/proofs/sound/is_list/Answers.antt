use mathlib.Core.Path.{◌≡◌, refl, sym, ap, ◌∙◌}
use mathlib.Core.Bool.{true, false}
use mathlib.Core.List.{List}
use Prim.Native.Nat.{ℕ}
use native.Mathlib.Omega.{arith}
use Rattle.region.specs.Layout.{held}
use Rattle.region.specs.Sound.{listed_well, list_well}
use Rattle.lent.specs.Fold.{all}
use Rattle.lent.proofs.FoldLaws.{all_next, all_fails, all_end}
use Rattle.sound.proofs.sound.is_list.Goals as goal

pub loop-k-init : goal.loop-k-init
unfolding all
loop-k-init c = refl

pub returns-then-not-is_listed : goal.returns-then-not-is_listed
unfolding list_well
returns-then-not-is_listed c =
    let a = c.args in
    let l = c.loop-k in
    let f = listed_well a.r.now a.i in
    let h : held c.r.inside.bytes.now a.i ≡ held a.r.now a.i = ap (λ (t : List ℕ). held t a.i) c.r.view_is in
    let e : f l.k ≡ false = sym c.is_listed.ensures ∙ c.if-not-is_listed.true in
    sym (all_fails f (held a.r.now a.i) l.k (omega (arith, h)) e)

pub loop-k-preserved : goal.loop-k-preserved
loop-k-preserved c =
    let a = c.args in
    let l = c.loop-k in
    let f = listed_well a.r.now a.i in
    let e : f l.k ≡ true = sym c.is_listed.ensures ∙ c.if-not-is_listed.false in
    all_next f l.k ∙ rw (l.invariant, e)

pub returns : goal.returns
unfolding list_well
returns c =
    let a = c.args in
    let l = c.loop-k in
    let h : held c.r.inside.bytes.now a.i ≡ held a.r.now a.i = ap (λ (t : List ℕ). held t a.i) c.r.view_is in
    sym (all_end (listed_well a.r.now a.i) l.k (held a.r.now a.i) (omega (arith, h)) l.invariant)
