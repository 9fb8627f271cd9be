use Rattle.table.specs.Layout.{pool_at, slots_at, table_size}
use Rattle.lent.specs.Place.{splice, window}
use Rattle.lent.proofs.PlaceLaws.{length-window, lent_back}
use Rattle.region.specs.Layout.{holders, size}
use Rattle.table.specs.Fresh.{head}
use Rattle.table.proofs.FreshLaws.{fresh_steps, region_laid}
use borrow.Rule.Slice.PartMut.{put_mid}
use mathlib.Core.Path.{◌∙◌, ◌≡◌, ap, ap₂}
use mathlib.Core.List.{List}
use Prim.Native.Nat.{◌-◌, ℕ}
use native.Mathlib.Omega.{arith}
use lib.ListN.{length, replicate}
use Rattle.pool.specs.Calls as pool
use Rattle.table.proofs.fresh.write_all.Goals as goal

pub returns : goal.returns
unfolding window
returns c =
    let a = c.args in
    let t = a.t.now in
    let sh = a.shares.now in
    let ce = a.ceilings.now in
    let ls : length sh ≡ holders = omega arith in
    let lc : length ce ≡ holders = omega arith in
    let t1 : List ℕ = c.put.new.t in
    let e1 : t1 ≡ splice t 0 head = c.put.ensures.t_after in
    let r : List ℕ = c.lay_out.new.r in
    let n : length r ≡ size = c.lay_out.auto.r ∙ length-window t1 pool_at size (omega arith) in
    let e2 : r ≡ pool.fresh sh ce = c.lay_out.ensures.r_after ∙ region_laid sh ce ls lc (window t1 pool_at size) (length-window t1 pool_at size (omega arith)) c.requires.fits in
    let h : put_mid pool_at size t1 r ≡ splice (splice t 0 head) pool_at (pool.fresh sh ce) = lent_back t1 pool_at size r n (omega arith) ∙ ap₂ (λ (l q : List ℕ). splice l pool_at q) e1 e2 in
    c.fill.ensures.t_after ∙ ap (λ (l : List ℕ). splice l slots_at (replicate (table_size - slots_at) 0)) h ∙ fresh_steps sh ce ls lc t c.requires.long
