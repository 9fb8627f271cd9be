-- A cell that is in no list is unowned: it stays as it is until all holders are released. Assumes nothing.
use mathlib.Core.Path.{◌≡◌, sym, ap, ◌∙◌}
use mathlib.Core.List.{List}
use Prim.Native.Nat.{ℕ, zero, suc, ◌+◌, ◌≤◌, ◌<◌}
use native.Mathlib.Omega.{arith}
use lib.Dec.{eqb}
use lib.ListN.{set}
use borrow.Author.Tests.{ne_eqb}
use Rattle.lent.proofs.Cases.{cond_case, eq_or_ne}
use Rattle.lent.proofs.FoldLaws.{sum-zero, sum_below}
use Rattle.region.specs.Layout.{holders, cells, unowned, held_at, held, owner, listed}
use Rattle.region.specs.Sound.{free_at, Good}
use Rattle.region.proofs.SoundLaws.{total}
use Rattle.pool.specs.Calls.{freed}
use Rattle.pool.proofs.ReleaseLaws.{held_none, held_same, listed_same, owner_same, released_good}

-- nothing is held from holder n on
abbrev NoneFrom : ℕ → List ℕ → Type 0
NoneFrom n r = (j : ℕ) → n ≤ j → j < holders → held r j ≡ 0

-- no list names c
abbrev pub Unlisted : ℕ → List ℕ → Type 0
Unlisted c r = (j k : ℕ) → j < holders → k < held r j → c ≡ listed r j k → ⊥

-- ---- one holder released

module _ (r : List ℕ) (n : ℕ) (h : n < holders) (g : Good r) where
  abbrev q : List ℕ
  q = set (freed r n (held r n)) (held_at + n) 0

  none_then : NoneFrom (suc n) r → NoneFrom n q
  none_then e j a b =
      eq_or_ne j n
      (λ z. ap (held q) z ∙ held_none r n h g)
      (λ z. held_same r n h g j b z ∙ e j (omega arith) b)

  unlisted_then : (c : ℕ) → Unlisted c r → Unlisted c q
  unlisted_then c u j k b l e =
      eq_or_ne j n
      (λ z. omega (arith, held_none r n h g, ap (held q) z))
      (λ z. u j k b (omega (arith, held_same r n h g j b z)) (e ∙ listed_same r n h g j k))

-- ---- all holders released

module _ (c : ℕ) (l : c < cells) where
  -- where nothing is held, as many cells are unowned as there are
  unheld : (r : List ℕ) → Good r → NoneFrom 0 r → owner r c ≡ unowned
  unheld r g e =
      eq_or_ne (owner r c) unowned (λ z. z)
      (λ z.
      absurd (omega (
        arith,
        total r g,
        sum-zero (held r) holders (λ j. e j (omega arith)),
        sum_below (free_at r) cells c l (rw (ne_eqb (owner r c) unowned z))
            (λ d h. cond_case (λ t. t ≤ 1) (eqb (owner r d) unowned) (λ t. omega arith) (λ t. omega arith)),
      )))

  -- the holders below n are released, the last one first
  empties : (n : ℕ) → n ≤ holders → (r : List ℕ) → Good r → NoneFrom n r → Unlisted c r → owner r c ≡ unowned
  empties zero h r g e u = unheld r g e
  empties (suc n) h r g e u =
      let b : n < holders = omega arith in
      sym (owner_same r n b g c (λ k. u n k b))
      ∙ empties n (omega arith) (q r n b g) (released_good r n b g)
      (none_then r n b g e) (unlisted_then r n b g c u)

pub unlisted : (r : List ℕ) → Good r → (c : ℕ) → c < cells → Unlisted c r → owner r c ≡ unowned
unlisted r g c l = empties c l holders (omega arith) r g (λ j a b. absurd (omega arith))
