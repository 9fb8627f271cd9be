-- A released holder: it has no pieces, the others keep theirs, and the region stays sound. Assumes nothing.
use mathlib.Core.Path.{◌≡◌, refl, sym, ap, ◌∙◌, subst}
use mathlib.Core.List.{List, []}
use Prim.Native.Nat.{ℕ, zero, suc, ◌+◌, ◌*◌, ◌≤◌, ◌<◌}
use native.Mathlib.Omega.{arith}
use lib.ListN.{length, get_or, set, length-set}
use lib.Seq.{get_or-set_same, get_or-set_other}
use borrow.Author.Tests.{ne_eqb}
use Rattle.lent.specs.Place.{window}
use Rattle.lent.specs.Fold.{sum}
use Rattle.lent.proofs.Cases.{eq_or_ne}
use Rattle.lent.proofs.PlaceLaws.{window-set}
use Rattle.lent.proofs.FoldLaws.{sum_ext, sum_grow}
use Rattle.shares.specs.Pool.{Pool, Fit, Sound}
use Rattle.shares.proofs.GrantLaws.{kept}
use Rattle.region.specs.Layout.{holders, cells, cell_size, unowned, held_at, owners_at, places_at, lengths_at, lists_at, cells_at, held, owner, place, len, listed, piece, pool_in}
use Rattle.region.specs.Sound.{free_at, Piece, Good}
use Rattle.region.proofs.SoundLaws.{total}
use Rattle.pool.specs.Calls.{freed}
use Rattle.pool.specs.Contents.{having}
use Rattle.pool.specs.View.{pieces, shown}
use Rattle.pool.proofs.ViewLaws.{pieces_ext}
use Rattle.pool.proofs.ShownLaws.{shown_having}
use Rattle.region.proofs.LimitLaws.{pool_set}

-- ---- the owners freed

freed-length : (r : List ℕ) (i k : ℕ) → length (freed r i k) ≡ length r
unfolding freed
freed-length r i zero = refl
freed-length r i (suc k) = simp length-set (freed-length r i k)

-- and nothing is held
pub length_emptied : (r : List ℕ) (i : ℕ) → length (set (freed r i (held r i)) (held_at + i) 0) ≡ length r
length_emptied r i = simp length-set (freed-length r i (held r i))

module _ (r : List ℕ) (i : ℕ) (li : i < holders) (g : Good r) where
  abbrev m : ℕ
  m = held r i

  own : (k : ℕ) → k < m → Piece r i k (listed r i k)
  own k h = g.pieces i k li h

  -- what no turn changes is as it was
  turns : {A : Type 0} (f : List ℕ → A) (k : ℕ) → k ≤ m
      → ((t : List ℕ) (o : ℕ) → o < k → f (set t (owners_at + listed r i o) unowned) ≡ f t) → f (freed r i k) ≡ f r
  unfolding freed
  turns f zero h e = refl
  turns f (suc k) h e =
      e (freed r i k) k (omega arith) ∙ turns f k (omega arith) (λ t o l. e t o (omega arith))

  owner_kept : (k : ℕ) → k ≤ m → (d : ℕ) → ((o : ℕ) → o < k → d ≡ listed r i o → ⊥) → owner (freed r i k) d ≡ owner r d
  owner_kept k h d w =
      turns (λ t. owner t d) k h (λ t o l. get_or-set_other t (owners_at + listed r i o) (owners_at + d) unowned 0 (λ z. w o l (omega arith)))

  -- two places of the list name two cells
  apart : (k o : ℕ) → k < m → o < k → listed r i k ≡ listed r i o → ⊥
  apart k o h l e = omega (arith, (own k h).placed, (own o (omega arith)).placed, ap (place r) e)

  -- each turn frees one cell
  freed_one : (k : ℕ) → k < m → sum cells (free_at (freed r i (suc k))) ≡ sum cells (free_at (freed r i k)) + 1
  unfolding freed
  freed_one k h =
      sum_grow (free_at (freed r i k)) (free_at (freed r i (suc k))) cells (listed r i k) 1 (own k h).low
      (rw (
        get_or-set_same (freed r i k) (owners_at + listed r i k) unowned 0 (omega (arith, g.long, freed-length r i k, (own k h).low)),
        owner_kept k (omega arith) (listed r i k) (λ o l. apart k o h l),
        (own k h).owned,
        ne_eqb i unowned (omega arith),
      ))
      (λ d l ne. rw (get_or-set_other (freed r i k) (owners_at + listed r i k) (owners_at + d) unowned 0 (λ z. ne (omega arith))))

  freed-sum : (k : ℕ) → k ≤ m → sum cells (free_at (freed r i k)) ≡ sum cells (free_at r) + k
  unfolding freed
  freed-sum zero h = omega arith
  freed-sum (suc k) h = omega (arith, freed_one k (omega arith), freed-sum k (omega arith))

  -- ---- the whole release

  abbrev f : List ℕ
  f = freed r i m

  abbrev q : List ℕ
  q = set f (held_at + i) 0

  -- the owners and the count alone are written
  same : (a : ℕ) → ((d : ℕ) → d < cells → a ≡ owners_at + d → ⊥) → (a ≡ held_at + i → ⊥) → get_or q a 0 ≡ get_or r a 0
  same a w n =
      get_or-set_other f (held_at + i) a 0 0 n
      ∙ turns (λ t. get_or t a 0) m (omega arith) (λ t o l. get_or-set_other t (owners_at + listed r i o) a unowned 0 (w (listed r i o) (own o l).low))

  pool_released : pool_in q ≡ pool_in r
  pool_released =
      pool_set f (held_at + i) 0 (omega arith)
      ∙ turns pool_in m (omega arith) (λ t o l. pool_set t (owners_at + listed r i o) unowned (omega arith))

  pub held_none : held q i ≡ 0
  held_none = get_or-set_same f (held_at + i) 0 0 (omega (arith, g.long, freed-length r i m))

  pub held_same : (j : ℕ) → j < holders → (j ≡ i → ⊥) → held q j ≡ held r j
  held_same j h d = same (held_at + j) (λ x l z. omega arith) (λ z. d (omega arith))

  pub listed_same : (j k : ℕ) → listed q j k ≡ listed r j k
  listed_same j k = same (lists_at + (j * cells + k)) (λ x l z. omega arith) (omega arith)

  place_same : (c : ℕ) → c < cells → place q c ≡ place r c
  place_same c h = same (places_at + c) (λ x l z. omega arith) (omega arith)

  len_same : (c : ℕ) → c < cells → len q c ≡ len r c
  len_same c h = same (lengths_at + c) (λ x l z. omega arith) (omega arith)

  owner_f : (c : ℕ) → owner q c ≡ owner f c
  owner_f c = get_or-set_other f (held_at + i) (owners_at + c) 0 0 (omega arith)

  piece_same : (c : ℕ) → c < cells → piece q c ≡ piece r c
  piece_same c h =
      ap (window q (cells_at + c * cell_size)) (len_same c h)
      ∙ window-set f (held_at + i) 0 (cells_at + c * cell_size) (len r c) (omega arith)
      ∙ turns (λ t. window t (cells_at + c * cell_size) (len r c)) m (omega arith)
      (λ t o l. window-set t (owners_at + listed r i o) unowned (cells_at + c * cell_size) (len r c) (omega (arith, (own o l).low)))

  emptied : pieces q i (held q i) ≡ []
  unfolding pieces
  emptied = ap (pieces q i) held_none

  others_stay : (j : ℕ) → j < holders → (j ≡ i → ⊥) → pieces q j (held q j) ≡ pieces r j (held r j)
  others_stay j h d =
      ap (pieces q j) (held_same j h d)
      ∙ pieces_ext r q j (held r j) (λ k l. rw (listed_same j k) (piece_same (listed r j k) (g.pieces j k h l).low))

  pub emptied_shows : shown q ≡ having (shown r) i []
  emptied_shows = shown_having r q i [] li pool_released emptied others_stay

  -- the owner of a cell that is not in the list stays
  pub owner_same : (c : ℕ) → ((o : ℕ) → o < m → c ≡ listed r i o → ⊥) → owner q c ≡ owner r c
  owner_same c w = owner_f c ∙ owner_kept m (omega arith) c w

  -- a piece of another holder stays its
  piece-stays : (j k c : ℕ) → (j ≡ i → ⊥) → Piece r j k c → Piece q j k c
  piece-stays j k c n w = record {
    low = w.low;
    owned = owner_same c (λ o l e. n (sym w.owned ∙ ap (owner r) e ∙ (own o l).owned)) ∙ w.owned;
    placed = place_same c w.low ∙ w.placed;
    some = rw (len_same c w.low) w.some;
    short = rw (len_same c w.low) w.short;
  }

  pieces_good : (j k : ℕ) → j < holders → k < held q j → Piece q j k (listed q j k)
  pieces_good j k hj h =
      eq_or_ne j i
      (λ e. absurd (omega (arith, held_none, ap (held q) e)))
      (λ n. rw (listed_same j k) (piece-stays j k (listed r j k) n (g.pieces j k hj (rw (held_same j hj n) at h))))

  free_more : sum cells (free_at q) ≡ sum cells (free_at r) + m
  free_more = sum_ext (free_at q) (free_at f) cells (λ c h. rw (owner_f c)) ∙ freed-sum m (omega arith)

  held_less : sum holders (held r) ≡ sum holders (held q) + m
  held_less = sum_grow (held q) (held r) holders i m li (omega (arith, held_none)) (λ j h d. sym (held_same j h d))

  pub released_good : Good q
  released_good = record {
    long = omega (arith, g.long, length_emptied r i);
    fit = subst Fit (sym pool_released) g.fit;
    holdings = subst (λ (K : Pool). Sound K (held q)) (sym pool_released)
        (kept (pool_in r) g.fit (held r) (held q) i li held_same g.holdings (omega (arith, held_none)));
    pieces = pieces_good;
    counted = omega (arith, free_more, held_less, total r g);
  }
