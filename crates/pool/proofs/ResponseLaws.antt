-- The response: the turns that join it, its length, and that it is the pieces joined, each of 1 to 254 bytes. Assumes nothing.
use mathlib.Core.Path.{◌≡◌, refl, sym, ap, ap₂, ◌∙◌}
use mathlib.Core.Bool.{true, ◌&&◌}
use mathlib.Core.List.{List, [], ◌∷◌, ◌++◌, append_assoc, append-nil}
use Prim.Native.Nat.{ℕ, zero, suc, ◌+◌, ◌*◌, ◌≤◌, ◌<◌}
use native.Mathlib.Numerals.{add-one}
use native.Mathlib.Omega.{arith}
use lib.Dec.{ltb, leb}
use lib.ListN.{length, drop, length-append, length-take}
use borrow.Author.Tests.{lt-ltb, le-ltb, le-leb, lt-leb, leb-true}
use Rattle.lent.specs.Place.{window, splice}
use Rattle.lent.proofs.Cases.{cond_case, le_or_lt, and_left, and_right}
use Rattle.lent.proofs.PlaceLaws.{length-window, splice-append}
use Rattle.region.specs.Layout.{holders, cells, cell_size, cells_at, held, len, listed, piece}
use Rattle.region.specs.Sound.{piece_size, Piece, Good}
use Rattle.pool.specs.Calls.{bytes_in, joined}
use Rattle.pool.specs.Contents.{join, sized}
use Rattle.pool.specs.View.{pieces}

-- ---- the bytes of a cell

module _ (r : List ℕ) (c : ℕ) where
  pub bytes-piece : c < cells → len r c ≤ cell_size → bytes_in r c ≡ piece r c
  unfolding bytes_in
  bytes-piece h l = rw (lt-ltb c cells h, le-leb (len r c) cell_size l)

  pub bytes_far : cells ≤ c → bytes_in r c ≡ []
  unfolding bytes_in
  bytes_far h = rw (le-ltb c cells h)

  pub bytes_long : c < cells → cell_size < len r c → bytes_in r c ≡ []
  unfolding bytes_in
  bytes_long h l = rw (lt-ltb c cells h, lt-leb (len r c) cell_size l)

  pub bytes-short : length (bytes_in r c) ≤ cell_size
  unfolding bytes_in window
  bytes-short =
      cond_case (λ (l : List ℕ). length l ≤ cell_size) (ltb c cells && leb (len r c) cell_size)
      (λ e.
      omega (
        arith,
        length-take (len r c) (drop (cells_at + c * cell_size) r),
        leb-true (len r c) cell_size (and_right (ltb c cells) _ e),
      ))
      (λ e. omega arith)

-- ---- piece behind piece

module _ (r : List ℕ) (i : ℕ) where
  joined_step : (k : ℕ) → joined r i (k + 1) ≡ joined r i k ++ bytes_in r (listed r i k)
  unfolding joined
  joined_step k = rw add-one

  pub length_step : (k : ℕ) → length (joined r i (k + 1)) ≡ length (joined r i k) + length (bytes_in r (listed r i k))
  length_step k = ap length (joined_step k) ∙ length-append (joined r i k) (bytes_in r (listed r i k))

  -- more pieces are no shorter
  joined_grows : (k n : ℕ) → k ≤ n → length (joined r i k) ≤ length (joined r i n)
  joined_grows k zero h = let e : k ≡ 0 = omega arith in rw e (omega arith)
  joined_grows k (suc n) h =
      le_or_lt k n
      (λ l. omega (arith, joined_grows k n l, rw add-one at (length_step n)))
      (λ l. let e : k ≡ suc n = omega arith in rw e (omega arith))

  -- a turn of the copy: what was joined, and the next piece behind it
  pub turn : (out₀ out w : List ℕ) (at k : ℕ) → out ≡ splice out₀ 0 (joined r i k) → at ≡ length (joined r i k)
      → w ≡ bytes_in r (listed r i k) → at + length w ≤ length out₀ → splice out at w ≡ splice out₀ 0 (joined r i (k + 1))
  turn out₀ out w at k e a b h =
      let z : at ≡ 0 + length (joined r i k) = omega arith in
      rw (e, z, b, joined_step) (splice-append out₀ 0 (joined r i k) (bytes_in r (listed r i k)) (omega (arith, ap length b)))

  -- the next piece fits where all n do
  pub room : (w : List ℕ) (at k n lo : ℕ) → at ≡ length (joined r i k) → w ≡ bytes_in r (listed r i k) → k < n
      → length (joined r i n) ≤ lo → at + length w ≤ lo
  room w at k n lo a b h g = omega (arith, ap length b, length_step k, joined_grows (k + 1) n (omega arith))

-- ---- of a sound region

join-snoc : (ps : List (List ℕ)) (p : List ℕ) → join (ps ++ (p ∷ [])) ≡ join ps ++ p
unfolding join
join-snoc [] p = append-nil p
join-snoc (x ∷ ps) p = rw (join-snoc ps p) (sym (append_assoc x (join ps) p))

sized-snoc : (ps : List (List ℕ)) (p : List ℕ) → sized ps ≡ true → piece_size (length p) ≡ true → sized (ps ++ (p ∷ [])) ≡ true
unfolding sized
sized-snoc [] p e f = rw f
sized-snoc (x ∷ ps) p e f =
    ap₂ ◌&&◌ (and_left (piece_size (length x)) (sized ps) e) (sized-snoc ps p (and_right (piece_size (length x)) (sized ps) e) f)

pub joined-join : (r : List ℕ) (i n : ℕ) → Good r → i < holders → n ≤ held r i → joined r i n ≡ join (pieces r i n)
unfolding joined join pieces
joined-join r i zero g li h = refl
joined-join r i (suc n) g li h =
    let w : Piece r i n (listed r i n) = g.pieces i n li (omega arith) in
    ap₂ ◌++◌ (joined-join r i n g li (omega arith)) (bytes-piece r (listed r i n) w.low w.short)
    ∙ sym (join-snoc (pieces r i n) (piece r (listed r i n)))

pub pieces-sized : (r : List ℕ) (i n : ℕ) → Good r → i < holders → n ≤ held r i → sized (pieces r i n) ≡ true
unfolding sized pieces
pieces-sized r i zero g li h = refl
pieces-sized r i (suc n) g li h =
    let c : ℕ = listed r i n in
    let w : Piece r i n c = g.pieces i n li (omega arith) in
    let e : length (piece r c) ≡ len r c = length-window r (cells_at + c * cell_size) (len r c) (omega (arith, g.long, w.low, w.short)) in
    sized-snoc (pieces r i n) (piece r c) (pieces-sized r i n g li (omega arith))
    (rw (e, lt-ltb 0 (len r c) w.some, le-leb (len r c) cell_size w.short))
