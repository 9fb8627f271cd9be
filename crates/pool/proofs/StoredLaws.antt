-- What stands where after a piece was stored. Assumes nothing.
use Prim.Native.Nat.{ℕ, ◌+◌, ◌*◌, ◌≤◌, ◌<◌}
use mathlib.Core.Path.{◌≡◌, ap, ◌∙◌}
use mathlib.Core.List.{List}
use native.Mathlib.Omega.{arith}
use lib.ListN.{length, get_or, set, length-set}
use lib.Seq.{get_or-set_same, get_or-set_other}
use Rattle.lent.specs.Place.{window, splice}
use Rattle.lent.proofs.Cases.{le_or_lt}
use Rattle.lent.proofs.PlaceLaws.{length-splice, window_before, window_after, window_same, byte_before, window-set}
use Rattle.region.specs.Layout.{holders, cells, cell_size, held_at, owners_at, places_at, lengths_at, lists_at, cells_at, size, held, owner, place, len, listed, piece, pool_in}
use Rattle.pool.specs.Calls.{stored}
use Rattle.region.proofs.LimitLaws.{pool_head}

pub length-stored : (r : List ℕ) (i n c : ℕ) (xs : List ℕ) → length (stored r i n c xs) ≡ length r
unfolding stored
length-stored r i n c xs = simp (length-set, length-splice)

-- there are a region, the holder i, the cell c, a place n in i's list, and room for xs in a cell
pub record Stores (r : List ℕ) (i n c : ℕ) (xs : List ℕ) : Type 0 where
  pub long : size ≤ length r
  pub holder : i < holders
  pub last : n < cells
  pub cell : c < cells
  pub short : length xs ≤ cell_size

-- the byte a stands before the cells, and is none of the five that are written there
pub record Apart (i n c a : ℕ) : Type 0 where
  pub low : a < cells_at
  pub owner : a ≡ owners_at + c → ⊥
  pub place : a ≡ places_at + c → ⊥
  pub len : a ≡ lengths_at + c → ⊥
  pub listed : a ≡ lists_at + (i * cells + n) → ⊥
  pub held : a ≡ held_at + i → ⊥

module _ {r : List ℕ} {i n c : ℕ} {xs : List ℕ} (s : Stores r i n c xs) where
  -- ---- the writes, one by one

  abbrev s0 : List ℕ
  s0 = splice r (cells_at + c * cell_size) xs

  abbrev s1 : List ℕ
  s1 = set s0 (owners_at + c) i

  abbrev s2 : List ℕ
  s2 = set s1 (places_at + c) n

  abbrev s3 : List ℕ
  s3 = set s2 (lengths_at + c) (length xs)

  abbrev s4 : List ℕ
  s4 = set s3 (lists_at + (i * cells + n)) c

  abbrev q : List ℕ
  q = stored r i n c xs

  -- a byte that the last, the last two, .. are not at
  module _ (a : ℕ) (h5 : a ≡ held_at + i → ⊥) where
    past1 : get_or q a 0 ≡ get_or s4 a 0
    unfolding stored
    past1 = get_or-set_other s4 (held_at + i) a (n + 1) 0 h5

    module _ (h4 : a ≡ lists_at + (i * cells + n) → ⊥) where
      past2 : get_or q a 0 ≡ get_or s3 a 0
      past2 = past1 ∙ get_or-set_other s3 (lists_at + (i * cells + n)) a c 0 h4

      module _ (h3 : a ≡ lengths_at + c → ⊥) where
        past3 : get_or q a 0 ≡ get_or s2 a 0
        past3 = past2 ∙ get_or-set_other s2 (lengths_at + c) a (length xs) 0 h3

        past4 : (a ≡ places_at + c → ⊥) → get_or q a 0 ≡ get_or s1 a 0
        past4 h2 = past3 ∙ get_or-set_other s1 (places_at + c) a n 0 h2

  pub elsewhere : (a : ℕ) → Apart i n c a → get_or q a 0 ≡ get_or r a 0
  elsewhere a d =
      past4 a d.held d.listed d.len d.place
      ∙ get_or-set_other s0 (owners_at + c) a i 0 d.owner
      ∙ byte_before r (cells_at + c * cell_size) xs a (omega arith)

  -- ---- the five

  there : (t : List ℕ) (a v : ℕ) → length t ≡ length r → a < size → get_or (set t a v) a 0 ≡ v
  there t a v e h = get_or-set_same t a v 0 (omega arith)

  pub held_own : held q i ≡ n + 1
  unfolding stored
  held_own = there s4 (held_at + i) (n + 1) (simp (length-set, length-splice)) (omega arith)

  pub listed_own : listed q i n ≡ c
  listed_own =
      past1 (lists_at + (i * cells + n)) (omega arith)
      ∙ there s3 (lists_at + (i * cells + n)) c (simp (length-set, length-splice)) (omega arith)

  pub len_own : len q c ≡ length xs
  len_own =
      past2 (lengths_at + c) (omega arith) (omega arith)
      ∙ there s2 (lengths_at + c) (length xs) (simp (length-set, length-splice)) (omega arith)

  pub place_own : place q c ≡ n
  place_own =
      past3 (places_at + c) (omega arith) (omega arith) (omega arith)
      ∙ there s1 (places_at + c) n (simp (length-set, length-splice)) (omega arith)

  pub owner_own : owner q c ≡ i
  owner_own =
      past4 (owners_at + c) (omega arith) (omega arith) (omega arith) (omega arith)
      ∙ there s0 (owners_at + c) i (simp length-splice) (omega arith)

  -- ---- all others

  pub held_other : (j : ℕ) → j < holders → (j ≡ i → ⊥) → held q j ≡ held r j
  held_other j h d = elsewhere (held_at + j) (omega arith)

  pub owner_other : (d : ℕ) → d < cells → (d ≡ c → ⊥) → owner q d ≡ owner r d
  owner_other d h o = elsewhere (owners_at + d) (omega arith)

  pub place_other : (d : ℕ) → d < cells → (d ≡ c → ⊥) → place q d ≡ place r d
  place_other d h o = elsewhere (places_at + d) (omega arith)

  pub len_other : (d : ℕ) → d < cells → (d ≡ c → ⊥) → len q d ≡ len r d
  len_other d h o = elsewhere (lengths_at + d) (omega arith)

  pub listed_holder : (j k : ℕ) → j < holders → k < cells → (j ≡ i → ⊥) → listed q j k ≡ listed r j k
  listed_holder j k h l d = elsewhere (lists_at + (j * cells + k)) (omega arith)

  pub listed_before : (k : ℕ) → k < n → listed q i k ≡ listed r i k
  listed_before k h = elsewhere (lists_at + (i * cells + k)) (omega arith)

  -- ---- parts

  -- a part with no byte from the counts to the lists goes by the cells alone
  window_off : (b m : ℕ) → ((p : ℕ) → held_at ≤ p → p < cells_at → b ≤ p → p < b + m → ⊥) → window q b m ≡ window s0 b m
  unfolding stored
  window_off b m off =
      window-set s4 (held_at + i) (n + 1) b m (off (held_at + i) (omega arith) (omega arith))
      ∙ window-set s3 (lists_at + (i * cells + n)) c b m (off (lists_at + (i * cells + n)) (omega arith) (omega arith))
      ∙ window-set s2 (lengths_at + c) (length xs) b m (off (lengths_at + c) (omega arith) (omega arith))
      ∙ window-set s1 (places_at + c) n b m (off (places_at + c) (omega arith) (omega arith))
      ∙ window-set s0 (owners_at + c) i b m (off (owners_at + c) (omega arith) (omega arith))

  pub piece_own : piece q c ≡ xs
  piece_own =
      ap (window q (cells_at + c * cell_size)) len_own
      ∙ window_off (cells_at + c * cell_size) (length xs) (omega arith)
      ∙ window_same r (cells_at + c * cell_size) xs (omega arith)

  pub piece_other : (d : ℕ) → d < cells → len r d ≤ cell_size → (d ≡ c → ⊥) → piece q d ≡ piece r d
  piece_other d h l o =
      ap (window q (cells_at + d * cell_size)) (len_other d h o)
      ∙ window_off (cells_at + d * cell_size) (len r d) (omega arith)
      ∙ le_or_lt c d
      (λ g. window_after r (cells_at + c * cell_size) xs (cells_at + d * cell_size) (len r d) (omega arith))
      (λ g. window_before r (cells_at + c * cell_size) xs (cells_at + d * cell_size) (len r d) (omega arith))

  -- shares and ceilings stay
  pub pool_stored : pool_in q ≡ pool_in r
  pool_stored =
      pool_head q r
      (λ b h. window_off b holders (omega arith) ∙ window_before r (cells_at + c * cell_size) xs b holders (omega arith))
