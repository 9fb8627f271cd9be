-- Bytes behind the table's 32,768 are neither read nor written: what f is read as, and what is written to it, is the same
-- with any bytes d behind it. Assumes nothing.
use mathlib.Core.Path.{◌≡◌, refl, sym, ap, ap₂, ◌∙◌}
use mathlib.Core.Bool.{Bool, true, false, cond, ◌&&◌}
use mathlib.Core.List.{List, [], ◌++◌, append_assoc}
use Prim.Native.Nat.{ℕ, zero, suc, ◌+◌, ◌≤◌, ◌<◌, min}
use native.Mathlib.Omega.{arith}
use lib.Dec.{ltb, leb}
use lib.ListN.{length, take, drop, length-append, length-drop}
use lib.Seq.{take-append-le, drop-append-le}
use borrow.Author.Tests.{le-leb, leb-true, ltb-true}
use Rattle.std.proofs.lemmas.List.{get_or_append_left}
use Rattle.lent.specs.Place.{window, splice}
use Rattle.lent.specs.Number.{number_of, number_at}
use Rattle.lent.specs.Fold.{all}
use Rattle.lent.proofs.Cases.{and_left, and_right}
use Rattle.lent.proofs.PlaceLaws.{splice_in}
use Rattle.lent.proofs.NumberLaws.{number_in_lem}
use Rattle.region.specs.Layout.{holders, size}
use Rattle.slot.specs.declared.parts.Slot.{Slot}
use Rattle.entry.specs.Layout.{entry_size}
use Rattle.entry.specs.Entry.{whole_in, slot_bytes}
use Rattle.entry.proofs.EntryLaws.{length_slot}
use Rattle.table.specs.Layout.{table_size, version_at, pool_at, command_at, command_size, slot_at, pool_in, entry_in, command_in, with_pool, with_slot, with_command, changed}
use Rattle.table.specs.Sound.{headed, slot_sound, sound}
use Rattle.table.specs.View.{slot_shown}
use Rattle.table.proofs.WriteLaws.{with_pool_length, with_command-length}

-- ---- places within the front

module _ (f d : List ℕ) (a : ℕ) where
  pub window_front : (n : ℕ) → a + n ≤ length f → window (f ++ d) a n ≡ window f a n
  unfolding window
  window_front n h =
      ap (take n) (drop-append-le a f d (omega arith)) ∙ take-append-le n (drop a f) d (omega (arith, length-drop a f))

  pub number_front : (n : ℕ) → a + n ≤ length f → number_at (f ++ d) a n ≡ number_at f a n
  number_front n h =
      number_in_lem (f ++ d) a n (omega (arith, length-append f d)) ∙ ap number_of (window_front n h) ∙ sym (number_in_lem f a n h)

  pub splice_front : (xs : List ℕ) → a + length xs ≤ length f → splice (f ++ d) a xs ≡ splice f a xs ++ d
  splice_front xs h =
      let e : ℕ = a + length xs in
      splice_in (f ++ d) a xs (omega (arith, length-append f d))
      ∙ ap₂ (λ (p r : List ℕ). p ++ xs ++ r) (take-append-le a f d (omega arith)) (drop-append-le e f d h)
      ∙ sym (append_assoc (take a f ++ xs) (drop e f) d)
      ∙ ap (λ (l : List ℕ). l ++ d) (sym (splice_in f a xs h))

-- ---- under a test

read_under : (b : Bool) {x y : List ℕ} → (b ≡ true → x ≡ y) → cond b x [] ≡ cond b y []
read_under true e = e refl
read_under false e = refl

pub written-under : (b : Bool) (f d x y : List ℕ) → (b ≡ true → x ≡ y ++ d) → cond b x (f ++ d) ≡ cond b y f ++ d
written-under true f d x y e = e refl
written-under false f d x y e = refl

all_same : (n : ℕ) (f g : ℕ → Bool) → ((k : ℕ) → f k ≡ g k) → all n f ≡ all n g
unfolding all
all_same zero f g e = refl
all_same (suc n) f g e = ap₂ ◌&&◌ (all_same n f g e) (e n)

-- ---- what is read

module _ (f d : List ℕ) (long : table_size ≤ length f) where
  headed_front : headed (f ++ d) ≡ headed f
  unfolding headed
  headed_front =
      rw (
        get_or_append_left f d 0 0 (omega arith),
        get_or_append_left f d 0 1 (omega arith),
        get_or_append_left f d 0 2 (omega arith),
        number_front f d version_at 2 (omega arith),
      )

  pub pool_front : pool_in (f ++ d) ≡ pool_in f
  unfolding pool_in
  pool_front = window_front f d pool_at size (omega arith)

  pub entry_front : (i : ℕ) → entry_in (f ++ d) i ≡ entry_in f i
  unfolding entry_in
  entry_front i =
      read_under (ltb i holders) (λ e. window_front f d (slot_at i) entry_size (omega (arith, ltb-true i holders e)))

  pub command_front : (i : ℕ) → command_in (f ++ d) i ≡ command_in f i
  unfolding command_in
  command_front i =
      rw (entry_front i)
      (read_under (ltb i holders)
      (λ e. window_front f d (slot_at i + command_at) (min command_size (whole_in (entry_in f i))) (omega (arith, ltb-true i holders e))))

  slot_front : (i : ℕ) → slot_sound (f ++ d) i ≡ slot_sound f i
  unfolding slot_sound
  slot_front i = rw (entry_front i, pool_front)

  pub sound_front : sound (f ++ d) ≡ sound f
  unfolding sound
  sound_front =
      rw (
        le-leb table_size (length (f ++ d)) (omega (arith, length-append f d)),
        le-leb table_size (length f) long,
        headed_front,
        pool_front,
        all_same holders (slot_sound (f ++ d)) (slot_sound f) slot_front,
      )

  pub shown_front : (i : ℕ) → slot_shown (f ++ d) i ≡ slot_shown f i
  unfolding slot_shown
  shown_front i = rw (entry_front i, command_front i, pool_front)

  -- ---- what is written

  pool_written : (q : List ℕ) → length q ≡ size → with_pool (f ++ d) q ≡ with_pool f q ++ d
  unfolding with_pool
  pool_written q lq = splice_front f d pool_at q (omega arith)

  slot_written : (i : ℕ) (x : Slot) → with_slot (f ++ d) i x ≡ with_slot f i x ++ d
  unfolding with_slot
  slot_written i x =
      written-under (ltb i holders) f d _ _
      (λ e. splice_front f d (slot_at i) (slot_bytes x) (omega (arith, ltb-true i holders e, length_slot x)))

  command-written : (i : ℕ) (bs : List ℕ) → with_command (f ++ d) i bs ≡ with_command f i bs ++ d
  unfolding with_command
  command-written i bs =
      written-under (ltb i holders && leb (length bs) command_size) f d _ _
      (λ e.
      let h : i < holders = ltb-true i holders (and_left _ _ e) in
      let l : length bs ≤ command_size = leb-true (length bs) command_size (and_right (ltb i holders) _ e) in
      splice_front f d (slot_at i + command_at) bs (omega arith))

pub changed_front : (f d : List ℕ) → table_size ≤ length f → (i : ℕ) (q bs : List ℕ) (x : Slot) → length q ≡ size
    → changed (f ++ d) i q bs x ≡ changed f i q bs x ++ d
unfolding changed
changed_front f d long i q bs x lq =
    let p : List ℕ = with_pool f q in
    let c : List ℕ = with_command p i bs in
    ap (λ (l : List ℕ). with_slot (with_command l i bs) i x) (pool_written f d long q lq)
    ∙ ap (λ (l : List ℕ). with_slot l i x) (command-written p d (omega (arith, long, with_pool_length f q)) i bs)
    ∙ slot_written c d (omega (arith, long, with_pool_length f q, with_command-length p i bs)) i x
