-- The table with a part written: that part reads as it was written, and the others as they were. Assumes nothing.
use mathlib.Core.Path.{◌≡◌, refl, ap, ◌∙◌}
use mathlib.Core.Bool.{cond, ◌&&◌}
use mathlib.Core.List.{List, []}
use Prim.Native.Nat.{ℕ, ◌+◌, ◌≤◌, ◌<◌, min}
use native.Mathlib.Omega.{arith}
use lib.Dec.{ltb, leb}
use lib.ListN.{length}
use borrow.Rule.Slice.PartMut.{put_mid}
use borrow.Author.Tests.{leb-true, lt-ltb, le-ltb, le-leb}
use Rattle.lent.specs.Place.{window, splice}
use Rattle.lent.proofs.Cases.{cond_case, and_right}
use Rattle.lent.proofs.PlaceLaws.{length-window, length-splice, window_apart, window_same, byte_before, splice_own, splice_none, lent_back}
use Rattle.lent.proofs.NumberLaws.{number_before}
use Rattle.region.specs.Layout.{holders, size}
use Rattle.slot.specs.declared.parts.Slot.{Slot}
use Rattle.entry.specs.Layout.{entry_size}
use Rattle.entry.specs.Entry.{whole_in, slot_bytes}
use Rattle.entry.proofs.EntryLaws.{length_slot}
use Rattle.table.specs.Layout.{table_size, version_at, pool_at, slots_at, command_at, command_size, slot_at, pool_in, entry_in, command_in, with_pool, with_slot, with_command, changed}
use Rattle.table.specs.Sound.{headed}

-- mark and version stand before all that is written
pub headed_behind : (t : List ℕ) (a : ℕ) (xs : List ℕ) → pool_at ≤ a → headed (splice t a xs) ≡ headed t
unfolding headed
headed_behind t a xs h =
    rw (
      byte_before t a xs 0 (omega arith),
      byte_before t a xs 1 (omega arith),
      byte_before t a xs 2 (omega arith),
      number_before t a xs version_at 2 (omega arith),
    )

-- an entry is as it was where its bytes are
pub entry_ext : (t u : List ℕ) (j : ℕ) → window u (slot_at j) entry_size ≡ window t (slot_at j) entry_size → entry_in u j ≡ entry_in t j
unfolding entry_in
entry_ext t u j e = ap (λ (w : List ℕ). cond (ltb j holders) w []) e

-- the command of a slot, and beyond the last

pub command_in_lem : (t : List ℕ) (i : ℕ) → i < holders
    → command_in t i ≡ window t (slot_at i + command_at) (min command_size (whole_in (entry_in t i)))
unfolding command_in
command_in_lem t i h = rw (lt-ltb i holders h)

-- as long as the entry says, where that is no more than the room for it
pub command_whole : (t : List ℕ) (i : ℕ) → i < holders → whole_in (entry_in t i) ≤ command_size
    → command_in t i ≡ window t (slot_at i + command_at) (whole_in (entry_in t i))
command_whole t i h l =
    let e : min command_size (whole_in (entry_in t i)) ≡ whole_in (entry_in t i) = omega arith in
    command_in_lem t i h ∙ ap (window t (slot_at i + command_at)) e

pub command_out : (t : List ℕ) (i : ℕ) → holders ≤ i → command_in t i ≡ []
unfolding command_in
command_out t i h = rw (le-ltb i holders h)

-- ---- the pool's region

pub length_pool : (t : List ℕ) → table_size ≤ length t → length (pool_in t) ≡ size
unfolding pool_in
length_pool t long = length-window t pool_at size (omega arith)

pub pool_same : (t : List ℕ) → with_pool t (pool_in t) ≡ t
unfolding with_pool pool_in
pool_same t = splice_own t pool_at size

-- the pool's part, lent on, comes back so
pub pool_back : (t r : List ℕ) → table_size ≤ length t → length r ≡ length (pool_in t) → put_mid pool_at size t r ≡ with_pool t r
unfolding with_pool
pool_back t r long l = lent_back t pool_at size r (l ∙ length_pool t long) (omega arith)

module _ (t q : List ℕ) where
  pub with_pool_length : length (with_pool t q) ≡ length t
  unfolding with_pool
  with_pool_length = length-splice t pool_at q

  pub with_pool_headed : headed (with_pool t q) ≡ headed t
  unfolding with_pool
  with_pool_headed = headed_behind t pool_at q (omega arith)

  module _ (lq : length q ≡ size) where
    pub with_pool_own : table_size ≤ length t → pool_in (with_pool t q) ≡ q
    unfolding with_pool pool_in
    with_pool_own long = rw lq at (window_same t pool_at q (omega arith))

    -- all behind it is as it was
    pub with_pool_elsewhere : (b n : ℕ) → slots_at ≤ b → window (with_pool t q) b n ≡ window t b n
    unfolding with_pool
    with_pool_elsewhere b n h = window_apart t pool_at q b n (λ m l. omega arith)

    pub with_pool_entry : (j : ℕ) → entry_in (with_pool t q) j ≡ entry_in t j
    with_pool_entry j = entry_ext t (with_pool t q) j (with_pool_elsewhere (slot_at j) entry_size (omega arith))

    pub with_pool_command : (j : ℕ) → command_in (with_pool t q) j ≡ command_in t j
    unfolding command_in
    with_pool_command j =
        rw (with_pool_entry j, with_pool_elsewhere (slot_at j + command_at) (min command_size (whole_in (entry_in t j))) (omega arith))

-- ---- a slot's entry

module _ (t : List ℕ) (i : ℕ) (x : Slot) where
  slot_case : (P : List ℕ → Type 0) → P (splice t (slot_at i) (slot_bytes x)) → P t → P (with_slot t i x)
  unfolding with_slot
  slot_case P f g = cond_case P (ltb i holders) (λ e. f) (λ e. g)

  pub with_slot_length : length (with_slot t i x) ≡ length t
  with_slot_length = slot_case (λ (l : List ℕ). length l ≡ length t) (length-splice t (slot_at i) (slot_bytes x)) refl

  pub with_slot_headed : headed (with_slot t i x) ≡ headed t
  with_slot_headed = slot_case (λ (l : List ℕ). headed l ≡ headed t) (headed_behind t (slot_at i) (slot_bytes x) (omega arith)) refl

  -- all that it does not meet is as it was
  pub with_slot_elsewhere : (b n : ℕ) → (slot_at i < b + n → b < slot_at i + entry_size → ⊥) → window (with_slot t i x) b n ≡ window t b n
  with_slot_elsewhere b n out =
      slot_case (λ (l : List ℕ). window l b n ≡ window t b n)
      (window_apart t (slot_at i) (slot_bytes x) b n (λ m l. out m (omega (arith, length_slot x)))) refl

  pub with_slot_pool : pool_in (with_slot t i x) ≡ pool_in t
  unfolding pool_in
  with_slot_pool = with_slot_elsewhere pool_at size (λ m l. omega arith)

  pub with_slot_own : table_size ≤ length t → i < holders → entry_in (with_slot t i x) i ≡ slot_bytes x
  unfolding with_slot entry_in
  with_slot_own long h =
      rw (lt-ltb i holders h) (rw (length_slot x) at (window_same t (slot_at i) (slot_bytes x) (omega (arith, length_slot x))))

  pub with_slot_other : (j : ℕ) → (j ≡ i → ⊥) → entry_in (with_slot t i x) j ≡ entry_in t j
  with_slot_other j d = entry_ext t (with_slot t i x) j (with_slot_elsewhere (slot_at j) entry_size (λ m l. omega arith))

-- ---- a slot's command

module _ (t : List ℕ) (i : ℕ) (bs : List ℕ) where
  command_case : (P : List ℕ → Type 0) → (length bs ≤ command_size → P (splice t (slot_at i + command_at) bs)) → P t → P (with_command t i bs)
  unfolding with_command
  command_case P f g =
      cond_case P (ltb i holders && leb (length bs) command_size) (λ e. f (leb-true _ _ (and_right (ltb i holders) _ e))) (λ e. g)

  pub with_command-length : length (with_command t i bs) ≡ length t
  with_command-length = command_case (λ (l : List ℕ). length l ≡ length t) (λ h. length-splice t (slot_at i + command_at) bs) refl

  pub with_command-headed : headed (with_command t i bs) ≡ headed t
  with_command-headed = command_case (λ (l : List ℕ). headed l ≡ headed t) (λ h. headed_behind t (slot_at i + command_at) bs (omega arith)) refl

  -- all that it does not meet is as it was
  pub with_command_elsewhere : (b n : ℕ) → (slot_at i + command_at < b + n → b < slot_at i + command_at + command_size → ⊥)
      → window (with_command t i bs) b n ≡ window t b n
  with_command_elsewhere b n out =
      command_case (λ (l : List ℕ). window l b n ≡ window t b n)
      (λ h. window_apart t (slot_at i + command_at) bs b n (λ m l. out m (omega arith))) refl

  pub with_command_pool : pool_in (with_command t i bs) ≡ pool_in t
  unfolding pool_in
  with_command_pool = with_command_elsewhere pool_at size (λ m l. omega arith)

  pub with_command_entry : (j : ℕ) → entry_in (with_command t i bs) j ≡ entry_in t j
  with_command_entry j = entry_ext t (with_command t i bs) j (with_command_elsewhere (slot_at j) entry_size (λ m l. omega arith))

  pub with_command_own : table_size ≤ length t → i < holders → length bs ≤ command_size
      → window (with_command t i bs) (slot_at i + command_at) (length bs) ≡ bs
  unfolding with_command
  with_command_own long h l =
      rw (lt-ltb i holders h, le-leb (length bs) command_size l) (window_same t (slot_at i + command_at) bs (omega arith))

-- no command: the old one stays
pub with_command_none : (t : List ℕ) (i : ℕ) → with_command t i [] ≡ t
with_command_none t i = command_case t i [] (λ (l : List ℕ). l ≡ t) (λ h. splice_none t (slot_at i + command_at)) refl

-- ---- a call's work

module _ (t : List ℕ) (i : ℕ) (q bs : List ℕ) (x : Slot) where
  abbrev pooled : List ℕ
  pooled = with_pool t q

  abbrev commanded : List ℕ
  commanded = with_command pooled i bs

  pub changed_length : length (changed t i q bs x) ≡ length t
  unfolding changed
  changed_length = with_slot_length commanded i x ∙ with_command-length pooled i bs ∙ with_pool_length t q

  pub changed_headed : headed (changed t i q bs x) ≡ headed t
  unfolding changed
  changed_headed = with_slot_headed commanded i x ∙ with_command-headed pooled i bs ∙ with_pool_headed t q

  pub changed_pool : table_size ≤ length t → length q ≡ size → pool_in (changed t i q bs x) ≡ q
  unfolding changed
  changed_pool long lq = with_slot_pool commanded i x ∙ with_command_pool pooled i bs ∙ with_pool_own t q lq long

  pub changed_own : table_size ≤ length t → i < holders → entry_in (changed t i q bs x) i ≡ slot_bytes x
  unfolding changed
  changed_own long h = with_slot_own commanded i x (omega (arith, with_command-length pooled i bs, with_pool_length t q)) h

  pub changed_other : length q ≡ size → (j : ℕ) → (j ≡ i → ⊥) → entry_in (changed t i q bs x) j ≡ entry_in t j
  unfolding changed
  changed_other lq j d = with_slot_other commanded i x j d ∙ with_command_entry pooled i bs j ∙ with_pool_entry t q lq j

  -- a command's bytes, wherever they are kept
  command_behind : (j n : ℕ) → n ≤ command_size → window (changed t i q bs x) (slot_at j + command_at) n ≡ window commanded (slot_at j + command_at) n
  unfolding changed
  command_behind j n h = with_slot_elsewhere commanded i x (slot_at j + command_at) n (λ m l. omega arith)

  -- another slot's command
  pub changed_command : length q ≡ size → (j n : ℕ) → (j ≡ i → ⊥) → n ≤ command_size
      → window (changed t i q bs x) (slot_at j + command_at) n ≡ window t (slot_at j + command_at) n
  changed_command lq j n d h =
      command_behind j n h
      ∙ with_command_elsewhere pooled i bs (slot_at j + command_at) n (λ m l. omega arith)
      ∙ with_pool_elsewhere t q lq (slot_at j + command_at) n (omega arith)

  -- its own, where one is written
  pub changed_new : table_size ≤ length t → i < holders → length bs ≤ command_size
      → window (changed t i q bs x) (slot_at i + command_at) (length bs) ≡ bs
  changed_new long h l =
      command_behind i (length bs) l ∙ with_command_own pooled i bs (omega (arith, with_pool_length t q)) h l

-- and where none is
pub changed_kept : (t : List ℕ) (i : ℕ) (q : List ℕ) (x : Slot) → length q ≡ size → (n : ℕ) → n ≤ command_size
    → window (changed t i q [] x) (slot_at i + command_at) n ≡ window t (slot_at i + command_at) n
changed_kept t i q x lq n h =
    command_behind t i q [] x i n h
    ∙ ap (λ (l : List ℕ). window l (slot_at i + command_at) n) (with_command_none (with_pool t q) i)
    ∙ with_pool_elsewhere t q lq (slot_at i + command_at) n (omega arith)
