-- Bytes beyond the table's 32,768 are neither read nor written, whatever the call. Assumes nothing.
use mathlib.Core.Path.{◌≡◌, refl, sym, ap, ◌∙◌}
use mathlib.Core.List.{List, ◌++◌}
use Prim.Native.Nat.{ℕ, ◌≤◌, ◌<◌}
use native.Mathlib.Omega.{arith}
use lib.Dec.{eqb}
use lib.ListN.{length, take, drop, length-append, take-append-drop, drop_of_length-le}
use lib.Seq.{length-take-le, take_at, drop_at}
use borrow.Author.Tests.{eqb-true, le-ltb}
use Rattle.lent.proofs.Cases.{cond_case, le_or_lt}
use Rattle.lent.proofs.PlaceLaws.{length-splice}
use Rattle.region.specs.Layout.{holders, size}
use Rattle.session.specs.Call.{Input, attach, command, event, collect, remove}
use Rattle.table.specs.Layout.{table_size}
use Rattle.table.specs.Fresh.{fresh}
use Rattle.table.proofs.WriteLaws.{length_pool, changed_length}
use Rattle.table.proofs.SoundLaws.{sound_long}
use Rattle.table.proofs.FreshLaws.{length_fresh}
use Rattle.table.proofs.FrontLaws.{splice_front, written-under, pool_front, entry_front, command_front, sound_front, shown_front, changed_front}
use Rattle.call.specs.Call.{refusal_of, next_of, pool_after, kept_by, out_of, answer, table_after}
use Rattle.call.specs.Open.{open_refusal, open_answer, opened}
use Rattle.call.proofs.NoneLaws.{none_sound}
use Rattle.call.proofs.KeepsLaws.{works}

-- ---- lengths: no call changes the table's

pool_after_length : (t : List ℕ) (i : ℕ) (x : Input) → refusal_of t i x ≡ 0 → length (pool_after t i x) ≡ size
pool_after_length t i x none = (works t i x none).moves.long ∙ length_pool t (sound_long t (none_sound t i x none))

pub after_length : (t : List ℕ) (i : ℕ) (x : Input) → length (table_after t i x) ≡ length t
unfolding table_after
after_length t i x =
    cond_case (λ (u : List ℕ). length u ≡ length t) (eqb (refusal_of t i x) 0)
    (λ e. changed_length t i (pool_after t i x) (kept_by x) (next_of t i x).slot) (λ e. refl)

pub opened-length : (t shares ceilings rec : List ℕ) → length (opened t shares ceilings rec) ≡ length t
unfolding opened
opened-length t shares ceilings rec =
    cond_case (λ (u : List ℕ). length u ≡ length t) (eqb (open_refusal (length t) shares ceilings (length rec)) 0)
    (λ e. length-splice t 0 (fresh shares ceilings)) (λ e. refl)

-- ---- a table f, and the same with any bytes d behind it

module _ (f d : List ℕ) (long : table_size ≤ length f) where
  module _ (i : ℕ) where
    refusal_front : (x : Input) → refusal_of (f ++ d) i x ≡ refusal_of f i x
    unfolding refusal_of
    refusal_front x = rw (sound_front f d long, shown_front f d long i)

    next_front : (x : Input) → next_of (f ++ d) i x ≡ next_of f i x
    unfolding next_of
    next_front (attach l atr) = refl
    next_front (command l bs) = rw (entry_front f d long i)
    next_front (event l k bs) = rw (entry_front f d long i, pool_front f d long)
    next_front (collect l) = rw (entry_front f d long i)
    next_front (remove l) = refl

    pool_after_front : (x : Input) → pool_after (f ++ d) i x ≡ pool_after f i x
    unfolding pool_after
    pool_after_front (attach l atr) = pool_front f d long
    pool_after_front (command l bs) = pool_front f d long
    pool_after_front (event l k bs) = rw (entry_front f d long i, pool_front f d long)
    pool_after_front (collect l) = rw (pool_front f d long)
    pool_after_front (remove l) = rw (pool_front f d long)

    out_front : (x : Input) → out_of (f ++ d) i x ≡ out_of f i x
    unfolding out_of
    out_front (attach l atr) = rw (next_front (attach l atr))
    out_front (command l bs) = rw (next_front (command l bs))
    out_front (event l k bs) = rw (next_front (event l k bs), command_front f d long i)
    out_front (collect l) = rw (pool_front f d long)
    out_front (remove l) = refl

    module _ (x : Input) where
      -- the same answer
      pub answer_front : answer (f ++ d) i x ≡ answer f i x
      unfolding answer
      answer_front = rw (refusal_front x, next_front x, out_front x)

      -- and the same is written, with d as it was
      pub after_front : table_after (f ++ d) i x ≡ table_after f i x ++ d
      unfolding table_after
      after_front =
          rw (refusal_front x, next_front x, pool_after_front x)
          (written-under (eqb (refusal_of f i x) 0) f d _ _
          (λ e.
          changed_front f d long i (pool_after f i x) (kept_by x) (next_of f i x).slot
          (pool_after_length f i x (eqb-true (refusal_of f i x) 0 e))))

  -- ---- open

  module _ (shares ceilings rec : List ℕ) where
    open_refusal_front : open_refusal (length (f ++ d)) shares ceilings (length rec) ≡ open_refusal (length f) shares ceilings (length rec)
    unfolding open_refusal
    open_refusal_front =
        rw (le-ltb (length (f ++ d)) table_size (omega (arith, length-append f d)), le-ltb (length f) table_size long)

    pub open_answer_front : open_answer (f ++ d) shares ceilings rec ≡ open_answer f shares ceilings rec
    unfolding open_answer
    open_answer_front = rw open_refusal_front

    pub opened_front : length shares ≡ holders → length ceilings ≡ holders
        → opened (f ++ d) shares ceilings rec ≡ opened f shares ceilings rec ++ d
    unfolding opened
    opened_front ls lc =
        rw open_refusal_front
        (written-under (eqb (open_refusal (length f) shares ceilings (length rec)) 0) f d _ _
        (λ e. splice_front f d 0 (fresh shares ceilings) (omega (arith, length_fresh shares ceilings ls lc))))

-- ---- the first 32,768 bytes of a table, and those beyond

module _ (t : List ℕ) (long : table_size ≤ length t) where
  abbrev front : List ℕ
  front = take table_size t

  abbrev beyond : List ℕ
  beyond = drop table_size t

  split : t ≡ front ++ beyond
  split = sym (take-append-drop table_size t)

  front_length : length front ≡ table_size
  front_length = length-take-le table_size t long

  front_long : table_size ≤ length front
  front_long = omega (arith, front_length)

  module _ (i : ℕ) (x : Input) where
    answer_by_front : answer t i x ≡ answer front i x
    answer_by_front = ap (λ (l : List ℕ). answer l i x) split ∙ answer_front front beyond front_long i x

    after_by_front : table_after t i x ≡ table_after front i x ++ beyond
    after_by_front = ap (λ (l : List ℕ). table_after l i x) split ∙ after_front front beyond front_long i x

    after_taken : take table_size (table_after t i x) ≡ table_after front i x
    after_taken =
        ap (take table_size) after_by_front
        ∙ take_at (table_after front i x) beyond table_size (after_length front i x ∙ front_length)

    after_dropped : drop table_size (table_after t i x) ≡ beyond
    after_dropped =
        ap (drop table_size) after_by_front
        ∙ drop_at (table_after front i x) beyond table_size (after_length front i x ∙ front_length)

  module _ (shares ceilings rec : List ℕ) where
    open_by_front : open_answer t shares ceilings rec ≡ open_answer front shares ceilings rec
    open_by_front =
        ap (λ (l : List ℕ). open_answer l shares ceilings rec) split
        ∙ open_answer_front front beyond front_long shares ceilings rec

    module _ (ls : length shares ≡ holders) (lc : length ceilings ≡ holders) where
      opened_by_front : opened t shares ceilings rec ≡ opened front shares ceilings rec ++ beyond
      opened_by_front =
          ap (λ (l : List ℕ). opened l shares ceilings rec) split
          ∙ opened_front front beyond front_long shares ceilings rec ls lc

      opened-taken : take table_size (opened t shares ceilings rec) ≡ opened front shares ceilings rec
      opened-taken =
          ap (take table_size) opened_by_front
          ∙ take_at (opened front shares ceilings rec) beyond table_size (opened-length front shares ceilings rec ∙ front_length)

      opened_dropped : drop table_size (opened t shares ceilings rec) ≡ beyond
      opened_dropped =
          ap (drop table_size) opened_by_front
          ∙ drop_at (opened front shares ceilings rec) beyond table_size (opened-length front shares ceilings rec ∙ front_length)

-- beyond a list of fewer bytes there is nothing
none_beyond : (t u : List ℕ) → length u ≡ length t → length t < table_size → drop table_size u ≡ drop table_size t
none_beyond t u e h =
    drop_of_length-le u {i = table_size} (omega arith) ∙ sym (drop_of_length-le t {i = table_size} (omega arith))

-- ---- bytes beyond are not written

pub beyond_kept : (t : List ℕ) (i : ℕ) (x : Input) → drop table_size (table_after t i x) ≡ drop table_size t
beyond_kept t i x =
    le_or_lt table_size (length t) (λ h. after_dropped t h i x) (λ h. none_beyond t (table_after t i x) (after_length t i x) h)

pub open_beyond_kept : (t shares ceilings rec : List ℕ) → length shares ≡ holders → length ceilings ≡ holders
    → drop table_size (opened t shares ceilings rec) ≡ drop table_size t
open_beyond_kept t shares ceilings rec ls lc =
    le_or_lt table_size (length t)
    (λ h. opened_dropped t h shares ceilings rec ls lc)
    (λ h. none_beyond t (opened t shares ceilings rec) (opened-length t shares ceilings rec) h)

-- ---- and not read: two tables with the same first 32,768 bytes give the same answer, and are written the same

module _ (t u : List ℕ) (lt : table_size ≤ length t) (lu : table_size ≤ length u) (same : take table_size t ≡ take table_size u) where
  pub beyond_unread : (i : ℕ) (x : Input)
      → (answer t i x ≡ answer u i x) × (take table_size (table_after t i x) ≡ take table_size (table_after u i x))
  beyond_unread i x = (
    answer_by_front t lt i x ∙ ap (λ (l : List ℕ). answer l i x) same ∙ sym (answer_by_front u lu i x),
    after_taken t lt i x ∙ ap (λ (l : List ℕ). table_after l i x) same ∙ sym (after_taken u lu i x),
  )

  pub open_beyond_unread : (shares ceilings rec : List ℕ) → length shares ≡ holders → length ceilings ≡ holders
      → (open_answer t shares ceilings rec ≡ open_answer u shares ceilings rec)
      × (take table_size (opened t shares ceilings rec) ≡ take table_size (opened u shares ceilings rec))
  open_beyond_unread shares ceilings rec ls lc = (
    open_by_front t lt shares ceilings rec
        ∙ ap (λ (l : List ℕ). open_answer l shares ceilings rec) same
        ∙ sym (open_by_front u lu shares ceilings rec),
    opened-taken t lt shares ceilings rec ls lc
        ∙ ap (λ (l : List ℕ). opened l shares ceilings rec) same
        ∙ sym (opened-taken u lu shares ceilings rec ls lc),
  )
