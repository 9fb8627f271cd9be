-- What a table shows after a call's work: the slot that was written, and every other as it was. Assumes nothing.
use mathlib.Core.Path.{◌≡◌, refl, sym, ap, ◌∙◌, subst}
use mathlib.Core.Bool.{true}
use mathlib.Core.List.{List, []}
use Prim.Native.Nat.{ℕ, ◌+◌, ◌≤◌, ◌<◌, min}
use native.Mathlib.Omega.{arith}
use lib.ListN.{length}
use Rattle.lent.specs.Place.{window}
use Rattle.lent.proofs.Cases.{le_or_lt}
use Rattle.lent.proofs.PlaceLaws.{window_own}
use Rattle.region.specs.Layout.{holders, size}
use Rattle.region.specs.Holding.{held_by}
use Rattle.pool.specs.View.{shown}
use Rattle.session.specs.Slot.{busy}
use Rattle.slot.specs.declared.parts.Talk.{Talk}
use Rattle.slot.specs.declared.parts.Slot.{Slot}
use Rattle.slot.specs.declared.parts.Slot.TheVariants.{Empty, Greeting, Ready, Busy, Done, Ended}
use Rattle.slot.specs.Fit.{fits}
use Rattle.slot.specs.View.{talk_of, state_of, KeptFor}
use Rattle.slot.proofs.FitLaws.{talk_fit}
use Rattle.entry.specs.Entry.{whole_in, slot_bytes}
use Rattle.entry.proofs.EntryLaws.{back, whole_back}
use Rattle.table.specs.Layout.{command_at, command_size, slot_at, pool_in, entry_in, command_in, changed}
use Rattle.table.specs.Sound.{sound}
use Rattle.table.specs.View.{slot_shown}
use Rattle.table.proofs.WriteLaws.{command_in_lem, command_whole, command_out, changed_pool, changed_own, changed_other, changed_command, changed_new, changed_kept}
use Rattle.table.proofs.SoundLaws.{sound_long}

-- the command of a slot that is not busy is not looked at
command_unseen : (x : Slot) (c d : List ℕ) (got : List (List ℕ)) → ((u : Talk) → x ≡ Busy u → c ≡ d) → state_of x c got ≡ state_of x d got
unfolding state_of
command_unseen Empty c d got e = refl
command_unseen (Greeting l sent) c d got e = refl
command_unseen (Ready l) c d got e = refl
command_unseen (Busy u) c d got e = ap (λ (l : List ℕ). busy (talk_of u l got)) (e u refl)
command_unseen (Done l) c d got e = refl
command_unseen Ended c d got e = refl

module _ (t : List ℕ) (i : ℕ) (q bs : List ℕ) (x : Slot) (s : sound t ≡ true) where
  abbrev new : List ℕ
  new = changed t i q bs x

  pooled : length q ≡ size → pool_in new ≡ q
  pooled = changed_pool t i q bs x (sound_long t s)

  -- ---- another slot

  module _ (lq : length q ≡ size) (j : ℕ) (d : j ≡ i → ⊥) where
    same_entry : entry_in new j ≡ entry_in t j
    same_entry = changed_other t i q bs x lq j d

    same_command : command_in new j ≡ command_in t j
    same_command =
        le_or_lt holders j
        (λ h. command_out new j h ∙ sym (command_out t j h))
        (λ h.
        command_in_lem new j h
        ∙ ap (λ (w : List ℕ). window new (slot_at j + command_at) (min command_size (whole_in w))) same_entry
        ∙ changed_command t i q bs x lq j (min command_size (whole_in (entry_in t j))) d (omega arith)
        ∙ sym (command_in_lem t j h))

    -- it shows what it showed, where its pieces are the same
    pub shown_other : (shown q).pieces j ≡ (shown (pool_in t)).pieces j → slot_shown new j ≡ slot_shown t j
    unfolding slot_shown
    shown_other e = rw (same_entry, same_command, pooled lq, e)

  -- ---- the slot that was written

  module _ (h : i < holders) (lq : length q ≡ size) (f : fits x (held_by q i) ≡ true) where
    busy_fits : (u : Talk) → x ≡ Busy u → fits (Busy u) (held_by q i) ≡ true
    busy_fits u b = subst (λ (y : Slot). fits y (held_by q i) ≡ true) b f

    busy_most : (u : Talk) → x ≡ Busy u → u.cut.whole ≤ command_size
    unfolding fits
    busy_most u b = (talk_fit u (held_by q i) (busy_fits u b)).range.cut.most

    own_command : (u : Talk) → x ≡ Busy u → command_in new i ≡ window new (slot_at i + command_at) u.cut.whole
    own_command u b =
        let e : whole_in (entry_in new i) ≡ u.cut.whole =
        ap whole_in (changed_own t i q bs x (sound_long t s) h ∙ ap slot_bytes b) ∙ whole_back u (held_by q i) (busy_fits u b) in
        command_whole new i h (omega (arith, e, busy_most u b)) ∙ ap (window new (slot_at i + command_at)) e

    -- it shows what was written, with the command that is kept now
    shown_own : (c : List ℕ) → ((u : Talk) → x ≡ Busy u → window new (slot_at i + command_at) u.cut.whole ≡ c)
        → slot_shown new i ≡ state_of x c ((shown q).pieces i)
    unfolding slot_shown
    shown_own c e =
        rw (changed_own t i q bs x (sound_long t s) h, back x (held_by q i) f, pooled lq)
        (command_unseen x (command_in new i) c _ (λ u b. own_command u b ∙ e u b))

    pub shown_new : length bs ≤ command_size → KeptFor x bs → slot_shown new i ≡ state_of x bs ((shown q).pieces i)
    shown_new l k =
        shown_own bs
        (λ u b.
        ap (window new (slot_at i + command_at)) (sym (subst (λ (y : Slot). KeptFor y bs) b k)) ∙ changed_new t i q bs x (sound_long t s) h l)

-- with the old command
pub shown_kept : (t : List ℕ) (i : ℕ) (q : List ℕ) (x : Slot) → sound t ≡ true → i < holders → length q ≡ size → fits x (held_by q i) ≡ true
    → KeptFor x (command_in t i) → slot_shown (changed t i q [] x) i ≡ state_of x (command_in t i) ((shown q).pieces i)
shown_kept t i q x s h lq f k =
    shown_own t i q [] x s h lq f (command_in t i)
    (λ u b.
    changed_kept t i q x lq u.cut.whole (busy_most t i q [] x s h lq f u b)
    ∙ ap (window t (slot_at i + command_at)) (sym (subst (λ (y : Slot). KeptFor y (command_in t i)) b k))
    ∙ again)
  where
    again : window t (slot_at i + command_at) (length (command_in t i)) ≡ command_in t i
    again = rw (command_in_lem t i h) (window_own t (slot_at i + command_at) (min command_size (whole_in (entry_in t i))))
