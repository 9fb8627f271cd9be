-- What is promised of T=1 over a pool, along any run of the rack. Assumes nothing.
use Prim.Native.Nat.{ℕ, ◌<◌}
use mathlib.Core.Path.{◌≡◌, sym, ◌∙◌}
use mathlib.Core.List.{List, [], ◌∷◌}
use native.Mathlib.Omega.{arith}
use Rattle.shares.specs.Pool.{Pool, Fit, Sound}
use Rattle.shares.specs.Rack.{Call, Rack, holds}
use Rattle.shares.specs.Log.{Entry, takes, Keeps}
use Rattle.shares.proofs.RunLaws.{sound-run}
use Rattle.shares.proofs.DemandLaws.{demand3}
use Rattle.shares.proofs.LogLaws.{log_keeps}
use Rattle.shares.proofs.GrantLaws.{fresh_sound}
use Rattle.session.specs.Slot.{State, empty, greeting, ready, busy, done, ended, state_no}
use Rattle.session.specs.Protocol.{t1}
use Rattle.session.specs.History.{Past, since, back_to, state_in, events, Told, AllTold, AllBound}
use Rattle.session.specs.Kept.{Kept}
use Rattle.session.specs.Promise.{Slot, Later, Promised}
use Rattle.session.proofs.LawfulLaws.{t1_lawful}
use Rattle.session.proofs.DueLaws.{asks-due}
use Rattle.session.proofs.HistoryLaws.{Inv, Said, step_said, inv_empty, held-told}
use Rattle.session.proofs.KeptLaws.{next_kept}
use Rattle.session.proofs.BoundLaws.{Spent, busy_unanswered, Stepped, step_bound}

-- what every call keeps, of a slot of ceiling c and its past
record Along (c : ℕ) (s : State) (h : Past) : Type 0 where
  inv : Inv s h
  kept : Kept s
  spent : Spent c s (events (since h))
  told : AllTold c h

both : {c : ℕ} {u : State} {e : Entry t1} {h : Past} → state_in (e ∷ h) ≡ state_no u → Said e h → Stepped c u e h → Told c e h
both {u = u} q s b = record {
  sent = s.sent;
  delivers = s.delivers;
  turns = s.turns;
  onward = s.onward;
  bound = b.bound;
  busy = λ three. omega (arith, busy_unanswered u (sym q ∙ three), b.room);
}

along_keeps : (c i : ℕ) → Keeps t1 i c (Along c)
unfolding AllTold
along_keeps c i s h x g low high a =
    let said = step_said i s h x g a.inv in
    let bound = step_bound c i s h x g low high a.kept a.spent in
    record {
      inv = said.0;
      kept = next_kept i s x (takes t1 i s x g) a.kept;
      spent = bound.spent;
      told = (both said.0.told said.1 bound, a.told);
    }

along_empty : (c : ℕ) → Along c empty []
unfolding AllTold events back_to
along_empty c = record { inv = inv_empty; kept = tt; spent = omega arith; told = tt }

-- ---- from any state that keeps the invariant

record Later-along (c : ℕ) (s : State) (h : Past) : Type 0 where
  kept : Kept s
  spent : Spent c s (events (since h))
  bound : AllBound c h

later-keeps : (c i : ℕ) → Keeps t1 i c (Later-along c)
unfolding AllBound
later-keeps c i s h x g low high a =
    let b = step_bound c i s h x g low high a.kept a.spent in
    record { kept = next_kept i s x (takes t1 i s x g) a.kept; spent = b.spent; bound = (b.bound, a.bound) }

begun : (c : ℕ) (s : State) → Kept s → Spent c s (events (since []))
unfolding events back_to
begun c empty k = omega arith
begun c (greeting l n) k = omega (arith, k.1.0)
begun c (ready l) k = omega arith
begun c (busy t) k = omega (arith, k.begun)
begun c (done l got) k = omega arith
begun c ended k = omega arith

module _ (K : Pool) (F : Fit K) (r : Rack t1) (S : Sound K (holds t1 r)) where
  slot : (i : ℕ) → i < K.holders → r i ≡ empty → (cs : List (Call t1)) → Slot K r i cs
  slot i l e cs =
      let a = log_keeps K t1 F t1_lawful i l (Along (K.ceiling i)) (along_keeps (K.ceiling i) i) cs r [] S (rw e (along_empty (K.ceiling i))) in
      record {
        told = a.told;
        state = sym a.inv.told;
        held = held-told _ _ a.inv;
        ceiling = (sound-run K t1 F t1_lawful r cs S).under i l;
        kept = a.kept;
      }

  later : (i : ℕ) → i < K.holders → Kept (r i) → (cs : List (Call t1)) → Later K r i cs
  unfolding AllBound
  later i l k cs =
      let c = K.ceiling i in
      let a = log_keeps K t1 F t1_lawful i l (Later-along c) (later-keeps c i) cs r [] S (record { kept = k; spent = begun c (r i) k; bound = tt }) in
      record { kept = a.kept; bound = a.bound }

  pub promised : Promised K r
  promised = record { shares = demand3 K t1 F t1_lawful r S; due = asks-due; slots = slot; later = later }

-- from a rack whose slots are all empty
pub fresh_promised : (K : Pool) → Fit K → (r : Rack t1) → ((i : ℕ) → r i ≡ empty) → Promised K r
fresh_promised K F r e = promised K F r (fresh_sound K (holds t1 r) F (λ j _. rw (e j)))
