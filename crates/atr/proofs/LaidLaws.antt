-- What is laid out of groups, however many, is walked to its end as those groups; and an ATR that is as long as it
-- announces is, byte for byte, laid out of the groups that are walked. Assumes nothing.
use mathlib.Core.Path.{◌≡◌, refl, sym, ap, ap₂, subst, subst⁻¹, ◌∙◌}
use mathlib.Core.Bool.{Bool, true, false, cond, not}
use mathlib.Core.List.{List, [], ◌∷◌}
use Prim.Native.Nat.{ℕ, zero, suc, ◌+◌, ◌≤◌, ◌<◌}
use native.Mathlib.Nat.{add-zero}
use native.Mathlib.Numerals.{add-one}
use native.Mathlib.Omega.{arith}
use lib.Dec.{ltb, eqb}
use lib.ListN.{length, get_or, drop, length-drop}
use lib.Seq.{drop-cons}
use borrow.Author.Tests.{le-ltb, eq-eqb, eqb-true, not-false}
use Rattle.lent.proofs.Cases.{eq_or_ne, or_right}
use Rattle.block.specs.Block.{bit}
use Rattle.atr.specs.declared.walk.Group.{Group}
use Rattle.atr.specs.Walk.{absent, low, ts, t0, Letter, A, B, C, D, said, announced, Walk, walk_from, walk_of, field_at, some_other, historical, end_of, length_of}
use Rattle.atr.specs.Rules.{length_wrong}
use Rattle.atr.specs.Laid.{byte_of, laid_group, laid, laid_size, kept, only, Follow}
use Rattle.atr.proofs.WalkLaws.{group_at, group_then, group_last, group_next, length-announced}

-- ---- what is laid out at a place is read there

module _ (s : List ℕ) where
  -- a letter, by its bit
  record Letter-read (l : Letter) (p b : ℕ) (due : List Letter) (g : Group) (r : List ℕ) : Type 0 where
    value : field_at s p b ≡ kept b (byte_of l g)
    place : p + b ≤ length s
    rest : drop (p + b) s ≡ laid_group due g r

  letter_read : (l : Letter) (p b : ℕ) (due : List Letter) (g : Group) (r : List ℕ) → b ≤ 1 → p ≤ length s
      → drop p s ≡ laid_group (said b l due) g r → Letter-read l p b due g r
  unfolding laid_group field_at
  letter_read l p b due g r small h e =
      eq_or_ne b 1
      (λ q. subst (λ (n : ℕ). Letter-read l p n due g r) (sym q) (one (e ∙ ap (λ (n : ℕ). laid_group (said n l due) g r) q)))
      (λ q.
      let z : b ≡ 0 = omega arith in
      subst (λ (n : ℕ). Letter-read l p n due g r) (sym z) (none_said (e ∙ ap (λ (n : ℕ). laid_group (said n l due) g r) z)))
    where
      one : drop p s ≡ byte_of l g ∷ laid_group due g r → Letter-read l p 1 due g r
      one e =
          let there : p < length s = omega (arith, length-drop p s, ap length e) in
          let parts : get_or s p absent ∷ drop (suc p) s ≡ byte_of l g ∷ laid_group due g r = sym (drop-cons s p absent there) ∙ e in
          record {
            value = ap (λ (x : List ℕ). get_or x 0 absent) parts;
            place = omega arith;
            rest = ap (λ (k : ℕ). drop k s) (add-one p) ∙ ap (drop 1) parts;
          }

      none_said : drop p s ≡ laid_group due g r → Letter-read l p 0 due g r
      none_said e = record { value = refl; place = omega arith; rest = ap (λ (k : ℕ). drop k s) (add-zero p) ∙ e }

  -- a group of which only that is there which y announces
  group_read : (p y : ℕ) (g : Group) (r : List ℕ) → p ≤ length s → only y g ≡ g → drop p s ≡ laid_group (announced y) g r
      → (group_at y s p ≡ g) × (p + length (announced y) ≤ length s) × (drop (p + length (announced y)) s ≡ r)
  unfolding group_at laid_group
  group_read p y g r h e f =
      let a = letter_read A p (bit 5 y) _ g r (omega arith) h f in
      let b = letter_read B (p + bit 5 y) (bit 6 y) _ g r (omega arith) a.place a.rest in
      let c = letter_read C (p + bit 5 y + bit 6 y) (bit 7 y) _ g r (omega arith) b.place b.rest in
      let d = letter_read D (p + bit 5 y + bit 6 y + bit 7 y) (bit 8 y) [] g r (omega arith) c.place c.rest in
      let end : p + length (announced y) ≡ p + bit 5 y + bit 6 y + bit 7 y + bit 8 y = omega (arith, length-announced y) in (
        ap₂ (λ (ta tb : ℕ). record { ta = ta; tb = tb; tc = (group_at y s p).tc; td = (group_at y s p).td }) a.value b.value
            ∙ ap₂ (λ (tc td : ℕ). record { ta = (only y g).ta; tb = (only y g).tb; tc = tc; td = td }) c.value d.value
            ∙ e,
        omega (arith, end, d.place),
        ap (λ (k : ℕ). drop k s) end ∙ d.rest,
      )

  -- all groups
  laid-walk : (y : ℕ) (gs : List Group) (r : List ℕ) (p : ℕ) → Follow y gs → p ≤ length s → drop p s ≡ laid y gs r
      → walk_from s p y ≡ record { groups = gs; size = laid_size y gs }
  unfolding laid laid_size
  laid-walk y [] r p f h e = absurd f
  laid-walk y (g ∷ []) r p f h e =
      let w = group_read p y g r h f.0 e in
      let size : length (announced y) ≡ length (announced y) + 0 = omega arith in
      group_last y s p f.1 ∙ ap₂ (λ (x : Group) (n : ℕ). record { groups = x ∷ []; size = n }) w.0 size
  laid-walk y (g ∷ h ∷ gs) r p f l e =
      let w = group_read p y g (laid g.td (h ∷ gs) r) l f.0 e in
      let n : ℕ = length (announced y) in
      group_next y s p f.1 w.1
      ∙ ap (λ (x : Group). record { groups = x ∷ (walk_from s (p + n) x.td).groups; size = n + (walk_from s (p + n) x.td).size }) w.0
      ∙ ap (λ (v : Walk). record { groups = g ∷ v.groups; size = n + v.size }) (laid-walk g.td (h ∷ gs) r (p + n) f.2 w.1 w.2)

length_group : (due : List Letter) (g : Group) (r : List ℕ) → length (laid_group due g r) ≡ length due + length r
unfolding laid_group
length_group [] g r = omega arith
length_group (l ∷ due) g r = omega (arith, length_group due g r)

pub length-laid : (y : ℕ) (gs : List Group) (r : List ℕ) → length (laid y gs r) ≡ laid_size y gs + length r
unfolding laid laid_size
length-laid y [] r = omega arith
length-laid y (g ∷ gs) r = omega (arith, length_group (announced y) g (laid g.td gs r), length-laid g.td gs r)

-- ---- a whole ATR: TS, T0, the groups, and behind them the historical bytes and TCK

module _ (x y : ℕ) (gs : List Group) (r : List ℕ) (f : Follow y gs) where
  walked_as : walk_from (x ∷ y ∷ laid y gs r) 2 y ≡ record { groups = gs; size = laid_size y gs }
  walked_as = laid-walk (x ∷ y ∷ laid y gs r) y gs r 2 f (omega arith) refl

  pub laid-groups : (walk_of (x ∷ y ∷ laid y gs r)).groups ≡ gs
  unfolding walk_of
  laid-groups = ap (λ (w : Walk). w.groups) walked_as

  -- with the historical bytes that T0 says, and TCK if some TDi names a protocol other than 0, 9 does not refuse it
  pub laid_whole : length r ≡ low y + cond (some_other gs) 1 0 → length (x ∷ y ∷ laid y gs r) ≤ 33 → length_wrong (x ∷ y ∷ laid y gs r) ≡ false
  unfolding length_wrong walk_of end_of
  laid_whole e short =
      let announced-length : length (x ∷ y ∷ laid y gs r) ≡ length_of (end_of (x ∷ y ∷ laid y gs r)) (low y) =
      rw walked_as (omega (arith, e, length-laid y gs r)) in
      simp (le-ltb 33 (length (x ∷ y ∷ laid y gs r)) short, eq-eqb _ _ announced-length)

-- ---- the other way round

length_right : (s : List ℕ) → length_wrong s ≡ false → length s ≡ length_of (end_of s) (historical s)
unfolding length_wrong
length_right s e = eqb-true _ _ (not-false _ (or_right (ltb 33 (length s)) (not (eqb (length s) (length_of (end_of s) (historical s)))) e))

follow_cons : (y : ℕ) (g : Group) (gs : List Group) → only y g ≡ g → bit 8 y ≡ 1 → Follow g.td gs → Follow y (g ∷ gs)
follow_cons y g [] e q f = absurd f
follow_cons y g (h ∷ gs) e q f = (e, q, f)

module _ (s : List ℕ) where
  -- a letter's byte, by its bit
  letter_laid : (l : Letter) (p b : ℕ) (due : List Letter) (g : Group) (r : List ℕ) → b ≤ 1 → p + b ≤ length s → byte_of l g ≡ field_at s p b
      → drop (p + b) s ≡ laid_group due g r → drop p s ≡ laid_group (said b l due) g r
  unfolding laid_group field_at
  letter_laid l p b due g r small h e f =
      eq_or_ne b 1
      (λ q.
      let there : p < length s = omega arith in
      let value : get_or s p absent ≡ byte_of l g = sym (e ∙ ap (field_at s p) q) in
      let next : drop (suc p) s ≡ laid_group due g r = ap (λ (k : ℕ). drop k s) (sym (ap (λ (n : ℕ). p + n) q ∙ add-one p)) ∙ f in
      drop-cons s p absent there ∙ ap₂ ◌∷◌ value next ∙ ap (λ (n : ℕ). laid_group (said n l due) g r) (sym q))
      (λ q.
      let z : b ≡ 0 = omega arith in
      ap (λ (k : ℕ). drop k s) (sym (ap (λ (n : ℕ). p + n) z ∙ add-zero p)) ∙ f ∙ ap (λ (n : ℕ). laid_group (said n l due) g r) (sym z))

  kept_field : (p b : ℕ) → kept b (field_at s p b) ≡ field_at s p b
  unfolding field_at
  kept_field p b = go (eqb b 1)
    where
      go : (t : Bool) → cond t (cond t (get_or s p absent) absent) absent ≡ cond t (get_or s p absent) absent
      go true = refl
      go false = refl

  module _ (p y : ℕ) where
    -- the group at a place is laid out there
    bytes-laid : (r : List ℕ) → p + length (announced y) ≤ length s → drop (p + length (announced y)) s ≡ r → drop p s ≡ laid_group (announced y) (group_at y s p) r
    unfolding group_at laid_group
    bytes-laid r h e =
        let g : Group = group_at y s p in
        let place : p + bit 5 y + bit 6 y + bit 7 y + bit 8 y ≡ p + length (announced y) = omega (arith, length-announced y) in
        letter_laid A p (bit 5 y) _ g r (omega arith) (omega (arith, length-announced y)) refl
        (letter_laid B (p + bit 5 y) (bit 6 y) _ g r (omega arith) (omega (arith, length-announced y)) refl
        (letter_laid C (p + bit 5 y + bit 6 y) (bit 7 y) _ g r (omega arith) (omega (arith, length-announced y)) refl
        (letter_laid D (p + bit 5 y + bit 6 y + bit 7 y) (bit 8 y) [] g r (omega arith) (omega (arith, place)) refl
        (ap (λ (k : ℕ). drop k s) place ∙ e))))

    -- and only what is announced is there of it
    only_at : only y (group_at y s p) ≡ group_at y s p
    unfolding group_at
    only_at = simp (kept_field p (bit 5 y), kept_field (p + bit 5 y) (bit 6 y), kept_field (p + bit 5 y + bit 6 y) (bit 7 y), kept_field (p + bit 5 y + bit 6 y + bit 7 y) (bit 8 y))

  -- from a place on, with k bytes left at most
  Whole : (p y : ℕ) → Walk → Type 0
  Whole p y w = p + w.size ≤ length s → (drop p s ≡ laid y w.groups (drop (p + w.size) s)) × Follow y w.groups

  -- the last group
  whole_last : (p y : ℕ) → bit 8 y ≡ 0 → Whole p y (walk_from s p y)
  unfolding Whole laid
  whole_last p y z =
      subst⁻¹ (Whole p y) (group_last y s p z)
      (λ h. (bytes-laid p y (drop (p + length (announced y)) s) h refl, (only_at p y, z)))

  -- a group with a TD, and what stands behind it
  whole_next : (p y : ℕ) → bit 8 y ≡ 1 → p + length (announced y) ≤ length s
      → Whole (p + length (announced y)) (group_at y s p).td (walk_from s (p + length (announced y)) (group_at y s p).td) → Whole p y (walk_from s p y)
  unfolding Whole laid
  whole_next p y q there rest =
      subst⁻¹ (Whole p y) (group_next y s p q there)
      (λ h.
      let n : ℕ = length (announced y) in
      let g : Group = group_at y s p in
      let v : Walk = walk_from s (p + n) g.td in
      let place : p + n + v.size ≡ p + (n + v.size) = omega arith in
      let i = rest (omega arith) in (
        bytes-laid p y (laid g.td v.groups (drop (p + (n + v.size)) s)) there (i.0 ∙ ap (λ (k : ℕ). laid g.td v.groups (drop k s)) place),
        follow_cons y g v.groups (only_at p y) q i.1,
      ))

  whole : (k p y : ℕ) → length s ≤ p + k → Whole p y (walk_from s p y)
  unfolding Whole
  whole zero p y left =
      eq_or_ne (bit 8 y) 1
      (λ q h. absurd (omega (arith, (group_then y s p).size, length-announced y)))
      (λ q. whole_last p y (omega arith))
  whole (suc k) p y left =
      eq_or_ne (bit 8 y) 1
      (λ q h.
      whole_next p y q (omega (arith, (group_then y s p).size)) (whole k (p + length (announced y)) (group_at y s p).td (omega (arith, length-announced y))) h)
      (λ q. whole_last p y (omega arith))

-- an ATR that 9 does not refuse is TS, T0, the groups that are walked, laid out one behind the other, and what stands
-- behind them
pub walked_laid : (s : List ℕ) → length_wrong s ≡ false
    → (s ≡ ts s ∷ t0 s ∷ laid (t0 s) (walk_of s).groups (drop (2 + (walk_of s).size) s)) × Follow (t0 s) (walk_of s).groups
unfolding length_wrong walk_of end_of Whole
walked_laid s e = go s (length_right s e)
  where
    go : (s : List ℕ) → length s ≡ length_of (end_of s) (historical s)
        → (s ≡ ts s ∷ t0 s ∷ laid (t0 s) (walk_of s).groups (drop (2 + (walk_of s).size) s)) × Follow (t0 s) (walk_of s).groups
    go (x ∷ y ∷ s) e =
        let w = whole (x ∷ y ∷ s) (length s) 2 y (omega arith) (omega (arith, e)) in
        (ap (λ (r : List ℕ). x ∷ y ∷ r) w.0, w.1)
    go [] e = absurd (omega (arith, e))
    go (x ∷ []) e = absurd (omega (arith, e))
