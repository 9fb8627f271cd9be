-- Laws of the walk: the group at a place, and where the walk goes on from it. Assumes nothing.
use mathlib.Core.Path.{◌≡◌, refl, sym, ap, ap₂, subst, subst⁻¹, ◌∙◌}
use mathlib.Core.Bool.{false, ◌||◌}
use mathlib.Core.List.{List, [], ◌∷◌}
use Prim.Native.Nat.{ℕ, zero, suc, ◌+◌, ◌*◌, ◌/◌, ◌≤◌, ◌<◌}
use native.Mathlib.Nat.{add-zero, zero-add}
use native.Mathlib.Numerals.{add-one}
use native.Mathlib.Omega.{arith}
use lib.Dec.{eqb}
use lib.ListN.{length, get_or, drop, drop_of_length-le}
use lib.Seq.{drop-cons}
use borrow.Author.Tests.{ne_eqb}
use Rattle.lent.proofs.PlaceLaws.{get_or-past}
use Rattle.lent.proofs.Cases.{cond_case, le_or_lt, eq_or_ne}
use Rattle.block.specs.Block.{bit}
use Rattle.atr.specs.declared.walk.Group.{Group}
use Rattle.atr.specs.Walk.{absent, Letter, A, B, C, D, said, announced, none, put, Walk, longer, after, walk, walk_from, behind, some_other, other_than0, field_at}

-- ---- a letter, by its bit

-- a walk with n bytes more
grown : ℕ → Walk → Walk
grown n w = record { groups = w.groups; size = n + w.size }

-- past the end of the bytes nothing is there
pub field_past : (s : List ℕ) (p b : ℕ) → length s ≤ p → field_at s p b ≡ absent
unfolding field_at
field_past s p b h = cond_case (λ (x : ℕ). x ≡ absent) (eqb b 1) (λ _. get_or-past s p absent h) (λ _. refl)

-- TA, TB or TC: its byte is there, or the bytes have ended, or its bit is 0
module _ (l : Letter) (plain : (x : ℕ) (s : List ℕ) (due : List Letter) (g : Group) → walk (x ∷ s) (l ∷ due) g ≡ longer (walk s due (put l x g))) where
  Step : (s : List ℕ) (p : ℕ) (due : List Letter) (g : Group) (b : ℕ) → Type 0
  Step s p due g b = walk (drop p s) (said b l due) g ≡ grown b (walk (drop (p + b) s) due (put l (field_at s p b) g))

  step : (s : List ℕ) (p : ℕ) (due : List Letter) (g : Group) (b : ℕ) → b ≤ 1 → put l absent g ≡ g → Step s p due g b
  unfolding Step walk grown field_at
  step s p due g b h e =
      eq_or_ne b 1
      (λ q.
      subst (Step s p due g) (sym q)
      (le_or_lt (length s) p
      (λ short.
      let beyond : length s ≤ p + 1 = omega arith in
      let one_more : length (l ∷ due) ≡ 1 + length due = omega arith in
      rw (drop_of_length-le s short, drop_of_length-le s beyond, get_or-past s p absent short, e) (ap (λ (n : ℕ). record { groups = g ∷ []; size = n }) one_more))
      (λ there. rw (drop-cons s p absent there, add-one p) (plain (get_or s p absent) (drop (suc p) s) due g))))
      (λ q.
      let z : b ≡ 0 = omega arith in
      subst (Step s p due g) (sym z) (rw (add-zero p, e, zero-add)))

-- ---- a group, and the walk behind it

-- w is the group g of n bytes, and then v
pub record Then (w : Walk) (g : Group) (n : ℕ) (v : Walk) : Type 0 where
  pub first : behind 0 w.groups ≡ g
  pub later : (i : ℕ) → behind (suc i) w.groups ≡ behind i v.groups
  pub size : w.size ≡ n + v.size
  pub other : some_other w.groups ≡ (other_than0 g.td || some_other v.groups)

behind_none : (i : ℕ) → behind i [] ≡ behind i (none ∷ [])
behind_none zero = refl
behind_none (suc zero) = refl
behind_none (suc (suc i)) = refl

-- a group with no TD
headed : (ta tb tc : ℕ) → Group
headed ta tb tc = record { ta = ta; tb = tb; tc = tc; td = absent }

-- nothing is due
walk_over : (s : List ℕ) (g : Group) → walk s [] g ≡ record { groups = g ∷ []; size = 0 }
unfolding walk
walk_over [] g = refl
walk_over (x ∷ s) g = refl

module _ (ta tb tc : ℕ) where
  -- a group with no TD has nothing behind it
  alone : (n : ℕ) (s : List ℕ) → Then (record { groups = headed ta tb tc ∷ []; size = n }) (headed ta tb tc) n (walk s [] none)
  unfolding some_other headed
  alone n s =
      rw (walk_over s none)
      (record { first = refl; later = behind_none; size = omega arith; other = refl })

  -- TD: it is there and announces the next group, or the bytes have ended, or its bit is 0
  Last : (s : List ℕ) (p b : ℕ) → Type 0
  Last s p b =
      Then (walk (drop p s) (said b D []) (headed ta tb tc)) (put D (field_at s p b) (headed ta tb tc)) b
      (walk_from s (p + b) (field_at s p b))

  last : (s : List ℕ) (p b : ℕ) → b ≤ 1 → Last s p b
  unfolding Last walk some_other field_at headed
  last s p b h =
      eq_or_ne b 1
      (λ q.
      subst (Last s p) (sym q)
      (le_or_lt (length s) p
      (λ short. rw (drop_of_length-le s short, get_or-past s p absent short) (alone 1 (drop (p + 1) s)))
      (λ there.
      rw (drop-cons s p absent there, add-one p)
      (record { first = refl; later = λ i. refl; size = refl; other = refl }))))
      (λ q.
      let z : b ≡ 0 = omega arith in
      subst (Last s p) (sym z) (rw (walk_over (drop p s) (headed ta tb tc)) (alone 0 (drop (p + 0) s))))

then_grown : (k : ℕ) {w : Walk} {g : Group} {n : ℕ} {v : Walk} → Then w g n v → Then (grown k w) g (k + n) v
unfolding grown
then_grown k t = record { first = t.first; later = t.later; size = omega (arith, t.size); other = t.other }

then_same : {w x : Walk} {g : Group} {n m : ℕ} {u v : Walk} → w ≡ x → n ≡ m → u ≡ v → Then w g n u → Then x g m v
then_same {w} {x} {g} {n} {m} {u} {v} d e f t =
    subst (λ (k : Walk). Then k g m v) d (subst (λ (k : ℕ). Then w g k v) e (subst (Then w g n) f t))

-- ---- the group at a place, by the four bits of what announces it

length-said : (b : ℕ) (l : Letter) (due : List Letter) → b ≤ 1 → length (said b l due) ≡ b + length due
length-said b l due h =
    eq_or_ne b 1
    (λ q. rw q (omega arith))
    (λ q.
    let z : b ≡ 0 = omega arith in
    rw z (omega arith))

module _ (y : ℕ) where
  pub length-announced : length (announced y) ≡ bit 5 y + bit 6 y + bit 7 y + bit 8 y
  length-announced =
      omega (
        arith,
        length-said (bit 5 y) A (said (bit 6 y) B (said (bit 7 y) C (said (bit 8 y) D []))) (omega arith),
        length-said (bit 6 y) B (said (bit 7 y) C (said (bit 8 y) D [])) (omega arith),
        length-said (bit 7 y) C (said (bit 8 y) D []) (omega arith),
        length-said (bit 8 y) D [] (omega arith),
      )

  module _ (s : List ℕ) (p : ℕ) where
    -- the four fields
    unfoldable pub group_at : Group
    group_at =
        record {
          ta = field_at s p (bit 5 y);
          tb = field_at s (p + bit 5 y) (bit 6 y);
          tc = field_at s (p + bit 5 y + bit 6 y) (bit 7 y);
          td = field_at s (p + bit 5 y + bit 6 y + bit 7 y) (bit 8 y);
        }

    -- where TD stands, if it is announced
    at_td : ℕ
    at_td = p + bit 5 y + bit 6 y + bit 7 y

    three : Group
    three = headed group_at.ta group_at.tb group_at.tc

    front : Walk → Walk
    front w = grown (bit 5 y) (grown (bit 6 y) (grown (bit 7 y) w))

    steps : walk_from s p y ≡ front (walk (drop at_td s) (said (bit 8 y) D []) three)
    unfolding at_td three front group_at headed Step walk
    steps =
        step A (λ x t due g. refl) s p _ none (bit 5 y) (omega arith) refl
        ∙ ap (grown (bit 5 y)) (step B (λ x t due g. refl) s (p + bit 5 y) _ _ (bit 6 y) (omega arith) refl)
        ∙ ap (λ (w : Walk). grown (bit 5 y) (grown (bit 6 y) w)) (step C (λ x t due g. refl) s (p + bit 5 y + bit 6 y) _ _ (bit 7 y) (omega arith) refl)

    behind_td : at_td + bit 8 y ≡ p + length (announced y)
    unfolding at_td
    behind_td = omega (arith, length-announced)

    -- the walk from a place is the group there, and then the walk that its TD announces
    pub group_then : Then (walk_from s p y) group_at (length (announced y)) (walk_from s (p + length (announced y)) group_at.td)
    unfolding at_td three front group_at headed Last
    group_then =
        then_same (sym steps) (omega (arith, length-announced)) (ap (λ (q : ℕ). walk_from s q group_at.td) behind_td)
        (then_grown (bit 5 y) (then_grown (bit 6 y) (then_grown (bit 7 y) (last _ _ _ s at_td (bit 8 y) (omega arith)))))

    -- with no TD, that group alone
    Ends : ℕ → Type 0
    Ends b = walk (drop at_td s) (said b D []) three ≡ record { groups = put D (field_at s at_td b) three ∷ []; size = 0 }

    pub group_last : bit 8 y ≡ 0 → walk_from s p y ≡ record { groups = group_at ∷ []; size = length (announced y) }
    unfolding Ends at_td three front group_at headed grown field_at
    group_last z =
        steps
        ∙ ap front (subst Ends (sym z) (walk_over (drop at_td s) three))
        ∙ ap (λ (n : ℕ). record { groups = group_at ∷ []; size = n }) (omega (arith, length-announced))

    -- with a TD that is there, exactly the groups of both
    Goes : ℕ → Type 0
    Goes b =
        walk (drop at_td s) (said b D []) three ≡ longer (after (put D (field_at s at_td b) three) (walk_from s (at_td + b) (field_at s at_td b)))

    pub group_next : bit 8 y ≡ 1 → p + length (announced y) ≤ length s
        → let v = walk_from s (p + length (announced y)) group_at.td in walk_from s p y ≡ record { groups = group_at ∷ v.groups; size = length (announced y) + v.size }
    unfolding Goes at_td three front group_at headed grown field_at walk
    group_next q h =
        let there : at_td < length s = omega (arith, length-announced) in
        let v : Walk = walk_from s (at_td + bit 8 y) group_at.td in
        let goes : Goes 1 = rw (drop-cons s at_td absent there, add-one at_td) in
        steps
        ∙ ap front (subst Goes (sym q) goes)
        ∙ ap (λ (n : ℕ). record { groups = group_at ∷ v.groups; size = n }) (omega (arith, length-announced))
        ∙ ap (λ (a : ℕ). record { groups = group_at ∷ (walk_from s a group_at.td).groups; size = length (announced y) + (walk_from s a group_at.td).size }) behind_td

    -- a TD that is there moves the walk on, and lies within the bytes
    on : p + 1 ≤ p + length (announced y) + group_at.td / 256
    unfolding group_at field_at
    on =
        eq_or_ne (bit 8 y) 1
        (λ q. omega (arith, length-announced))
        (λ q. rw (ne_eqb (bit 8 y) 1 q) (omega arith))

    inside : p ≤ length s + 2 → p + length (announced y) ≤ length s + 2 + 4 * (group_at.td / 256)
    unfolding group_at
    inside h =
        le_or_lt (length s) (p + bit 5 y + bit 6 y + bit 7 y)
        (λ short. rw (field_past s _ (bit 8 y) short) (omega (arith, length-announced)))
        (λ there. omega (arith, length-announced))

-- ---- of a group that was read at a place, and of how many bytes were announced for it

pub record Moved (s : List ℕ) (p y : ℕ) (g : Group) (n : ℕ) : Type 0 where
  pub on_by : p + 1 ≤ p + n + g.td / 256
  pub within : p + n ≤ length s + 2 + 4 * (g.td / 256)
  pub size : (walk_from s p y).size ≡ n + (walk_from s (p + n) g.td).size
  pub other : some_other (walk_from s p y).groups ≡ (other_than0 g.td || some_other (walk_from s (p + n) g.td).groups)

module _ (s : List ℕ) (p y : ℕ) (g : Group) (n : ℕ) (e : g ≡ behind 0 (walk_from s p y).groups) (k : n ≡ length (announced y)) where
  same : g ≡ group_at y s p
  same = e ∙ (group_then y s p).first

  -- the groups behind it are those of the walk that its TD announces
  pub next_group : (i : ℕ) (h : Group) → h ≡ behind i (walk_from s (p + n) g.td).groups → h ≡ behind (suc i) (walk_from s p y).groups
  next_group i h f =
      f
      ∙ ap₂ (λ (m : ℕ) (b : Group). behind i (walk_from s (p + m) b.td).groups) k same
      ∙ sym ((group_then y s p).later i)

  -- the walk moves on by a group
  pub moved : p ≤ length s + 2 → Moved s p y g n
  moved h =
      subst⁻¹ (λ (b : Group). Moved s p y b n) same
      (subst⁻¹ (Moved s p y (group_at y s p)) k
      (record { on_by = on y s p; within = inside y s p h; size = (group_then y s p).size; other = (group_then y s p).other }))

-- where no TD announces more, nothing is left
pub over_size : (s : List ℕ) (p y : ℕ) → y ≡ absent → (walk_from s p y).size ≡ 0
over_size s p y e = ap (λ (x : ℕ). (walk_from s p x).size) e ∙ ap (λ (w : Walk). w.size) (walk_over (drop p s) none)

pub over_other : (s : List ℕ) (p y : ℕ) → y ≡ absent → some_other (walk_from s p y).groups ≡ false
unfolding some_other
over_other s p y e =
    ap (λ (x : ℕ). some_other (walk_from s p x).groups) e ∙ ap (λ (w : Walk). some_other w.groups) (walk_over (drop p s) none)
