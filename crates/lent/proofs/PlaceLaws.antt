-- Laws of `window` and `splice`: what is read after a write, at its place, before, after and inside it; lengths; two writes joined.
-- A law with no bound holds of every place, also where nothing is written. Assumes nothing.
use mathlib.Core.Path.{◌≡◌, refl, sym, ap, ◌∙◌}
use mathlib.Core.List.{List, [], ◌∷◌, ◌++◌, append_assoc, append-nil}
use Prim.Native.Nat.{ℕ, zero, suc, ◌+◌, ◌-◌, ◌≤◌, ◌<◌}
use native.Mathlib.Nat.{add-zero}
use native.Mathlib.Numerals.{add-one}
use native.Mathlib.Omega.{arith}
use lib.Dec.{leb}
use lib.ListN.{length, take, drop, get_or, set, replicate, length-replicate, replicate-append-replicate, length-append, length-take, length-drop, take-append-drop, drop_of_length-le}
use lib.Seq.{take_all, take-append-le, drop-append-le, drop-append-add, take_at, drop_at, drop-cons, get_or-drop, get_or-take, drop-drop, take-length, take-nil, length-take-le, paste, append_snoc, set_split, set_out}
use borrow.Author.Tests.{le-leb, lt-leb, leb-true}
use borrow.Rule.Slice.PartMut.{put_mid}
use Rattle.lent.specs.Place.{within, window, splice}
use Rattle.lent.proofs.Cases.{cond_case, le_or_lt}

-- what lies within, by what is left after the place
pub within_left : (a n k : ℕ) → a ≤ k → leb n (k - a) ≡ leb (a + n) k
within_left a n k h =
    le_or_lt (a + n) k
    (λ l. le-leb n (k - a) (omega arith) ∙ sym (le-leb (a + n) k l))
    (λ l. lt-leb n (k - a) (omega arith) ∙ sym (lt-leb (a + n) k l))

-- ---- a byte past the end, which reads as what is said of it, and one within

pub get_or-past : (t : List ℕ) (a d : ℕ) → length t ≤ a → get_or t a d ≡ d
get_or-past [] a d h = refl
get_or-past (x ∷ t) zero d h = absurd (omega arith)
get_or-past (x ∷ t) (suc a) d h = get_or-past t a d (omega arith)

pub get_or-in : (t : List ℕ) (a d e : ℕ) → a < length t → get_or t a d ≡ get_or t a e
get_or-in [] a d e h = absurd (omega arith)
get_or-in (x ∷ t) zero d e h = refl
get_or-in (x ∷ t) (suc a) d e h = get_or-in t a d e (omega arith)

-- ---- a part of a list

pub get_or-window : (t : List ℕ) (a n j : ℕ) → j < n → get_or (window t a n) j 0 ≡ get_or t (a + j) 0
unfolding window
get_or-window t a n j h = get_or-take n (drop a t) j 0 h ∙ get_or-drop a t j 0

pub length-window : (t : List ℕ) (a n : ℕ) → a + n ≤ length t → length (window t a n) ≡ n
unfolding window
length-window t a n h = simp (length-take, length-drop) (omega arith)

pub window_none : (t : List ℕ) (a : ℕ) → window t a 0 ≡ []
unfolding window
window_none t a = refl

pub window_past : (t : List ℕ) (a n : ℕ) → length t ≤ a → window t a n ≡ []
unfolding window
window_past t a n h = rw (drop_of_length-le t h) (take-nil n)

-- the first byte of a part, and the others
pub window-cons : (t : List ℕ) (a n : ℕ) → a < length t → window t a (suc n) ≡ get_or t a 0 ∷ window t (a + 1) n
unfolding window
window-cons t a n h = rw (add-one, drop-cons t a 0 h)

pub window_whole : (t : List ℕ) → window t 0 (length t) ≡ t
unfolding window
window_whole t = take-length t

-- a part that reaches the end
pub window_rest : (t : List ℕ) (a n : ℕ) → length t ≤ a + n → window t a n ≡ drop a t
unfolding window
window_rest t a n h = take_all n (drop a t) (omega (arith, length-drop a t))

-- a part read again by its own length
pub window_own : (t : List ℕ) (a n : ℕ) → window t a (length (window t a n)) ≡ window t a n
unfolding window
window_own t a n =
    let w : List ℕ = take n (drop a t) in
    ap (take (length w)) (sym (take-append-drop n (drop a t))) ∙ take_at w (drop n (drop a t)) (length w) refl

-- a part of bytes that are all alike
pub window-replicate : (m v a n : ℕ) → a + n ≤ m → window (replicate m v) a n ≡ replicate n v
unfolding window
window-replicate m v a n h =
    let k : ℕ = m - (a + n) in
    let e : a + (n + k) ≡ m = omega arith in
    let split : replicate m v ≡ replicate a v ++ (replicate n v ++ replicate k v) =
    ap (λ (j : ℕ). replicate j v) (sym e)
    ∙ sym (replicate-append-replicate a (n + k) v)
    ∙ ap (λ (l : List ℕ). replicate a v ++ l) (sym (replicate-append-replicate n k v)) in
    rw (split, drop_at (replicate a v) (replicate n v ++ replicate k v) a (length-replicate {A = ℕ} a v))
    (take_at (replicate n v) (replicate k v) n (length-replicate {A = ℕ} n v))

-- a part that ends in the first of two lists
front : (p q : List ℕ) (b n : ℕ) → b + n ≤ length p → take n (drop b (p ++ q)) ≡ take n (drop b p)
front p q b n h =
    ap (take n) (drop-append-le b p q (omega arith))
    ∙ take-append-le n (drop b p) q (omega (arith, length-drop b p))

-- ---- a part that was written

-- xs over t from a place where it fits
over : List ℕ → ℕ → List ℕ → List ℕ
over t a xs = take a t ++ xs ++ drop (a + length xs) t

module _ (t : List ℕ) (a : ℕ) (xs : List ℕ) where
  splice_case : (P : List ℕ → Type 0) → (a + length xs ≤ length t → P (over t a xs)) → P t → P (splice t a xs)
  unfolding splice over
  splice_case P f g = cond_case P (within t a (length xs)) (λ e. f (leb-true _ _ e)) (λ e. g)

  pub splice_in : a + length xs ≤ length t → splice t a xs ≡ take a t ++ xs ++ drop (a + length xs) t
  unfolding splice
  splice_in h = rw (le-leb (a + length xs) (length t) h)

  pub splice_out : length t < a + length xs → splice t a xs ≡ t
  unfolding splice
  splice_out h = rw (lt-leb (a + length xs) (length t) h)

  pub length-splice : length (splice t a xs) ≡ length t
  unfolding over
  length-splice =
      splice_case (λ (l : List ℕ). length l ≡ length t) (λ h. simp (length-append, length-take, length-drop) (omega arith)) refl

  -- a part before it, and one after it, are as they were
  pub window_before : (b n : ℕ) → b + n ≤ a → window (splice t a xs) b n ≡ window t b n
  unfolding over window
  window_before b n h =
      splice_case (λ (l : List ℕ). window l b n ≡ window t b n)
      (λ fits.
      ap (λ (l : List ℕ). take n (drop b l)) (append_assoc (take a t) xs (drop (a + length xs) t))
      ∙ front (take a t) (xs ++ drop (a + length xs) t) b n (omega (arith, length-take a t))
      ∙ sym (front (take a t) (drop a t) b n (omega (arith, length-take a t)))
      ∙ ap (λ (l : List ℕ). take n (drop b l)) (take-append-drop a t))
      refl

  head-length : a + length xs ≤ length t → length (take a t ++ xs) ≡ a + length xs
  head-length h = simp (length-append, length-take) (omega arith)

  pub window_after : (b n : ℕ) → a + length xs ≤ b → window (splice t a xs) b n ≡ window t b n
  unfolding over window
  window_after b n h =
      splice_case (λ (l : List ℕ). window l b n ≡ window t b n)
      (λ fits.
      let k : ℕ = b - (a + length xs) in
      let e : length (take a t ++ xs) + k ≡ b = omega (arith, head-length fits) in
      let e2 : a + length xs + k ≡ b = omega arith in
      ap (λ (i : ℕ). take n (drop i (over t a xs))) (sym e)
      ∙ ap (take n) (drop-append-add (take a t ++ xs) (drop (a + length xs) t) k)
      ∙ ap (take n) (drop-drop k (a + length xs) t)
      ∙ ap (λ (i : ℕ). take n (drop i t)) e2)
      refl

  module _ (fits : a + length xs ≤ length t) where
    -- a part of what was written
    pub window-inside : (b n : ℕ) → b + n ≤ length xs → window (splice t a xs) (a + b) n ≡ window xs b n
    unfolding window
    window-inside b n h =
        ap (λ (l : List ℕ). take n (drop (a + b) l)) (splice_in fits ∙ append_assoc (take a t) xs (drop (a + length xs) t))
        ∙ ap (λ (k : ℕ). take n (drop (k + b) (take a t ++ (xs ++ drop (a + length xs) t)))) (sym (length-take-le a t (omega arith)))
        ∙ ap (take n) (drop-append-add (take a t) (xs ++ drop (a + length xs) t) b)
        ∙ front xs (drop (a + length xs) t) b n h

    -- what was written is read
    pub window_same : window (splice t a xs) a (length xs) ≡ xs
    window_same =
        ap (λ (k : ℕ). window (splice t a xs) k (length xs)) (sym (add-zero a))
        ∙ window-inside 0 (length xs) (omega arith)
        ∙ window_whole xs

  -- a part that what was written does not meet
  pub window_apart : (b n : ℕ) → (a < b + n → b < a + length xs → ⊥) → window (splice t a xs) b n ≡ window t b n
  window_apart b n out =
      le_or_lt (b + n) a (window_before b n) (λ h. le_or_lt (a + length xs) b (window_after b n) (λ l. absurd (out h l)))

-- ---- one byte after a write

byte_window : (t : List ℕ) (j : ℕ) → get_or t j 0 ≡ get_or (window t j 1) 0 0
byte_window t j = sym (get_or-window t j 1 0 (omega arith) ∙ ap (λ (k : ℕ). get_or t k 0) (add-zero j))

module _ (t : List ℕ) (a : ℕ) (xs : List ℕ) (j : ℕ) where
  pub byte_before : j < a → get_or (splice t a xs) j 0 ≡ get_or t j 0
  byte_before h = byte_window (splice t a xs) j ∙ ap (λ (w : List ℕ). get_or w 0 0) (window_before t a xs j 1 (omega arith)) ∙ sym (byte_window t j)

  pub byte_after : a + length xs ≤ j → get_or (splice t a xs) j 0 ≡ get_or t j 0
  byte_after h = byte_window (splice t a xs) j ∙ ap (λ (w : List ℕ). get_or w 0 0) (window_after t a xs j 1 h) ∙ sym (byte_window t j)

  pub byte_inside : a + length xs ≤ length t → j < length xs → get_or (splice t a xs) (a + j) 0 ≡ get_or xs j 0
  byte_inside f h =
      byte_window (splice t a xs) (a + j) ∙ ap (λ (w : List ℕ). get_or w 0 0) (window-inside t a xs f j 1 (omega arith)) ∙ sym (byte_window xs j)

-- ---- writes

-- a write of nothing
pub splice_none : (t : List ℕ) (a : ℕ) → splice t a [] ≡ t
unfolding over
splice_none t a =
    splice_case t a [] (λ (l : List ℕ). l ≡ t) (λ h. rw (append-nil (take a t), add-zero) (take-append-drop a t)) refl

-- a write of what stands there
pub splice_own : (t : List ℕ) (a n : ℕ) → splice t a (window t a n) ≡ t
unfolding over window
splice_own t a n =
    let d : List ℕ = drop a t in
    let w : List ℕ = take n d in
    let r : drop (a + length w) t ≡ drop n d =
    sym (drop-drop (length w) a t) ∙ ap (drop (length w)) (sym (take-append-drop n d)) ∙ drop_at w (drop n d) (length w) refl in
    splice_case t a (window t a n) (λ (l : List ℕ). l ≡ t)
    (λ h. rw (r, append_assoc (take a t) w (drop n d), take-append-drop n d) (take-append-drop a t)) refl

-- a write of one byte
pub splice_one : (t : List ℕ) (a v : ℕ) → splice t a (v ∷ []) ≡ set t a v
splice_one t a v =
    le_or_lt (a + 1) (length t)
    (λ h.
    splice_in t a (v ∷ []) h
    ∙ append_snoc (take a t) v (drop (a + 1) t)
    ∙ ap (λ (k : ℕ). take a t ++ v ∷ drop k t) (add-one a)
    ∙ sym (set_split t a v (omega arith)))
    (λ h. splice_out t a (v ∷ []) h ∙ sym (set_out t a v (omega arith)))

-- a byte written outside a part leaves it as it was
pub window-set : (t : List ℕ) (a v b n : ℕ) → (b ≤ a → a < b + n → ⊥) → window (set t a v) b n ≡ window t b n
window-set t a v b n out =
    ap (λ (l : List ℕ). window l b n) (sym (splice_one t a v))
    ∙ le_or_lt b a
    (λ h. le_or_lt (b + n) a (window_before t a (v ∷ []) b n) (λ l. absurd (out h l)))
    (λ h. window_after t a (v ∷ []) b n (omega arith))

-- a write that goes on where the last one ended
pub splice-append : (t : List ℕ) (a : ℕ) (xs ys : List ℕ) → a + (length xs + length ys) ≤ length t
    → splice (splice t a xs) (a + length xs) ys ≡ splice t a (xs ++ ys)
splice-append t a xs ys h =
    let p : List ℕ = take a t ++ xs in
    let r : List ℕ = drop (a + length xs) t in
    let lp : length p ≡ a + length xs = head-length t a xs (omega arith) in
    let e : a + length xs + length ys ≡ length p + length ys = omega arith in
    let g : a + length xs + length ys ≡ a + length (xs ++ ys) = omega (arith, length-append xs ys) in
    splice_in (splice t a xs) (a + length xs) ys (omega (arith, length-splice t a xs))
    ∙ ap (λ (l : List ℕ). take (a + length xs) l ++ ys ++ drop (a + length xs + length ys) l) (splice_in t a xs (omega arith))
    ∙ ap (λ (l : List ℕ). l ++ ys ++ drop (a + length xs + length ys) (p ++ r)) (take_at p r (a + length xs) lp)
    ∙ ap (λ (k : ℕ). p ++ ys ++ drop k (p ++ r)) e
    ∙ ap (λ (l : List ℕ). p ++ ys ++ l) (drop-append-add p r (length ys) ∙ drop-drop (length ys) (a + length xs) t)
    ∙ ap (λ (k : ℕ). p ++ ys ++ drop k t) g
    ∙ ap (λ (l : List ℕ). l ++ drop (a + length (xs ++ ys)) t) (append_assoc (take a t) xs ys)
    ∙ sym (splice_in t a (xs ++ ys) (omega arith))

-- one byte more of the same
replicate_next : (n v : ℕ) → replicate n v ++ (v ∷ []) ≡ replicate (suc n) v
replicate_next zero v = refl
replicate_next (suc n) v = ap (λ (l : List ℕ). v ∷ l) (replicate_next n v)

-- a fill's turn
pub fill_next : (t : List ℕ) (a n v : ℕ) → a + n < length t
    → set (splice t a (replicate n v)) (a + n) v ≡ splice t a (replicate (n + 1) v)
fill_next t a n v h =
    let k : length {A = ℕ} (replicate n v) ≡ n = length-replicate {A = ℕ} n v in
    sym (splice_one (splice t a (replicate n v)) (a + n) v)
    ∙ ap (λ (j : ℕ). splice (splice t a (replicate n v)) (a + j) (v ∷ [])) (sym k)
    ∙ splice-append t a (replicate n v) (v ∷ []) (omega arith)
    ∙ ap (splice t a) (replicate_next n v ∙ ap (λ (j : ℕ). replicate j v) (sym (add-one n)))

-- a copy of all of xs is a splice
pub paste-splice : (t : List ℕ) (a : ℕ) (xs : List ℕ) → a + length xs ≤ length t → paste t a xs (length xs) ≡ splice t a xs
paste-splice t a xs h = ap (λ (l : List ℕ). take a t ++ l ++ drop (a + length xs) t) (take-length xs) ∙ sym (splice_in t a xs h)

-- a run that does not lie within t is not written
pub fill_out : (t : List ℕ) (a n v : ℕ) → length t < a + n → splice t a (replicate n v) ≡ t
fill_out t a n v h =
    let k : length {A = ℕ} (replicate n v) ≡ n = length-replicate {A = ℕ} n v in
    splice_out t a (replicate n v) (omega arith)

-- a part lent on as `&mut t[a..e]` comes back as Rattle's `put_mid`
pub lent_back : (t : List ℕ) (a k : ℕ) (ys : List ℕ) → length ys ≡ k → a + k ≤ length t → put_mid a k t ys ≡ splice t a ys
lent_back t a k ys e h =
    rw (drop-drop k a t, ← append_assoc (take a t) ys (drop (a + k) t), ← e) (sym (splice_in t a ys (omega arith)))
