-- Laws of the LRC: of two lists joined, of one byte, of a list with its LRC, and of a loop that folds from the front. Assumes nothing.
use mathlib.Core.Path.{◌≡◌, sym, ap, ◌∙◌}
use mathlib.Core.List.{List, [], ◌∷◌, ◌++◌}
use Prim.Native.Nat.{ℕ, suc, ◌+◌, ◌<◌, ◌≤◌}
use native.Mathlib.Numerals.{add-one}
use lib.Bits.{bit_xor, xor_zero_l, xor_zero_r, xor_self, xor_assoc}
use lib.ListN.{length, get_or, drop, drop_of_length-le}
use lib.Seq.{drop-cons}
use Rattle.std.specs.List.{fold}
use Rattle.block.specs.Lrc.{lrc_of}

pub lrc_append : (a b : List ℕ) → lrc_of (a ++ b) ≡ bit_xor (lrc_of a) (lrc_of b)
unfolding lrc_of
lrc_append [] b = sym (xor_zero_l (lrc_of b))
lrc_append (x ∷ a) b = ap (bit_xor x) (lrc_append a b) ∙ sym (xor_assoc x (lrc_of a) (lrc_of b))

pub lrc_one : (x : ℕ) → lrc_of (x ∷ []) ≡ x
unfolding lrc_of
lrc_one x = xor_zero_r x

pub lrc_snoc : (a : List ℕ) (x : ℕ) → lrc_of (a ++ x ∷ []) ≡ bit_xor (lrc_of a) x
lrc_snoc a x = lrc_append a (x ∷ []) ∙ ap (bit_xor (lrc_of a)) (lrc_one x)

-- a list with its LRC folds to 0
pub lrc_closed : (a : List ℕ) → lrc_of (a ++ lrc_of a ∷ []) ≡ 0
lrc_closed a = lrc_snoc a (lrc_of a) ∙ xor_self (lrc_of a)

-- and no other byte makes it fold to 0
pub lrc_only : (a : List ℕ) (x : ℕ) → lrc_of (a ++ x ∷ []) ≡ 0 → x ≡ lrc_of a
lrc_only a x h =
    sym (xor_zero_l x)
    ∙ ap (λ (k : ℕ). bit_xor k x) (sym (xor_self (lrc_of a)))
    ∙ xor_assoc (lrc_of a) (lrc_of a) x
    ∙ ap (bit_xor (lrc_of a)) (sym (lrc_snoc a x) ∙ h)
    ∙ xor_zero_r (lrc_of a)

-- the bytes taken in turn, from x on
pub lrc_fold : (x : ℕ) (s : List ℕ) → fold bit_xor x s ≡ bit_xor x (lrc_of s)
unfolding lrc_of
lrc_fold x [] = sym (xor_zero_r x)
lrc_fold x (y ∷ s) = lrc_fold (bit_xor x y) s ∙ xor_assoc x y (lrc_of s)

-- one turn: the byte at i goes from what is left to what is done
pub lrc_turn : (s : List ℕ) (x i : ℕ) → i < length s
    → bit_xor (bit_xor x (get_or s i 0)) (lrc_of (drop (i + 1) s)) ≡ bit_xor x (lrc_of (drop i s))
unfolding lrc_of
lrc_turn s x i h =
    rw (add-one) (xor_assoc x (get_or s i 0) (lrc_of (drop (suc i) s)) ∙ ap (λ (l : List ℕ). bit_xor x (lrc_of l)) (sym (drop-cons s i 0 h)))

-- and its end
pub lrc_end : (s : List ℕ) (x i : ℕ) → length s ≤ i → bit_xor x (lrc_of (drop i s)) ≡ x
unfolding lrc_of
lrc_end s x i h = rw (drop_of_length-le s h) (xor_zero_r x)
