-- Laws of numbers as bytes, over the width: what was written is read, here and elsewhere. Assumes nothing.
use mathlib.Core.Path.{◌≡◌, refl, sym, ap, ap₂, ◌∙◌}
use mathlib.Core.List.{List, [], ◌∷◌}
use Prim.Native.Nat.{ℕ, zero, suc, ◌+◌, ◌*◌, ◌/◌, ◌%◌, ◌^◌, ◌≤◌, ◌<◌}
use native.Mathlib.Nat.{pow-suc, mod-eq_of_lt, div-add-mod', one-le-pow, mod-lt, mod-one, add-mul, mul_assoc, mul_comm, mul-le-mul_right, add-mul-mod_self_right}
use native.Mathlib.Omega.{arith}
use lib.ListN.{length, get_or, drop, length-drop, length-take}
use Rattle.std.specs.Prelude.{min, ◌-◌}
use borrow.Author.Tests.{le-leb, lt-leb}
use Rattle.lent.specs.Place.{window, splice}
use Rattle.lent.proofs.Cases.{le_or_lt}
use Rattle.lent.specs.Number.{number_of, bytes_of, number_at}
use Rattle.std.specs.Int.{bytes_high_first, byte_at}
use Rattle.lent.proofs.PlaceLaws.{window_whole, length-window, window_none, window-cons, length-splice, window_same, window_before, window_after, byte_inside}

pub length-bytes : (n v : ℕ) → length (bytes_of n v) ≡ n
unfolding bytes_of
length-bytes zero v = refl
length-bytes (suc n) v = ap suc (length-bytes n v)

-- 256 ^ n is not 0
scale_pos : (n : ℕ) → 0 < 256 ^ n
scale_pos n = one-le-pow n 256 (omega arith)

-- the lowest n + 1 digits are the digit n and those below it
digit : (n v : ℕ) → v / 256 ^ n % 256 * 256 ^ n + v % 256 ^ n ≡ v % 256 ^ suc n
digit n v =
    let s : ℕ = 256 ^ n in
    let q : ℕ = v / s in
    let x : ℕ = q % 256 * s + v % s in
    let top : q % 256 ≤ 255 = omega arith in
    let low : q % 256 * s ≤ 255 * s = mul-le-mul_right s top in
    let less : x < 256 ^ suc n = rw (pow-suc 256 n) (omega (arith, low, mod-lt v (scale_pos n))) in
    let whole : v ≡ x + q / 256 * 256 ^ suc n =
    sym (div-add-mod' v s)
    ∙ ap (λ (k : ℕ). k * s + v % s) (sym (div-add-mod' q 256))
    ∙ rw (pow-suc 256 n, add-mul (q / 256 * 256) (q % 256) s, mul_assoc (q / 256) 256 s, mul_comm 256 s) (omega arith) in
    sym (ap (λ (k : ℕ). k % 256 ^ suc n) whole ∙ add-mul-mod_self_right x (q / 256) (256 ^ suc n) ∙ mod-eq_of_lt less)

-- n bytes keep a number up to 256 ^ n
pub number-bytes-mod : (n v : ℕ) → number_of (bytes_of n v) ≡ v % 256 ^ n
unfolding number_of bytes_of
number-bytes-mod zero v = sym (mod-one v)
number-bytes-mod (suc n) v =
    ap₂ (λ (k m : ℕ). v / 256 ^ n % 256 * 256 ^ k + m) (length-bytes n v) (number-bytes-mod n v) ∙ digit n v

pub number-bytes : (n v : ℕ) → v < 256 ^ n → number_of (bytes_of n v) ≡ v
number-bytes n v h = number-bytes-mod n v ∙ mod-eq_of_lt h

-- ---- a number at a place, byte by byte

pub number_in_lem : (t : List ℕ) (a n : ℕ) → a + n ≤ length t → number_at t a n ≡ number_of (window t a n)
unfolding number_at
number_in_lem t a n h = rw (le-leb (a + n) (length t) h)

pub number_out : (t : List ℕ) (a n : ℕ) → length t < a + n → number_at t a n ≡ 0
unfolding number_at
number_out t a n h = rw (lt-leb (a + n) (length t) h)

-- the n bytes from place a + k, each by its weight
abbrev pub weighed : List ℕ → ℕ → ℕ → ℕ → ℕ
weighed t a k zero = 0
weighed t a k (suc n) = get_or t (a + k) 0 * 256 ^ n + weighed t a (suc k) n

pub number_weighed : (t : List ℕ) (a k n : ℕ) → a + (k + n) ≤ length t → number_at t (a + k) n ≡ weighed t a k n
unfolding number_of
number_weighed t a k zero h = number_in_lem t (a + k) 0 (omega arith) ∙ ap number_of (window_none t (a + k))
number_weighed t a k (suc n) h =
    let e : a + k + 1 ≡ a + suc k = omega arith in
    number_in_lem t (a + k) (suc n) (omega arith)
    ∙ ap number_of (window-cons t (a + k) n (omega arith))
    ∙ ap₂ (λ (m v : ℕ). get_or t (a + k) 0 * 256 ^ m + v) (length-window t (a + k + 1) n (omega arith))
    (sym (number_in_lem t (a + k + 1) n (omega arith)) ∙ ap (λ (p : ℕ). number_at t p n) e ∙ number_weighed t a (suc k) n (omega arith))

-- ---- read after a write

module _ (t : List ℕ) (a n v : ℕ) where
  pub number_same : a + n ≤ length t → v < 256 ^ n → number_at (splice t a (bytes_of n v)) a n ≡ v
  number_same h l =
      let e : length (bytes_of n v) ≡ n = length-bytes n v in
      let f : a + length (bytes_of n v) ≤ length t = omega arith in
      let g : window (splice t a (bytes_of n v)) a n ≡ bytes_of n v = rw e at (window_same t a (bytes_of n v) f) in
      number_in_lem (splice t a (bytes_of n v)) a n (omega (arith, length-splice t a (bytes_of n v))) ∙ ap number_of g ∙ number-bytes n v l

module _ (t : List ℕ) (a : ℕ) (xs : List ℕ) (b n : ℕ) where
  pub number_before : b + n ≤ a → number_at (splice t a xs) b n ≡ number_at t b n
  unfolding number_at
  number_before h = rw (length-splice t a xs, window_before t a xs b n h)

  pub number_after : a + length xs ≤ b → number_at (splice t a xs) b n ≡ number_at t b n
  unfolding number_at
  number_after h = rw (length-splice t a xs, window_after t a xs b n h)

-- a byte that was written is read
pub byte_same : (t : List ℕ) (a v : ℕ) → a + 1 ≤ length t → get_or (splice t a (v ∷ [])) a 0 ≡ v
byte_same t a v h =
    let e : a ≡ a + 0 = omega arith in
    ap (λ (p : ℕ). get_or (splice t a (v ∷ [])) p 0) e ∙ byte_inside t a (v ∷ []) 0 h (omega arith)

-- ---- a part of n bytes as a number, and the library's bytes of a number

-- as many bytes as were asked for are found at a only where they lie within
part_long : (t : List ℕ) (a n : ℕ) (w : List ℕ) → w ≡ window t a n → n ≤ length w → 0 < n → a + n ≤ length t
unfolding window
part_long t a n w e l h =
    let d : length (drop a t) ≡ length t - a = length-drop a t in
    let f : length w ≡ min n (length (drop a t)) = ap length e ∙ length-take n (drop a t) in
    grind (arith, d, f)

-- n bytes that were found at a make the number there
pub part_number : (t : List ℕ) (a n : ℕ) (w : List ℕ) → w ≡ window t a n → 0 < n → n ≤ length w → number_at t a n ≡ weighed w 0 0 n
part_number t a n w e p l =
    let h : a + n ≤ length t = part_long t a n w e l p in
    let f : length w ≡ n = ap length e ∙ length-window t a n h in
    let whole : window w 0 n ≡ w = ap (window w 0) (sym f) ∙ window_whole w in
    let front : number_at w 0 n ≡ weighed w 0 0 n = number_weighed w 0 0 n (omega arith) in
    number_in_lem t a n h ∙ ap number_of (sym e ∙ sym whole) ∙ sym (number_in_lem w 0 n (omega arith)) ∙ front

pub bytes_high : (n v : ℕ) → bytes_high_first n v ≡ bytes_of n v
unfolding bytes_of
bytes_high zero v = refl
bytes_high (suc zero) v = let e : v % 256 ≡ v / 1 % 256 = omega arith in ap (λ (b : ℕ). b ∷ []) e
bytes_high (suc (suc n)) v = ap (λ (bs : List ℕ). byte_at (suc n) v ∷ bs) (bytes_high (suc n) v)

-- where another count of bytes was found at a, no n bytes lie there
pub part_not : (t : List ℕ) (a n : ℕ) (w : List ℕ) → w ≡ window t a n → (length w ≡ n → ⊥) → number_at t a n ≡ 0
part_not t a n w e f =
    le_or_lt (a + n) (length t) (λ h. elim (f (ap length e ∙ length-window t a n h)) [ ]) (number_out t a n)
