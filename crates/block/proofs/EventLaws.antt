-- Laws of events: what a block tells of its numbers and its INF where LEN and INF are as its PCB asks. Assumes nothing.
use mathlib.Core.Path.{◌≡◌, refl}
use mathlib.Core.Bool.{true, cond, false≢true}
use mathlib.Core.List.{List, [], ◌∷◌}
use Prim.Native.Nat.{ℕ, ◌≤◌}
use native.Mathlib.Omega.{arith}
use lib.Dec.{leb, eqb}
use lib.ListN.{length, get_or}
use borrow.Author.Tests.{leb-true, eqb-true}
use Rattle.lent.specs.Fold.{sum}
use Rattle.lent.proofs.Cases.{cond_case, and_left, and_right}
use Rattle.block.specs.Block.{inf_part}
use Rattle.block.specs.Event.{one_of, i_codes, r_codes, between, one_byte, named_of, in_range, sort_of, well_of, inf_of, Told}
use Rattle.block.specs.declared.event.Event.{Event}
use Rattle.block.specs.declared.event.Event.TheVariants.{I, R, IfsRequest, IfsResponse, Abort, Wtx, Edc, Other}

none : (inf : List ℕ) → eqb (length inf) 0 ≡ true → inf ≡ []
none [] e = refl
none (x ∷ inf) e = absurd (omega (arith, eqb-true (length (x ∷ inf)) 0 e))

one : (inf : List ℕ) → eqb (length inf) 1 ≡ true → inf ≡ get_or inf 0 0 ∷ []
one [] e = absurd (omega (arith, eqb-true (length {A = ℕ} []) 1 e))
one (x ∷ []) e = refl
one (x ∷ y ∷ inf) e = absurd (omega (arith, eqb-true (length (x ∷ y ∷ inf)) 1 e))

module _ (low n high : ℕ) (e : between low n high ≡ true) where
  at_least : low ≤ n
  at_least = leb-true low n (and_left (leb low n) (leb n high) e)

  at_most : n ≤ high
  at_most = leb-true n high (and_right (leb low n) (leb n high) e)

module _ (low : ℕ) (inf : List ℕ) (high : ℕ) (e : one_byte low inf high ≡ true) where
  byte_told : (inf ≡ get_or inf 0 0 ∷ []) × (low ≤ get_or inf 0 0) × (get_or inf 0 0 ≤ high)
  byte_told =
      let v = get_or inf 0 0 in
      let r = and_right (eqb (length inf) 1) (between low v high) e in
      (one inf (and_left (eqb (length inf) 1) (between low v high) e), at_least low v high r, at_most low v high r)

named_told : (p : ℕ) (inf : List ℕ) → let e = named_of p (get_or inf 0 0) in in_range e inf ≡ true → Told e inf
unfolding named_of
named_told p inf =
    cond_case P (one_of p i_codes) (λ _ e. (omega arith, at_least 1 (length inf) 254 e, at_most 1 (length inf) 254 e))
    (λ _. cond_case P (one_of p r_codes) (λ _ e. (omega arith, none inf e))
    (λ _. cond_case P (eqb p 0xC1) (λ _ e. byte_told 0x10 inf 0xFE e)
    (λ _. cond_case P (eqb p 0xE1) (λ _ e. byte_told 0x10 inf 0xFE e)
    (λ _. cond_case P (eqb p 0xC2) (λ _ e. none inf e)
    (λ _. cond_case P (eqb p 0xC3) (λ _ e. byte_told 0x01 inf 0xFF e)
    (λ _ e. absurd (false≢true e)))))))
  where
    P : Event → Type 0
    P e = in_range e inf ≡ true → Told e inf

-- what is in its range is a block that reads well
pub range_well : (e : Event) (inf : List ℕ) → in_range e inf ≡ true → well_of e ≡ true
range_well (I n m) inf h = refl
range_well (R n) inf h = refl
range_well (IfsRequest n) inf h = refl
range_well (IfsResponse n) inf h = refl
range_well Abort inf h = refl
range_well (Wtx n) inf h = refl
range_well Edc inf h = h
range_well Other inf h = h

-- of the bytes s, sorted by any PCB and their own INF
pub sort_told : (p : ℕ) (s : List ℕ) → let e = sort_of p (inf_part s) in Told e (inf_of e s)
unfolding sort_of inf_of
sort_told p s =
    cond_case P (in_range b (inf_part s)) (λ e. rw (range_well b (inf_part s) e) (named_told p (inf_part s) e)) (λ _. refl)
  where
    b : Event
    b = named_of p (get_or (inf_part s) 0 0)

    P : Event → Type 0
    P e = Told e (cond (well_of e) (inf_part s) [])

-- 14 PCBs name a block, and the other 242 name none
pub fourteen : sum 256 (λ p. cond (well_of (named_of p 0)) 1 0) ≡ 14
unfolding sum named_of
fourteen = refl
