-- Laws of the blocks that are built: what the builder's writes leave. Assumes nothing.
use mathlib.Core.Path.{◌≡◌, refl, sym, ap, ◌∙◌}
use mathlib.Core.List.{List, [], ◌∷◌}
use mathlib.Core.Bool.{Bool, true, false, cond}
use Prim.Native.Nat.{ℕ, zero, suc, ◌+◌, ◌-◌, ◌≤◌}
use native.Mathlib.Omega.{arith}
use lib.Dec.{leb}
use lib.ListN.{length, get_or, take, drop, length-append}
use lib.Seq.{take_at}
use borrow.Author.Tests.{le-leb, eq-eqb, leb-true}
use Rattle.lent.specs.Place.{window, splice}
use Rattle.lent.proofs.PlaceLaws.{length-splice, window_same, window_after, splice-append}
use Rattle.lent.proofs.Cases.{cond_case, and_right}
use Rattle.block.specs.Check.{check_of}
use Rattle.block.specs.Block.{inf_at, frame, inf_part, i_pcb, r_pcb, head_of, block_of}
use Rattle.block.specs.Event.{between, in_range, sort_of, named_of, inf_of}
use Rattle.block.specs.Reader.{whole, bytes_of, read_of, inf_read}
use Rattle.block.specs.Builder.{fits_in, built_length, built_out}
use Rattle.block.specs.declared.event.Event.{Event}
use Rattle.block.specs.declared.event.Event.TheVariants.{I, R, IfsRequest, IfsResponse, Abort, Wtx}
use Rattle.block.proofs.CheckLaws.{length_check, check_closed}
use Rattle.block.proofs.EventLaws.{range_well}

pub length-head : (p : ℕ) (inf : List ℕ) → length (head_of p inf) ≡ inf_at + length inf
unfolding head_of
length-head p inf = omega arith

pub length_block : (p : ℕ) (inf : List ℕ) → length (block_of p inf) ≡ frame + length inf
unfolding block_of
length_block p inf =
    length-append (head_of p inf) (check_of (head_of p inf))
    ∙ omega (arith, length-head p inf, length_check (head_of p inf))

-- NAD, PCB and LEN, then INF, then the check of what stands there by then
pub written : (out : List ℕ) (p : ℕ) (inf : List ℕ) → frame + length inf ≤ length out
    → (let w = splice (splice out 0 (0x00 ∷ p ∷ length inf ∷ [])) inf_at inf in
    splice w (inf_at + length inf) (check_of (window w 0 (inf_at + length inf))) ≡ splice out 0 (block_of p inf))
unfolding block_of head_of
written out p inf h =
    let head = head_of p inf in
    let n = inf_at + length inf in
    let e : 0 + length head ≡ n = omega arith in
    let w : splice (splice out 0 (0x00 ∷ p ∷ length inf ∷ [])) inf_at inf ≡ splice out 0 head =
    splice-append out 0 (0x00 ∷ p ∷ length inf ∷ []) inf (omega arith) in
    let shown : window (splice out 0 head) 0 n ≡ head =
    ap (window (splice out 0 head) 0) (sym (length-head p inf)) ∙ window_same out 0 head (omega arith) in
    ap (λ (l : List ℕ). splice l n (check_of (window l 0 n))) w
    ∙ ap (λ (l : List ℕ). splice (splice out 0 head) n (check_of l)) shown
    ∙ ap (λ (k : ℕ). splice (splice out 0 head) k (check_of head)) (sym e)
    ∙ splice-append out 0 head (check_of head) (omega (arith, length_check head))

-- ---- what the builder leaves, for every output

pub length-built : (out : List ℕ) (p : ℕ) (inf : List ℕ) → length (built_out out p inf) ≡ length out
unfolding built_out
length-built out p inf =
    cond_case (λ (l : List ℕ). length l ≡ length out) (fits_in out inf) (λ _. length-splice out 0 (block_of p inf)) (λ _. refl)

-- the block at the front
pub built_front : (out : List ℕ) (p : ℕ) (inf : List ℕ) → fits_in out inf ≡ true
    → window (built_out out p inf) 0 (built_length out inf) ≡ block_of p inf
unfolding built_out built_length
built_front out p inf h =
    let room : frame + length inf ≤ length out = leb-true _ _ (and_right (leb (length inf) 254) _ h) in
    let fits : 0 + length (block_of p inf) ≤ length out = omega (arith, length_block p inf) in
    rw h (ap (window (splice out 0 (block_of p inf)) 0) (sym (length_block p inf)) ∙ window_same out 0 (block_of p inf) fits)

-- and the rest untouched
pub built_rest : (out : List ℕ) (p : ℕ) (inf : List ℕ) (b n : ℕ) → built_length out inf ≤ b
    → window (built_out out p inf) b n ≡ window out b n
unfolding built_out built_length
built_rest out p inf b n = go (fits_in out inf)
  where
    go : (t : Bool) → cond t (frame + length inf) 0 ≤ b → window (cond t (splice out 0 (block_of p inf)) out) b n ≡ window out b n
    go true h = window_after out 0 (block_of p inf) b n (omega (arith, length_block p inf))
    go false h = refl

-- ---- build, then read

pub inf_block : (p : ℕ) (inf : List ℕ) → inf_part (block_of p inf) ≡ inf
unfolding inf_part window block_of head_of
inf_block p inf =
    let b = block_of p inf in
    let e : length b - frame ≡ length inf = omega (arith, length_block p inf) in
    ap (λ (k : ℕ). take k (drop inf_at b)) e ∙ take_at inf (check_of (head_of p inf)) (length inf) refl

whole_block : (p : ℕ) (inf : List ℕ) → length inf ≤ 254 → whole (block_of p inf) ≡ true
unfolding whole block_of head_of
whole_block p inf h =
    let b = block_of p inf in
    let n : length b ≡ frame + length inf = length_block p inf in
    let m : frame ≤ length b = omega arith in
    simp (le-leb frame (length b) m, eq-eqb (length b) (frame + length inf) n, le-leb (length inf) 254 h)

-- a block that was built reads as what its PCB and its INF say
pub read_block : (p : ℕ) (inf : List ℕ) → length inf ≤ 254 → read_of 0 (block_of p inf) ≡ sort_of p inf
unfolding read_of bytes_of block_of head_of
read_block p inf h = rw (whole_block p inf h, check_closed (head_of p inf), inf_block p inf)

-- ---- each block of the paper, built and read

pub record ReadsBack (p : ℕ) (inf : List ℕ) (e : Event) : Type 0 where
  pub block : read_of 0 (block_of p inf) ≡ e
  pub part : inf_read 0 (block_of p inf) ≡ inf

-- the block that a PCB names reads back, where LEN and INF are as it asks
back : (p : ℕ) (inf : List ℕ) (e : Event) → length inf ≤ 254 → named_of p (get_or inf 0 0) ≡ e → in_range e inf ≡ true → ReadsBack p inf e
unfolding sort_of inf_read inf_of
back p inf e h q r =
    let b : read_of 0 (block_of p inf) ≡ e = read_block p inf h ∙ rw (q, r) in
    record { block = b; part = rw (b, range_well e inf r) (inf_block p inf) }

in_between : (low n high : ℕ) → low ≤ n → n ≤ high → between low n high ≡ true
in_between low n high l u = simp (le-leb low n l, le-leb n high u)

i_named : (n : ℕ) (m : Bool) (v : ℕ) → n ≤ 1 → named_of (i_pcb n m) v ≡ I n m
unfolding named_of
i_named zero false v h = refl
i_named zero true v h = refl
i_named (suc zero) false v h = refl
i_named (suc zero) true v h = refl
i_named (suc (suc n)) m v h = absurd (omega arith)

r_named : (n k v : ℕ) → n ≤ 1 → k ≤ 2 → named_of (r_pcb n k) v ≡ R n
unfolding named_of
r_named zero zero v h l = refl
r_named zero (suc zero) v h l = refl
r_named zero (suc (suc zero)) v h l = refl
r_named (suc zero) zero v h l = refl
r_named (suc zero) (suc zero) v h l = refl
r_named (suc zero) (suc (suc zero)) v h l = refl
r_named zero (suc (suc (suc k))) v h l = absurd (omega arith)
r_named (suc zero) (suc (suc (suc k))) v h l = absurd (omega arith)
r_named (suc (suc n)) k v h l = absurd (omega arith)

pub i_back : (n : ℕ) (m : Bool) (inf : List ℕ) → n ≤ 1 → 1 ≤ length inf → length inf ≤ 254 → ReadsBack (i_pcb n m) inf (I n m)
i_back n m inf h l u = back (i_pcb n m) inf (I n m) u (i_named n m (get_or inf 0 0) h) (in_between 1 (length inf) 254 l u)

pub r_back : (n k : ℕ) → n ≤ 1 → k ≤ 2 → ReadsBack (r_pcb n k) [] (R n)
r_back n k h l = back (r_pcb n k) [] (R n) (omega arith) (r_named n k 0 h l) refl

pub ifs_request_back : (v : ℕ) → 0x10 ≤ v → v ≤ 0xFE → ReadsBack 0xC1 (v ∷ []) (IfsRequest v)
unfolding named_of
ifs_request_back v l u = back 0xC1 (v ∷ []) (IfsRequest v) (omega arith) refl (in_between 0x10 v 0xFE l u)

pub ifs_response_back : (v : ℕ) → 0x10 ≤ v → v ≤ 0xFE → ReadsBack 0xE1 (v ∷ []) (IfsResponse v)
unfolding named_of
ifs_response_back v l u = back 0xE1 (v ∷ []) (IfsResponse v) (omega arith) refl (in_between 0x10 v 0xFE l u)

pub abort_back : ReadsBack 0xC2 [] Abort
unfolding named_of
abort_back = back 0xC2 [] Abort (omega arith) refl refl

pub wtx_back : (v : ℕ) → 0x01 ≤ v → v ≤ 0xFF → ReadsBack 0xC3 (v ∷ []) (Wtx v)
unfolding named_of
wtx_back v l u = back 0xC3 (v ∷ []) (Wtx v) (omega arith) refl (in_between 0x01 v 0xFF l u)

-- and so does what the builder leaves at the front of any output that holds the block
pub built_reads : (out : List ℕ) (p : ℕ) (inf : List ℕ) (e : Event) → fits_in out inf ≡ true → ReadsBack p inf e
    → (let w = window (built_out out p inf) 0 (built_length out inf) in (read_of 0 w ≡ e) × (inf_read 0 w ≡ inf))
built_reads out p inf e h b =
    let w = built_front out p inf h in
    (ap (read_of 0) w ∙ b.block, ap (inf_read 0) w ∙ b.part)
