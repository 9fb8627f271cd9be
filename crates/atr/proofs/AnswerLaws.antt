-- Laws of the answer: the number of every refusal, and the bounds of every report. Assumes nothing.
use mathlib.Core.Path.{◌≡◌, refl, sym, ap, ◌∙◌}
use mathlib.Core.Bool.{Bool, true, false, cond, ◌&&◌, ◌||◌, not}
use mathlib.Core.List.{List}
use Rattle.std.specs.Prelude.{Ok, Err}
use Prim.Native.Nat.{ℕ, ◌^◌, ◌≤◌, ◌<◌}
use native.Mathlib.Omega.{arith}
use lib.Dec.{ltb, leb, eqb}
use borrow.Author.Tests.{ltb-true, ltb-false, leb-false, eqb-true, eqb-false}
use Rattle.lent.proofs.Cases.{cond_case, or_left, or_right}
use Rattle.atr.specs.declared.walk.Interface.{Interface}
use Rattle.atr.specs.declared.report.Report.{Report}
use Rattle.atr.specs.declared.refusal.Refusal.{Refusal}
use Rattle.atr.specs.declared.refusal.Refusal.TheVariants.{Start, Length, Check, Protocol, Parameter}
use Rattle.atr.specs.Walk.{present, historical, interface_of, end_of}
use Rattle.atr.specs.Rules.{start_wrong, length_wrong, check_wrong, not_t1, n_plus1, bwi, cwi, speed_refused, size_refused, wait_refused, check_refused, parameter_refused}
use Rattle.atr.specs.Report.{ifsc_of, d_in_use, report_of, Bounded}
use Rattle.atr.specs.Answer.{Answer, refusal_number, refusal_with, terms_of, number_of, zeros, values_of, number_in, report_in, answered, answer_of, Told}
use Rattle.atr.proofs.PowerLaws.{power_between}

-- ---- what a rule leaves that does not refuse

size_left : (ta3 : ℕ) → size_refused ta3 ≡ false → (16 ≤ ifsc_of ta3) × (ifsc_of ta3 ≤ 254)
unfolding size_refused ifsc_of
size_left ta3 e =
    let low : 0x0F < ta3 = leb-false ta3 0x0F (or_left (leb ta3 0x0F) (eqb ta3 0xFF) e) in
    let not-ff = eqb-false ta3 0xFF (or_right (leb ta3 0x0F) (eqb ta3 0xFF) e) in
    cond_case (λ (n : ℕ). (16 ≤ n) × (n ≤ 254)) (present ta3)
    (λ p. (omega arith, omega (arith, ltb-true ta3 256 p)))
    (λ p. (omega arith, omega arith))

record Waits (tb3 tc1 : ℕ) : Type 0 where
  block : bwi tb3 ≤ 4
  character : cwi tb3 ≤ 5
  guard : n_plus1 tc1 ≤ 2 ^ cwi tb3

wait_left : (tb3 tc1 : ℕ) → wait_refused tb3 tc1 ≡ false → Waits tb3 tc1
unfolding wait_refused
wait_left tb3 tc1 e =
    let three = or_left (not (present tb3) || ltb 4 (bwi tb3) || ltb 5 (cwi tb3)) (ltb (2 ^ cwi tb3) (n_plus1 tc1)) e in
    let two = or_left (not (present tb3) || ltb 4 (bwi tb3)) (ltb 5 (cwi tb3)) three in
    record {
      block = ltb-false 4 (bwi tb3) (or_right (not (present tb3)) (ltb 4 (bwi tb3)) two);
      character = ltb-false 5 (cwi tb3) (or_right (not (present tb3) || ltb 4 (bwi tb3)) (ltb 5 (cwi tb3)) three);
      guard = ltb-false (2 ^ cwi tb3) (n_plus1 tc1) (or_right (not (present tb3) || ltb 4 (bwi tb3) || ltb 5 (cwi tb3)) _ e);
    }

used-between : (ta1 ta2 : ℕ) → (1 ≤ d_in_use ta1 ta2) × (d_in_use ta1 ta2 ≤ 4)
unfolding d_in_use
used-between ta1 ta2 =
    cond_case P (present ta1 && present ta2)
    (λ _. cond_case P (eqb ta1 0x12) (λ _. (omega arith, omega arith)) (λ _. cond_case P (eqb ta1 0x13) (λ _. (omega arith, omega arith)) (λ _. (omega arith, omega arith))))
    (λ _. (omega arith, omega arith))
  where
    P : ℕ → Type 0
    P n = (1 ≤ n) × (n ≤ 4)

-- ---- the answer

bounded : (a : Interface) (h : ℕ) → h ≤ 15 → parameter_refused a ≡ false → Bounded (report_of a h)
unfolding parameter_refused report_of
bounded a h few e =
    let three = or_left (speed_refused a.ta1 a.ta2 || size_refused a.ta3 || wait_refused a.tb3 a.tc1) (check_refused a.tc3) e in
    let two = or_left (speed_refused a.ta1 a.ta2 || size_refused a.ta3) (wait_refused a.tb3 a.tc1) three in
    let w = wait_left a.tb3 a.tc1 (or_right (speed_refused a.ta1 a.ta2 || size_refused a.ta3) (wait_refused a.tb3 a.tc1) three) in
    let c = power_between (cwi a.tb3) 5 w.character in
    let b = power_between (bwi a.tb3) 4 w.block in
    record {
      ifsc = size_left a.ta3 (or_right (speed_refused a.ta1 a.ta2) (size_refused a.ta3) two);
      distance = (omega arith, omega (arith, w.guard, c.1));
      cwt = (omega (arith, c.0), omega (arith, c.1));
      bwt = (omega (arith, b.0), omega (arith, b.1));
      used = used-between a.ta1 a.ta2;
      historical = few;
    }

-- what holds of each number, and of 0 where none applies, holds of an ATR's
each_number : (s : List ℕ) (P : ℕ → Type 0) → P 8 → P 9 → P 10 → P 11 → P 12 → (parameter_refused (interface_of s) ≡ false → P 0) → P (number_of s)
unfolding number_of terms_of
each_number s P start length check protocol parameter none =
    cond_case P (start_wrong s) (λ _. start)
    (λ _. cond_case P (length_wrong s) (λ _. length)
    (λ _. cond_case P (check_wrong s (end_of s).tck) (λ _. check)
    (λ _. cond_case P (not_t1 (interface_of s)) (λ _. protocol)
    (λ _. cond_case P (parameter_refused (interface_of s)) (λ _. parameter) none))))

-- for every ATR, what its answer tells
pub answer-told : (s : List ℕ) → Told (answer_of s)
unfolding answer_of
answer-told s =
    each_number s (λ (n : ℕ). Told (answered n (report_of (interface_of s) (historical s))))
    (omega arith, omega arith) (omega arith, omega arith) (omega arith, omega arith) (omega arith, omega arith) (omega arith, omega arith)
    (bounded (interface_of s) (historical s) (omega arith))

-- ---- the paper's number and values

-- no refusal has the number 0
pub refusal_number-ne0 : (e : Refusal) → eqb (refusal_number e) 0 ≡ false
refusal_number-ne0 Start = refl
refusal_number-ne0 Length = refl
refusal_number-ne0 Check = refl
refusal_number-ne0 Protocol = refl
refusal_number-ne0 Parameter = refl

-- a refusal's number names it
refusal_back : (n : ℕ) → 8 ≤ n → n ≤ 12 → refusal_number (refusal_with n) ≡ n
refusal_back n l h =
    cond_case P (eqb n 8) (λ e. sym (eqb-true n 8 e))
    (λ e8. cond_case P (eqb n 9) (λ e. sym (eqb-true n 9 e))
    (λ e9. cond_case P (eqb n 10) (λ e. sym (eqb-true n 10 e))
    (λ e10. cond_case P (eqb n 11) (λ e. sym (eqb-true n 11 e))
    (λ e11. omega (arith, l, h, eqb-false n 8 e8, eqb-false n 9 e9, eqb-false n 10 e10, eqb-false n 11 e11)))))
  where
    P : Refusal → Type 0
    P e = refusal_number e ≡ n

-- the number is that of the answer, for 0 and for every number that a refusal has
number_in_lem : (n : ℕ) (r : Report) → (eqb n 0 ≡ false → (8 ≤ n) × (n ≤ 12)) → number_in (answered n r) ≡ n
number_in_lem n r given =
    cond_case (λ (x : Answer). number_in x ≡ n) (eqb n 0) (λ e. sym (eqb-true n 0 e)) (λ e. refusal_back n (given e).0 (given e).1)

-- as it is for any interface bytes, those of no ATR among them
pub number_in_terms : (a : Interface) (r : Report) → number_in (answered (terms_of a) r) ≡ terms_of a
unfolding terms_of
number_in_terms a r =
    cond_case P (not_t1 a) {x = 11} (λ _. refl)
    (λ _. cond_case P (parameter_refused a) {x = 12} {y = 0} (λ _. refl) (λ _. refl))
  where
    P : ℕ → Type 0
    P n = number_in (answered n r) ≡ n

-- and for any bytes
number_in_read : (s : List ℕ) (r : Report) → number_in (answered (number_of s) r) ≡ number_of s
number_in_read s r = each_number s (λ (n : ℕ). number_in (answered n r) ≡ n) refl refl refl refl refl (λ _. refl)

report_in_lem : (n : ℕ) (r : Report) → report_in (answered n r) ≡ cond (eqb n 0) r zeros
report_in_lem n r = cond_by (eqb n 0)
  where
    cond_by : (t : Bool) → report_in (cond t (Ok r) (Err (refusal_with n))) ≡ cond t r zeros
    cond_by true = refl
    cond_by false = refl

-- the answer has them
pub answer_whole : (s : List ℕ) (x : Answer) → x ≡ answer_of s → (x ≡ answer_of s) × ((number_in x ≡ number_of s) × (report_in x ≡ values_of s))
unfolding answer_of values_of
answer_whole s x e =
    let r : Report = report_of (interface_of s) (historical s) in
    (e, (ap number_in e ∙ number_in_read s r, ap report_in e ∙ report_in_lem (number_of s) r))
