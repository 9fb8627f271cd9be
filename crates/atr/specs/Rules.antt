-- "Reading an ATR" of document 01: when an ATR is refused, number by number.
use Rattle.std.specs.Prelude.{ℕ, ◌+◌, ◌^◌, Bool, cond, not, ◌&&◌, ◌||◌, List, ltb, leb, eqb, length, drop}
use Rattle.block.specs.Lrc.{lrc_of}
use Rattle.block.specs.Block.{bit}
use Rattle.block.specs.Event.{between}
use Rattle.atr.specs.declared.walk.Interface.{Interface}
use Rattle.atr.specs.Walk.{high, low, present, ts, historical, end_of, length_of}

-- ---- 8: the ATR has a first byte and it is neither 3B nor 3F

unfoldable pub start_wrong : List ℕ → Bool
start_wrong s = not (eqb (length s) 0) && not (eqb (ts s) 0x3B || eqb (ts s) 0x3F)

-- ---- 9: the ATR must be exactly that long and at most 33 bytes

unfoldable pub length_wrong : List ℕ → Bool
length_wrong s = ltb 33 (length s) || not (eqb (length s) (length_of (end_of s) (historical s)))

-- ---- 10: if TCK is there, the exclusive or of T0 to TCK is 0

unfoldable pub check_wrong : List ℕ → (tck : Bool) → Bool
check_wrong s tck = tck && not (eqb (lrc_of (drop 1 s)) 0)

-- ---- 11: not for T=1 on our terms

-- TD1 absent or low nibble not 1
abbrev pub td1_wrong : ℕ → Bool
td1_wrong td1 = not (present td1) || not (eqb (low td1) 1)

-- TD2 present with low nibble not 1
abbrev pub td2_wrong : ℕ → Bool
td2_wrong td2 = present td2 && not (eqb (low td2) 1)

-- TA2 present with b5 = 1 or low nibble not 1
abbrev pub ta2_wrong : ℕ → Bool
ta2_wrong ta2 = present ta2 && (eqb (bit 5 ta2) 1 || not (eqb (low ta2) 1))

unfoldable pub not_t1 : Interface → Bool
not_t1 a = td1_wrong a.td1 || td2_wrong a.td2 || ta2_wrong a.ta2

-- ---- 12: a parameter refused

-- N is TC1, absent 0, and −1 for FF. This is N + 1.
unfoldable pub n_plus1 : (tc1 : ℕ) → ℕ
n_plus1 tc1 = cond (present tc1) (cond (eqb tc1 0xFF) 0 (tc1 + 1)) 1

abbrev pub bwi : (tb3 : ℕ) → ℕ
bwi tb3 = high tb3

abbrev pub cwi : (tb3 : ℕ) → ℕ
cwi tb3 = low tb3

-- TA1 and TA2 both present and TA1 not 11 to 13
unfoldable pub speed_refused : (ta1 ta2 : ℕ) → Bool
speed_refused ta1 ta2 = present ta1 && present ta2 && not (between 0x11 ta1 0x13)

-- TA3 in 00 to 0F, or FF
unfoldable pub size_refused : (ta3 : ℕ) → Bool
size_refused ta3 = leb ta3 0x0F || eqb ta3 0xFF

-- TB3 absent; BWI above 4; CWI above 5; 2^CWI below N + 1
unfoldable pub wait_refused : (tb3 tc1 : ℕ) → Bool
wait_refused tb3 tc1 = not (present tb3) || ltb 4 (bwi tb3) || ltb 5 (cwi tb3) || ltb (2 ^ cwi tb3) (n_plus1 tc1)

-- TC3 present and not 00
unfoldable pub check_refused : (tc3 : ℕ) → Bool
check_refused tc3 = present tc3 && not (eqb tc3 0x00)

unfoldable pub parameter_refused : Interface → Bool
parameter_refused a =
    speed_refused a.ta1 a.ta2
    || size_refused a.ta3
    || wait_refused a.tb3 a.tc1
    || check_refused a.tc3
