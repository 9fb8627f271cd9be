-- "Reading an ATR" of document 01: what attach reports.
use Rattle.std.specs.Prelude.{ℕ, ◌+◌, ◌*◌, ◌^◌, ◌≤◌, cond, ◌&&◌, eqb}
use Rattle.atr.specs.declared.walk.Interface.{Interface}
use Rattle.atr.specs.declared.report.Report.{Report}
use Rattle.atr.specs.Walk.{present}
use Rattle.atr.specs.Rules.{n_plus1, bwi, cwi}
use Rattle.atr.specs.Rates.{f_offered, d_offered}

-- IFSC = TA3, absent 32
unfoldable pub ifsc_of : (ta3 : ℕ) → ℕ
ifsc_of ta3 = cond (present ta3) ta3 32

-- with TA1 and TA2 both present 1, 2, 4 for TA1 = 11, 12, 13, else 1
unfoldable pub d_in_use : (ta1 ta2 : ℕ) → ℕ
d_in_use ta1 ta2 = cond (present ta1 && present ta2) (cond (eqb ta1 0x12) 2 (cond (eqb ta1 0x13) 4 1)) 1

unfoldable pub report_of : Interface → (historical : ℕ) → Report
report_of a h =
    record {
      ifsc = ifsc_of a.ta3;
      -- 12 + N etu
      distance = 11 + n_plus1 a.tc1;
      cwt = 2 ^ cwi a.tb3 + 11;
      bwt = 960 * 2 ^ bwi a.tb3 + 11;
      used = d_in_use a.ta1 a.ta2;
      historical = h;
      f = f_offered a.ta1;
      d = d_offered a.ta1;
    }

-- ---- what holds of every report

pub record Bounded (r : Report) : Type 0 where
  pub ifsc : (16 ≤ r.ifsc) × (r.ifsc ≤ 254)
  pub distance : (11 ≤ r.distance) × (r.distance ≤ 43)
  pub cwt : (12 ≤ r.cwt) × (r.cwt ≤ 43)
  pub bwt : (971 ≤ r.bwt) × (r.bwt ≤ 15371)
  pub used : (1 ≤ r.used) × (r.used ≤ 4)
  pub historical : r.historical ≤ 15
