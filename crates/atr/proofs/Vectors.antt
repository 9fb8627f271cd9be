-- The paper's vectors hold: the definitions compute. Assumes nothing.
use mathlib.Core.Path.{refl}
use Rattle.block.specs.Lrc.{lrc_of}
use Rattle.atr.specs.Walk.{walk, walk_of, interface_of, some_other, end_of}
use Rattle.atr.specs.Rules.{start_wrong, length_wrong, check_wrong, not_t1, n_plus1, speed_refused, size_refused, wait_refused, check_refused, parameter_refused}
use Rattle.atr.specs.Rates.{f_offered, d_offered}
use Rattle.atr.specs.Report.{ifsc_of, d_in_use, report_of}
use Rattle.atr.specs.Answer.{terms_of, number_of, answer_of}
use Rattle.atr.specs.Vectors.{AllHold, vectors}

pub vectors_hold : AllHold vectors
unfolding lrc_of walk walk_of interface_of some_other end_of start_wrong length_wrong check_wrong not_t1 n_plus1 speed_refused size_refused wait_refused check_refused parameter_refused f_offered d_offered ifsc_of d_in_use report_of terms_of number_of answer_of
vectors_hold = (refl, (refl, (refl, (refl, (refl, (refl, tt))))))
