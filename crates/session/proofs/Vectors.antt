-- P1 to P12 hold: the definitions compute. Assumes nothing.
use mathlib.Core.Path.{refl}
use mathlib.Core.List.{[]}
use Rattle.lent.specs.Place.{window}
use Rattle.lent.specs.Fold.{all, sum}
use Rattle.block.specs.Lrc.{lrc_of}
use Rattle.block.specs.Check.{check_of, check_right}
use Rattle.block.specs.Block.{inf_part, head_of, block_of}
use Rattle.block.specs.Event.{named_of, sort_of, inf_of}
use Rattle.block.specs.Reader.{whole, bytes_of, read_of, inf_read}
use Rattle.atr.specs.Walk.{walk, walk_of, interface_of, some_other, end_of}
use Rattle.atr.specs.Rules.{start_wrong, length_wrong, check_wrong, not_t1, n_plus1, speed_refused, size_refused, wait_refused, check_refused, parameter_refused}
use Rattle.atr.specs.Rates.{f_offered, d_offered}
use Rattle.atr.specs.Report.{ifsc_of, d_in_use, report_of}
use Rattle.atr.specs.Answer.{terms_of, number_of, answer_of}
use Rattle.shares.specs.Pool.{limit, fit, given, granted}
use Rattle.shares.specs.Rack.{after, answer_to, answers}
use Rattle.shares.proofs.TestLaws.{fit_facts}
use Rattle.pool.specs.Contents.{join}
use Rattle.session.specs.Slot.{wire}
use Rattle.session.specs.Refusal.{good_form, refusal}
use Rattle.session.specs.Protocol.{row}
use Rattle.session.specs.Promise.{Promised}
use Rattle.session.specs.Vectors.{pool_of, idle, AllHold, tens, pairs, acknowledged, vectors}
use Rattle.session.proofs.PromiseLaws.{fresh_promised}

pub vectors_hold : AllHold vectors
unfolding window all sum lrc_of check_of check_right inf_part head_of block_of named_of sort_of whole bytes_of read_of inf_of inf_read walk walk_of interface_of some_other end_of start_wrong length_wrong check_wrong not_t1 n_plus1 speed_refused size_refused wait_refused check_refused parameter_refused f_offered d_offered ifsc_of d_in_use report_of terms_of number_of answer_of limit fit given granted after answer_to answers join wire good_form refusal row pairs acknowledged
vectors_hold =
    ((refl, refl), ((refl, refl), ((refl, refl), ((refl, refl), ((refl, refl), ((refl, refl), ((refl, refl), ((refl, refl), ((refl, refl), ((refl, refl), ((refl, refl), ((refl, refl), ((refl, refl), tt)))))))))))))

-- what is promised of a rack is promised of P11's: there are such racks
pub tens_promised : Promised (pool_of (tens [] [])) idle
unfolding fit limit all sum
tens_promised = fresh_promised (pool_of (tens [] [])) (fit_facts (pool_of (tens [] [])) refl) idle (λ i. refl)
