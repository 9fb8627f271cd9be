-- Each public function's promise settles every byte behind its `&mut`. Assumes nothing.
use mathlib.Core.Path.{sym, ◌∙◌}
use Rattle.lent.proofs.Settles.{Settles}
use Rattle.leaving.proofs.collect.Kinds as collect-kinds
use Rattle.leaving.proofs.collect.Reads as collect
use Rattle.leaving.proofs.remove.Kinds as remove-kinds
use Rattle.leaving.proofs.remove.Reads as remove

pub collect-table : Settles collect-kinds.ps collect-kinds.r collect.Post (λ κs r s. s.0.now)
collect-table κs a x y s t f g = f.0 ∙ sym g.0

pub collect-output : Settles collect-kinds.ps collect-kinds.r collect.Post (λ κs r s. s.1.1.0.now)
collect-output κs a x y s t f g = f.1.0 ∙ sym g.1.0

pub collect_record_lem : Settles collect-kinds.ps collect-kinds.r collect.Post (λ κs r s. s.1.1.1.0.now)
collect_record_lem κs a x y s t f g = f.1.1 ∙ sym g.1.1

pub remove-table : Settles remove-kinds.ps remove-kinds.r remove.Post (λ κs r s. s.0.now)
remove-table κs a x y s t f g = f.0 ∙ sym g.0

pub remove_record_lem : Settles remove-kinds.ps remove-kinds.r remove.Post (λ κs r s. s.1.1.0.now)
remove_record_lem κs a x y s t f g = f.1 ∙ sym g.1
