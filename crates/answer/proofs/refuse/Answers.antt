use Rattle.answer.specs.Record.{field_bytes, front_bytes, record_bytes, report_bytes, told}
use Rattle.lent.specs.Number.{bytes_of}
use Rattle.answer.proofs.refuse.Goals as goal

pub returns : goal.returns
unfolding told record_bytes field_bytes front_bytes report_bytes bytes_of
returns c = c.put.ensures.t_after
