use Rattle.leaving.specs.Leave.{collect_table}
use Rattle.lent.specs.Place.{window}
use Rattle.table.specs.Layout.{pool_in}
use Rattle.table.proofs.WriteLaws.{pool_back}
use Rattle.std.proofs.Common.{arith}
use Rattle.std.proofs.lemmas.Grind.{common_steps}
use Rattle.leaving.proofs.collect.Goals as goal

pub returns-clause-t_after : goal.returns-clause-t_after
unfolding collect_table pool_in window
returns-clause-t_after c = let v = pool_back c.args.t.now c.collect-n.new.r c.if-t-lt-TABLE.false c.collect-n.auto.r in grind (arith, common_steps, v)
