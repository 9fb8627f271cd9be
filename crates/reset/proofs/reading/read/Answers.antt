use Rattle.std.proofs.Common.{arith}
use Rattle.std.proofs.lemmas.Grind.{common_steps}
use Rattle.atr.specs.Answer.{answer_of, number_of}
use Rattle.atr.specs.Rules.{length_wrong}
use Rattle.atr.proofs.AnswerLaws.{answer_whole}
use Rattle.reset.proofs.reading.read.Goals as goal

pub returns-clause-number : goal.returns-clause-number
unfolding answer_of number_of length_wrong
returns-clause-number c = (answer_whole c.args.s.now c.on_terms.result (grind (arith, common_steps))).1.0
