-- Laws of the calls: refusals as the code tries them (RefusalLaws) and as the paper gives them (LowestLaws); what it is that
-- none applies (NoneLaws), what each call gives then (GivesLaws, EventLaws), what goes out (BuiltLaws); the promises put
-- together (AnswerLaws, OpenLaws); that the table stays sound (KeepsLaws), and that bytes
-- beyond it are neither read nor written (FrontLaws).
pub mod RefusalLaws
pub mod LowestLaws
pub mod NoneLaws
pub mod GivesLaws
pub mod EventLaws
pub mod BuiltLaws
pub mod AnswerLaws
pub mod OpenLaws
pub mod KeepsLaws
pub mod FrontLaws
