-- `deliver::put_answer` meets its contract. Assumes nothing.
use Rattle.method.specs.Answer.{numbers_of}
use Rattle.deliver.proofs.put_answer.Goals as goal

pub returns : goal.returns
unfolding numbers_of
returns c = c.write_all.ensures
