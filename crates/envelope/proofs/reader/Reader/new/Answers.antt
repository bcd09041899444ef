use Rattle.envelope.proofs.Faithfulness.{law}
use Rattle.envelope.proofs.reader.Reader.new.Goals as goal

pub returns-clause-faithful : goal.returns-clause-faithful
returns-clause-faithful c = law c.args.envelope.now
