use Rattle.envelope.proofs.Judgements.{exact}
use Rattle.envelope.proofs.judge.judge.Goals as goal

pub returns-clause-exact : goal.returns-clause-exact
returns-clause-exact c = exact c.args.envelope.now
