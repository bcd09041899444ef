use Rattle.std.proofs.Common.{sym, ◌∙◌, rules}
use Rattle.hash.specs.Sha256.{started}
use Rattle.hash.proofs.RoundLaws.{rounds_longer}
use Rattle.hash.proofs.compression.four_steps.Goals as goal

pub returns-clause-working : goal.returns-clause-working
returns-clause-working c =
    let w = c.args.s.window.first in
    c.four_rounds.ensures ∙ sym (rounds_longer c.args.k w _ (started c.args.s.working) (search rules))
