use Rattle.std.proofs.Common.{ap, ◌∙◌}
use mathlib.Core.Path.{fun_ext}
use Rattle.hash.specs.Shake128.{shake128, sponge, squeezed}
use Rattle.hash.proofs.shake128.Shake128Hash.start.Goals as goal

pub returns : goal.returns
unfolding shake128
returns c = c.new.ensures ∙ fun_ext (λ m. ap (λ A. squeezed (sponge A m)) c.blank.ensures)
