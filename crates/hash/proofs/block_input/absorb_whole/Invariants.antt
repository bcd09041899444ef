use Rattle.std.proofs.Common.{◌≡◌, ◌*◌, drop}
use Rattle.hash.specs.Rows.{after}
use Rattle.hash.proofs.block_input.absorb_whole.Given as goal

abbrev pub invariant-loop-block : goal.invariant-loop-block
invariant-loop-block g l = after (drop (l.block-index * g.row.SIZE) l.initial.bytes) (g.A.Absorb.answer l.below) ≡ after l.initial.bytes (g.A.Absorb.answer l.initial.below)
