use Rattle.std.proofs.Common.{◌≡◌, ◌*◌, take}
use Rattle.hash.specs.Rows.{Gives}
use Rattle.hash.proofs.block_output.BlockOutput.give_blocks.Given as goal

abbrev pub invariant-loop-i : goal.invariant-loop-i
invariant-loop-i g l = record {
  used : l.self.place ≡ g.row.SIZE;
  given : Gives (l.i * g.row.SIZE) (g.S.Squeeze.row l.initial.self.below) (take (l.i * g.row.SIZE) l.out) (g.S.Squeeze.row l.self.below);
}
