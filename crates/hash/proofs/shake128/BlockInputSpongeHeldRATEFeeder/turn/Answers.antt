use Rattle.std.proofs.Common.{◌<◌, length, ap, sym, arith, length-take}
use Rattle.std.proofs.lemmas.List.{append-nil}
use Rattle.hash.specs.Lanes.{lanes_of}
use Rattle.hash.specs.Layers.{held_bytes}
use Rattle.hash.specs.Shake128.{squeezed}
use Rattle.hash.proofs.Sponges.{sponge_last}
use Rattle.hash.proofs.shake128.BlockInputSpongeHeldRATEFeeder.turn.Goals as goal

pub returns : goal.returns
returns c =
    let A = lanes_of c.args.self.below.0 in
    let held = c.args.self.held in
    let room : length (held_bytes held) < 168 = simp length-take (omega (arith, held.room)) in
    rw (c.new.ensures, c.mix.ensures, c.padded.ensures, append-nil) (ap squeezed (sym (sponge_last A (held_bytes held) room)))
