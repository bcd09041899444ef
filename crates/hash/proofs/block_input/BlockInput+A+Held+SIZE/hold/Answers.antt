use Rattle.std.proofs.Common.{◌≡◌, ◌+◌, ◌-◌, ◌++◌, length, take, ap, rules}
use mathlib.Core.Path.{fun_ext}
use borrow.Rule.Slice.PartMut.{put_mid}
use Rattle.std.proofs.lemmas.Slice.{overwrites}
use Rattle.std.proofs.lemmas.List.{append_assoc}
use Rattle.hash.proofs.block_input.BlockInput+A+Held+SIZE.hold.Goals as goal

pub returns : goal.returns
returns g c =
    let held = c.args.self.now.held in
    let n = held.count + length c.args.bytes.now in
    let new = put_mid held.count (n - held.count) held.buffer c.copy_from_slice.new.self in
    let e : take n new ≡ take held.count held.buffer ++ c.args.bytes.now = search (rules, overwrites) in
    fun_ext (λ more. rw e (ap (g.A.Absorb.answer c.args.self.now.below) (append_assoc (take held.count held.buffer) c.args.bytes.now more)))
