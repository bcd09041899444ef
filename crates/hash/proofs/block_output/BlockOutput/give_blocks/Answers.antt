use Rattle.std.proofs.Common.{◌≡◌, ◌+◌, ◌-◌, ◌*◌, ◌/◌, [], ◌++◌, length, take, refl, subst, arith, rules}
use borrow.Rule.Slice.PartMut.{put_mid}
use Rattle.std.proofs.lemmas.Slice.{overwrites}
use Rattle.hash.specs.Layers.{output_row}
use Rattle.hash.specs.Rows.{Gives}
use Rattle.hash.proofs.Reading.{gives_more, gives_none, gives_rest}
use Rattle.hash.proofs.block_output.BlockOutput.give_blocks.Goals as goal

pub loop-i-init : goal.loop-i-init
loop-i-init g c = let none : 0 * g.row.SIZE ≡ 0 = omega arith in record { used = search rules; given = rw none (gives_none _ _ [] refl refl) }

pub loop-i-preserved : goal.loop-i-preserved
loop-i-preserved g c =
    let row = g.S.Squeeze.row in
    let was = c.loop-i in
    let m = was.i * g.row.SIZE in
    let n = m + g.row.SIZE in
    let next : (was.i + 1) * g.row.SIZE ≡ n = omega arith in
    let e : take n (put_mid m (n - m) was.out c.copy_from_slice.new.self) ≡ take m was.out ++ c.squeeze.result = search (rules, overwrites) in
    record {
      used = was.invariant.used;
      given = rw (next, e) (gives_more m g.row.SIZE n (row c.args.self.now.below) (row was.self.below) (row c.squeeze.new.self) (take m was.out) c.squeeze.result refl was.invariant.given c.squeeze.ensures);
    }

pub returns : goal.returns
returns g c =
    let row = g.S.Squeeze.row in
    let was = c.loop-i in
    let m = length c.args.out.now / g.row.SIZE * g.row.SIZE in
    let end : was.i ≡ length c.args.out.now / g.row.SIZE = search rules in
    let before = row c.args.self.now.below in
    let after = output_row row c.finish.new.self in
    let all = gives_rest m before (row was.self.below) after was.out c.finish.new.out (search rules) (rw end at was.invariant.given) c.finish.ensures in
    subst (λ n. Gives n before (put_mid m (length was.out - m) was.out c.finish.new.out) after) was.auto.out all
