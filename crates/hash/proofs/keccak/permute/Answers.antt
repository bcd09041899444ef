use Rattle.std.proofs.Common.{length, sym, refl, ap, ◌∙◌, arith}
use Rattle.std.proofs.lemmas.List.{at_drop_all, at_drop_more}
use Rattle.hash.specs.Keccak.{constants, permuted, rounds}
use Rattle.hash.specs.Lanes.{lanes_of}
use Rattle.hash.proofs.keccak.permute.Goals as goal

pub loop-constant-init : goal.loop-constant-init
unfolding permuted
loop-constant-init c = refl

pub loop-constant-preserved : goal.loop-constant-preserved
unfolding rounds
loop-constant-preserved c =
    let i = c.loop-constant.constant-index in
    let A = lanes_of c.loop-constant.a in
    let table = c.round_constants-constant-items.ensures in
    let next = at_drop_more (λ left. rounds left A) constants i 0 (omega (arith, ap length table)) in
    rw (c.round-a.ensures, table, ← next) c.loop-constant.invariant

pub returns : goal.returns
unfolding rounds
returns c =
    let table = c.round_constants-constant-items.ensures in
    sym (at_drop_all (λ left. rounds left (lanes_of c.loop-constant.a)) constants c.loop-constant.constant-index (omega (arith, ap length table))) ∙ c.loop-constant.invariant
