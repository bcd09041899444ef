use Rattle.std.proofs.Common.{◌-◌, ap, ◌∙◌, rules}
use Rattle.hash.specs.Layers.{input_answer}
use Rattle.hash.specs.Rows.{after, holding}
use Rattle.hash.proofs.Feeding.{after_halves}
use Rattle.hash.proofs.block_input.BlockInput+A+Held+SIZE.put.Goals as goal

pub returns : goal.returns
returns g c =
    let answer = g.A.Absorb.answer in
    let self = c.args.self.now in
    let first = c.in-Some.first.now in
    let rest = c.in-Some.rest.now in
    let whole = c.absorb_whole-rest in
    let held = c.complete.new.self.held in
    c.hold-2.ensures
    ∙ ap (λ n. after whole.result.now (holding held.buffer n (answer whole.new.below))) c.complete.ensures.empty
    ∙ whole.ensures.taken
    ∙ ap (after rest) c.complete.ensures.taken
    ∙ after_halves (g.row.SIZE - self.held.count) c.args.bytes.now first rest (input_answer answer self) (search rules) (search rules)
