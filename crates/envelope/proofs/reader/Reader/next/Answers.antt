use Rattle.std.proofs.Common.{◌≡◌, ◌-◌, ◌≤◌, length, take, drop, arith}
use Rattle.std.proofs.lemmas.List.{take_rest}
use Rattle.std.proofs.lemmas.Grind.{common_steps}
use Rattle.envelope.proofs.Steps.{found, known_from}
use Rattle.envelope.proofs.reader.Reader.next.Goals as goal

pub returns-clause-answers : goal.returns-clause-answers
returns-clause-answers c =
    let all = c.args.self.now.rest.now in
    let left = take (length all - 1) (drop 1 all) in
    let n = c.body_length-length.result in
    let front : c.in_ok-bytes.bytes.now ≡ take n left = grind (arith, common_steps) in
    let long : n ≤ length left = grind (arith, common_steps) in
    let size = c.body_length-length.ensures in
    let known = known_from _ _ c.try_from.ensures c.in_ok-kind.ensures.cases in
    rw (c.new.ensures, front, take_rest all 1, size) (found c.args.self.now.place all _ known (rw (← size, ← take_rest all 1) long))
