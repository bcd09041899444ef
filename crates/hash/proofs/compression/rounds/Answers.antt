use Rattle.std.proofs.Common.{◌≡◌, ◌+◌, ◌*◌, [], length, refl, arith, rules}
use Rattle.std.proofs.lemmas.List.{places}
use Rattle.hash.specs.Sha256.{constants, rounds, schedule, started}
use Rattle.hash.specs.Windows.{window_of}
use Rattle.hash.proofs.Lists.{chunk_at}
use Rattle.hash.proofs.WindowLaws.{length-constants, rounds_all, rounds_more, window_more}
use Rattle.hash.proofs.compression.rounds.Goals as goal

pub loop-k-init : goal.loop-k-init
unfolding rounds schedule
loop-k-init c = (refl, refl)

pub loop-k-preserved : goal.loop-k-preserved
loop-k-preserved c =
    let i = c.loop-k.k-index in
    let w = window_of c.args.start.window in
    let v = started c.args.start.working in
    let h : length w ≡ 16 = search (rules, places) in
    let m : 4 * (i + 1) ≡ 4 * i + 4 = omega arith in
    let n : i * 4 ≡ 4 * i = omega arith in
    let window = window_more w (4 * i) h in
    let working = rounds_more w (4 * i) h constants v (omega (arith, length-constants)) in
    (rw (c.four_steps-s.ensures.window, c.loop-k.invariant.0, m) window, rw (c.four_steps-s.ensures.working, c.loop-k.invariant.0, c.loop-k.invariant.1, m, c.as_chunks.ensures.front, c.round_constants.ensures, length-constants, chunk_at 4 16 i constants [] (omega arith), n) working)

pub returns : goal.returns
returns c =
    let w = window_of c.args.start.window in
    let h : length w ≡ 16 = search (rules, places) in
    let n : 4 * c.loop-k.k-index ≡ 64 = omega arith in
    rw (c.loop-k.invariant.1, n) (rounds_all constants w (started c.args.start.working) h length-constants)
