use Rattle.std.proofs.Common.{◌≡◌, ◌*◌, take, drop}
use Rattle.hash.specs.Sha256.{constants, rounds, schedule, started}
use Rattle.hash.specs.Windows.{window_of}
use Rattle.hash.proofs.compression.rounds.Given as goal

abbrev pub invariant-loop-k : goal.invariant-loop-k
invariant-loop-k l =
    (window_of l.s.window ≡ drop (4 * l.k-index) (schedule (4 * l.k-index) (window_of l.initial.s.window)))
    × (started l.s.working ≡ rounds (take (4 * l.k-index) constants) (schedule (4 * l.k-index) (window_of l.initial.s.window)) (started l.initial.s.working))
