-- The window on the schedule: its next sixteen words, in four vectors. Assumes nothing.
use Rattle.std.specs.Prelude.{ℕ, List, ◌++◌}
use Rattle.hash.specs.declared.compression.Window.{Window}

-- the words in a window
abbrev pub window_of : Window → List ℕ
window_of w = w.first ++ (w.second ++ (w.third ++ w.fourth))
