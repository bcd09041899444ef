-- What a fault is written as. Assumes nothing.
use Rattle.std.specs.Prelude.{ℕ, List, ◌++◌, codes, decimal}
use Rattle.fault.specs.Numbers.{Told}

-- as in `refusal 13 layer E place 5`, with no line feed
abbrev pub refusal_line : Told → List ℕ
refusal_line f =
    codes "refusal " ++ (decimal f.number ++ (codes " layer " ++ (f.letter ++ (codes " place " ++ decimal f.place))))
