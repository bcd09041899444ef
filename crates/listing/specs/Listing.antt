-- What the program `show` writes. Assumes nothing.
use Rattle.std.specs.Prelude.{ℕ, cond, List, [], ◌∷◌, ◌++◌, length, Some, None, codes, decimal, Option, nat_lt}
use Rattle.std.specs.List.{flat_map}
use Rattle.fault.specs.Lines.{refusal_line}
use Rattle.fault.specs.Numbers.{Told}
use Rattle.envelope.specs.Entries.{Entry}
use Rattle.envelope.specs.Kinds.{kind_byte}
use Rattle.envelope.specs.Reading.{Outcome, reading}

-- the end of each line
abbrev pub line_feed : List ℕ
line_feed = 10 ∷ []

abbrev pub head_line : List ℕ
head_line = codes "place kind length" ++ line_feed

-- place, kind and body length
abbrev pub record_line : Entry → List ℕ
record_line e = decimal e.place ++ (codes " " ++ (decimal (kind_byte e.kind) ++ (codes " " ++ (decimal (length e.body) ++ line_feed))))

-- how many records there are, or what stopped the reading
abbrev pub last_line : ℕ → Option Told → List ℕ
last_line n None = codes "records " ++ (decimal n ++ line_feed)
last_line n (Some f) = refusal_line f ++ line_feed

abbrev pub listing : Outcome → List ℕ
listing o = head_line ++ (flat_map record_line o.entries ++ last_line (length o.entries) o.fault)

-- the longest envelope that is listed
abbrev pub longest : ℕ
longest = 8192

abbrev pub too_long : List ℕ
too_long = codes "file too long" ++ line_feed

abbrev pub shown : List ℕ → List ℕ
shown bytes = cond (nat_lt longest (length bytes)) too_long (listing (reading bytes))
