-- Words of a fixed number of bits. Assumes nothing.
use Rattle.std.specs.Prelude.{ℕ, ◌-◌, ◌^◌, bit_xor}

infixl 5 ◌⊕◌
-- the exclusive or of two words
abbrev pub ◌⊕◌ : ℕ → ℕ → ℕ
x ⊕ y = bit_xor x y

-- the bits that a word of the given width does not have
abbrev pub complement : ℕ → ℕ → ℕ
complement width word = 2 ^ width - 1 - word
