use Rattle.std.proofs.lemmas.Simd.{pick_l_whole}
use Rattle.hash.proofs.compression.block_window.Goals as goal

pub returns : goal.returns
returns c =
    rw (c.four_words.ensures, c.four_words-2.ensures, c.four_words-3.ensures, c.four_words-4.ensures, c.as_chunks-2.ensures.front, c.as_chunks.ensures.front, c.told-block, ← pick_l_whole 0 c.args.block.now 64 c.told-block)
