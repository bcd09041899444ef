use Rattle.std.proofs.Common.{[], rules}
use Rattle.hash.specs.Sha256.{word_at}
use Rattle.hash.proofs.Lists.{mapped}
use Rattle.hash.proofs.compression.four_words.Goals as goal

pub returns : goal.returns
returns c =
    let made = c.map.ensures.items in
    mapped (λ b. word_at b 0) 4 c.args.bytes c.map.result [] 0 (search rules) made.long (λ k l. (made.at k [] 0 l).2.met)
