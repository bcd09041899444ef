use Rattle.std.proofs.Common.{get_or, [], ◌∙◌, rules}
use Rattle.std.proofs.lemmas.List.Folds.{flat_map-map}
use Rattle.hash.specs.Sha256.{big_endian}
use Rattle.hash.proofs.ShaLaws.{word_bytes}
use Rattle.hash.proofs.Lists.{mapped}
use Rattle.hash.proofs.compression.chain_bytes.Goals as goal

pub returns : goal.returns
returns c =
    let x = c.args.chain.words in
    let made = c.map.ensures.items in
    let bytes = mapped (big_endian 4) 8 x c.map.result 0 [] (search rules) made.long (λ k l. (made.at k 0 [] l).2.met ∙ word_bytes (get_or x k 0)) in
    rw (c.copy_from_slice.ensures.after, c.as_flattened.ensures.value, bytes, flat_map-map)
