use Rattle.std.proofs.Common.{refl, ◌∙◌, rules}
use Rattle.hash.proofs.ShaLaws.{count_bytes, counted_is}
use Rattle.hash.proofs.compression.counted.Goals as goal

pub returns : goal.returns
returns c =
    counted_is c.args.block c.copy_from_slice.new.self c.args.total (search rules) (c.copy_from_slice.ensures.after ∙ c.to_be_bytes.ensures ∙ count_bytes c.args.total _ refl)
