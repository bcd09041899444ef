use Rattle.std.proofs.Common.{◌≡◌, ◌+◌, ◌*◌, ◌/◌, length, get_or, take, drop, sym, ap, ◌∙◌, arith}
use Rattle.std.specs.Simd.{first_chunks}
use Rattle.std.proofs.lemmas.List.{drop-drop}
use Rattle.hash.specs.Rows.{after}
use Rattle.hash.proofs.Lists.{chunk_at}
use Rattle.hash.proofs.Feeding.{after_halves}
use Rattle.hash.proofs.block_input.absorb_whole.Goals as goal

pub loop-block-preserved : goal.loop-block-preserved
loop-block-preserved g c =
    let n = g.row.SIZE in
    let i = c.loop-block.block-index in
    let bytes = c.args.bytes.now in
    let block = c.block-item.result in
    let count = length bytes / n in
    let cut : c.as_chunks.result.0.now ≡ first_chunks n count bytes = c.as_chunks.ensures.front in
    let front : block ≡ take n (drop (i * n) bytes) = c.block-item.is ∙ ap (λ blocks. get_or blocks i block) cut ∙ chunk_at n count i bytes block (omega (arith, c.as_chunks.ensures.front_len)) in
    let back : drop ((i + 1) * n) bytes ≡ drop n (drop (i * n) bytes) = sym (drop-drop n (i * n) bytes ∙ ap (λ m. drop m bytes) (omega arith)) in
    ap (after (drop ((i + 1) * n) bytes)) c.absorb.ensures
    ∙ after_halves n (drop (i * n) bytes) block (drop ((i + 1) * n) bytes) (g.A.Absorb.answer c.loop-block.below) front back
    ∙ c.loop-block.invariant
