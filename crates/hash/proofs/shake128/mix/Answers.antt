use Rattle.std.proofs.Common.{◌≡◌, ℕ, ◌+◌, ◌*◌, ◌/◌, ◌<◌, List, [], ◌∷◌, map, length, get_or, slice_index_or, take, drop, refl, sym, ap, ◌∙◌, arith, rules}
use lib.Bits.{bit_xor}
use lib.Lanes.{number_l}
use Rattle.std.specs.Simd.{first_chunks}
use Rattle.std.proofs.lemmas.List.{drop_all, get_or-drop}
use Rattle.std.proofs.lemmas.Simd.{pick_l-range_with_len}
use Rattle.hash.specs.Keccak.{five}
use Rattle.hash.specs.Lanes.{lanes_of}
use Rattle.hash.specs.Shake128.{word}
use Rattle.hash.proofs.Lists.{chunk_at}
use Rattle.hash.proofs.Planes.{bare, row_at}
use Rattle.hash.proofs.shake128.mix.Goals as goal

-- the sum of two rows
unfoldable sum : List ℕ → List ℕ → List ℕ
sum row = λ words. five (λ x. bit_xor (get_or row x 0) (get_or words x 0))

-- the words of a block and its rows, as the code cuts them
module _ (block : List ℕ) (words : List (List ℕ)) (w : words ≡ first_chunks 8 21 block) where
  word_at : (i j : ℕ) → i ≡ j → i < 21 → number_l 256 (get_or words i []) ≡ word block j
  word_at i j e h =
      let place : i * 8 ≡ 8 * j = omega arith in
      ap (number_l 256) (ap (λ l. get_or l i []) w ∙ chunk_at 8 21 i block [] h ∙ ap (λ n. take 8 (drop n block)) place)

  words_at : (rows : List (List (List ℕ))) (y : ℕ) → length words ≡ 21 → rows ≡ first_chunks 5 4 words → y < 4 → map (number_l 256) (get_or rows y []) ≡ five (λ x. word block (5 * y + x))
  words_at rows y long r h =
      ap (map (number_l 256)) (ap (λ l. get_or l y []) r ∙ chunk_at 5 4 y words [] h ∙ sym (pick_l-range_with_len [] words (y * 5) 5 (omega arith)))
      ∙ cc (word_at (y * 5) (5 * y + 0) (omega arith) (omega arith), word_at (y * 5 + 1) (5 * y + 1) (omega arith) (omega arith), word_at (y * 5 + 1 + 1) (5 * y + 2) (omega arith) (omega arith), word_at (y * 5 + 1 + 1 + 1) (5 * y + 3) (omega arith) (omega arith), word_at (y * 5 + 1 + 1 + 1 + 1) (5 * y + 4) (omega arith) (omega arith))

  last_word : (rest : List (List ℕ)) → rest ≡ drop 20 words → number_l 256 (get_or rest 0 []) ≡ word block 20
  last_word rest r = ap (number_l 256) (ap (λ l. get_or l 0 []) r ∙ get_or-drop 20 words 0 []) ∙ word_at 20 20 refl (omega arith)

pub returns : goal.returns
unfolding sum
returns c =
    let block = c.args.block.now in
    let state = c.args.state in
    let ws = c.as_chunks.result.0.now in
    let rows = c.as_chunks-2.result.0.now in
    let cut = c.as_chunks.ensures in
    let cut-2 = c.as_chunks-2.ensures in
    let size : length block ≡ 168 = search rules in
    let n : length block / 8 ≡ 21 = omega arith in
    let count : length ws ≡ 21 = cut.front_len ∙ n in
    let m : length ws / 5 ≡ 4 = omega arith in
    let words : ws ≡ first_chunks 8 21 block = cut.front ∙ ap (λ k. first_chunks 8 k block) n in
    let row : (y : ℕ) → y < 4 → map (number_l 256) (get_or rows y []) ≡ five (λ x. word block (5 * y + x)) = λ y h. words_at block ws words rows y count (cut-2.front ∙ ap (λ k. first_chunks 5 k ws) m) h in
    let lane : (y : ℕ) → y < 5 → (w : List ℕ) → sum (get_or state.rows y bare).lanes w ≡ sum (slice_index_or (lanes_of state) y []) w = λ y h w. ap (λ row. sum row w) (row_at state.rows (search rules) y h) in
    let y0 = c.xor.ensures ∙ ap (sum (get_or state.rows 0 bare).lanes) (c.load_row.ensures ∙ row 0 (omega arith)) ∙ lane 0 (omega arith) (five (λ x. word block (5 * 0 + x))) in
    let y1 = c.xor-2.ensures ∙ ap (sum (get_or state.rows 1 bare).lanes) (c.load_row-2.ensures ∙ row 1 (omega arith)) ∙ lane 1 (omega arith) (five (λ x. word block (5 * 1 + x))) in
    let y2 = c.xor-3.ensures ∙ ap (sum (get_or state.rows 2 bare).lanes) (c.load_row-3.ensures ∙ row 2 (omega arith)) ∙ lane 2 (omega arith) (five (λ x. word block (5 * 2 + x))) in
    let y3 = c.xor-4.ensures ∙ ap (sum (get_or state.rows 3 bare).lanes) (c.load_row-4.ensures ∙ row 3 (omega arith)) ∙ lane 3 (omega arith) (five (λ x. word block (5 * 3 + x))) in
    let last = c.load.ensures ∙ last_word block ws words c.as_chunks-2.result.1.now (cut-2.back ∙ ap (λ k. drop (k * 5) ws) m) in
    let y4 = c.xor-5.ensures ∙ ap (λ w. sum (get_or state.rows 4 bare).lanes (w ∷ 0 ∷ 0 ∷ 0 ∷ 0 ∷ [])) last ∙ lane 4 (omega arith) (word block 20 ∷ 0 ∷ 0 ∷ 0 ∷ 0 ∷ []) in
    rw (drop_all 168 block (omega arith), drop_all 176 block (omega arith), drop_all 184 block (omega arith), drop_all 192 block (omega arith)) (cc)
