use Rattle.std.proofs.Common.{◌≡◌, ℕ, ◌≤◌, List, [], ◌∷◌, ◌++◌, map, length, take, refl, sym, ap, ◌∙◌, arith, rules}
use lib.Lanes.{digits_l}
use Rattle.std.specs.List.{flat_map}
use Rattle.std.proofs.lemmas.Grind.{flat_map-append}
use Rattle.std.proofs.lemmas.List.{length-take-le}
use Rattle.std.proofs.lemmas.List.Folds.{flat_map-map}
use Rattle.hash.specs.Shake128.{lane_bytes, state_bytes}
use Rattle.hash.proofs.Lists.{mapped}
use Rattle.hash.proofs.shake128.front_block.Goals as goal

-- rows as words of bytes, joined twice
joined : (rows : List (List ℕ)) → flat_map (λ b. b) (flat_map (λ b. b) (map (map (digits_l 256 8)) rows)) ≡ state_bytes rows
joined [] = refl
joined (row ∷ rows) =
    let rest = flat_map (λ b. b) (map (map (digits_l 256 8)) rows) in
    flat_map-append (λ b. b) (map (digits_l 256 8) row) rest
    ∙ ap (λ l. l ++ flat_map (λ b. b) rest) (flat_map-map (λ b. b) (digits_l 256 8) row)
    ∙ ap (λ l. lane_bytes row ++ l) (joined rows)

enough : (c : goal.After-block-1) → 168 ≤ length c.as_flattened-bytes.result.now
enough c = omega (arith, c.as_flattened.ensures.len, c.as_flattened-bytes.ensures.len)

pub slice_bounds-copy_from_slice-end-2 : goal.slice_bounds-copy_from_slice-end-2
slice_bounds-copy_from_slice-end-2 c = search (rules, enough c)

pub copy_from_slice-requires : goal.copy_from_slice-requires
copy_from_slice-requires c = sym (length-take-le 168 c.as_flattened-bytes.result.now (enough c))

pub returns : goal.returns
returns c =
    let made = c.map-rows.ensures.items in
    let words = mapped (map (digits_l 256 8)) 5 c.rows.result c.map-rows.result [] [] (search rules) made.long (λ k l. (made.at k [] [] l).2.met) in
    let bytes = c.as_flattened-bytes.ensures.value ∙ ap (flat_map (λ b. b)) (c.as_flattened.ensures.value ∙ ap (flat_map (λ b. b)) words) in
    c.copy_from_slice.ensures.after ∙ ap (take 168) (bytes ∙ joined c.rows.result ∙ ap state_bytes c.rows.ensures)
