-- States made row by row.
use Rattle.std.specs.Prelude.{◌≡◌, ℕ, ◌<◌, List, [], map, length, slice_index_or}
use Rattle.std.proofs.Common.{get_or, sym, ap, ◌∙◌, arith}
use Rattle.std.proofs.lemmas.List.{get_or-map}
use Rattle.std.proofs.lemmas.Simd.{pick_l_whole}
use Rattle.hash.specs.declared.keccak.Plane.{Plane}
use Rattle.hash.specs.Keccak.{five}

-- a row of no lanes
abbrev pub bare : Plane
bare = record { lanes = [] }

pub row_at : (rows : List Plane) → length rows ≡ 5 → (k : ℕ) → k < 5 → (get_or rows k bare).lanes ≡ slice_index_or (map (λ row. row.lanes) rows) k []
row_at rows h k b = sym (get_or-map (λ row. row.lanes) rows k bare [] (omega arith))

-- five rows, each made of the row in its place
pub row_by_row : (f : ℕ → List ℕ → List ℕ) (xs ys : List Plane) → length xs ≡ 5 → length ys ≡ 5
    → ((k : ℕ) → k < 5 → (get_or ys k bare).lanes ≡ f k (get_or xs k bare).lanes)
    → map (λ row. row.lanes) ys ≡ five (λ k. f k (slice_index_or (map (λ row. row.lanes) xs) k []))
row_by_row f xs ys h l at =
    let made : (k : ℕ) → k < 5 → (get_or ys k bare).lanes ≡ f k (slice_index_or (map (λ row. row.lanes) xs) k []) = λ k b. at k b ∙ ap (f k) (row_at xs h k b) in
    ap (map (λ row. row.lanes)) (sym (pick_l_whole bare ys 5 l)) ∙ cc (made 0 (omega arith), made 1 (omega arith), made 2 (omega arith), made 3 (omega arith), made 4 (omega arith))
