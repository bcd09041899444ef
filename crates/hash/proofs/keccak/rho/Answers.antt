use Rattle.std.proofs.Common.{◌≡◌, ◌∙◌, ap, ℕ, ◌<◌, List, [], ◌∷◌, slice_index, slice_index_or, arith, rules}
use Rattle.hash.specs.Keccak.{five, rotated}
use Rattle.hash.specs.Lanes.{lanes_of}
use Rattle.hash.proofs.Planes.{bare, row_at}
use Rattle.hash.proofs.keccak.rho.Goals as goal

abbrev turned : List (List ℕ) → ℕ → List ℕ → List ℕ
turned distances y row = five (λ x. rotated (slice_index row x) (slice_index (slice_index_or distances y []) x))

pub returns : goal.returns
returns c =
    let A = lanes_of c.args.s in
    let table = c.rotations.result in
    let row : (y : ℕ) → y < 5 → turned table y (slice_index_or c.args.s.rows y bare).lanes ≡ turned table y (slice_index_or A y []) = λ y h. ap (turned table y) (row_at c.args.s.rows (search rules) y h) in
    let made : c.turned.result.lanes ∷ c.turned-2.result.lanes ∷ c.turned-3.result.lanes ∷ c.turned-4.result.lanes ∷ c.turned-5.result.lanes ∷ [] ≡ five (λ y. turned table y (slice_index_or A y [])) =
    cc (c.turned.ensures ∙ row 0 (omega arith), c.turned-2.ensures ∙ row 1 (omega arith), c.turned-3.ensures ∙ row 2 (omega arith), c.turned-4.ensures ∙ row 3 (omega arith), c.turned-5.ensures ∙ row 4 (omega arith)) in
    made ∙ ap (λ d. five (λ y. turned d y (slice_index_or A y []))) c.rotations.ensures
