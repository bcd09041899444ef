-- Rounds with the sums of their constants and words, and rounds one part after the other.
use Rattle.std.proofs.Common.{◌≡◌, ℕ, ◌≤◌, List, [], ◌∷◌, ◌++◌, length, get_or, drop, refl, arith}
use lib.Lanes.{zip2}
use Rattle.std.proofs.lemmas.Simd.{pick_l_whole}
use Rattle.hash.specs.Sha256.{◌⊞◌, T₁, Working, round, rounds}

round_sum : (k w : ℕ) (v : Working) → round (w ⊞ k) 0 v ≡ round k w v
unfolding round
round_sum k w v =
    let e : T₁ (w ⊞ k) 0 v ≡ T₁ k w v = omega arith in rw e

-- four rounds with sums, written out
pub four_sums : (k w : List ℕ) (v : Working) → length k ≡ 4 → length w ≡ 4
    → round (get_or (zip2 ◌⊞◌ w k) 3 0) 0 (round (get_or (zip2 ◌⊞◌ w k) 2 0) 0 (round (get_or (zip2 ◌⊞◌ w k) 1 0) 0 (round (get_or (zip2 ◌⊞◌ w k) 0 0) 0 v))) ≡ rounds k w v
unfolding rounds
four_sums k w v h l = rw (← pick_l_whole 0 k 4 h, ← pick_l_whole 0 w 4 l) (simp round_sum)

pub rounds-append : (ks ls ws : List ℕ) (v : Working) → length ks ≤ length ws
    → rounds (ks ++ ls) ws v ≡ rounds ls (drop (length ks) ws) (rounds ks ws v)
unfolding rounds
rounds-append [] ls ws v h = refl
rounds-append (k ∷ ks) ls [] v h = absurd (omega arith)
rounds-append (k ∷ ks) ls (w ∷ ws) v h = rounds-append ks ls ws (round k w v) (omega arith)

-- words past the rounds change nothing
pub rounds_longer : (ks ws xs : List ℕ) (v : Working) → length ks ≤ length ws → rounds ks (ws ++ xs) v ≡ rounds ks ws v
unfolding rounds
rounds_longer [] ws xs v h = refl
rounds_longer (k ∷ ks) [] xs v h = absurd (omega arith)
rounds_longer (k ∷ ks) (w ∷ ws) xs v h = rounds_longer ks ws xs (round k w v) (omega arith)
