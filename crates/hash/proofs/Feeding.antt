-- Laws of feeding.
use Rattle.std.specs.Prelude.{◌≡◌, ℕ, suc, List, ◌++◌, length, take, drop}
use Rattle.std.proofs.Common.{append_assoc, take-append-drop}
use Rattle.std.proofs.Math.Path.{fun_ext}
use Rattle.std.proofs.lemmas.List.{drop_at, take_at}
use Rattle.hash.specs.Blocks.{absorbed}
use Rattle.hash.specs.Rows.{after}

-- what was cut in two and fed in two pieces
pub after_halves : {X : Type 0} (n : ℕ) (whole front back : List ℕ) (rule : List ℕ → X) → front ≡ take n whole → back ≡ drop n whole → after back (after front rule) ≡ after whole rule
after_halves n whole front back rule f b = fun_ext (λ more. rw (f, b, ← append_assoc, take-append-drop))

-- bytes that begin with a whole block
pub absorbed_block : {S : Type 0} (f : S → List ℕ → S) (size n : ℕ) (s : S) (block bytes : List ℕ) → length block ≡ size → absorbed f size (suc n) s (block ++ bytes) ≡ absorbed f size n (f s block) bytes
absorbed_block f size n s block bytes h = simp (take_at, drop_at, h)
