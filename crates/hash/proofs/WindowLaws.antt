-- The rounds with a window, which moves four words at a time, are the rounds over the whole schedule.
use Rattle.std.proofs.Common.{◌≡◌, ℕ, zero, suc, ◌+◌, ◌-◌, ◌≤◌, List, [], ◌∷◌, ◌++◌, map, length, take, drop, replicate, sym, refl, ◌∙◌, suc-add, zero-add, arith, length-drop, length-take, take-add}
use lib.Lanes.{pick_l, zip2}
use Rattle.std.proofs.lemmas.List.{append_assoc, drop-append-le, drop_at, drop-drop, get_or-drop, length_push, take_all}
use Rattle.std.proofs.lemmas.Simd.{pick_l_whole}
use Rattle.hash.proofs.RoundLaws.{rounds-append, rounds_longer}
use Rattle.hash.specs.Sha256.{◌⊞◌, σ₀, σ₁, Working, back, constants, next, rounds, schedule}

pub length-constants : length constants ≡ 64
unfolding constants
length-constants = refl

-- The next four words, as the code finds them.

sum_zero : (a b : ℕ) → a ⊞ b ⊞ 0 ≡ a ⊞ b
sum_zero a b = omega arith

-- the first two of the next four words, and the sums for the last two without σ₁ of the first two
abbrev low : List ℕ → List ℕ → List ℕ → List ℕ → List ℕ
low a b c d =
    zip2 ◌⊞◌ (zip2 ◌⊞◌ (zip2 ◌⊞◌ a (map σ₀ (pick_l 0 (a ++ b) (1 ∷ 2 ∷ 3 ∷ 4 ∷ [])))) (pick_l 0 (c ++ d) (1 ∷ 2 ∷ 3 ∷ 4 ∷ []))) (map σ₁ (pick_l 0 (d ++ replicate 4 0) (2 ∷ 3 ∷ 4 ∷ 5 ∷ [])))

abbrev following : List ℕ → List ℕ → List ℕ → List ℕ → List ℕ
following a b c d = zip2 ◌⊞◌ (low a b c d) (map σ₁ (pick_l 0 (replicate 4 0 ++ low a b c d) (0 ∷ 1 ∷ 4 ∷ 5 ∷ [])))

schedule_four : (w : List ℕ) (n₀ n₁ n₂ n₃ : ℕ) → n₀ ≡ next w → n₁ ≡ next (w ++ n₀ ∷ []) → n₂ ≡ next (w ++ n₀ ∷ [] ++ n₁ ∷ [])
    → n₃ ≡ next (w ++ n₀ ∷ [] ++ n₁ ∷ [] ++ n₂ ∷ []) → w ++ n₀ ∷ [] ++ n₁ ∷ [] ++ n₂ ∷ [] ++ n₃ ∷ [] ≡ schedule 4 w
unfolding schedule
schedule_four w n₀ n₁ n₂ n₃ p q r s = rw (s, r, q, p)

module _ (x₀ x₁ x₂ x₃ x₄ x₅ x₆ x₇ x₈ x₉ x₁₀ x₁₁ x₁₂ x₁₃ x₁₄ x₁₅ : ℕ) where
  following_words : (x₀ ∷ x₁ ∷ x₂ ∷ x₃ ∷ x₄ ∷ x₅ ∷ x₆ ∷ x₇ ∷ x₈ ∷ x₉ ∷ x₁₀ ∷ x₁₁ ∷ x₁₂ ∷ x₁₃ ∷ x₁₄ ∷ x₁₅ ∷ [])
      ++ following (x₀ ∷ x₁ ∷ x₂ ∷ x₃ ∷ []) (x₄ ∷ x₅ ∷ x₆ ∷ x₇ ∷ []) (x₈ ∷ x₉ ∷ x₁₀ ∷ x₁₁ ∷ []) (x₁₂ ∷ x₁₃ ∷ x₁₄ ∷ x₁₅ ∷ [])
      ≡ schedule 4 (x₀ ∷ x₁ ∷ x₂ ∷ x₃ ∷ x₄ ∷ x₅ ∷ x₆ ∷ x₇ ∷ x₈ ∷ x₉ ∷ x₁₀ ∷ x₁₁ ∷ x₁₂ ∷ x₁₃ ∷ x₁₄ ∷ x₁₅ ∷ [])
  following_words =
      let n₀ = x₀ ⊞ σ₀ x₁ ⊞ x₉ ⊞ σ₁ x₁₄ in
      let n₁ = x₁ ⊞ σ₀ x₂ ⊞ x₁₀ ⊞ σ₁ x₁₅ in
      let n₂ = x₂ ⊞ σ₀ x₃ ⊞ x₁₁ ⊞ σ₁ n₀ in
      let n₃ = x₃ ⊞ σ₀ x₄ ⊞ x₁₂ ⊞ σ₁ n₁ in
      simp sum_zero (schedule_four _ n₀ n₁ n₂ n₃ (omega arith) (omega arith) (omega arith) (omega arith))

pub following_is : (a b c d : List ℕ) → length a ≡ 4 → length b ≡ 4 → length c ≡ 4 → length d ≡ 4
    → (a ++ (b ++ (c ++ d))) ++ following a b c d ≡ schedule 4 (a ++ (b ++ (c ++ d)))
following_is a b c d k l m n =
    rw (← pick_l_whole 0 a 4 k, ← pick_l_whole 0 b 4 l, ← pick_l_whole 0 c 4 m, ← pick_l_whole 0 d 4 n) (following_words _ _ _ _ _ _ _ _ _ _ _ _ _ _ _ _)

-- the window after the next four words are pushed
pub pushed : (a b c d e : List ℕ) → length a ≡ 4 → b ++ (c ++ (d ++ e)) ≡ drop 4 ((a ++ (b ++ (c ++ d))) ++ e)
pushed a b c d e h = simp (append_assoc, drop_at a (b ++ (c ++ (d ++ e))) 4 h)

-- The schedule in parts.

length-schedule : (n : ℕ) (w : List ℕ) → length (schedule n w) ≡ length w + n
unfolding schedule
length-schedule zero w = omega arith
length-schedule (suc n) w = omega (arith, length-schedule n (w ++ next w ∷ []), length_push {X = ℕ})

schedule-add : (n m : ℕ) (w : List ℕ) → schedule (n + m) w ≡ schedule m (schedule n w)
unfolding schedule
schedule-add zero m w = rw (zero-add m)
schedule-add (suc n) m w = rw (suc-add n m) (schedule-add n m (w ++ next w ∷ []))

-- words left out in front change nothing of what follows
back-drop : (n m : ℕ) (w : List ℕ) → n + m ≤ length w → back n (drop m w) ≡ back n w
back-drop n m w h = let e : m + (length w - m - n) ≡ length w - n = omega arith in rw (length-drop, get_or-drop, e)

next-drop : (m : ℕ) (w : List ℕ) → m + 16 ≤ length w → next (drop m w) ≡ next w
next-drop m w h =
    cc (back-drop 2 m w (omega arith), back-drop 7 m w (omega arith), back-drop 15 m w (omega arith), back-drop 16 m w (omega arith))

schedule-drop : (n m : ℕ) (w : List ℕ) → m + 16 ≤ length w → schedule n (drop m w) ≡ drop m (schedule n w)
unfolding schedule
schedule-drop zero m w h = refl
schedule-drop (suc n) m w h =
    rw (next-drop m w h, ← drop-append-le m w (next w ∷ []) (omega arith)) (schedule-drop n m (w ++ next w ∷ []) (omega (arith, length_push {X = ℕ})))

-- The rounds.

rounds-schedule : (n : ℕ) (ks w : List ℕ) (v : Working) → length ks ≤ length w → rounds ks (schedule n w) v ≡ rounds ks w v
unfolding schedule
rounds-schedule zero ks w v h = refl
rounds-schedule (suc n) ks w v h =
    rounds-schedule n ks (w ++ next w ∷ []) v (omega (arith, length_push {X = ℕ})) ∙ rounds_longer ks w (next w ∷ []) v h

-- four rounds more after n rounds, from the words w
module _ (w : List ℕ) (n : ℕ) (h : length w ≡ 16) where
  pub window_more : drop 4 (schedule 4 (drop n (schedule n w))) ≡ drop (n + 4) (schedule (n + 4) w)
  window_more = rw (schedule-drop 4 n (schedule n w) (omega (arith, length-schedule n w)), drop-drop, schedule-add n 4 w)

  pub rounds_more : (ks : List ℕ) (v : Working) → n + 4 ≤ length ks
      → rounds (take 4 (drop n ks)) (drop n (schedule n w)) (rounds (take n ks) (schedule n w) v) ≡ rounds (take (n + 4) ks) (schedule (n + 4) w) v
  rounds_more ks v l =
      let m : length (schedule n w) ≡ 16 + n = omega (arith, length-schedule n w) in
      let k : length (take n ks) ≡ n = simp length-take (omega arith) in
      let more : length (take (n + 4) ks) ≤ n + 16 = simp length-take (omega arith) in
      sym (rw (schedule-add n 4 w, rounds-schedule 4 (take (n + 4) ks) (schedule n w) v (omega arith), take-add n 4 ks, rounds-append (take n ks) (take 4 (drop n ks)) (schedule n w) v (omega arith), k))

-- the last sixteen words are found, and not used
pub rounds_all : (ks w : List ℕ) (v : Working) → length w ≡ 16 → length ks ≡ 64
    → rounds (take 64 ks) (schedule 64 w) v ≡ rounds ks (schedule 48 w) v
rounds_all ks w v h l =
    rw (take_all 64 ks (omega arith), schedule-add 48 16 w) (rounds-schedule 16 ks (schedule 48 w) v (omega (arith, length-schedule 48 w)))
