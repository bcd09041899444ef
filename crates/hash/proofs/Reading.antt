-- Laws of reading.
use Rattle.std.proofs.Common.{◌≡◌, ℕ, zero, suc, ◌+◌, ◌-◌, ◌<◌, ◌≤◌, List, [], ◌∷◌, ◌++◌, length, get_or, take, drop, sym, refl, ap, ◌∙◌, rules, mod-eq_of_lt, suc-add, zero-add, add-one, arith, length-drop, length-take, take-add}
use mathlib.Core.Path.{fun_ext}
use native.Mathlib.Nat.{add-div_left, add-mod_left, div-eq_of_lt, sub-zero}
use borrow.Rule.Slice.PartMut.{put_mid}
use Rattle.std.proofs.lemmas.Slice.{overwrites}
use Rattle.std.proofs.lemmas.List.{drop-drop, get_or-take, nil_from_length}
use Rattle.hash.specs.Blocks.{in_blocks}
use Rattle.hash.specs.Rows.{Row, past, front, ahead, unread, Gives}

pub past-past : (m n : ℕ) (row : Row) → past n (past m row) ≡ past (m + n) row
past-past m n row = fun_ext (λ k. ap row (omega arith))

pub past_none : (row : Row) → past 0 row ≡ row
past_none row = fun_ext (λ k. ap row (omega arith))

past-suc : (n : ℕ) (row : Row) → past (suc n) row ≡ past n (past 1 row)
past-suc n row = fun_ext (λ k. ap row (omega arith))

pub length-front : (n : ℕ) (row : Row) → length (front n row) ≡ n
unfolding front
length-front zero row = refl
length-front (suc n) row = ap suc (length-front n (past 1 row))

pub front-add : (m n : ℕ) (row : Row) → front (m + n) row ≡ front m row ++ front n (past m row)
unfolding front
front-add zero n row = rw (zero-add, past_none row)
front-add (suc m) n row = simp (suc-add, past-suc m row, front-add m n (past 1 row))

-- bytes that stand where the row has them
front_from : (bytes : List ℕ) (row : Row) → ((k : ℕ) → k < length bytes → get_or bytes k 0 ≡ row k) → bytes ≡ front (length bytes) row
unfolding front
front_from [] row e = refl
front_from (b ∷ bytes) row e = cc (e 0 (omega arith), front_from bytes (past 1 row) (λ k l. e (suc k) (omega arith) ∙ ap row (omega arith)))

-- bytes that are read, and then some more
pub gives_more : (m n k : ℕ) (row middle left : Row) (xs ys : List ℕ) → k ≡ m + n → Gives m row xs middle → Gives n middle ys left → Gives k row (xs ++ ys) left
gives_more m n k row middle left xs ys e a b =
    rw e
    record {
      filled = cc (front-add m n row);
      rest = cc (past-past m n row);
    }

pub gives_none : (row left : Row) (bytes : List ℕ) → length bytes ≡ 0 → left ≡ row → Gives (length bytes) row bytes left
unfolding front
gives_none row left bytes h e = rw (nil_from_length bytes h) record { filled = refl; rest = e ∙ sym (past_none row) }

-- a row whose first bytes are put before the others is the row
pub ahead-front : (n : ℕ) (row : Row) → ahead (front n row) (past n row) ≡ row
unfolding front ahead
ahead-front n row = fun_ext (at n row)
  where
    at : (n : ℕ) (row : Row) (k : ℕ) → ahead (front n row) (past n row) k ≡ row k
    at zero row k = rw zero-add
    at (suc n) row zero = refl
    at (suc n) row (suc k) = rw (past-suc n row) (at n (past 1 row) k ∙ ap row (omega arith))

past-ahead : (b : ℕ) (bytes : List ℕ) (row : Row) → past 1 (ahead (b ∷ bytes) row) ≡ ahead bytes row
unfolding ahead
past-ahead b bytes row = fun_ext (λ k. rw (suc-add, zero-add))

-- bytes put before others and a row
gives_ahead : (bytes more : List ℕ) (row : Row) → Gives (length bytes) (ahead (bytes ++ more) row) bytes (ahead more row)
unfolding front ahead
gives_ahead [] more row = record { filled = refl; rest = sym (past_none (ahead more row)) }
gives_ahead (b ∷ bytes) more row =
    let rest = gives_ahead bytes more row in
    record {
      filled = rw past-ahead (ap (λ l. b ∷ l) rest.filled);
      rest = rw (past-suc (length bytes) (ahead (b ∷ bytes ++ more) row), past-ahead b (bytes ++ more) row) rest.rest;
    }

-- the next bytes of a buffer
pub unread_gives : (buffer : List ℕ) (from n to : ℕ) (row : Row) → from + n ≤ to → to ≤ length buffer → Gives n (unread buffer from to row) (take ((from + n) - from) (drop from buffer)) (unread buffer (from + n) to row)
unread_gives buffer from n to row h k =
    let first = take n (drop from buffer) in
    let more = take (to - (from + n)) (drop (from + n) buffer) in
    let cut : to - from ≡ n + (to - (from + n)) = omega arith in
    let bytes : take (to - from) (drop from buffer) ≡ first ++ more = rw (cut, take-add, drop-drop n from buffer) in
    let here : (from + n) - from ≡ n = omega arith in
    let long : length first ≡ n = simp (length-take, length-drop) (omega arith) in
    rw (here, bytes) (rw long at (gives_ahead first more row))

-- a buffer that is used up
pub unread_none : (buffer : List ℕ) (from to : ℕ) (row : Row) → from ≡ to → unread buffer from to row ≡ row
unfolding ahead
unread_none buffer from to row e = let none : to - from ≡ 0 = omega arith in rw none

-- a buffer that has just been filled
pub unread_fresh : (buffer : List ℕ) (n : ℕ) (row left : Row) → Gives n row (take n buffer) left → unread buffer 0 n left ≡ row
unread_fresh buffer n row left g = simp (sub-zero, g.filled, g.rest) (ahead-front n row)

-- bytes of which the first m were given, and the others are given over them
pub gives_rest : (m : ℕ) (row middle left : Row) (out more : List ℕ) → m ≤ length out → Gives m row (take m out) middle → Gives (length (take (length out - m) (drop m out))) middle more left → Gives (length out) row (put_mid m (length out - m) out more) left
gives_rest m row middle left out more h a b =
    let all : length out ≡ m + length (take (length out - m) (drop m out)) = simp (length-take, length-drop) (omega arith) in
    let bytes : put_mid m (length out - m) out more ≡ take m out ++ more = search (rules, overwrites) in
    rw bytes (gives_more m _ (length out) row middle left (take m out) more all a b)

-- the first of a row's blocks
pub blocks_give : (size : ℕ) (blocks : ℕ → List ℕ) (block : List ℕ) → 0 < size → length block ≡ size → block ≡ take size (blocks 0) → Gives size (in_blocks size blocks) block (in_blocks size (λ n. blocks (suc n)))
blocks_give size blocks block some long is =
    record {
      filled = rw long at (front_from block (in_blocks size blocks) (λ k h. ap (λ bytes. get_or bytes k 0) is ∙ first k (omega arith)));
      rest = fun_ext (λ k. sym (next k));
    }
  where
    first : (k : ℕ) → k < size → get_or (take size (blocks 0)) k 0 ≡ in_blocks size blocks k
    first k h = rw (get_or-take, div-eq_of_lt h, mod-eq_of_lt h)

    next : (k : ℕ) → in_blocks size blocks (size + k) ≡ in_blocks size (λ n. blocks (suc n)) k
    next k = rw (add-div_left k some, add-mod_left, add-one)
