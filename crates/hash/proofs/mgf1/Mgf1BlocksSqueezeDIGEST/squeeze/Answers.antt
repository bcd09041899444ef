use Rattle.std.proofs.Common.{◌≡◌, ℕ, suc, ◌+◌, ◌%◌, ◌^◌, ◌<◌, List, [], length, take, ap, ◌∙◌, arith, rules}
use Rattle.std.proofs.lemmas.List.{append-nil, take_all}
use Rattle.hash.specs.Digest.{pending}
use Rattle.hash.specs.Mgf1.{mask_from}
use Rattle.hash.specs.Rows.{Gives}
use Rattle.hash.specs.Sha256.{big_endian}
use Rattle.hash.proofs.Reading.{blocks_give}
use Rattle.hash.proofs.ShaLaws.{word_bytes}
use Rattle.hash.proofs.mgf1.Mgf1BlocksSqueezeDIGEST.squeeze.Goals as goal

-- the block of one counter, and then the blocks of those that follow
counter-gives : (digest : List ℕ → List ℕ) (c : ℕ) (block : List ℕ) → c < 2 ^ 32 → length block ≡ 32 → block ≡ digest (big_endian 4 c)
    → Gives 32 (mask_from c digest) block (mask_from ((c + 1) % 2 ^ 32) digest)
counter-gives digest c block l h e =
    let first : c ≡ (c + 0) % 2 ^ 32 = omega arith in
    let is : block ≡ digest (big_endian 4 ((c + 0) % 2 ^ 32)) = e ∙ ap (λ k. digest (big_endian 4 k)) first in
    let next : (n : ℕ) → ((c + 1) % 2 ^ 32 + n) % 2 ^ 32 ≡ (c + suc n) % 2 ^ 32 = λ n. omega arith in
    let whole : take 32 block ≡ block = take_all 32 block (omega arith) in
    simp next (blocks_give 32 (λ n. digest (big_endian 4 ((c + n) % 2 ^ 32))) block (omega arith) h (cc (is, whole)))

pub returns : goal.returns
returns c =
    let self = c.args.self.now in
    let below : self.counter < 2 ^ 32 = search rules in
    let long : length c.finish.result ≡ 32 = search rules in
    let counter : c.to_be_bytes.result ≡ big_endian 4 self.counter = (let bytes = word_bytes self.counter in search rules) in
    counter-gives (pending self.seed) self.counter c.finish.result below long (c.finish.ensures ∙ ap (λ d. d []) c.update.ensures ∙ ap (pending self.seed) (append-nil _ ∙ counter))
