-- What a SHA-256 at work answers in the end. Assumes nothing.
use Rattle.std.specs.Prelude.{ℕ, ◌*◌, List}
use Rattle.hash.specs.declared.sha256.Sha256.{Sha256}
use Rattle.hash.specs.Layers.{input_answer}
use Rattle.hash.specs.Sha256.{digest_from}

-- the digest, for every list of bytes that may still be fed
unfoldable pub pending : Sha256 → List ℕ → List ℕ
pending s = input_answer (λ blocks. digest_from blocks.chain.words (64 * blocks.count)) s.input
