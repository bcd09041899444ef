use Rattle.std.proofs.Common.{◌≡◌, arith, rules}
use Rattle.hash.specs.Sha256.{◌⊞◌, ch, round, started, Σ₁, T₁}
use Rattle.hash.proofs.BitLaws.{choice_is, majority_is}
use Rattle.hash.proofs.compression.round.Goals as goal

pub returns : goal.returns
unfolding round
returns c =
    let v = started c.args.v in
    let choice = choice_is 32 v.e v.f v.g (search rules) (search rules) in
    let majority = majority_is v.a v.b v.c in
    let order : v.h ⊞ c.args.kw ⊞ ch v.e v.f v.g ⊞ Σ₁ v.e ≡ T₁ c.args.kw 0 v = omega arith in
    rw (c.big_sigma.ensures, c.big_sigma-2.ensures, choice, majority, order)
