use Rattle.std.proofs.Common.{[], ◌++◌, length, ap, ◌∙◌}
use Rattle.std.proofs.lemmas.List.{append-nil}
use Rattle.hash.specs.Rows.{after, front}
use Rattle.hash.specs.Shake128.{shake128}
use Rattle.hash_c.proofs.hash_shake128_of_five.Goals as goal

pub returns : goal.returns
returns t =
    let a = t.args.a.now in
    let b = t.args.b.now in
    let c = t.args.c.now in
    let d = t.args.d.now in
    let e = t.args.e.now in
    let fed = t.feed-5.ensures ∙ ap (after e) (t.feed-4.ensures ∙ ap (after d) (t.feed-3.ensures ∙ ap (after c) (t.feed-2.ensures ∙ ap (after b) (t.feed.ensures ∙ ap (after a) t.start-feeder.ensures)))) in
    t.read.ensures.filled ∙ ap (front (length t.args.out.now)) (t.turn.ensures ∙ ap (λ rule. rule []) fed ∙ ap (λ l. shake128 (a ++ (b ++ (c ++ (d ++ l))))) (append-nil e))
