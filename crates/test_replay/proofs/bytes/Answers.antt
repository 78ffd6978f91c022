use Rattle.std.proofs.Common.{subst, rules, ◌≡◌}
use Rattle.std.proofs.lemmas.Fn.{fold_over, slice_gives, fronts}
use Rattle.test_replay.specs.Replay.{digest_of}
use Rattle.test_replay.specs.theorems.Replay.{digest_push, digest_none}
use Rattle.test_replay.proofs.bytes.Goals as goal

pub returns : goal.returns
returns c = subst (λ l. c.fold.result ≡ digest_of 0 l) c.iter.ensures.rest
    (fold_over fronts (λ y. y.now) _ (λ ys n. n ≡ digest_of 0 ys) _ (λ ys a x b f' j k. let e = digest_push ys 0 x.now in search rules)
    _ _ _ _ (slice_gives c.iter.result) (digest_none 0) c.fold.ensures.ran)
