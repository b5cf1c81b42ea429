-- One reading more is one narrowing more.
use Rattle.std.proofs.Common.{◌≡◌, refl, subst, rules}
use Rattle.std.proofs.lemmas.Fn.{fold_over, slice_gives, fronts}
use Rattle.book.proofs.Judging.{agreed, agreed_more}
use Rattle.book.proofs.account.agreed_interval.Goals as goal

pub returns : goal.returns
returns c =
    subst (λ rs. c.fold.result ≡ agreed rs) c.iter.ensures.rest
    (fold_over fronts (λ y. y.now) _ (λ rs i. i ≡ agreed rs) _ (λ rs a x b q so_far k. let more = agreed_more rs x.now in search rules) _ _ _ _ (slice_gives c.iter.result) refl c.fold.ensures.ran)
