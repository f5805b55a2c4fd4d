-- Where memory is wanting, what came is cut off again.
use Rattle.std.proofs.Common.{◌≡◌, ◌++◌, length, take, sym, ◌∙◌, ap, arith}
use Rattle.lock_sets.specs.Seen.{BeginsWith, seen_as}
use Rattle.lock_sets.proofs.Kept.{cut_back, on_error}
use Rattle.lock_sets.proofs.seen.SeenSectors.add_all.Goals as goal

pub returns-then-is_err-clause-err : goal.returns-then-is_err-clause-err
returns-then-is_err-clause-err g c =
    let old = c.self.inside.sectors.items in
    let new = c.self-2.inside.sectors.items in
    let b = c.add_each-added.ensures.behind in
    let behind : BeginsWith (seen_as old) (seen_as new) = (b.0, c.self-2.view_is ∙ b.1 ∙ ap (λ z. z ++ b.0) (sym c.self.view_is)) in
    let count : c.len-before.result ≡ length old = omega arith in
    on_error c.add_each-added.result (ap seen_as c.truncate.ensures.items ∙ ap (λ n. seen_as (take n new)) count ∙ cut_back old new behind ∙ c.self.view_is)
