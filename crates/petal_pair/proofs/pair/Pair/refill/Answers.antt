-- A refilling leaves every sector of the pair.
use Rattle.std.proofs.Common.{rules}
use Rattle.petal_pair.specs.Refilling.{PairCopies}
use Rattle.petal_pair.proofs.CopyingOn.{is_pair_refilled, sectors_refilled}
use Rattle.petal_pair.proofs.pair.Pair.refill.Goals as goal

pub invariant_of-self : goal.invariant_of-self
invariant_of-self g c =
    let a = g.A.Outside.state c.self.inside.first in
    let a' = g.A.Outside.state c.copy_to_out-answer.new.first in
    let b = g.B.Outside.state c.self.inside.second in
    let b' = g.B.Outside.state c.copy_to_out-answer.new.second in
    let was = c.self.inside.in_use in
    let answer = c.copy_to_out-answer.result in
    let copies : PairCopies was a a' b b' c.self.inside.missed.items answer = search rules in
    rw (c.in_use_refilled-self-inside.ensures, c.clear_refilled.ensures) (is_pair_refilled was a a' b b' c.self.inside.missed.items c.self.inside.acts.items answer c.self.invariant copies)

pub returns-clause-sectors : goal.returns-clause-sectors
returns-clause-sectors g c =
    let a = g.A.Outside.state c.self.inside.first in
    let a' = g.A.Outside.state c.copy_to_out-answer.new.first in
    let b = g.B.Outside.state c.self.inside.second in
    let b' = g.B.Outside.state c.copy_to_out-answer.new.second in
    let was = c.self.inside.in_use in
    let answer = c.copy_to_out-answer.result in
    let copies : PairCopies was a a' b b' c.self.inside.missed.items answer = search rules in
    rw (← c.self.view_is, c.in_use_refilled-self-inside.ensures) (sectors_refilled was a a' b b' c.self.inside.missed.items c.self.inside.acts.items answer copies)

pub returns-clause-pair : goal.returns-clause-pair
returns-clause-pair g c = invariant_of-self g c
