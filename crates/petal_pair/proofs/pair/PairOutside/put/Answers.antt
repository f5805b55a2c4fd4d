-- A put to the copies in use is one put of the pair.
use Rattle.std.proofs.Common.{rules, ◌≡◌, subst}
use Rattle.frang_outside.specs.Outside.{PutOutcome}
use Rattle.petal_pair.specs.PairedCalls.{acts_put, missed_after}
use Rattle.petal_pair.specs.PairedCopies.{pair_over, pair_state}
use Rattle.petal_pair.proofs.Copying.{PutHolds, is_pair_put, pair_outcome}
use Rattle.petal_pair.proofs.pair.PairOutside.put.Goals as goal

pub invariant_of-self-2 : goal.invariant_of-self-2
invariant_of-self-2 g c =
    let a = g.A.Outside.state c.self.inside.first in
    let a' = g.A.Outside.state c.put_to_used-answer.new.first in
    let b = g.B.Outside.state c.self.inside.second in
    let b' = g.B.Outside.state c.put_to_used-answer.new.second in
    let was = c.self.inside.in_use in
    let now = c.put_to_used-answer.result.1 in
    let answer = c.put_to_used-answer.result.0 in
    let missed : c.note_missed.new.missed.items ≡ missed_after was now c.self.inside.missed.items c.args.put.now.sector answer = search rules in
    let acts : c.note_put.new.acts.items ≡ acts_put c.self.inside.acts.items c.args.put.now answer = search rules in
    let holds : PutHolds was now a a' b b' c.self.inside.missed.items c.self.inside.acts.items c.args.put.now answer = record {
      is = c.self.invariant;
      puts = c.put_to_used-answer.ensures;
      first_before = g.met.A.Outside.accounts c.self.inside.first;
      first_after = g.met.A.Outside.accounts c.put_to_used-answer.new.first;
      second_before = g.met.B.Outside.accounts c.self.inside.second;
      second_after = g.met.B.Outside.accounts c.put_to_used-answer.new.second;
    } in
    rw (missed, acts) (is_pair_put was now a a' b b' c.self.inside.missed.items c.self.inside.acts.items c.args.put.now answer holds)

pub returns-clause-outcome : goal.returns-clause-outcome
returns-clause-outcome g c =
    let a = g.A.Outside.state c.self.inside.first in
    let a' = g.A.Outside.state c.put_to_used-answer.new.first in
    let b = g.B.Outside.state c.self.inside.second in
    let b' = g.B.Outside.state c.put_to_used-answer.new.second in
    let was = c.self.inside.in_use in
    let now = c.put_to_used-answer.result.1 in
    let answer = c.put_to_used-answer.result.0 in
    let acts : c.note_put.new.acts.items ≡ acts_put c.self.inside.acts.items c.args.put.now answer = search rules in
    let holds : PutHolds was now a a' b b' c.self.inside.missed.items c.self.inside.acts.items c.args.put.now answer = record {
      is = c.self.invariant;
      puts = c.put_to_used-answer.ensures;
      first_before = g.met.A.Outside.accounts c.self.inside.first;
      first_after = g.met.A.Outside.accounts c.put_to_used-answer.new.first;
      second_before = g.met.B.Outside.accounts c.self.inside.second;
      second_after = g.met.B.Outside.accounts c.put_to_used-answer.new.second;
    } in
    subst (λ p. PutOutcome (pair_state g.A.Outside.state g.B.Outside.state p) (pair_over a' b' now c.note_put.new.acts.items c.count_put.new.faults c.self.inside.say_faults) c.args.put.now answer)
    c.self.view_is
    (rw acts (pair_outcome was now a a' b b' c.self.inside.missed.items c.self.inside.acts.items c.self.inside.faults c.count_put.new.faults c.self.inside.say_faults c.args.put.now answer holds c.count_put.ensures.counts))

pub returns-clause-pair : goal.returns-clause-pair
returns-clause-pair g c = invariant_of-self-2 g c
