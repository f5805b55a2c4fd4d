-- A line goes to the first copy, in use or not, and to the pair.
use Rattle.std.proofs.Common.{◌∙◌, slice_index, ap, sym, subst}
use Rattle.quiet_outside.specs.KeptLines.{quiet_state}
use Rattle.quiet_pair.specs.Ties.{FirstTies, HasCause}
use Rattle.quiet_pair.proofs.Causing.{said_calm}
use Rattle.quiet_pair.proofs.Tying.{say_ties, said_or_same}
use Rattle.quiet_pair.proofs.pair.QuietPairOutside.say.Goals as goal

pub invariant_of-self : goal.invariant_of-self
invariant_of-self g c =
    let S = g.O.Outside.state in
    let B = g.B.Outside.state in
    let outset = g.N.Naming.outset in
    let p = c.self.inside.pair in
    let p' = c.say.new.self in
    let first = quiet_state S p.first in
    let first' = quiet_state S p'.first in
    let answer = c.say.ensures.answer in
    let in_use = ap (λ x. x.in_use) answer.same in
    record {
      ties =
          subst (λ u. FirstTies outset first' u p'.acts) (sym in_use)
          (subst (λ acts. FirstTies outset first' p.in_use acts) (sym (ap (λ x. x.acts) answer.same))
          (say_ties outset first first' p.in_use p.acts c.args.line.now c.say.result c.self.invariant.ties (said_or_same S p.first p'.first c.args.line.now c.say.result answer.says)));
      causes = λ party.
          subst (λ u. HasCause u (B p'.second) party (slice_index p'.faults party)) (sym in_use)
          (subst (λ b. HasCause p.in_use (B b) party (slice_index p'.faults party)) (sym (ap (λ x. x.second) answer.same))
          (subst (λ faults. HasCause p.in_use (B p.second) party (slice_index faults party)) (sym (ap (λ x. x.faults) answer.same)) (c.self.invariant.causes party)));
      calm = ap (λ x. x.say_faults) answer.same ∙ said_calm p.say_faults c.say.result c.self.invariant.calm answer.failed;
    }
