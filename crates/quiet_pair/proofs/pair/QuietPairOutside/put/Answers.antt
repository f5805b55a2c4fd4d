-- A put leaves the first copy tied, or out.
use Rattle.std.proofs.Common.{◌∙◌, sym, subst}
use Rattle.petal_pair.specs.PairedCopies.{pair_state}
use Rattle.quiet_outside.specs.KeptLines.{quiet_state}
use Rattle.quiet_pair.specs.FirstCopies.{IsFirstCopy}
use Rattle.quiet_pair.specs.Ties.{FirstTies}
use Rattle.quiet_pair.proofs.Causing.{put_causes}
use Rattle.quiet_pair.proofs.Tying.{late_at, put_ties}
use Rattle.quiet_pair.proofs.pair.QuietPairOutside.put.Goals as goal

pub invariant_of-self : goal.invariant_of-self
invariant_of-self g c =
    let S = g.O.Outside.state in
    let B = g.B.Outside.state in
    let outset = g.N.Naming.outset in
    let p = c.self.inside.pair in
    let p' = c.put.new.self in
    let first = quiet_state S p.first in
    let first' = quiet_state S p'.first in
    let answer = c.put.ensures.answer in
    let copy = subst (λ q. IsFirstCopy outset (S q.out) (quiet_state S q).acts q.puts q.fail_at q.failed) c.first.ensures.first c.shows.ensures in
    record {
      ties =
          subst (λ acts. FirstTies outset first' p'.in_use acts) (sym answer.acts)
          (put_ties outset first first' (B p.second) (B p'.second) p.in_use p'.in_use p.acts c.args.put.now c.put.result c.self.invariant.ties answer.puts
          (λ both. late_at S outset p.first p.acts copy (subst (λ u. FirstTies outset first u p.acts) both c.self.invariant.ties)));
      causes =
          put_causes p.in_use p'.in_use first first' (B p.second) (B p'.second) (pair_state (quiet_state S) B p) (pair_state (quiet_state S) B p') c.args.put.now c.put.result answer.puts answer.failed
          c.put.ensures.outcome c.self.invariant.causes;
      calm = answer.say_faults ∙ c.self.invariant.calm;
    }
