-- By what ties the first copy to the pair, and by what it gives back.
use Rattle.std.proofs.Common.{sym, subst}
use Rattle.petal_pair.specs.PairedCopies.{pair_over, pair_state}
use Rattle.quiet_outside.specs.KeptLines.{GivesBack, quiet_state}
use Rattle.quiet_pair.specs.Ties.{GivesFirst, IsTied}
use Rattle.quiet_pair.proofs.Giving.{gives_first}
use Rattle.quiet_pair.proofs.pair.QuietPair.parts.Goals as goal

pub returns-clause-gives : goal.returns-clause-gives
returns-clause-gives g c =
    let S = g.O.Outside.state in
    let B = g.B.Outside.state in
    let outset = g.N.Naming.outset in
    let p = c.self.inside.pair in
    let q = c.parts-first.result.0 in
    let below = S c.parts.result.0 in
    let lines = c.parts.result.1.items in
    let first = c.parts-first.ensures.first in
    let tied = subst (λ f. IsTied outset (quiet_state S f) (B p.second) p.in_use p.acts p.faults p.say_faults) (sym first) c.self.invariant in
    let gives = subst (λ o. GivesBack (quiet_state S q) (S o) lines) c.parts.ensures.out c.parts.ensures.gives in
    let given = gives_first S outset q lines c.parts.ensures.kept gives (B p.second) p.in_use p.acts p.faults p.say_faults tied in
    subst (λ s. GivesFirst s.first.fail_at outset below s.in_use (pair_state (quiet_state S) B s) lines) c.self.view_is
    (subst (λ f. GivesFirst f.fail_at outset below p.in_use (pair_over (quiet_state S f) (B p.second) p.in_use p.acts p.faults p.say_faults) lines) first
    (subst (λ o. GivesFirst q.fail_at outset (S o) p.in_use (pair_over (quiet_state S q) (B p.second) p.in_use p.acts p.faults p.say_faults) lines) (sym c.parts.ensures.out) given))
