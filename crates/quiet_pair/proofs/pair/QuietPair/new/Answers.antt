-- It begins with two copies of zeros.
use Rattle.std.proofs.Common.{◌∙◌, sym, subst}
use Rattle.petal_pair.specs.PairedCopies.{pair_over}
use Rattle.petal_pair.specs.declared.in_use.InUse.TheVariants.{Both}
use Rattle.quiet_outside.specs.KeptLines.{first_quiet, quiet_state}
use Rattle.quiet_pair.specs.Ties.{HasBegun}
use Rattle.quiet_pair.proofs.Giving.{begins}
use Rattle.quiet_pair.proofs.pair.QuietPair.new.Goals as goal

pub returns : goal.returns
returns g c =
    let out = g.O.Outside.state c.args.out in
    let second = g.B.Outside.state c.args.second in
    let fail_at = c.args.fail_at in
    let p = c.new.result in
    let copies = c.new.ensures.copies in
    let first = quiet_state g.O.Outside.state (first_quiet c.args.out fail_at) in
    subst (λ q. HasBegun fail_at out (pair_over (quiet_state g.O.Outside.state q) (g.B.Outside.state p.second) p.in_use p.acts p.faults p.say_faults)) (sym (copies.first_is ∙ c.new-first.ensures.fresh))
    (subst (λ b. HasBegun fail_at out (pair_over first (g.B.Outside.state b) p.in_use p.acts p.faults p.say_faults)) (sym copies.second_is)
    (subst (λ u. HasBegun fail_at out (pair_over first second u p.acts p.faults p.say_faults)) (sym copies.in_use)
    (subst (λ acts. HasBegun fail_at out (pair_over first second Both acts p.faults p.say_faults)) (sym copies.acts)
    (begins g.O.Outside.state c.args.out second fail_at p.say_faults p.faults c.requires.told c.requires.first c.requires.second_told copies.faults copies.say_faults))))
