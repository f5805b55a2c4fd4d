-- A write that was found may be issued, and there is room for it.
use Rattle.std.proofs.Common.{subst}
use Rattle.world_ready.specs.Making.{MayWrite}
use Rattle.world_state.specs.States.{core_at}
use Rattle.world_ready.proofs.WriteReady.{issues, issues_not}
use Rattle.world_ready.proofs.writes.ready_write.Goals as goal

pub ready_issue-requires : goal.ready_issue-requires
ready_issue-requires c = (subst (MayWrite (core_at c.args.world.now) c.args.by.0 c.args.sector.0) c.in-Some.is c.requires).0.issuable.who

pub returns-in_ok-ready_issue-in-Some-clause-made : goal.returns-in_ok-ready_issue-in-Some-clause-made
returns-in_ok-ready_issue-in-Some-clause-made c =
    issues (core_at c.args.world.now) c.ready_issue.new.self c.args.by c.args.sector c.in-Some.write (subst (MayWrite (core_at c.args.world.now) c.args.by.0 c.args.sector.0) c.in-Some.is c.requires)
    c.in_ok-ready_issue-in-Some.ensures.ok

pub returns-in-None-clause-made : goal.returns-in-None-clause-made
returns-in-None-clause-made c =
    issues_not (core_at c.args.world.now) c.args.world.now c.args.by c.args.sector (subst (MayWrite (core_at c.args.world.now) c.args.by.0 c.args.sector.0) c.in-None.is c.requires)
