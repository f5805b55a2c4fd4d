-- By the guard, the write that is found.
use Rattle.std.proofs.Common.{◌∙◌}
use Rattle.core_definitions.specs.Cores.{writes}
use Rattle.core_definitions.specs.WriteGuards.{may_issue}
use Rattle.server_issues.specs.Issuing.{issuable_write}
use Rattle.world_state.specs.States.{core_at}
use Rattle.world_ready.proofs.Asked.{of_world}
use Rattle.world_ready.proofs.Issues.{may_not_write, may_write}
use Rattle.world_ready.proofs.writes.server_write.Goals as goal

pub returns-then-may_issue : goal.returns-then-may_issue
returns-then-may_issue c =
    let s = c.args.world.now in
    let a = c.args.a.0 in
    let sector = c.args.sector.0 in
    may_write (core_at s) a sector c.may_issue.result c.write.result
    (c.may_issue.ensures ∙ of_world c.new-asking.result s a (λ d n. may_issue d n sector (writes d n)) c.new-asking.ensures.world c.new-asking.ensures.number)
    (c.write.ensures ∙ of_world c.new-asking.result s a (λ d n. issuable_write d n sector) c.new-asking.ensures.world c.new-asking.ensures.number)
    c.if-may_issue.true

pub returns-else-may_issue : goal.returns-else-may_issue
returns-else-may_issue c =
    let s = c.args.world.now in
    let a = c.args.a.0 in
    let sector = c.args.sector.0 in
    may_not_write (core_at s) a sector c.may_issue.result
    (c.may_issue.ensures ∙ of_world c.new-asking.result s a (λ d n. may_issue d n sector (writes d n)) c.new-asking.ensures.world c.new-asking.ensures.number)
    c.if-may_issue.false
