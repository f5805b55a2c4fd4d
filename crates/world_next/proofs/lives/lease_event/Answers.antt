-- By the two guards.
use Rattle.std.proofs.Common.{sym, ◌∙◌}
use Rattle.core_definitions.specs.Cores.{Core}
use Rattle.core_laws.proofs.Guarding.{renew_can, resume_can}
use Rattle.world_next.specs.Over.{core_over}
use Rattle.world_next.proofs.Living.{renews_not, resumes_not}
use Rattle.world_next.proofs.lives.lease_event.Goals as goal

pub returns-then-may_renew : goal.returns-then-may_renew
returns-then-may_renew c = λ tree. renew_can (core_over c.args.world.now tree) c.args.a.0 (sym c.may_renew.ensures ∙ c.if-may_renew.true)

pub returns-then-may_resume : goal.returns-then-may_resume
returns-then-may_resume c = λ tree. resume_can (core_over c.args.world.now tree) c.args.a.0 (sym c.may_resume.ensures ∙ c.if-may_resume.true)

pub returns : goal.returns
returns c = λ tree.
    let core : Core = core_over c.args.world.now tree in
    record {
      renew = renews_not core c.args.a.0 (sym c.may_renew.ensures ∙ c.if-may_renew.false);
      resume = resumes_not core c.args.a.0 (sym c.may_resume.ensures ∙ c.if-may_resume.false);
    }
