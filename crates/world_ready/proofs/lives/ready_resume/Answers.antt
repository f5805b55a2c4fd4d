-- By the guard, with its line.
use Rattle.std.proofs.Common.{sym, ◌∙◌}
use Rattle.world_ready.proofs.LifeReady.{resumes, resumes_not}
use Rattle.world_ready.proofs.lives.ready_resume.Goals as goal

pub returns-then-not-may_resume : goal.returns-then-not-may_resume
returns-then-not-may_resume c = resumes_not c.args.world.now c.args.a (sym c.may_resume.ensures ∙ c.if-not-may_resume.true)

pub returns : goal.returns
returns c = resumes c.args.world.now c.args.a c.in_ok-text.text (sym c.may_resume.ensures ∙ c.if-not-may_resume.false) c.in_ok-text.ensures
