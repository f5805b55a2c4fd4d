-- By the guard, with room for what the line does.
use Rattle.std.proofs.Common.{◌≡◌, true, sym, ap, subst, ◌∙◌}
use Rattle.core_definitions.specs.Cores.{Core, stage}
use Rattle.core_definitions.specs.LineEffects.{number_under}
use Rattle.core_definitions.specs.LineGuards.{may_commit}
use Rattle.frang_base.specs.declared.said.Said.TheVariants as said
use Rattle.tree_definitions.specs.SaidLines.{said_line}
use Rattle.line_stages.specs.Stages.{Finishes}
use Rattle.world_parties.specs.States.{plan_at}
use Rattle.world_state.specs.States.{core_at}
use Rattle.world_ready.proofs.Asked.{of_world}
use Rattle.world_ready.proofs.LineReady.{commits, commits_mounted, commits_not}
use Rattle.world_ready.proofs.lines.ready_commit.Goals as goal

pub returns-then-not-may_commit-clause-made : goal.returns-then-not-may_commit-clause-made
returns-then-not-may_commit-clause-made c =
    let s = c.args.world.now in
    commits_not (core_at s) s c.args.a (sym (of_world c.new.result s c.args.a.0 (λ d n. may_commit d n (stage d n)) c.new.ensures.world c.new.ensures.number) ∙ sym c.may_commit.ensures ∙ c.if-not-may_commit.true)

pub ready_commit-requires-clause-mounted : goal.ready_commit-requires-clause-mounted
ready_commit-requires-clause-mounted c =
    let s = c.args.world.now in
    commits_mounted (core_at s) c.args.a.0 (sym (of_world c.new.result s c.args.a.0 (λ d n. may_commit d n (stage d n)) c.new.ensures.world c.new.ensures.number) ∙ sym c.may_commit.ensures ∙ c.if-not-may_commit.false)

pub returns-clause-made : goal.returns-clause-made
returns-clause-made c =
    let s = c.args.world.now in
    let new = c.ready_commit.new.self in
    let a = c.args.a.0 in
    let may : may_commit (core_at s) a (stage (core_at s) a) ≡ true =
    sym (of_world c.new.result s a (λ d n. may_commit d n (stage d n)) c.new.ensures.world c.new.ensures.number) ∙ sym c.may_commit.ensures ∙ c.if-not-may_commit.false in
    let P : Core → Type 0 = λ d. Finishes (plan_at new.parties a) (stage d a) in
    commits (core_at s) new c.args.a c.in_ok-text.text may c.in_ok-ready_commit.ensures.ok (subst P c.in_ok-ready_commit.ensures.core (c.is_finished.ensures c.if-not-is_finished.false))
    (λ outcome comes. c.in_ok-text.ensures outcome comes ∙ ap (λ (d : Core). said_line (said.Answer c.args.a (number_under (d.servers a).under) outcome.reply)) c.in_ok-ready_commit.ensures.core)
