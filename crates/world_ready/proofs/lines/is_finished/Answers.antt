-- The stage that is read is the core's.
use Rattle.std.proofs.Common.{◌≡◌, Option, Some, ap, subst, ◌∙◌}
use Rattle.core_definitions.specs.Cores.{stage}
use Rattle.core_definitions.specs.Lines.{Stage}
use Rattle.kept_plans.specs.declared.kept.KeptPlan.{KeptPlan}
use Rattle.line_stages.specs.Stages.{Finishes, IsStage}
use Rattle.line_stages.specs.declared.stage.Stage.{Stage as CodeStage}
use Rattle.line_stages.specs.declared.stage.Stage.TheVariants.{Finishing}
use Rattle.world_parties.specs.States.{State as Parties}
use Rattle.world_state.specs.States.{core_at}
use Rattle.world_ready.proofs.Staged.{IsGot, has_plan, stage_as_read}
use Rattle.world_ready.proofs.lines.is_finished.Goals as goal

pub returns-in-Some-Finishing : goal.returns-in-Some-Finishing
returns-in-Some-Finishing c = λ yes.
    let s = c.args.world.now in
    let a = c.args.a.0 in
    let party = c.get-party.result.now in
    let P : Parties → Type 0 = λ parties. IsGot parties a party in
    let got : IsGot s.parties a party = subst P c.parties.ensures (record { server = c.get-party.ensures.server; number = c.get-party.ensures.id; there = c.get-party.ensures.party; plan = c.get-party.ensures.plan }) in
    let code : c.stage_of.result ≡ Some Finishing = c.in-Some-Finishing.is ∙ ap (λ (at : CodeStage). Some at) c.in-Some-Finishing.field-0-is in
    let Is : Option Stage → Type 0 = λ at. IsStage party.plan party.server.server c.stage_of.result at in
    let R : Option CodeStage → Type 0 = λ read. IsStage party.plan party.server.server read (stage (core_at s) a) in
    let Q : Option KeptPlan → Type 0 = λ plan. Finishes plan (stage (core_at s) a) in
    subst Q got.plan
    (subst R code (stage_as_read s a party c.locks.result.now got c.locks.ensures Is c.is_over-over.ensures.kept (λ wants. has_plan s a party got c.requires.room) (c.stage_of.ensures.is (core_at s).setting)))
