-- The stage that was read is the core's.
use Rattle.std.proofs.Common.{◌<◌, IfSome, Option, sym, ap, ◌∙◌, subst}
use Rattle.std.specs.List.{slice_get}
use Rattle.std.proofs.lemmas.Result.{on_ok_weaker}
use Rattle.core_definitions.specs.Cores.{stage}
use Rattle.line_stages.specs.Stages.{IsStage}
use Rattle.world_parties.specs.States.{State as Parties}
use Rattle.world_parties.specs.declared.party.Party.{Party}
use Rattle.world_state.specs.States.{core_at}
use Rattle.world_list.proofs.FetchRows.{needs_added}
use Rattle.world_list.proofs.Staging.{stage_of_server}
use Rattle.world_list.proofs.fetches.push_needs.Goals as goal

pub stage_in-stage-requires : goal.stage_in-stage-requires
stage_in-stage-requires c = subst (λ n. c.args.a.0 < n) (sym c.requires.stages.long) c.requires.server

pub returns : goal.returns
returns c =
    let s = c.args.world.now in
    let a = c.args.a.0 in
    let party = c.get.result.now in
    let Is : Option Party → Type 0 = λ o. IfSome o (λ p. IsStage p.plan p.server.server c.stage_in-stage.result (stage (core_at s) a)) in
    let there = ap (λ (p : Parties). slice_get p.parties a) (sym c.parties.ensures) ∙ c.get.ensures.party in
    on_ok_weaker c.push_needed.result
    (needs_added s a party c.stage_in-stage.result c.args.list.now.items c.push_needed.new.list.items
    (subst Is there (stage_of_server s c.args.stages.now a c.stage_in-stage.result c.requires.stages c.requires.server c.stage_in-stage.ensures)) c.get.ensures.id)
    c.push_needed.ensures
