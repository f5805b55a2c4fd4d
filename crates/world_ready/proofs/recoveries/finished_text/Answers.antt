-- Of the recovery that the party carries out, which is through.
use Rattle.std.proofs.Common.{◌≡◌, ℕ, List, refl, sym, ap, ◌∙◌}
use Rattle.std.specs.Option.{option_copied}
use Rattle.core_definitions.specs.Effects.{id_of}
use Rattle.core_definitions.specs.Events.{Finish}
use Rattle.frang_base.specs.declared.said.Said.TheVariants as said
use Rattle.hall_runs.specs.Asking.{Asks}
use Rattle.hall_runs.specs.declared.event.Call.TheVariants as call
use Rattle.recovery_demon.specs.Recovering.{greatest_kept}
use Rattle.tree_definitions.specs.SaidLines.{said_line}
use Rattle.world_parties.specs.States.{State as Parties, recovery_in, servers_at}
use Rattle.world_state.specs.States.{core_at}
use Rattle.world_ready.proofs.RecoveryReady.{has_read_there, says_recovered_there}
use Rattle.world_ready.proofs.Results.{if_ok}
use Rattle.world_ready.proofs.recoveries.finished_text.Goals as goal

pub recovered_text-requires-clause-read : goal.recovered_text-requires-clause-read
recovered_text-requires-clause-read c =
    let s = c.args.world.now in
    has_read_there (core_at s) c.args.by c.requires.may c.in-Some.demon.now.recovery refl
    (ap (λ o. recovery_in (option_copied o)) (sym c.in-Some.is) ∙ c.recovery.ensures.core ∙ ap (λ (p : Parties). (servers_at p c.args.by.0).recovery) c.parties.ensures)

pub returns : goal.returns
returns c =
    let s = c.args.world.now in
    let r = c.in-Some.demon.now.recovery in
    let Was : List ℕ → Type 0 = λ text. text ≡ said_line (said.Recovered (id_of r.dead) (record { 0 = greatest_kept r })) in
    let Is : List ℕ → Type 0 = λ text. Asks (core_at s) (Finish c.args.by.0) (call.Say text) in
    if_ok Was Is c.recovered_text.result
    (λ text is. says_recovered_there (core_at s) c.args.by r text refl
    (ap (λ o. recovery_in (option_copied o)) (sym c.in-Some.is) ∙ c.recovery.ensures.core ∙ ap (λ (p : Parties). (servers_at p c.args.by.0).recovery) c.parties.ensures) is)
    c.recovered_text.ensures
