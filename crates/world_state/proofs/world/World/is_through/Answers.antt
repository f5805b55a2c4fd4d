-- The recovery is through exactly where it is for the core.
use Rattle.std.proofs.Common.{◌≡◌, Some, sym, ap, ◌∙◌}
use Rattle.std.specs.Option.{option_copied}
use Rattle.core_definitions.specs.EndGuards.{is_recovery, is_through}
use Rattle.world_parties.specs.States.{IsOfOther, recovery_in}
use Rattle.world_state.specs.States.{State, core_at}
use Rattle.std.proofs.Common.{refl}
use Rattle.recovery_demon.specs.Recovering.{is_all_done}
use Rattle.world_parties.proofs.Recovering.{of_taken}
use Rattle.world_state.proofs.Recovering.{done_is, is_party}
use Rattle.world_state.proofs.world.World.is_through.Goals as goal

pub recovery-requires : goal.recovery-requires
recovery-requires c = is_party (core_at c.args.self.now) c.args.by.0 c.requires.worker

pub returns-in-Some : goal.returns-in-Some
returns-in-Some c =
    let s : State = record { places = c.self.inside.places; run = c.self.inside.run; tick = c.self.inside.tick; parties = c.self.inside.parties; locks = c.self.inside.locks; flights = c.self.inside.flights; ticks = c.self.inside.ticks; over = c.self.inside.over } in
    let e : Some c.in-Some.demon.now.recovery ≡ ((core_at s).servers c.args.by.0).recovery =
    ap (λ o. recovery_in (option_copied o)) (sym c.in-Some.is) ∙ c.recovery.ensures.core in
    let disk : c.in-Some.demon.now.segments ≡ s.parties.segments =
    (of_taken (IsOfOther s.parties.segments c.args.by.0) (option_copied c.recovery.result) (option_copied c.recovery.result) c.in-Some.demon.now refl (ap option_copied c.in-Some.is) c.recovery.ensures.fits).disk in
    c.is_done.ensures ∙ ap (λ n. is_all_done n c.in-Some.demon.now.recovery) disk ∙ done_is s.parties.segments c.in-Some.demon.now.recovery ∙ ap (is_recovery (is_through (core_at s))) e
    ∙ ap (λ (s : State). is_recovery (is_through (core_at s)) ((core_at s).servers c.args.by.0).recovery) c.self.view_is
