-- The slots that the recovery has not read are those of the core.
use Rattle.std.proofs.Common.{◌≡◌, Some, sym, ap, ◌∙◌}
use Rattle.std.specs.Option.{option_copied}
use Rattle.core_definitions.specs.EndGuards.{is_recovery, wants_slot}
use Rattle.world_parties.specs.States.{recovery_in}
use Rattle.world_state.specs.States.{State, core_at}
use Rattle.frang_base.specs.Functions.{member}
use Rattle.world_state.proofs.Recovering.{is_party, unread_is}
use Rattle.world_state.proofs.world.World.is_slot_wanted.Goals as goal

pub recovery-requires : goal.recovery-requires
recovery-requires c = is_party (core_at c.args.self.now) c.args.by.0 c.requires

pub returns-in-Some : goal.returns-in-Some
returns-in-Some c =
    let s : State = record { places = c.self.inside.places; run = c.self.inside.run; tick = c.self.inside.tick; parties = c.self.inside.parties; locks = c.self.inside.locks; flights = c.self.inside.flights; ticks = c.self.inside.ticks; over = c.self.inside.over } in
    let e : Some c.in-Some.demon.now.recovery ≡ ((core_at s).servers c.args.by.0).recovery =
    ap (λ o. recovery_in (option_copied o)) (sym c.in-Some.is) ∙ c.recovery.ensures.core in
    c.wants_load.ensures ∙ ap (member c.args.slot) (unread_is c.in-Some.demon.now.recovery.slots) ∙ ap (is_recovery (wants_slot (core_at s) c.args.slot)) e
    ∙ ap (λ (s : State). is_recovery (wants_slot (core_at s) c.args.slot) ((core_at s).servers c.args.by.0).recovery) c.self.view_is
