-- A sector that its line needs, under its cover, or else a slot.
use Rattle.std.proofs.Common.{refl, sym, ◌∙◌}
use Rattle.std.proofs.lemmas.Bool.{lt-ltb}
use Rattle.frang_base.specs.declared.limits.TheConstants.{SERVERS}
use Rattle.core_definitions.specs.Cores.{stage}
use Rattle.world_state.specs.States.{core_at}
use Rattle.world_ready.proofs.FetchReady.{fetches_not}
use Rattle.world_ready.proofs.Mounted.{staged_is_up, up_is_on}
use Rattle.world_ready.proofs.Slots.{covered_is_staged, unread_is_off, unread_is_slot}
use Rattle.world_ready.proofs.fetches.ready_fetch.Goals as goal

pub returns-then-not-may_fetch-clause-made : goal.returns-then-not-may_fetch-clause-made
returns-then-not-may_fetch-clause-made c = fetches_not (core_at c.args.world.now) c.args.world.now c.args.a c.args.sector (sym c.may_fetch.ensures ∙ c.if-not-may_fetch.true)

pub ready_sector-requires-clause-can : goal.ready_sector-requires-clause-can
ready_sector-requires-clause-can c = record { server = lt-ltb c.args.a.0 SERVERS c.requires.server; lacks = sym c.may_fetch.ensures ∙ c.if-not-may_fetch.false }

pub ready_sector-requires-clause-on : goal.ready_sector-requires-clause-on
ready_sector-requires-clause-on c =
    let d = core_at c.args.world.now in
    up_is_on (d.servers c.args.a.0).phase (staged_is_up d c.args.a.0 (covered_is_staged (stage d c.args.a.0) c.args.sector.0 (sym c.cover_needed.ensures ∙ c.in-Some.is)))

pub ready_sector-requires-clause-cover : goal.ready_sector-requires-clause-cover
ready_sector-requires-clause-cover c = sym c.cover_needed.ensures ∙ c.in-Some.is

pub ready_slot-requires-clause-can : goal.ready_slot-requires-clause-can
ready_slot-requires-clause-can c = record { server = lt-ltb c.args.a.0 SERVERS c.requires.server; lacks = sym c.may_fetch.ensures ∙ c.if-not-may_fetch.false }

pub ready_slot-requires-clause-off : goal.ready_slot-requires-clause-off
ready_slot-requires-clause-off c = unread_is_off (core_at c.args.world.now) c.args.a.0 c.args.sector.0 (sym c.may_fetch.ensures ∙ c.if-not-may_fetch.false) (sym c.cover_needed.ensures ∙ c.in-None.is)

pub ready_slot-requires-clause-slot : goal.ready_slot-requires-clause-slot
ready_slot-requires-clause-slot c = unread_is_slot (core_at c.args.world.now) c.args.a.0 c.args.sector.0 (sym c.may_fetch.ensures ∙ c.if-not-may_fetch.false) (sym c.cover_needed.ensures ∙ c.in-None.is) refl
