-- The log is taken, and the recovery begins.
use Rattle.std.proofs.Common.{◌<◌, Some, sym, subst, ap, ◌∙◌}
use Rattle.frang_base.specs.declared.limits.TheConstants.{SERVERS}
use Rattle.core_definitions.specs.Cores.{expiry_of}
use Rattle.core_definitions.specs.EndEffects.{recovering}
use Rattle.world_state.specs.States.{State, core_at}
use Rattle.world_state.proofs.Recovering.{is_party, none_ascend, recover_other, recover_server, recover_works, recovering_is}
use Rattle.world_state.proofs.Lasting.{parties_last}
use Rattle.sector_bytes.specs.SectorMaps.{Ascend}
use Rattle.world_state.proofs.world.World.recover.Goals as goal

pub expiry-until-requires : goal.expiry-until-requires
expiry-until-requires c = recover_works (core_at c.args.self.now) c.args.dead.0 c.args.by.0 c.requires.may

pub set_recovery-requires-clause-party : goal.set_recovery-requires-clause-party
set_recovery-requires-clause-party c = is_party (core_at c.args.self.now) c.args.by.0 (recover_works (core_at c.args.self.now) c.args.dead.0 c.args.by.0 c.requires.may)

pub set_recovery-requires-clause-fits : goal.set_recovery-requires-clause-fits
set_recovery-requires-clause-fits c =
    let is = ap (λ r. r.dead) c.requires.demon in
    record {
      disk = c.requires.disk ∙ ap (λ (s : State). s.parties.segments) (sym c.self.view_is);
      server = subst (λ n. n < SERVERS) (sym is) (recover_server (core_at c.args.self.now) c.args.dead.0 c.args.by.0 c.requires.may);
      other = λ e. recover_other (core_at c.args.self.now) c.args.dead.0 c.args.by.0 c.requires.may (sym is ∙ e);
      issued = subst Ascend (sym c.requires.issued) none_ascend;
    }

pub invariant_of-self : goal.invariant_of-self
invariant_of-self c =
    let s : State = record { places = c.self.inside.places; run = c.self.inside.run; tick = c.self.inside.tick; parties = c.self.inside.parties; locks = c.self.inside.locks; flights = c.self.inside.flights; ticks = c.self.inside.ticks; over = c.self.inside.over } in
    parties_last s c.set_recovery.new.self c.take_log.new.self c.self.invariant (c.set_recovery.ensures.keeps c.requires.issued) c.set_recovery.ensures.becomes.stays.segments

pub returns : goal.returns
returns c =
    let s : State = record { places = c.self.inside.places; run = c.self.inside.run; tick = c.self.inside.tick; parties = c.self.inside.parties; locks = c.self.inside.locks; flights = c.self.inside.flights; ticks = c.self.inside.ticks; over = c.self.inside.over } in
    recovering_is s c.set_recovery.new.self c.take_log.new.self c.args.dead.0 c.args.by.0 c.expiry-until.result (Some c.args.demon.recovery) c.set_recovery.ensures.becomes (ap Some c.requires.demon) c.take_log.ensures.after
    (c.expiry-until.ensures ∙ ap (λ (s : State). expiry_of (core_at s) c.args.by.0) (sym c.self.view_is))
    ∙ ap (λ (s : State). recovering (core_at s) c.args.dead.0 c.args.by.0) c.self.view_is
