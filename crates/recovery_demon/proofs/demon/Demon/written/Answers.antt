-- A write that is acknowledged is the recovery's.
use Rattle.std.proofs.Common.{ap, ◌∙◌}
use Rattle.sector_bytes.specs.SectorMaps.{without}
use Rattle.core_definitions.specs.WriteEffects.{acknowledged_for}
use Rattle.recovery_demon.proofs.Stepping.{written_flies, written_seen, written_tied}
use Rattle.recovery_demon.proofs.Tied.{seen_as, tied_some}
use Rattle.recovery_demon.proofs.demon.Demon.written.Goals as goal

pub invariant_of-self : goal.invariant_of-self
invariant_of-self c =
    let i = c.self.inside in
    let s = c.args.sector.0 in
    let k = c.in-Some.replay in
    let value = c.args.self.now in
    let tied = tied_some i.dead.0 i.segments i.slots.entries i.replay k c.self.invariant c.in-Some.is in
    let seen = seen_as i.dead.0 i.segments i.slots i.replay k value c.in-Some.is c.self.view_is in
    written_tied i.dead.0 i.segments i.slots k c.written.new.self s tied c.written.ensures.is c.written.ensures.kept

pub returns-clause-recovery : goal.returns-clause-recovery
returns-clause-recovery c =
    let i = c.self.inside in
    let s = c.args.sector.0 in
    let k = c.in-Some.replay in
    let value = c.args.self.now in
    let tied = tied_some i.dead.0 i.segments i.slots.entries i.replay k c.self.invariant c.in-Some.is in
    let seen = seen_as i.dead.0 i.segments i.slots i.replay k value c.in-Some.is c.self.view_is in
    written_seen i.dead.0 i.segments i.slots k c.written.new.self s tied c.written.ensures.is ∙ ap (λ d. acknowledged_for s d.recovery) seen

pub returns-clause-issued : goal.returns-clause-issued
returns-clause-issued c =
    let i = c.self.inside in
    let s = c.args.sector.0 in
    let k = c.in-Some.replay in
    let value = c.args.self.now in
    let tied = tied_some i.dead.0 i.segments i.slots.entries i.replay k c.self.invariant c.in-Some.is in
    let seen = seen_as i.dead.0 i.segments i.slots i.replay k value c.in-Some.is c.self.view_is in
    written_flies i.dead.0 i.segments i.slots k c.written.new.self s tied c.written.ensures.is ∙ ap (λ d. without d.issued s) seen
