-- A look that is made is the recovery's.
use Rattle.std.proofs.Common.{sym, ap, ◌∙◌}
use Rattle.std.proofs.lemmas.Bool.{false≢true}
use Rattle.frang_base.specs.Functions.{member}
use Rattle.sector_bytes.specs.SectorMaps.{with_value}
use Rattle.recovery_demon.specs.Recovering.{wanted_over}
use Rattle.recovery_demon.proofs.Seen.{no_looks}
use Rattle.recovery_demon.proofs.Stepping.{look_there, looked_flies, looked_seen, looked_tied}
use Rattle.recovery_demon.proofs.Tied.{seen_as, tied_some, young_ready}
use Rattle.recovery_demon.proofs.demon.Demon.looked.Goals as goal

pub looked-requires-clause-wanted : goal.looked-requires-clause-wanted
looked-requires-clause-wanted c =
    let i = c.self.inside in
    let s = c.args.sector.0 in
    let k = c.in-Some.replay in
    let value = c.args.self.now in
    let tied = tied_some i.dead.0 i.segments i.slots.entries i.replay k c.self.invariant c.in-Some.is in
    let seen = seen_as i.dead.0 i.segments i.slots i.replay k value c.in-Some.is c.self.view_is in
    look_there i.dead.0 i.segments i.slots k k s tied value.recovery value.segments (sym (ap (λ d. d.recovery) seen)) (sym (ap (λ d. d.segments) seen)) c.requires.wanted

pub unreachable-requires : goal.unreachable-requires
unreachable-requires c =
    let i = c.self.inside in
    let value = c.args.self.now in
    let is = young_ready i.dead.0 i.segments i.slots i.replay value c.in-None.is c.self.view_is c.requires.ready in
    absurd (false≢true (ap (member c.args.sector.0) (sym (no_looks value.segments value.recovery is.unread)) ∙ c.requires.wanted))

pub invariant_of-self : goal.invariant_of-self
invariant_of-self c =
    let i = c.self.inside in
    let s = c.args.sector.0 in
    let k = c.in-Some.replay in
    let value = c.args.self.now in
    let tied = tied_some i.dead.0 i.segments i.slots.entries i.replay k c.self.invariant c.in-Some.is in
    let seen = seen_as i.dead.0 i.segments i.slots i.replay k value c.in-Some.is c.self.view_is in
    looked_tied i.dead.0 i.segments i.slots k c.looked.new.self s tied c.args.block.now c.looked.ensures.is c.looked.ensures.kept

pub returns-clause-recovery : goal.returns-clause-recovery
returns-clause-recovery c =
    let i = c.self.inside in
    let s = c.args.sector.0 in
    let k = c.in-Some.replay in
    let value = c.args.self.now in
    let tied = tied_some i.dead.0 i.segments i.slots.entries i.replay k c.self.invariant c.in-Some.is in
    let seen = seen_as i.dead.0 i.segments i.slots i.replay k value c.in-Some.is c.self.view_is in
    looked_seen i.dead.0 i.segments i.slots k c.looked.new.self s tied c.args.block.now c.looked.ensures.is
    ∙ ap (λ d. record d.recovery { looked = with_value d.recovery.looked s (wanted_over d.recovery s c.args.block.now) }) seen

pub returns-clause-issued : goal.returns-clause-issued
returns-clause-issued c =
    let i = c.self.inside in
    let s = c.args.sector.0 in
    let k = c.in-Some.replay in
    let value = c.args.self.now in
    let tied = tied_some i.dead.0 i.segments i.slots.entries i.replay k c.self.invariant c.in-Some.is in
    let seen = seen_as i.dead.0 i.segments i.slots i.replay k value c.in-Some.is c.self.view_is in
    looked_flies i.dead.0 i.segments i.slots k c.looked.new.self s tied c.args.block.now c.looked.ensures.is ∙ ap (λ d. d.issued) seen
