-- A write that is lost is wanted again.
use Rattle.std.proofs.Common.{◌≡◌, is_some, ap, ◌∙◌}
use Rattle.frang_base.proofs.Tests.{some_there}
use Rattle.sector_bytes.specs.SectorMaps.{value_at, without}
use Rattle.recovery_demon.specs.Replays.{write_lost}
use Rattle.recovery_demon.proofs.Stepping.{lost_flies, lost_seen, lost_tied}
use Rattle.recovery_demon.proofs.Tied.{if_at, seen_as, tied_some}
use Rattle.recovery_demon.proofs.demon.Demon.lost.Goals as goal

pub invariant_of-self : goal.invariant_of-self
invariant_of-self c =
    let i = c.self.inside in
    let s = c.args.sector.0 in
    let k = c.in-Some.replay in
    let value = c.args.self.now in
    let tied = tied_some i.dead.0 i.segments i.slots.entries i.replay k c.self.invariant c.in-Some.is in
    let seen = seen_as i.dead.0 i.segments i.slots i.replay k value c.in-Some.is c.self.view_is in
    let there = some_there (value_at k.replay.flying s) (ap (λ d. is_some (value_at d.issued s)) seen ∙ c.requires.issued) in
    let is = if_at (λ block. c.lost.new.self.replay ≡ write_lost s block k.replay) (value_at k.replay.flying s) there.0 there.1 c.lost.ensures.is in
    lost_tied i.dead.0 i.segments i.slots k c.lost.new.self s tied there.0 is c.lost.ensures.kept

pub returns-clause-recovery : goal.returns-clause-recovery
returns-clause-recovery c =
    let i = c.self.inside in
    let s = c.args.sector.0 in
    let k = c.in-Some.replay in
    let value = c.args.self.now in
    let tied = tied_some i.dead.0 i.segments i.slots.entries i.replay k c.self.invariant c.in-Some.is in
    let seen = seen_as i.dead.0 i.segments i.slots i.replay k value c.in-Some.is c.self.view_is in
    let there = some_there (value_at k.replay.flying s) (ap (λ d. is_some (value_at d.issued s)) seen ∙ c.requires.issued) in
    let is = if_at (λ block. c.lost.new.self.replay ≡ write_lost s block k.replay) (value_at k.replay.flying s) there.0 there.1 c.lost.ensures.is in
    lost_seen i.dead.0 i.segments i.slots k c.lost.new.self s tied there.0 is ∙ ap (λ d. d.recovery) seen

pub returns-clause-issued : goal.returns-clause-issued
returns-clause-issued c =
    let i = c.self.inside in
    let s = c.args.sector.0 in
    let k = c.in-Some.replay in
    let value = c.args.self.now in
    let tied = tied_some i.dead.0 i.segments i.slots.entries i.replay k c.self.invariant c.in-Some.is in
    let seen = seen_as i.dead.0 i.segments i.slots i.replay k value c.in-Some.is c.self.view_is in
    let there = some_there (value_at k.replay.flying s) (ap (λ d. is_some (value_at d.issued s)) seen ∙ c.requires.issued) in
    let is = if_at (λ block. c.lost.new.self.replay ≡ write_lost s block k.replay) (value_at k.replay.flying s) there.0 there.1 c.lost.ensures.is in
    lost_flies i.dead.0 i.segments i.slots k c.lost.new.self s tied there.0 is ∙ ap (λ d. without d.issued s) seen
