-- A wanted write is issued.
use Rattle.std.proofs.Common.{◌≡◌, is_some, sym, ap, ◌∙◌}
use Rattle.std.proofs.lemmas.Bool.{false≢true}
use Rattle.frang_base.proofs.Tests.{some_there}
use Rattle.sector_bytes.specs.SectorMaps.{value_at, with_value}
use Rattle.recovery_demon.specs.Recovering.{writes_wanted}
use Rattle.recovery_demon.specs.Replays.{write_issued}
use Rattle.recovery_demon.proofs.Seen.{no_writes, seen_writes}
use Rattle.recovery_demon.proofs.Stepping.{issued_flies, issued_seen, issued_tied}
use Rattle.recovery_demon.proofs.Tied.{if_at, if_there, seen_as, tied_some, young_ready}
use Rattle.recovery_demon.proofs.demon.Demon.issued.Goals as goal

pub issued-requires-clause-wanted : goal.issued-requires-clause-wanted
issued-requires-clause-wanted c =
    let i = c.self.inside in
    let s = c.args.sector.0 in
    let k = c.in-Some.replay in
    let value = c.args.self.now in
    let tied = tied_some i.dead.0 i.segments i.slots.entries i.replay k c.self.invariant c.in-Some.is in
    let seen = seen_as i.dead.0 i.segments i.slots i.replay k value c.in-Some.is c.self.view_is in
    let wanted = seen_writes i.dead.0 i.segments i.slots.entries k.replay tied s ∙ ap (λ d. value_at (writes_wanted d.segments d.recovery d.issued) s) seen in
    ap is_some wanted ∙ c.requires.wanted

pub unreachable-requires : goal.unreachable-requires
unreachable-requires c =
    let i = c.self.inside in
    let value = c.args.self.now in
    let is = young_ready i.dead.0 i.segments i.slots i.replay value c.in-None.is c.self.view_is c.requires.ready in
    absurd (false≢true (ap (λ writes. is_some (value_at writes c.args.sector.0)) (sym (no_writes value.segments value.recovery is.unread value.issued is.looked)) ∙ c.requires.wanted))

pub invariant_of-self : goal.invariant_of-self
invariant_of-self c =
    let i = c.self.inside in
    let s = c.args.sector.0 in
    let k = c.in-Some.replay in
    let value = c.args.self.now in
    let tied = tied_some i.dead.0 i.segments i.slots.entries i.replay k c.self.invariant c.in-Some.is in
    let seen = seen_as i.dead.0 i.segments i.slots i.replay k value c.in-Some.is c.self.view_is in
    let wanted = seen_writes i.dead.0 i.segments i.slots.entries k.replay tied s ∙ ap (λ d. value_at (writes_wanted d.segments d.recovery d.issued) s) seen in
    let there = some_there (value_at k.replay.waiting s) (ap is_some wanted ∙ c.requires.wanted) in
    let is = if_at (λ block. c.issued.new.self.replay ≡ write_issued s block k.replay) (value_at k.replay.waiting s) there.0 there.1 c.issued.ensures.is in
    issued_tied i.dead.0 i.segments i.slots k c.issued.new.self s tied there.0 is c.issued.ensures.kept

pub returns-clause-recovery : goal.returns-clause-recovery
returns-clause-recovery c =
    let i = c.self.inside in
    let s = c.args.sector.0 in
    let k = c.in-Some.replay in
    let value = c.args.self.now in
    let tied = tied_some i.dead.0 i.segments i.slots.entries i.replay k c.self.invariant c.in-Some.is in
    let seen = seen_as i.dead.0 i.segments i.slots i.replay k value c.in-Some.is c.self.view_is in
    let wanted = seen_writes i.dead.0 i.segments i.slots.entries k.replay tied s ∙ ap (λ d. value_at (writes_wanted d.segments d.recovery d.issued) s) seen in
    let there = some_there (value_at k.replay.waiting s) (ap is_some wanted ∙ c.requires.wanted) in
    let is = if_at (λ block. c.issued.new.self.replay ≡ write_issued s block k.replay) (value_at k.replay.waiting s) there.0 there.1 c.issued.ensures.is in
    issued_seen i.dead.0 i.segments i.slots k c.issued.new.self s tied there.0 is ∙ ap (λ d. d.recovery) seen

pub returns-clause-issued : goal.returns-clause-issued
returns-clause-issued c =
    let i = c.self.inside in
    let s = c.args.sector.0 in
    let k = c.in-Some.replay in
    let value = c.args.self.now in
    let tied = tied_some i.dead.0 i.segments i.slots.entries i.replay k c.self.invariant c.in-Some.is in
    let seen = seen_as i.dead.0 i.segments i.slots i.replay k value c.in-Some.is c.self.view_is in
    let wanted = seen_writes i.dead.0 i.segments i.slots.entries k.replay tied s ∙ ap (λ d. value_at (writes_wanted d.segments d.recovery d.issued) s) seen in
    let there = some_there (value_at k.replay.waiting s) (ap is_some wanted ∙ c.requires.wanted) in
    let is = if_at (λ block. c.issued.new.self.replay ≡ write_issued s block k.replay) (value_at k.replay.waiting s) there.0 there.1 c.issued.ensures.is in
    if_there (λ block. c.issued.new.self.replay.flying ≡ with_value value.issued s block) (value_at (writes_wanted value.segments value.recovery value.issued) s) there.0 (sym wanted ∙ there.1) (issued_flies i.dead.0 i.segments i.slots k c.issued.new.self s tied there.0 is ∙ ap (λ d. with_value d.issued s there.0) seen)
