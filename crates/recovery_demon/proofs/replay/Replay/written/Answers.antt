-- What is kept stays true of the replay after an acknowledgement.
use Rattle.std.proofs.Common.{sym, ap, ◌∙◌, subst}
use Rattle.std.specs.Prelude.{is_some}
use Rattle.frang_base.proofs.Tests.{some_there}
use Rattle.sector_bytes.specs.SectorMaps.{value_at}
use Rattle.recovery_demon.specs.Fields.{replaying_of}
use Rattle.recovery_demon.specs.Replays.{IsKept, write_acknowledged}
use Rattle.recovery_demon.proofs.Changing.{written_nearly}
use Rattle.recovery_demon.proofs.GoingOn.{advanced_kept}
use Rattle.recovery_demon.proofs.Parts.{acknowledged_is}
use Rattle.recovery_demon.proofs.replay.Replay.written.Goals as goal

pub invariant_of-self : goal.invariant_of-self
invariant_of-self c =
    let r = replaying_of c.self.inside in
    let s = c.args.sector.0 in
    let there = some_there (value_at r.flying s) (ap (λ kept. is_some (value_at kept.replay.flying s)) c.self.view_is ∙ c.requires.issued) in
    let course = c.advance.new.course in
    subst IsKept
    (sym (acknowledged_is r s c.remove.new.self.entries c.push_front_reserved.new.self.items course.stage course.waiting.entries course.later.entries course.first.entries c.remove.ensures.entries
    c.push_front_reserved.ensures.items
    (record { stage = c.advance.ensures.stage; waiting = c.advance.ensures.waiting; later = c.advance.ensures.later; first = c.advance.ensures.first })))
    (advanced_kept (write_acknowledged s r) (written_nearly r c.self.invariant s there.0 there.1))

pub returns-clause-kept : goal.returns-clause-kept
returns-clause-kept c =
    let r = replaying_of c.self.inside in
    let s = c.args.sector.0 in
    let there = some_there (value_at r.flying s) (ap (λ kept. is_some (value_at kept.replay.flying s)) c.self.view_is ∙ c.requires.issued) in
    let course = c.advance.new.course in
    subst IsKept
    (sym (acknowledged_is r s c.remove.new.self.entries c.push_front_reserved.new.self.items course.stage course.waiting.entries course.later.entries course.first.entries c.remove.ensures.entries
    c.push_front_reserved.ensures.items
    (record { stage = c.advance.ensures.stage; waiting = c.advance.ensures.waiting; later = c.advance.ensures.later; first = c.advance.ensures.first })))
    (advanced_kept (write_acknowledged s r) (written_nearly r c.self.invariant s there.0 there.1))
