-- What is kept stays true of the replay after a look.
use Rattle.std.proofs.Common.{sym, ap, ◌∙◌, subst}
use Rattle.std.specs.Prelude.{is_some}
use Rattle.sector_bytes.specs.SectorMaps.{value_at}
use Rattle.recovery_demon.specs.Fields.{replaying_of}
use Rattle.recovery_demon.specs.Replays.{IsKept, look_made}
use Rattle.recovery_demon.proofs.Changing.{look_nearly}
use Rattle.recovery_demon.proofs.GoingOn.{advanced_kept}
use Rattle.recovery_demon.proofs.Parts.{looked_is}
use Rattle.recovery_demon.proofs.replay.Replay.looked.Goals as goal

pub invariant_of-self : goal.invariant_of-self
invariant_of-self c =
    let r = replaying_of c.self.inside in
    let s = c.args.sector.0 in
    let wanted = c.wanted_block-wanted.result in
    let there = ap (λ kept. is_some (value_at kept.replay.looks s)) c.self.view_is ∙ c.requires.wanted in
    let course = c.advance.new.course in
    subst IsKept
    (sym (looked_is r s wanted c.remove.new.self.entries c.put.new.self.entries c.put_wanted.new.waiting.entries course.stage course.waiting.entries course.later.entries course.first.entries
    c.remove.ensures.entries c.put.ensures.entries c.put_wanted.ensures
    (record { stage = c.advance.ensures.stage; waiting = c.advance.ensures.waiting; later = c.advance.ensures.later; first = c.advance.ensures.first })))
    (advanced_kept (look_made s wanted r) (look_nearly r c.self.invariant s wanted there))

pub returns-clause-kept : goal.returns-clause-kept
returns-clause-kept c =
    let r = replaying_of c.self.inside in
    let s = c.args.sector.0 in
    let wanted = c.wanted_block-wanted.result in
    let there = ap (λ kept. is_some (value_at kept.replay.looks s)) c.self.view_is ∙ c.requires.wanted in
    let course = c.advance.new.course in
    subst IsKept
    (sym (looked_is r s wanted c.remove.new.self.entries c.put.new.self.entries c.put_wanted.new.waiting.entries course.stage course.waiting.entries course.later.entries course.first.entries
    c.remove.ensures.entries c.put.ensures.entries c.put_wanted.ensures
    (record { stage = c.advance.ensures.stage; waiting = c.advance.ensures.waiting; later = c.advance.ensures.later; first = c.advance.ensures.first })))
    (advanced_kept (look_made s wanted r) (look_nearly r c.self.invariant s wanted there))
