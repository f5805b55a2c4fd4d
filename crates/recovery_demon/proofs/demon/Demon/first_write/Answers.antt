-- The first sector to write is the first of those that wait.
use Rattle.std.proofs.Common.{sym, ap, ◌∙◌}
use Rattle.recovery_demon.specs.Recovering.{first_sector_from, write_sectors}
use Rattle.recovery_demon.proofs.Seen.{first_keys, no_sectors, seen_sectors}
use Rattle.recovery_demon.proofs.Tied.{seen_as, tied_some, young}
use Rattle.recovery_demon.proofs.demon.Demon.first_write.Goals as goal

pub returns-in-Some : goal.returns-in-Some
returns-in-Some c =
    let i = c.self.inside in
    let tied = tied_some i.dead.0 i.segments i.slots.entries i.replay c.in-Some.replay c.self.invariant c.in-Some.is in
    let seen = seen_as i.dead.0 i.segments i.slots i.replay c.in-Some.replay c.args.self.now c.in-Some.is c.self.view_is in
    c.first_write.ensures ∙ first_keys c.in-Some.replay.replay.waiting c.args.from.0 ∙ ap (λ sectors. first_sector_from sectors c.args.from.0) (seen_sectors i.dead.0 i.segments i.slots.entries c.in-Some.replay.replay tied) ∙ ap (λ d. first_sector_from (write_sectors d.segments d.recovery d.issued) c.args.from.0) seen

pub returns-in-None : goal.returns-in-None
returns-in-None c =
    let i = c.self.inside in
    let is = young i.dead.0 i.segments i.slots i.replay c.args.self.now c.in-None.is c.self.view_is c.requires in
    sym (ap (λ sectors. first_sector_from sectors c.args.from.0) (no_sectors c.args.self.now.segments c.args.self.now.recovery is.unread c.args.self.now.issued is.looked))
