-- All is done where the replay is over.
use Rattle.std.proofs.Common.{sym, ap, ◌∙◌}
use Rattle.recovery_demon.specs.Recovering.{is_all_done}
use Rattle.recovery_demon.proofs.Seen.{not_done, seen_done}
use Rattle.recovery_demon.proofs.Tied.{seen_as, tied_some, young}
use Rattle.recovery_demon.proofs.demon.Demon.is_done.Goals as goal

pub returns-in-Some : goal.returns-in-Some
returns-in-Some c =
    let i = c.self.inside in
    let tied = tied_some i.dead.0 i.segments i.slots.entries i.replay c.in-Some.replay c.self.invariant c.in-Some.is in
    let seen = seen_as i.dead.0 i.segments i.slots i.replay c.in-Some.replay c.args.self.now c.in-Some.is c.self.view_is in
    c.is_over.ensures ∙ seen_done i.dead.0 i.segments i.slots.entries c.in-Some.replay.replay tied ∙ ap (λ d. is_all_done d.segments d.recovery) seen

pub returns-in-None : goal.returns-in-None
returns-in-None c =
    let i = c.self.inside in
    let is = young i.dead.0 i.segments i.slots i.replay c.args.self.now c.in-None.is c.self.view_is c.requires in
    sym (not_done c.args.self.now.segments c.args.self.now.recovery is.unread)
