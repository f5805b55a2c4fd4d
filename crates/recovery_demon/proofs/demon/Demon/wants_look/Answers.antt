-- A sector is to be looked at where it is kept as one.
use Rattle.std.proofs.Common.{sym, ap, ◌∙◌}
use Rattle.frang_base.specs.Functions.{member}
use Rattle.recovery_demon.specs.Recovering.{looks_wanted}
use Rattle.log_slots.proofs.Maps.{keys_member}
use Rattle.recovery_demon.proofs.Seen.{no_looks, seen_looks}
use Rattle.recovery_demon.proofs.Tied.{seen_as, tied_some, young}
use Rattle.recovery_demon.proofs.demon.Demon.wants_look.Goals as goal

pub returns-in-Some : goal.returns-in-Some
returns-in-Some c =
    let i = c.self.inside in
    let tied = tied_some i.dead.0 i.segments i.slots.entries i.replay c.in-Some.replay c.self.invariant c.in-Some.is in
    let seen = seen_as i.dead.0 i.segments i.slots i.replay c.in-Some.replay c.args.self.now c.in-Some.is c.self.view_is in
    c.is_to_look.ensures ∙ sym (keys_member c.in-Some.replay.replay.looks c.args.sector.0) ∙ ap (member c.args.sector.0) (seen_looks i.dead.0 i.segments i.slots.entries c.in-Some.replay.replay tied) ∙ ap (λ d. member c.args.sector.0 (looks_wanted d.segments d.recovery)) seen

pub returns-in-None : goal.returns-in-None
returns-in-None c =
    let i = c.self.inside in
    let is = young i.dead.0 i.segments i.slots i.replay c.args.self.now c.in-None.is c.self.view_is c.requires in
    sym (ap (member c.args.sector.0) (no_looks c.args.self.now.segments c.args.self.now.recovery is.unread))
