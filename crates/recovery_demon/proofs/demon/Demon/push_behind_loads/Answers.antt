-- What is kept of the replay is what is wanted.
use Rattle.std.proofs.Common.{◌≡◌, ◌++◌, ap, ◌∙◌, subst}
use Rattle.std.specs.Result.{OnOk}
use Rattle.recovery_demon.specs.Recovering.{behind_loads}
use Rattle.recovery_demon.proofs.Seen.{seen_wants}
use Rattle.recovery_demon.proofs.Tied.{seen_as, tied_some}
use Rattle.recovery_demon.proofs.demon.Demon.push_behind_loads.Goals as goal

pub returns-in-Some : goal.returns-in-Some
returns-in-Some c =
    let i = c.self.inside in
    let k = c.in-Some.replay in
    let tied = tied_some i.dead.0 i.segments i.slots.entries i.replay k c.self.invariant c.in-Some.is in
    let seen = seen_as i.dead.0 i.segments i.slots i.replay k c.args.self.now c.in-Some.is c.self.view_is in
    subst (λ wants. OnOk c.push_replay.result (c.push_replay.new.list.items ≡ c.args.list.now.items ++ wants))
    (seen_wants i.dead.0 i.segments i.slots.entries k.replay tied ∙ ap (λ d. behind_loads d.segments d.recovery d.issued) seen) c.push_replay.ensures
