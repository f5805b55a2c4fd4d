-- What a replay at its beginning wants is wanted where all slots are read, and nothing where not.
use Rattle.std.proofs.Common.{◌++◌, append-nil, sym, ap, ◌∙◌}
use Rattle.recovery_demon.specs.Inside.{IsTied}
use Rattle.log_slots.specs.Reading.{are_all_read}
use Rattle.recovery_demon.proofs.Seen.{no_wants, seen_wants}
use Rattle.recovery_demon.proofs.Tied.{begun_as}
use Rattle.recovery_demon.proofs.demon.Demon.push_unread_replay.Goals as goal

pub returns-in_ok-push_replay : goal.returns-in_ok-push_replay
returns-in_ok-push_replay c =
    let i = c.self.inside in
    let value = c.args.self.now in
    let r = c.in_ok-replay.replay.replay in
    let tied : IsTied i.dead.0 i.segments i.slots.entries r = record { opened = c.in_ok-replay.ensures.opened; read = sym c.are_all_read.ensures ∙ c.if-are_all_read.true; kept = c.in_ok-replay.ensures.kept } in
    c.in_ok-push_replay.ensures
    ∙ ap (λ wants. c.args.list.now.items ++ wants)
    (seen_wants i.dead.0 i.segments i.slots.entries r tied ∙ begun_as i.dead.0 i.segments i.slots i.replay value r c.self.view_is c.requires.looked c.requires.written c.requires.issued c.in_ok-replay.ensures.begun)

pub returns-else-are_all_read : goal.returns-else-are_all_read
returns-else-are_all_read c =
    let value = c.args.self.now in
    let unread = ap (λ d. are_all_read d.recovery.slots) (sym c.self.view_is) ∙ sym c.are_all_read.ensures ∙ c.if-are_all_read.false in
    sym (ap (λ wants. c.args.list.now.items ++ wants) (no_wants value.segments value.recovery unread value.issued c.requires.looked) ∙ append-nil c.args.list.now.items)
