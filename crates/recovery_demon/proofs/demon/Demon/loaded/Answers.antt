-- A slot that isn't read is none of a log whose slots are all read.
use Rattle.std.proofs.Common.{sym, ◌∙◌}
use Rattle.std.proofs.lemmas.Bool.{false≢true}
use Rattle.recovery_demon.proofs.Tied.{all_read_in}
use Rattle.log_slots.proofs.UnreadSlots.{none_unread}
use Rattle.recovery_demon.proofs.demon.Demon.loaded.Goals as goal

pub unreachable-requires : goal.unreachable-requires
unreachable-requires c =
    let i = c.self.inside in
    let value = c.args.self.now in
    absurd (false≢true (sym (none_unread value.recovery.slots (all_read_in i.dead.0 i.segments i.slots i.replay c.in-Some.field-0 value c.self.invariant c.in-Some.is c.self.view_is) c.args.slot) ∙ c.requires.wanted))
