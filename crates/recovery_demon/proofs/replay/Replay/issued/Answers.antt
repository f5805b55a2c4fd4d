-- What is kept stays true of the replay once a write is issued.
use Rattle.std.proofs.Common.{sym, ap, ◌∙◌, subst, arith}
use Rattle.std.specs.Prelude.{nat_lt}
use Rattle.std.specs.VecDeque.{deque_capacity, deque_len}
use Rattle.recovery_demon.specs.Fields.{replaying_of}
use Rattle.recovery_demon.specs.Replays.{IsKept}
use Rattle.recovery_demon.proofs.Changing.{issued_kept}
use Rattle.recovery_demon.proofs.Tied.{ready_flying}
use Rattle.log_slots.proofs.UnreadSlots.{room_most}
use Rattle.recovery_demon.proofs.replay.Replay.issued.Goals as goal

pub put-requires : goal.put-requires
put-requires c =
    let i = c.self.inside in
    let room = ready_flying (nat_lt 0 i.looked.spare) (nat_lt 0 i.course.waiting.spare) i.flying.spare (nat_lt (deque_len i.written) (deque_capacity i.written)) (ap (λ kept. kept.is_ready) c.self.view_is ∙ c.requires.ready) in
    omega (arith, room, room_most i.flying.entries c.args.sector.0)

pub invariant_of-self : goal.invariant_of-self
invariant_of-self c =
    let r = replaying_of c.self.inside in
    subst IsKept (λ i. record r { waiting = sym c.in-Some.ensures.entries i; flying = sym c.put.ensures.entries i }) (issued_kept r c.self.invariant c.args.sector.0 c.in-Some.block (sym c.in-Some.ensures.before))

pub returns-clause-kept : goal.returns-clause-kept
returns-clause-kept c =
    let r = replaying_of c.self.inside in
    subst IsKept (λ i. record r { waiting = sym c.in-Some.ensures.entries i; flying = sym c.put.ensures.entries i }) (issued_kept r c.self.invariant c.args.sector.0 c.in-Some.block (sym c.in-Some.ensures.before))
