-- What one kind finds may happen, and where the last finds nothing, none did.
use Rattle.std.proofs.Common.{ℕ, Option, Some, subst}
use Rattle.core_definitions.specs.Cores.{Core}
use Rattle.hall_runs.specs.declared.event.Event.{Event}
use Rattle.world_next.specs.NoEvents.{NoneOfDeath, NoneOfLease, NoneOfLine, NoneOfLocks, NoneOfRecovery, NoneOfServer, NoneOfWrites}
use Rattle.world_next.specs.Over.{core_over}
use Rattle.world_next.specs.Picking.{PicksOf}
use Rattle.world_next.proofs.Joined.{picks_more, picks_same}
use Rattle.world_next.proofs.servers.server_event.Goals as goal

pub returns-in-Some : goal.returns-in-Some
returns-in-Some c = λ tree.
    picks_same c.new-asking.result.world c.args.world.now c.new-asking.result.number c.args.a.0 NoneOfLine (Some c.in-Some.event) c.new-asking.ensures.world c.new-asking.ensures.number c.in-Some.ensures tree

pub returns-in-Some-death_event : goal.returns-in-Some-death_event
returns-in-Some-death_event c = λ tree.
    picks_same c.new-asking.result.world c.args.world.now c.new-asking.result.number c.args.a.0 NoneOfDeath (Some c.in-Some-death_event.event) c.new-asking.ensures.world c.new-asking.ensures.number c.in-Some-death_event.ensures tree

pub returns-in-Some-write_event : goal.returns-in-Some-write_event
returns-in-Some-write_event c = λ tree.
    picks_same c.new-asking.result.world c.args.world.now c.new-asking.result.number c.args.a.0 NoneOfWrites (Some c.in-Some-write_event.event) c.new-asking.ensures.world c.new-asking.ensures.number c.in-Some-write_event.ensures tree

pub returns-in-Some-lock_event : goal.returns-in-Some-lock_event
returns-in-Some-lock_event c = λ tree.
    picks_same c.new-asking.result.world c.args.world.now c.new-asking.result.number c.args.a.0 NoneOfLocks (Some c.in-Some-lock_event.event) c.new-asking.ensures.world c.new-asking.ensures.number c.in-Some-lock_event.ensures tree

pub returns : goal.returns
returns c = λ tree.
    let s = c.args.world.now in
    let a = c.args.a.0 in
    let core : Core = core_over s tree in
    let asked : (NoneIs : Core → ℕ → Type 0) (result : Option Event) → PicksOf c.new-asking.result.world (λ d. NoneIs d c.new-asking.result.number) result → PicksOf s (λ d. NoneIs d a) result =
    λ NoneIs result. picks_same c.new-asking.result.world s c.new-asking.result.number a NoneIs result c.new-asking.ensures.world c.new-asking.ensures.number in
    picks_more core (λ d. NoneOfRecovery d a) (λ d. NoneOfServer d a) c.recovery_event.result
    (λ recovery. record {
      line = subst (PicksOf s (λ d. NoneOfLine d a)) c.in_default.is (asked NoneOfLine c.line_event.result c.line_event.ensures) tree;
      death = subst (PicksOf s (λ d. NoneOfDeath d a)) c.in_default-death_event.is (asked NoneOfDeath c.death_event.result c.death_event.ensures) tree;
      writes = subst (PicksOf s (λ d. NoneOfWrites d a)) c.in_default-write_event.is (asked NoneOfWrites c.write_event.result c.write_event.ensures) tree;
      locks = subst (PicksOf s (λ d. NoneOfLocks d a)) c.in_default-lock_event.is (asked NoneOfLocks c.lock_event.result c.lock_event.ensures) tree;
      lease = subst (PicksOf s (λ d. NoneOfLease d a)) c.in_default-lease_event.is c.lease_event.ensures tree;
      recovery = recovery;
    })
    (c.recovery_event.ensures tree)
