-- Each guard as one test: its facts give the test, and the test gives its facts.
use Rattle.std.proofs.Common.{ℕ, Bool, true, false, ◌&&◌, ◌||◌, ◌==◌, not, IsTrue, is_some, nat_le, nat_lt, refl}
use Rattle.std.specs.List.{list_any}
use Rattle.std.proofs.lemmas.Bool.{and_from}
use Rattle.frang_base.specs.declared.lock.LockId.{LockId}
use Rattle.lock_definitions.specs.Calls.{asked_for}
use Rattle.sector_bytes.specs.SectorMaps.{value_at}
use Rattle.tree_definitions.specs.Numbers.{below}
use Rattle.core_definitions.specs.Settings.{lease_to}
use Rattle.core_definitions.specs.Logs.{is_none}
use Rattle.core_definitions.specs.Rings.{is_all_reached}
use Rattle.cache_definitions.specs.Caches.{any_cached, is_dirty_under}
use Rattle.core_definitions.specs.Flights.{has_flights_under, is_flying}
use Rattle.core_definitions.specs.Scripts.{earlier_answered, have_passed, host_party}
use Rattle.core_definitions.specs.Servers.{is_answering, is_doomed, is_up}
use Rattle.core_definitions.specs.Writes.{Writes}
use Rattle.core_definitions.specs.Cores.{Core, clean_at, due_at, is_all_answered, next_of, parties, stage, stamp_of, writes}
use Rattle.core_definitions.specs.LineGuards.{CanAgain, CanAnswer, CanBegin, CanCommit, done_by, has_passed, has_room_for, is_after_hosts, is_grown, is_line, is_moved, is_server, may_again, may_answer, may_begin, may_commit, may_reclaim}
use Rattle.core_definitions.specs.WriteGuards.{CanDie, CanDoom, CanGive, CanRenew, CanResume, IsIssuable, is_crashing, is_faulted, is_held_back, is_in_flight_window, is_in_use, is_issuable, is_marked, is_past_lease, is_sole, is_worker, may_die, may_doom, may_give, may_renew, may_resume}
use Rattle.core_definitions.specs.EndGuards.{CanClose, CanFinish, CanHost, CanRecover, is_recovering, is_recovery, is_through, is_to_recover, may_close, may_finish, may_host, may_recover, may_take, none_paused, none_unsettled}

-- ---- tests joined

pub record Of2 (a b : Bool) : Type 0 where
  pub p0 : IsTrue a
  pub p1 : IsTrue b

pub of_2 : (a b : Bool) → IsTrue (a && b) → Of2 a b
of_2 true true h = record { p0 = refl; p1 = refl }
of_2 false b h = absurd (cc)
of_2 true false h = absurd (cc)

pub all_3 : (a b c : Bool) → IsTrue a → IsTrue b → IsTrue c → IsTrue (a && b && c)
all_3 a b c ha hb hc = cc

pub record Of3 (a b c : Bool) : Type 0 where
  pub p0 : IsTrue a
  pub p1 : IsTrue b
  pub p2 : IsTrue c

pub of_3 : (a b c : Bool) → IsTrue (a && b && c) → Of3 a b c
of_3 true true true h = record { p0 = refl; p1 = refl; p2 = refl }
of_3 false b c h = absurd (cc)
of_3 true false c h = absurd (cc)
of_3 true true false h = absurd (cc)

pub all_4 : (a b c d : Bool) → IsTrue a → IsTrue b → IsTrue c → IsTrue d → IsTrue (a && b && c && d)
all_4 a b c d ha hb hc hd = cc

pub record Of4 (a b c d : Bool) : Type 0 where
  pub p0 : IsTrue a
  pub p1 : IsTrue b
  pub p2 : IsTrue c
  pub p3 : IsTrue d

pub of_4 : (a b c d : Bool) → IsTrue (a && b && c && d) → Of4 a b c d
of_4 true true true true h = record { p0 = refl; p1 = refl; p2 = refl; p3 = refl }
of_4 false b c d h = absurd (cc)
of_4 true false c d h = absurd (cc)
of_4 true true false d h = absurd (cc)
of_4 true true true false h = absurd (cc)

pub all_5 : (a b c d e : Bool) → IsTrue a → IsTrue b → IsTrue c → IsTrue d → IsTrue e → IsTrue (a && b && c && d && e)
all_5 a b c d e ha hb hc hd he = cc

pub record Of5 (a b c d e : Bool) : Type 0 where
  pub p0 : IsTrue a
  pub p1 : IsTrue b
  pub p2 : IsTrue c
  pub p3 : IsTrue d
  pub p4 : IsTrue e

pub of_5 : (a b c d e : Bool) → IsTrue (a && b && c && d && e) → Of5 a b c d e
of_5 true true true true true h = record { p0 = refl; p1 = refl; p2 = refl; p3 = refl; p4 = refl }
of_5 false b c d e h = absurd (cc)
of_5 true false c d e h = absurd (cc)
of_5 true true false d e h = absurd (cc)
of_5 true true true false e h = absurd (cc)
of_5 true true true true false h = absurd (cc)

pub all_7 : (a b c d e f g : Bool) → IsTrue a → IsTrue b → IsTrue c → IsTrue d → IsTrue e → IsTrue f → IsTrue g → IsTrue (a && b && c && d && e && f && g)
all_7 a b c d e f g ha hb hc hd he hf hg = cc

pub record Of7 (a b c d e f g : Bool) : Type 0 where
  pub p0 : IsTrue a
  pub p1 : IsTrue b
  pub p2 : IsTrue c
  pub p3 : IsTrue d
  pub p4 : IsTrue e
  pub p5 : IsTrue f
  pub p6 : IsTrue g

pub of_7 : (a b c d e f g : Bool) → IsTrue (a && b && c && d && e && f && g) → Of7 a b c d e f g
of_7 true true true true true true true h = record { p0 = refl; p1 = refl; p2 = refl; p3 = refl; p4 = refl; p5 = refl; p6 = refl }
of_7 false b c d e f g h = absurd (cc)
of_7 true false c d e f g h = absurd (cc)
of_7 true true false d e f g h = absurd (cc)
of_7 true true true false e f g h = absurd (cc)
of_7 true true true true false f g h = absurd (cc)
of_7 true true true true true false g h = absurd (cc)
of_7 true true true true true true false h = absurd (cc)

pub begin_may : (c : Core) (a : ℕ) → CanBegin c a → IsTrue (may_begin c a)
begin_may c a can = all_7 (is_server a) (is_some (next_of c a)) (not (is_some (c.servers a).under)) (is_after_hosts c (next_of c a)) (is_answering (c.servers a).phase) (has_passed c (next_of c a)) (not (c.paused a)) can.server can.next can.idle can.hosts can.phase can.passed can.free

pub begin_can : (c : Core) (a : ℕ) → IsTrue (may_begin c a) → CanBegin c a
begin_can c a may =
    let all = of_7 (is_server a) (is_some (next_of c a)) (not (is_some (c.servers a).under)) (is_after_hosts c (next_of c a)) (is_answering (c.servers a).phase) (has_passed c (next_of c a)) (not (c.paused a)) may in
    record { server = all.p0; next = all.p1; idle = all.p2; hosts = all.p3; phase = all.p4; passed = all.p5; free = all.p6 }

pub again_may : (c : Core) (a : ℕ) → CanAgain c a → IsTrue (may_again c a (stage c a))
again_may c a can = all_3 (is_server a) (is_moved (stage c a) || is_grown (stage c a) || may_reclaim c.setting.logs (c.servers a) (stage c a)) (not (c.servers a).failed) can.server can.cause can.well

pub again_can : (c : Core) (a : ℕ) → IsTrue (may_again c a (stage c a)) → CanAgain c a
again_can c a may =
    let all = of_3 (is_server a) (is_moved (stage c a) || is_grown (stage c a) || may_reclaim c.setting.logs (c.servers a) (stage c a)) (not (c.servers a).failed) may in
    record { server = all.p0; cause = all.p1; well = all.p2 }

pub commit_may : (c : Core) (a : ℕ) → CanCommit c a → IsTrue (may_commit c a (stage c a))
commit_may c a can = all_4 (is_server a) (is_some (done_by (stage c a))) (is_none (c.servers a).pending) (has_room_for c.setting.logs (c.servers a) (done_by (stage c a))) can.server can.done can.cleared can.room

pub commit_can : (c : Core) (a : ℕ) → IsTrue (may_commit c a (stage c a)) → CanCommit c a
commit_can c a may =
    let all = of_4 (is_server a) (is_some (done_by (stage c a))) (is_none (c.servers a).pending) (has_room_for c.setting.logs (c.servers a) (done_by (stage c a))) may in
    record { server = all.p0; done = all.p1; cleared = all.p2; room = all.p3 }

pub answer_may : (c : Core) (a : ℕ) → CanAnswer c a → IsTrue (may_answer c a)
answer_may c a can = and_from (is_server a) (is_some (due_at c a)) can.server can.due

pub answer_can : (c : Core) (a : ℕ) → IsTrue (may_answer c a) → CanAnswer c a
answer_can c a may =
    let all = of_2 (is_server a) (is_some (due_at c a)) may in
    record { server = all.p0; due = all.p1 }

pub give_may : (c : Core) (a : ℕ) (lock : LockId) → CanGive c a lock → IsTrue (may_give c a lock)
give_may c a lock can = all_7 (is_server a) (is_up (c.servers a).phase) (is_some (asked_for c.locks a lock)) (not (is_in_use c a lock)) (not (any_cached (is_dirty_under lock) (c.servers a).cache)) (not (has_flights_under c.flights a lock)) (not (is_sole c a lock) || is_all_reached (c.servers a).ring) can.server can.up can.asked can.unused can.clean can.landed can.logged

pub give_can : (c : Core) (a : ℕ) (lock : LockId) → IsTrue (may_give c a lock) → CanGive c a lock
give_can c a lock may =
    let all = of_7 (is_server a) (is_up (c.servers a).phase) (is_some (asked_for c.locks a lock)) (not (is_in_use c a lock)) (not (any_cached (is_dirty_under lock) (c.servers a).cache)) (not (has_flights_under c.flights a lock)) (not (is_sole c a lock) || is_all_reached (c.servers a).ring) may in
    record { server = all.p0; up = all.p1; asked = all.p2; unused = all.p3; clean = all.p4; landed = all.p5; logged = all.p6 }

pub issuable_may : (c : Core) (a sector : ℕ) (all : Writes) → IsIssuable c a sector all → IsTrue (is_issuable c a sector all)
issuable_may c a sector all can = all_7 (is_worker c a) (is_some (value_at all sector)) (is_marked c a (value_at all sector)) (not (is_flying c.flights sector)) (is_in_flight_window c a (value_at all sector)) (nat_le c.now (stamp_of c a)) (not (c.servers a).failed) can.who can.wanted can.marked can.alone can.window can.early can.well

pub issuable_can : (c : Core) (a sector : ℕ) (all : Writes) → IsTrue (is_issuable c a sector all) → IsIssuable c a sector all
issuable_can c a sector all may =
    let all = of_7 (is_worker c a) (is_some (value_at all sector)) (is_marked c a (value_at all sector)) (not (is_flying c.flights sector)) (is_in_flight_window c a (value_at all sector)) (nat_le c.now (stamp_of c a)) (not (c.servers a).failed) may in
    record { who = all.p0; wanted = all.p1; marked = all.p2; alone = all.p3; window = all.p4; early = all.p5; well = all.p6 }

pub doom_may : (c : Core) (a : ℕ) → CanDoom c a → IsTrue (may_doom c a (writes c a))
doom_may c a can = and_from (is_server a) (is_crashing (c.servers a) || is_held_back c a (writes c a) || (is_past_lease c a && not (clean_at c a)) || is_faulted (c.servers a)) can.server can.cause

pub doom_can : (c : Core) (a : ℕ) → IsTrue (may_doom c a (writes c a)) → CanDoom c a
doom_can c a may =
    let all = of_2 (is_server a) (is_crashing (c.servers a) || is_held_back c a (writes c a) || (is_past_lease c a && not (clean_at c a)) || is_faulted (c.servers a)) may in
    record { server = all.p0; cause = all.p1 }

pub resume_may : (c : Core) (a : ℕ) → CanResume c a → IsTrue (may_resume c a)
resume_may c a can = all_3 (is_server a) (is_past_lease c a) (clean_at c a) can.server can.past can.clean

pub resume_can : (c : Core) (a : ℕ) → IsTrue (may_resume c a) → CanResume c a
resume_can c a may =
    let all = of_3 (is_server a) (is_past_lease c a) (clean_at c a) may in
    record { server = all.p0; past = all.p1; clean = all.p2 }

pub die_may : (c : Core) (a : ℕ) → CanDie c a → IsTrue (may_die c a)
die_may c a can = and_from (is_server a) (is_doomed (c.servers a).phase) can.server can.doomed

pub die_can : (c : Core) (a : ℕ) → IsTrue (may_die c a) → CanDie c a
die_can c a may =
    let all = of_2 (is_server a) (is_doomed (c.servers a).phase) may in
    record { server = all.p0; doomed = all.p1 }

pub renew_may : (c : Core) (a : ℕ) → CanRenew c a → IsTrue (may_renew c a)
renew_may c a can = all_3 (is_server a) (is_up (c.servers a).phase) (nat_lt (c.servers a).expiry (lease_to c.setting c.now)) can.server can.up can.less

pub renew_can : (c : Core) (a : ℕ) → IsTrue (may_renew c a) → CanRenew c a
renew_can c a may =
    let all = of_3 (is_server a) (is_up (c.servers a).phase) (nat_lt (c.servers a).expiry (lease_to c.setting c.now)) may in
    record { server = all.p0; up = all.p1; less = all.p2 }

pub recover_may : (c : Core) (dead by : ℕ) → CanRecover c dead by → IsTrue (may_recover c dead by)
recover_may c dead by can = all_4 (is_to_recover c dead) (not (list_any (is_to_recover c) (below dead))) (not (list_any (is_recovering c) parties)) (may_take c by) can.waits can.least can.none can.taker

pub recover_can : (c : Core) (dead by : ℕ) → IsTrue (may_recover c dead by) → CanRecover c dead by
recover_can c dead by may =
    let all = of_4 (is_to_recover c dead) (not (list_any (is_to_recover c) (below dead))) (not (list_any (is_recovering c) parties)) (may_take c by) may in
    record { waits = all.p0; least = all.p1; none = all.p2; taker = all.p3 }

pub finish_may : (c : Core) (by : ℕ) → CanFinish c by → IsTrue (may_finish c by)
finish_may c by can = and_from (is_worker c by) (is_recovery (is_through c) (c.servers by).recovery) can.who can.ended

pub finish_can : (c : Core) (by : ℕ) → IsTrue (may_finish c by) → CanFinish c by
finish_can c by may =
    let all = of_2 (is_worker c by) (is_recovery (is_through c) (c.servers by).recovery) may in
    record { who = all.p0; ended = all.p1 }

pub host_may : (c : Core) (number : ℕ) → CanHost c number → IsTrue (may_host c number)
host_may c number can = all_4 (earlier_answered c.setting.script c.answered number) (is_line (λ line. line.number == number) (next_of c host_party)) (is_line (λ line. have_passed c.ticks line.what) (next_of c host_party)) (none_paused c) can.earlier can.next can.ticks can.free

pub host_can : (c : Core) (number : ℕ) → IsTrue (may_host c number) → CanHost c number
host_can c number may =
    let all = of_4 (earlier_answered c.setting.script c.answered number) (is_line (λ line. line.number == number) (next_of c host_party)) (is_line (λ line. have_passed c.ticks line.what) (next_of c host_party)) (none_paused c) may in
    record { earlier = all.p0; next = all.p1; ticks = all.p2; free = all.p3 }

pub close_may : (c : Core) (a : ℕ) → CanClose c a → IsTrue (may_close c a)
close_may c a can = all_5 (is_server a) (is_all_answered c) (none_unsettled c) (is_up (c.servers a).phase) (not (c.paused a)) can.server can.answered can.settled can.up can.free

pub close_can : (c : Core) (a : ℕ) → IsTrue (may_close c a) → CanClose c a
close_can c a may =
    let all = of_5 (is_server a) (is_all_answered c) (none_unsettled c) (is_up (c.servers a).phase) (not (c.paused a)) may in
    record { server = all.p0; answered = all.p1; settled = all.p2; up = all.p3; free = all.p4 }
