-- Each row of the list of enabled events has exactly the events of its kind that may happen.
use Rattle.std.proofs.Common.{not, ℕ, ◌≡◌, ⊎_elim, Bool, ◌&&◌, List, Option, Some, None, IsTrue, is_some, map, refl, sym, subst}
use Rattle.std.specs.List.{flat_map}
use Rattle.std.specs.Map.{keys_of}
use Rattle.std.proofs.lemmas.Bool.{and_from, or_right, or_left, or_cases}
use Rattle.disk_definitions.proofs.Listed.{Among, among_left, among_right, among_either}
use Rattle.frang_base.specs.Functions.{member}
use Rattle.frang_base.specs.declared.lock.LockId.{LockId}
use Rattle.frang_base.specs.declared.lock.Mode.{Mode}
use Rattle.tree_definitions.specs.Transcript.{is_mount}
use Rattle.lock_definitions.specs.Locks.{claims_of}
use Rattle.sector_bytes.specs.SectorMaps.{value_at}
use Rattle.core_definitions.specs.Lines.{Stage, Asking, Fetching, Moving, Stopping, Growing, Clearing, Finishing}
use Rattle.core_definitions.specs.Servers.{asks, is_off, is_up}
use Rattle.core_definitions.specs.Flights.{Flight}
use Rattle.core_definitions.specs.Cores.{Core, stage, writes}
use Rattle.core_definitions.specs.Events.{Event, Begin, Ask, Fetch, Again, Clear, Commit, Answer, Give, Issue, Doom, Resume, Arrive, Lose, Die, Renew, Finish, Close}
use Rattle.core_definitions.specs.LineGuards.{CanAgain, CanAnswer, CanAsk, CanBegin, CanClear, CanCommit, CanFetch, is_needed, is_new_wish, is_unread, is_server, may_again, may_answer, may_begin, may_commit, needed_by, slots_under}
use Rattle.core_definitions.specs.WriteGuards.{is_at_last, is_issuable, CanArrive, CanDie, CanDoom, CanGive, CanIssue, CanLose, CanRenew, CanResume, is_by_dead, is_flight, may_die, may_doom, may_give, may_issue, may_renew, may_resume}
use Rattle.core_definitions.specs.EndGuards.{CanClose, CanFinish, may_close, may_finish}
use Rattle.core_definitions.specs.Guards.{CanOther}
use Rattle.core_definitions.specs.Enabled.{agains, all_parties, answers, arrives, asks_at, asks_of, begins, clears, clears_at, closes, commits, dies, dooms, fetches, finishes, gives, issues, loses, only, only_if, party_of, renews, resumes}
use Rattle.core_laws.proofs.Membership.{into_flat, FromFlat, from_flat, into_map, FromMap, from_map, into_only, FromOnly, from_only, into_only_if, FromOnlyIf, from_only_if}
use Rattle.core_laws.proofs.Guarding.{begin_can, begin_may, again_can, again_may, commit_can, commit_may, answer_can, answer_may, give_can, give_may, issuable_can, issuable_may, doom_can, doom_may, resume_can, resume_may, die_can, die_may, renew_can, renew_may, finish_can, finish_may, close_can, close_may, Of2, Of3, all_3, of_2, of_3}
use Rattle.core_laws.proofs.Keys.{claimed, in_member, key_value, member_in, value_key}
use Rattle.core_laws.proofs.Parties.{FromParties, from_parties, into_parties, server_in_parties, worker_in_parties}

-- ---- rows of one test a party

pub begin_listed : (c : Core) (a : ℕ) → CanBegin c a → Among (Begin a) (flat_map (begins c) (all_parties c))
begin_listed c a can = into_parties c (begins c) a (Begin a) (server_in_parties a can.server) (into_only (may_begin c a) (Begin a) (begin_may c a can))

pub begin_only : (c : Core) (e : Event) → Among e (flat_map (begins c) (all_parties c)) → CanOther c e
begin_only c e i =
    let r : FromParties c (begins c) e = from_parties c (begins c) e i in
    let o : FromOnly (may_begin c r.a) (Begin r.a) e = from_only (may_begin c r.a) (Begin r.a) e r.there in
    subst (CanOther c) o.is (begin_can c r.a o.passes)

pub again_listed : (c : Core) (a : ℕ) → CanAgain c a → Among (Again a) (flat_map (agains c) (all_parties c))
again_listed c a can = into_parties c (agains c) a (Again a) (server_in_parties a can.server) (into_only (may_again c a (stage c a)) (Again a) (again_may c a can))

pub again_only : (c : Core) (e : Event) → Among e (flat_map (agains c) (all_parties c)) → CanOther c e
again_only c e i =
    let r : FromParties c (agains c) e = from_parties c (agains c) e i in
    let o : FromOnly (may_again c r.a (stage c r.a)) (Again r.a) e = from_only (may_again c r.a (stage c r.a)) (Again r.a) e r.there in
    subst (CanOther c) o.is (again_can c r.a o.passes)

pub commit_listed : (c : Core) (a : ℕ) → CanCommit c a → Among (Commit a) (flat_map (commits c) (all_parties c))
commit_listed c a can = into_parties c (commits c) a (Commit a) (server_in_parties a can.server) (into_only (may_commit c a (stage c a)) (Commit a) (commit_may c a can))

pub commit_only : (c : Core) (e : Event) → Among e (flat_map (commits c) (all_parties c)) → CanOther c e
commit_only c e i =
    let r : FromParties c (commits c) e = from_parties c (commits c) e i in
    let o : FromOnly (may_commit c r.a (stage c r.a)) (Commit r.a) e = from_only (may_commit c r.a (stage c r.a)) (Commit r.a) e r.there in
    subst (CanOther c) o.is (commit_can c r.a o.passes)

pub answer_listed : (c : Core) (a : ℕ) → CanAnswer c a → Among (Answer a) (flat_map (answers c) (all_parties c))
answer_listed c a can = into_parties c (answers c) a (Answer a) (server_in_parties a can.server) (into_only (may_answer c a) (Answer a) (answer_may c a can))

pub answer_only : (c : Core) (e : Event) → Among e (flat_map (answers c) (all_parties c)) → CanOther c e
answer_only c e i =
    let r : FromParties c (answers c) e = from_parties c (answers c) e i in
    let o : FromOnly (may_answer c r.a) (Answer r.a) e = from_only (may_answer c r.a) (Answer r.a) e r.there in
    subst (CanOther c) o.is (answer_can c r.a o.passes)

pub doom_listed : (c : Core) (a : ℕ) → CanDoom c a → Among (Doom a) (flat_map (dooms c) (all_parties c))
doom_listed c a can = into_parties c (dooms c) a (Doom a) (server_in_parties a can.server) (into_only (may_doom c a (writes c a)) (Doom a) (doom_may c a can))

pub doom_only : (c : Core) (e : Event) → Among e (flat_map (dooms c) (all_parties c)) → CanOther c e
doom_only c e i =
    let r : FromParties c (dooms c) e = from_parties c (dooms c) e i in
    let o : FromOnly (may_doom c r.a (writes c r.a)) (Doom r.a) e = from_only (may_doom c r.a (writes c r.a)) (Doom r.a) e r.there in
    subst (CanOther c) o.is (doom_can c r.a o.passes)

pub resume_listed : (c : Core) (a : ℕ) → CanResume c a → Among (Resume a) (flat_map (resumes c) (all_parties c))
resume_listed c a can = into_parties c (resumes c) a (Resume a) (server_in_parties a can.server) (into_only (may_resume c a) (Resume a) (resume_may c a can))

pub resume_only : (c : Core) (e : Event) → Among e (flat_map (resumes c) (all_parties c)) → CanOther c e
resume_only c e i =
    let r : FromParties c (resumes c) e = from_parties c (resumes c) e i in
    let o : FromOnly (may_resume c r.a) (Resume r.a) e = from_only (may_resume c r.a) (Resume r.a) e r.there in
    subst (CanOther c) o.is (resume_can c r.a o.passes)

pub die_listed : (c : Core) (a : ℕ) → CanDie c a → Among (Die a) (flat_map (dies c) (all_parties c))
die_listed c a can = into_parties c (dies c) a (Die a) (server_in_parties a can.server) (into_only (may_die c a) (Die a) (die_may c a can))

pub die_only : (c : Core) (e : Event) → Among e (flat_map (dies c) (all_parties c)) → CanOther c e
die_only c e i =
    let r : FromParties c (dies c) e = from_parties c (dies c) e i in
    let o : FromOnly (may_die c r.a) (Die r.a) e = from_only (may_die c r.a) (Die r.a) e r.there in
    subst (CanOther c) o.is (die_can c r.a o.passes)

pub renew_listed : (c : Core) (a : ℕ) → CanRenew c a → Among (Renew a) (flat_map (renews c) (all_parties c))
renew_listed c a can = into_parties c (renews c) a (Renew a) (server_in_parties a can.server) (into_only (may_renew c a) (Renew a) (renew_may c a can))

pub renew_only : (c : Core) (e : Event) → Among e (flat_map (renews c) (all_parties c)) → CanOther c e
renew_only c e i =
    let r : FromParties c (renews c) e = from_parties c (renews c) e i in
    let o : FromOnly (may_renew c r.a) (Renew r.a) e = from_only (may_renew c r.a) (Renew r.a) e r.there in
    subst (CanOther c) o.is (renew_can c r.a o.passes)

pub close_listed : (c : Core) (a : ℕ) → CanClose c a → Among (Close a) (flat_map (closes c) (all_parties c))
close_listed c a can = into_parties c (closes c) a (Close a) (server_in_parties a can.server) (into_only (may_close c a) (Close a) (close_may c a can))

pub close_only : (c : Core) (e : Event) → Among e (flat_map (closes c) (all_parties c)) → CanOther c e
close_only c e i =
    let r : FromParties c (closes c) e = from_parties c (closes c) e i in
    let o : FromOnly (may_close c r.a) (Close r.a) e = from_only (may_close c r.a) (Close r.a) e r.there in
    subst (CanOther c) o.is (close_can c r.a o.passes)

pub finish_listed : (c : Core) (by : ℕ) → CanFinish c by → Among (Finish by) (flat_map (finishes c) (all_parties c))
finish_listed c by can = into_parties c (finishes c) by (Finish by) (worker_in_parties c by can.who) (into_only (may_finish c by) (Finish by) (finish_may c by can))

pub finish_only : (c : Core) (e : Event) → Among e (flat_map (finishes c) (all_parties c)) → CanOther c e
finish_only c e i =
    let r : FromParties c (finishes c) e = from_parties c (finishes c) e i in
    let o : FromOnly (may_finish c r.a) (Finish r.a) e = from_only (may_finish c r.a) (Finish r.a) e r.there in
    subst (CanOther c) o.is (finish_can c r.a o.passes)

-- ---- Ask and Clear: by how far the line has come

record AsksAt (c : Core) (a : ℕ) (at : Option Stage) (e : Event) : Type 0 where
  lock : LockId
  mode : Mode
  least : at ≡ Some (Asking (lock, mode))
  server : IsTrue (is_server a)
  new : IsTrue (is_new_wish c a lock mode)
  is : Ask a lock mode ≡ e

asked_at : (c : Core) (a : ℕ) (at : Option Stage) (e : Event) → Among e (asks_at c a at) → AsksAt c a at e
asked_at c a None e i = absurd i
asked_at c a (Some (Asking need)) e i =
    let o : FromOnly (is_server a && is_new_wish c a need.0 need.1) (Ask a need.0 need.1) e = from_only (is_server a && is_new_wish c a need.0 need.1) (Ask a need.0 need.1) e i in
    let t : Of2 (is_server a) (is_new_wish c a need.0 need.1) = of_2 (is_server a) (is_new_wish c a need.0 need.1) o.passes in
    record { lock = need.0; mode = need.1; least = refl; server = t.p0; new = t.p1; is = o.is }
asked_at c a (Some (Fetching needs)) e i = absurd i
asked_at c a (Some Moving) e i = absurd i
asked_at c a (Some Stopping) e i = absurd i
asked_at c a (Some (Growing needs seen)) e i = absurd i
asked_at c a (Some (Clearing block)) e i = absurd i
asked_at c a (Some (Finishing outcome)) e i = absurd i

pub ask_listed : (c : Core) (a : ℕ) (lock : LockId) (mode : Mode) → CanAsk c a lock mode → Among (Ask a lock mode) (flat_map (asks_of c) (all_parties c))
ask_listed c a lock mode can =
    into_parties c (asks_of c) a (Ask a lock mode) (server_in_parties a can.server)
    (subst (λ at. Among (Ask a lock mode) (asks_at c a at)) (sym can.least)
    (into_only (is_server a && is_new_wish c a lock mode) (Ask a lock mode) (and_from (is_server a) (is_new_wish c a lock mode) can.server can.new)))

pub ask_only : (c : Core) (e : Event) → Among e (flat_map (asks_of c) (all_parties c)) → CanOther c e
ask_only c e i =
    let r : FromParties c (asks_of c) e = from_parties c (asks_of c) e i in
    let q : AsksAt c r.a (stage c r.a) e = asked_at c r.a (stage c r.a) e r.there in
    subst (CanOther c) q.is (record { server = q.server; least = q.least; new = q.new })

record ClearsAt (a : ℕ) (at : Option Stage) (e : Event) : Type 0 where
  block : ℕ
  clear : at ≡ Some (Clearing block)
  server : IsTrue (is_server a)
  is : Clear a block ≡ e

cleared_at : (a : ℕ) (at : Option Stage) (e : Event) → Among e (clears_at a at) → ClearsAt a at e
cleared_at a None e i = absurd i
cleared_at a (Some (Clearing block)) e i =
    let o : FromOnly (is_server a) (Clear a block) e = from_only (is_server a) (Clear a block) e i in record { block = block; clear = refl; server = o.passes; is = o.is }
cleared_at a (Some (Asking need)) e i = absurd i
cleared_at a (Some (Fetching needs)) e i = absurd i
cleared_at a (Some Moving) e i = absurd i
cleared_at a (Some Stopping) e i = absurd i
cleared_at a (Some (Growing needs seen)) e i = absurd i
cleared_at a (Some (Finishing outcome)) e i = absurd i

pub clear_listed : (c : Core) (a block : ℕ) → CanClear c a block → Among (Clear a block) (flat_map clears (all_parties c))
clear_listed c a block can =
    into_parties c clears a (Clear a block) (server_in_parties a can.server)
    (subst (λ at. Among (Clear a block) (clears_at a at)) (sym can.clear) (into_only (is_server a) (Clear a block) can.server))

pub clear_only : (c : Core) (e : Event) → Among e (flat_map clears (all_parties c)) → CanOther c e
clear_only c e i =
    let r : FromParties c clears e = from_parties c clears e i in
    let q : ClearsAt r.a (stage c r.a) e = cleared_at r.a (stage c r.a) e r.there in
    subst (CanOther c) q.is (record { server = q.server; clear = q.clear })

-- ---- Fetch: what the line needs, and slots of its own log

fetch_needed : (c : Core) (a sector : ℕ) → IsTrue (is_server a) → IsTrue (is_needed c a (stage c a) sector) → Among (Fetch a sector) (fetches c (party_of c a))
fetch_needed c a sector server h =
    let t : Of2 (is_up (c.servers a).phase) (member sector (needed_by (stage c a))) = of_2 (is_up (c.servers a).phase) (member sector (needed_by (stage c a))) h in
    among_left (Fetch a sector) (map (Fetch a) (only_if (is_server a && is_up (c.servers a).phase) (needed_by (stage c a))))
    (map (Fetch a) (only_if (is_server a && is_off (c.servers a).phase && asks is_mount (c.servers a)) (slots_under c.setting.logs a (c.servers a).under)))
    (into_map (Fetch a) (only_if (is_server a && is_up (c.servers a).phase) (needed_by (stage c a))) sector
    (into_only_if (is_server a && is_up (c.servers a).phase) (needed_by (stage c a)) sector (and_from (is_server a) (is_up (c.servers a).phase) server t.p0)
    (member_in sector (needed_by (stage c a)) t.p1)))

fetch_slot : (c : Core) (a sector : ℕ) → IsTrue (is_server a) → IsTrue (is_unread c a sector) → Among (Fetch a sector) (fetches c (party_of c a))
fetch_slot c a sector server h =
    let t : Of3 (is_off (c.servers a).phase) (asks is_mount (c.servers a)) (member sector (slots_under c.setting.logs a (c.servers a).under)) =
    of_3 (is_off (c.servers a).phase) (asks is_mount (c.servers a)) (member sector (slots_under c.setting.logs a (c.servers a).under)) h in
    among_right (Fetch a sector) (map (Fetch a) (only_if (is_server a && is_up (c.servers a).phase) (needed_by (stage c a))))
    (map (Fetch a) (only_if (is_server a && is_off (c.servers a).phase && asks is_mount (c.servers a)) (slots_under c.setting.logs a (c.servers a).under)))
    (into_map (Fetch a) (only_if (is_server a && is_off (c.servers a).phase && asks is_mount (c.servers a)) (slots_under c.setting.logs a (c.servers a).under)) sector
    (into_only_if (is_server a && is_off (c.servers a).phase && asks is_mount (c.servers a)) (slots_under c.setting.logs a (c.servers a).under) sector
    (all_3 (is_server a) (is_off (c.servers a).phase) (asks is_mount (c.servers a)) server t.p0 t.p1)
    (member_in sector (slots_under c.setting.logs a (c.servers a).under) t.p2)))

pub fetch_listed : (c : Core) (a sector : ℕ) → CanFetch c a sector → Among (Fetch a sector) (flat_map (fetches c) (all_parties c))
fetch_listed c a sector can =
    into_parties c (fetches c) a (Fetch a sector) (server_in_parties a can.server)
    (⊎_elim (λ n. fetch_needed c a sector can.server n) (λ u. fetch_slot c a sector can.server u) (or_cases (is_needed c a (stage c a) sector) (is_unread c a sector) can.lacks))

needed_can : (c : Core) (a : ℕ) (e : Event) → Among e (map (Fetch a) (only_if (is_server a && is_up (c.servers a).phase) (needed_by (stage c a)))) → CanOther c e
needed_can c a e i =
    let m : FromMap (Fetch a) (only_if (is_server a && is_up (c.servers a).phase) (needed_by (stage c a))) e =
    from_map (Fetch a) (only_if (is_server a && is_up (c.servers a).phase) (needed_by (stage c a))) e i in
    let o : FromOnlyIf (is_server a && is_up (c.servers a).phase) (needed_by (stage c a)) m.from =
    from_only_if (is_server a && is_up (c.servers a).phase) (needed_by (stage c a)) m.from m.there in
    let t : Of2 (is_server a) (is_up (c.servers a).phase) = of_2 (is_server a) (is_up (c.servers a).phase) o.passes in
    subst (CanOther c) m.is
    (record {
      server = t.p0;
      lacks = or_left (is_needed c a (stage c a) m.from) (is_unread c a m.from)
          (and_from (is_up (c.servers a).phase) (member m.from (needed_by (stage c a))) t.p1 (in_member m.from (needed_by (stage c a)) o.there));
    })

unread_can : (c : Core) (a : ℕ) (e : Event) → Among e (map (Fetch a) (only_if (is_server a && is_off (c.servers a).phase && asks is_mount (c.servers a)) (slots_under c.setting.logs a (c.servers a).under))) → CanOther c e
unread_can c a e i =
    let all : List ℕ = slots_under c.setting.logs a (c.servers a).under in
    let m : FromMap (Fetch a) (only_if (is_server a && is_off (c.servers a).phase && asks is_mount (c.servers a)) all) e =
    from_map (Fetch a) (only_if (is_server a && is_off (c.servers a).phase && asks is_mount (c.servers a)) all) e i in
    let o : FromOnlyIf (is_server a && is_off (c.servers a).phase && asks is_mount (c.servers a)) all m.from =
    from_only_if (is_server a && is_off (c.servers a).phase && asks is_mount (c.servers a)) all m.from m.there in
    let t : Of3 (is_server a) (is_off (c.servers a).phase) (asks is_mount (c.servers a)) = of_3 (is_server a) (is_off (c.servers a).phase) (asks is_mount (c.servers a)) o.passes in
    subst (CanOther c) m.is
    (record {
      server = t.p0;
      lacks = or_right (is_needed c a (stage c a) m.from) (is_unread c a m.from)
          (all_3 (is_off (c.servers a).phase) (asks is_mount (c.servers a)) (member m.from all) t.p1 t.p2 (in_member m.from all o.there));
    })

pub fetch_only : (c : Core) (e : Event) → Among e (flat_map (fetches c) (all_parties c)) → CanOther c e
fetch_only c e i =
    let r : FromParties c (fetches c) e = from_parties c (fetches c) e i in
    ⊎_elim (λ j. needed_can c r.a e j) (λ j. unread_can c r.a e j)
    (among_either e (map (Fetch r.a) (only_if (is_server r.a && is_up (c.servers r.a).phase) (needed_by (stage c r.a))))
    (map (Fetch r.a) (only_if (is_server r.a && is_off (c.servers r.a).phase && asks is_mount (c.servers r.a)) (slots_under c.setting.logs r.a (c.servers r.a).under))) r.there)

-- ---- Give and Issue

pub give_listed : (c : Core) (a : ℕ) (lock : LockId) → CanGive c a lock → Among (Give a lock) (flat_map (gives c) (all_parties c))
give_listed c a lock can =
    into_parties c (gives c) a (Give a lock) (server_in_parties a can.server)
    (into_flat (λ l. only (may_give c a l) (Give a l)) (keys_of (claims_of c.locks a)) lock (Give a lock) (claimed (claims_of c.locks a) lock _ _ can.asked)
    (into_only (may_give c a lock) (Give a lock) (give_may c a lock can)))

pub give_only : (c : Core) (e : Event) → Among e (flat_map (gives c) (all_parties c)) → CanOther c e
give_only c e i =
    let r : FromParties c (gives c) e = from_parties c (gives c) e i in
    let q : FromFlat (λ l. only (may_give c r.a l) (Give r.a l)) (keys_of (claims_of c.locks r.a)) e =
    from_flat (λ l. only (may_give c r.a l) (Give r.a l)) (keys_of (claims_of c.locks r.a)) e r.there in
    let o : FromOnly (may_give c r.a q.from) (Give r.a q.from) e = from_only (may_give c r.a q.from) (Give r.a q.from) e q.gives_it in
    subst (CanOther c) o.is (give_can c r.a q.from o.passes)

pub issue_listed : (c : Core) (a sector : ℕ) → CanIssue c a sector → Among (Issue a sector) (flat_map (issues c) (all_parties c))
issue_listed c a sector can =
    into_parties c (issues c) a (Issue a sector) (worker_in_parties c a can.issuable.who)
    (into_flat (λ s. only (may_issue c a s (writes c a)) (Issue a s)) (keys_of (writes c a)) sector (Issue a sector) (value_key (writes c a) sector can.issuable.wanted)
    (into_only (may_issue c a sector (writes c a)) (Issue a sector)
    (and_from (is_issuable c a sector (writes c a)) (not (is_at_last (c.servers a).arming)) (issuable_may c a sector (writes c a) can.issuable) can.unarmed)))

pub issue_only : (c : Core) (e : Event) → Among e (flat_map (issues c) (all_parties c)) → CanOther c e
issue_only c e i =
    let r : FromParties c (issues c) e = from_parties c (issues c) e i in
    let q : FromFlat (λ s. only (may_issue c r.a s (writes c r.a)) (Issue r.a s)) (keys_of (writes c r.a)) e =
    from_flat (λ s. only (may_issue c r.a s (writes c r.a)) (Issue r.a s)) (keys_of (writes c r.a)) e r.there in
    let o : FromOnly (may_issue c r.a q.from (writes c r.a)) (Issue r.a q.from) e = from_only (may_issue c r.a q.from (writes c r.a)) (Issue r.a q.from) e q.gives_it in
    let t : Of2 (is_issuable c r.a q.from (writes c r.a)) (not (is_at_last (c.servers r.a).arming)) =
    of_2 (is_issuable c r.a q.from (writes c r.a)) (not (is_at_last (c.servers r.a).arming)) o.passes in
    subst (CanOther c) o.is (record { issuable = issuable_can c r.a q.from (writes c r.a) t.p0; unarmed = t.p1 })

-- ---- Arrive and Lose

pub arrive_listed : (c : Core) (ticket : ℕ) → CanArrive c ticket → Among (Arrive ticket) (arrives c)
arrive_listed c ticket can = into_map Arrive (keys_of c.flights) ticket (value_key c.flights ticket can.flying)

pub arrive_only : (c : Core) (e : Event) → Among e (arrives c) → CanOther c e
arrive_only c e i =
    let m : FromMap Arrive (keys_of c.flights) e = from_map Arrive (keys_of c.flights) e i in
    subst (CanOther c) m.is (record { flying = key_value c.flights m.from m.there })

there_is : (passes : Flight → Bool) (flight : Option Flight) → IsTrue (is_flight passes flight) → IsTrue (is_some flight)
there_is passes None h = absurd (cc)
there_is passes (Some flight) h = refl

pub lose_listed : (c : Core) (ticket : ℕ) → CanLose c ticket → Among (Lose ticket) (loses c)
lose_listed c ticket can =
    into_flat (λ t. only (is_flight (is_by_dead c) (value_at c.flights t)) (Lose t)) (keys_of c.flights) ticket (Lose ticket)
    (value_key c.flights ticket (there_is (is_by_dead c) (value_at c.flights ticket) can.dead))
    (into_only (is_flight (is_by_dead c) (value_at c.flights ticket)) (Lose ticket) can.dead)

pub lose_only : (c : Core) (e : Event) → Among e (loses c) → CanOther c e
lose_only c e i =
    let q : FromFlat (λ t. only (is_flight (is_by_dead c) (value_at c.flights t)) (Lose t)) (keys_of c.flights) e =
    from_flat (λ t. only (is_flight (is_by_dead c) (value_at c.flights t)) (Lose t)) (keys_of c.flights) e i in
    let o : FromOnly (is_flight (is_by_dead c) (value_at c.flights q.from)) (Lose q.from) e =
    from_only (is_flight (is_by_dead c) (value_at c.flights q.from)) (Lose q.from) e q.gives_it in
    subst (CanOther c) o.is (record { dead = o.passes })
