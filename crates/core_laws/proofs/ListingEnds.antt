-- Each row of the end of the list has exactly the events of its kind that may happen: recoveries, the host's lines, the tree.
use Rattle.std.proofs.Common.{ℕ, ◌≡◌, Bool, true, false, ◌&&◌, ◌||◌, ◌==◌, List, Option, Some, None, IsTrue, nat_lt, length, refl, sym, subst}
use Rattle.std.specs.List.{flat_map}
use Rattle.std.proofs.lemmas.Bool.{eqb-true, eq-eqb, and_from}
use Rattle.disk_definitions.proofs.Listed.{Among}
use Rattle.frang_base.specs.declared.script.Line.{Line}
use Rattle.lock_definitions.specs.Locks.{log_hold}
use Rattle.core_definitions.specs.Logs.{is_none, unread}
use Rattle.core_definitions.specs.Recoveries.{Recovery, to_look}
use Rattle.core_definitions.specs.Scripts.{host_party}
use Rattle.core_definitions.specs.Servers.{is_dead, is_up}
use Rattle.core_definitions.specs.Cores.{Core, is_all_answered, next_of, parties, server_numbers, tree_lines, tree_needs}
use Rattle.core_definitions.specs.Events.{Event, Recover, Load, Look, HostLine, Read, Show, End}
use Rattle.core_definitions.specs.LineGuards.{is_line, is_server}
use Rattle.core_definitions.specs.WriteGuards.{is_worker}
use Rattle.core_definitions.specs.EndGuards.{is_hold_over, is_to_recover, may_take, none_up, wants_look, wants_slot, IsTreeRead, all_off, is_at_rest, is_recovery, is_tree_read, none_paused, CanEnd, CanHost, CanLoad, CanLook, CanRead, CanRecover, CanShow, may_host, may_recover}
use Rattle.core_definitions.specs.Guards.{CanOther}
use Rattle.core_definitions.specs.Enabled.{all_parties, host_line, loads, loads_for, looks_for, looks, only, only_if, reads, recovers, shows, ends}
use Rattle.core_laws.proofs.Membership.{into_flat, FromFlat, from_flat, into_map, FromMap, from_map, into_only, FromOnly, from_only, into_only_if, FromOnlyIf, from_only_if}
use Rattle.core_laws.proofs.Guarding.{recover_can, recover_may, host_can, host_may, Of2, Of4, all_4, of_2, of_4}
use Rattle.core_laws.proofs.Keys.{in_member, member_in}
use Rattle.core_laws.proofs.Parties.{FromParties, from_parties, into_parties, server_in, worker_in_parties}

pub recover_listed : (c : Core) (dead by : ℕ) → CanRecover c dead by → Among (Recover dead by) (recovers c)
recover_listed c dead by can =
    into_flat (λ d. flat_map (λ b. only (may_recover c d b) (Recover d b)) parties) server_numbers dead (Recover dead by) (server_in dead (is_dead_server c dead can.waits))
    (into_flat (λ b. only (may_recover c dead b) (Recover dead b)) parties by (Recover dead by) (taker_in_parties c by can.taker)
    (into_only (may_recover c dead by) (Recover dead by) (recover_may c dead by can)))
  where
    is_dead_server : (c : Core) (dead : ℕ) → IsTrue (is_to_recover c dead) → IsTrue (is_server dead)
    is_dead_server c dead h = (of_4 (is_server dead) (is_dead (c.servers dead).phase) (nat_lt (c.servers dead).expiry c.now) (is_hold_over c.now (log_hold c.locks dead)) h).p0

    taker_in_parties : (c : Core) (by : ℕ) → IsTrue (may_take c by) → Among by parties
    taker_in_parties c by h = worker_in_parties c by (widen (is_server by && is_up (c.servers by).phase) (by == host_party) (none_up c) h)
      where
        widen : (x y z : Bool) → IsTrue (x || (y && z)) → IsTrue (x || y)
        widen true y z h = refl
        widen false true z h = refl
        widen false false z h = h

pub recover_only : (c : Core) (e : Event) → Among e (recovers c) → CanOther c e
recover_only c e i =
    let r : FromFlat (λ d. flat_map (λ b. only (may_recover c d b) (Recover d b)) parties) server_numbers e =
    from_flat (λ d. flat_map (λ b. only (may_recover c d b) (Recover d b)) parties) server_numbers e i in
    let q : FromFlat (λ b. only (may_recover c r.from b) (Recover r.from b)) parties e = from_flat (λ b. only (may_recover c r.from b) (Recover r.from b)) parties e r.gives_it in
    let o : FromOnly (may_recover c r.from q.from) (Recover r.from q.from) e = from_only (may_recover c r.from q.from) (Recover r.from q.from) e q.gives_it in
    subst (CanOther c) o.is (recover_can c r.from q.from o.passes)

-- ---- Load and Look

load_in : (c : Core) (by slot : ℕ) (recovery : Option Recovery) → IsTrue (is_worker c by) → IsTrue (is_recovery (wants_slot c slot) recovery) → Among (Load by slot) (loads_for c by recovery)
load_in c by slot None who h = absurd (cc)
load_in c by slot (Some recovery) who h =
    into_map (Load by) (only_if (is_worker c by) (unread c.setting.logs recovery.slots)) slot
    (into_only_if (is_worker c by) (unread c.setting.logs recovery.slots) slot who (member_in slot (unread c.setting.logs recovery.slots) h))

pub load_listed : (c : Core) (by slot : ℕ) → CanLoad c by slot → Among (Load by slot) (flat_map (loads c) (all_parties c))
load_listed c by slot can =
    into_parties c (loads c) by (Load by slot) (worker_in_parties c by can.who) (load_in c by slot (c.servers by).recovery can.who can.wanted)

record LoadsFor (c : Core) (by : ℕ) (recovery : Option Recovery) (e : Event) : Type 0 where
  slot : ℕ
  who : IsTrue (is_worker c by)
  wanted : IsTrue (is_recovery (wants_slot c slot) recovery)
  is : Load by slot ≡ e

loaded_for : (c : Core) (by : ℕ) (recovery : Option Recovery) (e : Event) → Among e (loads_for c by recovery) → LoadsFor c by recovery e
loaded_for c by None e i = absurd i
loaded_for c by (Some recovery) e i =
    let all : List ℕ = unread c.setting.logs recovery.slots in
    let m : FromMap (Load by) (only_if (is_worker c by) all) e = from_map (Load by) (only_if (is_worker c by) all) e i in
    let o : FromOnlyIf (is_worker c by) all m.from = from_only_if (is_worker c by) all m.from m.there in
    record { slot = m.from; who = o.passes; wanted = in_member m.from all o.there; is = m.is }

pub load_only : (c : Core) (e : Event) → Among e (flat_map (loads c) (all_parties c)) → CanOther c e
load_only c e i =
    let r : FromParties c (loads c) e = from_parties c (loads c) e i in
    let q : LoadsFor c r.a (c.servers r.a).recovery e = loaded_for c r.a (c.servers r.a).recovery e r.there in
    subst (CanOther c) q.is (record { who = q.who; wanted = q.wanted })

look_in : (c : Core) (by sector : ℕ) (recovery : Option Recovery) → IsTrue (is_worker c by) → IsTrue (is_recovery (wants_look c sector) recovery) → Among (Look by sector) (looks_for c by recovery)
look_in c by sector None who h = absurd (cc)
look_in c by sector (Some recovery) who h =
    into_map (Look by) (only_if (is_worker c by) (to_look c.setting.logs c.setting.segments recovery)) sector
    (into_only_if (is_worker c by) (to_look c.setting.logs c.setting.segments recovery) sector who (member_in sector (to_look c.setting.logs c.setting.segments recovery) h))

pub look_listed : (c : Core) (by sector : ℕ) → CanLook c by sector → Among (Look by sector) (flat_map (looks c) (all_parties c))
look_listed c by sector can =
    into_parties c (looks c) by (Look by sector) (worker_in_parties c by can.who) (look_in c by sector (c.servers by).recovery can.who can.wanted)

record LooksFor (c : Core) (by : ℕ) (recovery : Option Recovery) (e : Event) : Type 0 where
  sector : ℕ
  who : IsTrue (is_worker c by)
  wanted : IsTrue (is_recovery (wants_look c sector) recovery)
  is : Look by sector ≡ e

looked_for : (c : Core) (by : ℕ) (recovery : Option Recovery) (e : Event) → Among e (looks_for c by recovery) → LooksFor c by recovery e
looked_for c by None e i = absurd i
looked_for c by (Some recovery) e i =
    let all : List ℕ = to_look c.setting.logs c.setting.segments recovery in
    let m : FromMap (Look by) (only_if (is_worker c by) all) e = from_map (Look by) (only_if (is_worker c by) all) e i in
    let o : FromOnlyIf (is_worker c by) all m.from = from_only_if (is_worker c by) all m.from m.there in
    record { sector = m.from; who = o.passes; wanted = in_member m.from all o.there; is = m.is }

pub look_only : (c : Core) (e : Event) → Among e (flat_map (looks c) (all_parties c)) → CanOther c e
look_only c e i =
    let r : FromParties c (looks c) e = from_parties c (looks c) e i in
    let q : LooksFor c r.a (c.servers r.a).recovery e = looked_for c r.a (c.servers r.a).recovery e r.there in
    subst (CanOther c) q.is (record { who = q.who; wanted = q.wanted })

-- ---- the host's next line

host_in : (c : Core) (number : ℕ) (line : Option Line) → IsTrue (is_line (λ l. l.number == number) line) → IsTrue (may_host c number) → Among (HostLine number) (host_line c line)
host_in c number None h may = absurd (cc)
host_in c number (Some line) h may =
    subst (λ n. Among (HostLine n) (only (may_host c line.number) (HostLine line.number))) (eqb-true line.number number h)
    (into_only (may_host c line.number) (HostLine line.number) (subst (λ n. IsTrue (may_host c n)) (sym (eqb-true line.number number h)) may))

pub host_listed : (c : Core) (number : ℕ) → CanHost c number → Among (HostLine number) (host_line c (next_of c host_party))
host_listed c number can = host_in c number (next_of c host_party) can.next (host_may c number can)

host_only_at : (c : Core) (line : Option Line) (e : Event) → Among e (host_line c line) → CanOther c e
host_only_at c None e i = absurd i
host_only_at c (Some line) e i =
    let o : FromOnly (may_host c line.number) (HostLine line.number) e = from_only (may_host c line.number) (HostLine line.number) e i in
    subst (CanOther c) o.is (host_can c line.number o.passes)

pub host_only : (c : Core) (e : Event) → Among e (host_line c (next_of c host_party)) → CanOther c e
host_only c e i = host_only_at c (next_of c host_party) e i

-- ---- the tree

rests : (c : Core) → IsTrue (is_all_answered c) → IsTrue (all_off c) → IsTrue (is_none c.flights) → IsTrue (none_paused c) → IsTrue (is_at_rest c)
rests c a o l f = all_4 (is_all_answered c) (all_off c) (is_none c.flights) (none_paused c) a o l f

pub read_listed : (c : Core) (sector : ℕ) → CanRead c sector → Among (Read sector) (reads c)
read_listed c sector can =
    into_map Read (only_if (is_at_rest c) (tree_needs c)) sector
    (into_only_if (is_at_rest c) (tree_needs c) sector (rests c can.answered can.off can.landed can.free) (member_in sector (tree_needs c) can.needed))

pub read_only : (c : Core) (e : Event) → Among e (reads c) → CanOther c e
read_only c e i =
    let m : FromMap Read (only_if (is_at_rest c) (tree_needs c)) e = from_map Read (only_if (is_at_rest c) (tree_needs c)) e i in
    let o : FromOnlyIf (is_at_rest c) (tree_needs c) m.from = from_only_if (is_at_rest c) (tree_needs c) m.from m.there in
    let t : Of4 (is_all_answered c) (all_off c) (is_none c.flights) (none_paused c) = of_4 (is_all_answered c) (all_off c) (is_none c.flights) (none_paused c) o.passes in
    subst (CanOther c) m.is (record { answered = t.p0; off = t.p1; landed = t.p2; free = t.p3; needed = in_member m.from (tree_needs c) o.there })

tree_is_read : (c : Core) → IsTreeRead c → IsTrue (is_tree_read c)
tree_is_read c r = and_from (is_at_rest c) (is_none (tree_needs c)) (rests c r.answered r.off r.landed r.free) r.whole

tree_read_by : (c : Core) → IsTrue (is_tree_read c) → IsTreeRead c
tree_read_by c h =
    let w : Of2 (is_at_rest c) (is_none (tree_needs c)) = of_2 (is_at_rest c) (is_none (tree_needs c)) h in
    let t : Of4 (is_all_answered c) (all_off c) (is_none c.flights) (none_paused c) = of_4 (is_all_answered c) (all_off c) (is_none c.flights) (none_paused c) w.p0 in
    record { answered = t.p0; off = t.p1; landed = t.p2; free = t.p3; whole = w.p1 }

pub show_listed : (c : Core) (place : ℕ) → CanShow c place → Among (Show place) (shows c)
show_listed c place can =
    subst (λ n. Among (Show n) (shows c)) (sym can.next)
    (into_only (is_tree_read c && nat_lt c.shown (length (tree_lines c))) (Show c.shown)
    (and_from (is_tree_read c) (nat_lt c.shown (length (tree_lines c))) (tree_is_read c can.read) (subst (λ n. IsTrue (nat_lt n (length (tree_lines c)))) can.next can.there)))

pub show_only : (c : Core) (e : Event) → Among e (shows c) → CanOther c e
show_only c e i =
    let o : FromOnly (is_tree_read c && nat_lt c.shown (length (tree_lines c))) (Show c.shown) e =
    from_only (is_tree_read c && nat_lt c.shown (length (tree_lines c))) (Show c.shown) e i in
    let t : Of2 (is_tree_read c) (nat_lt c.shown (length (tree_lines c))) = of_2 (is_tree_read c) (nat_lt c.shown (length (tree_lines c))) o.passes in
    subst (CanOther c) o.is (record { read = tree_read_by c t.p0; next = refl; there = t.p1 })

pub end_listed : (c : Core) → CanEnd c → Among End (ends c)
end_listed c can =
    into_only (is_tree_read c && c.shown == length (tree_lines c)) End
    (and_from (is_tree_read c) (c.shown == length (tree_lines c)) (tree_is_read c can.read) (eq-eqb c.shown (length (tree_lines c)) can.said))

pub end_only : (c : Core) (e : Event) → Among e (ends c) → CanOther c e
end_only c e i =
    let o : FromOnly (is_tree_read c && c.shown == length (tree_lines c)) End e = from_only (is_tree_read c && c.shown == length (tree_lines c)) End e i in
    let t : Of2 (is_tree_read c) (c.shown == length (tree_lines c)) = of_2 (is_tree_read c) (c.shown == length (tree_lines c)) o.passes in
    subst (CanOther c) o.is (record { read = tree_read_by c t.p0; said = eqb-true c.shown (length (tree_lines c)) t.p1 })
