-- A Commit that may happen finds room for its record in the journal: its ring is that of the server.
use Rattle.std.proofs.Common.{◌≡◌, ◌<◌, ◌^◌, ◌-◌, ◌&&◌, ℕ, Bool, true, IsTrue, nat_le, nat_lt, Some, refl, sym, ◌∙◌, ap, subst, arith}
use Rattle.std.proofs.lemmas.Bool.{and_from, lt-ltb}
use Rattle.frang_base.specs.declared.change.Redo.{Redo}
use Rattle.ring_definitions.specs.RingRuns.{may_happen}
use Rattle.ring_definitions.specs.RingRuns.LogEvent.{Append}
use Rattle.ring_definitions.specs.Rings.{Ring, free, free_of, is_record, last, need}
use Rattle.core_definitions.specs.Lines.{Finishing}
use Rattle.core_definitions.specs.LineGuards.{CanCommit, done_by, has_room_for}
use Rattle.core_definitions.specs.Rings.{has_room}
use Rattle.core_definitions.specs.Settings.{LogRules, disk_logs, setting_of}
use Rattle.core_laws.proofs.Kept.{setting_of_run}
use Rattle.core_lives.proofs.Alike.{mounted_journal}
use Rattle.core_commits.proofs.Reclaiming.{up_of}
use Rattle.core_world.specs.Journals.{sector_log}
use Rattle.core_line_steps.proofs.Ended.{up_mounted}
use Rattle.core_line_journals.specs.Appends.{CommitsFindRoom}

more : (n : ℕ) → n < 2 ^ 62 → n < 2 ^ 63 - 16
more n h = omega (arith, h)

-- a ring with room for the record, with small numbers
has_place : (r : Ring) (redo : Redo) → is_record redo ≡ true → nat_le (need r redo) (free r) ≡ true → last r < 2 ^ 62 →
    (is_record redo && nat_le (need r redo) (free r) && nat_lt (last r) (2 ^ 63 - 16)) ≡ true
has_place r redo fits room small =
    and_from (is_record redo && nat_le (need r redo) (free r)) (nat_lt (last r) (2 ^ 63 - 16)) (and_from (is_record redo) (nat_le (need r redo) (free r)) fits room)
    (lt-ltb (last r) (2 ^ 63 - 16) (more (last r) small))

pub commits_find_room : CommitsFindRoom
commits_find_room s w journal when first_tree numbers a outcome redo m at can has fits small =
    let up = up_mounted (s.core.servers a).phase (up_of s.core.setting s.core.locks a (s.core.servers a) (Finishing outcome) at) in
    let j = mounted_journal (s.core.servers a).phase up (s.core.servers a).ring s.core.now s.core.flights s.disk (sector_log w a) a (journal a) (m.world.journals a can.server) in
    let logs_are = ap (λ t. t.logs) (setting_of_run (setting_of m.reached.script m.reached.segments m.reached.number) m.reached.disk s m.reached.run) in
    let room = subst (λ o. has_room_for s.core.setting.logs (s.core.servers a) (done_by o) ≡ true) at can.room in
    let some = subst (λ r. has_room s.core.setting.logs (s.core.servers a).ring r ≡ true) has room in
    let on_disk = subst (λ l. nat_le (need (s.core.servers a).ring redo) (free_of l.room (s.core.servers a).ring) ≡ true) logs_are some in
    subst (λ r. (is_record redo && nat_le (need r redo) (free r) && nat_lt (last r) (2 ^ 63 - 16)) ≡ true) (sym j.ring_is) (has_place (s.core.servers a).ring redo fits on_disk small)
