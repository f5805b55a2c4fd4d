-- How far the numbers of a log rise at a step: only where a line under way ends, with a record or a mount, and then by no more than the room of a ring.
use Rattle.std.proofs.Common.{◌≡◌, ℕ, suc, ◌≤◌, ◌+◌, ◌-◌, ◌%◌, ◌⊎◌, inl, inr, Bool, true, false, ◌&&◌, ◌==◌, if◌then◌else◌, is_some, IsTrue, List, [], ◌∷◌, ◌++◌, length, drop, Option, Some, None, refl, sym, ap, ◌∙◌, subst, arith}
use Rattle.std.proofs.Math.Nat.{le_refl}
use Rattle.std.proofs.lemmas.Bool.{and_parts, both_ways, false≢true, leb-true}
use Rattle.std.proofs.lemmas.List.{length-append}
use Rattle.std.proofs.lemmas.Option.{none-some}
use Rattle.frang_base.specs.Functions.{put}
use Rattle.frang_base.specs.declared.change.Redo.{Redo}
use Rattle.frang_base.proofs.Basics.{at_put, put_same}
use Rattle.frang_outside.specs.Disk.{written}
use Rattle.disk_definitions.proofs.Listed.{Among}
use Rattle.disk_definitions.proofs.SameLogs.{SameSlots, log_end_same}
use Rattle.disk_definitions.specs.Frames.{frame_bytes}
use Rattle.disk_definitions.specs.Logs.{log_end}
use Rattle.disk_definitions.specs.Replay.{slots_of}
use Rattle.disk_definitions.specs.declared.log_sector.LogSector.{LogSector}
use Rattle.sector_bytes.specs.Blocks.{Block}
use Rattle.sector_bytes.specs.SectorMaps.{value_at}
use Rattle.sector_bytes.specs.Sectors.{Sectors}
use Rattle.tree_definitions.specs.Apply.{is_path_op}
use Rattle.ring_definitions.proofs.GoodLogs.{good_ends}
use Rattle.ring_definitions.proofs.Packed.{length-framed}
use Rattle.ring_definitions.specs.Rings.{Ring, first_waiting, free, issued, last, need, sent}
use Rattle.ring_definitions.specs.Sealing.{IsSealedFrom}
use Rattle.core_definitions.specs.Cores.{stage, writes}
use Rattle.core_definitions.specs.EndEffects.{recovered}
use Rattle.core_definitions.specs.Flights.{Flight, InPlace, OfLog, OfRecovery, Purpose}
use Rattle.core_definitions.specs.LineEffects.{committed_by, failed_by, off_after, up_after}
use Rattle.core_definitions.specs.LineGuards.{is_server}
use Rattle.core_definitions.specs.Lines.{Finishing, Under}
use Rattle.core_definitions.specs.Logs.{end_of, is_read}
use Rattle.core_definitions.specs.Plans.{Outcome}
use Rattle.core_definitions.specs.Rings.{appended_some, next_write}
use Rattle.core_definitions.specs.Runs.{State}
use Rattle.core_definitions.specs.Scripts.{host_party}
use Rattle.core_definitions.specs.Servers.{Server, asks, is_dead, is_off, is_still, is_up, stage_under, wanting_all, wanting_all_up}
use Rattle.core_definitions.specs.Settings.{disk_logs}
use Rattle.core_definitions.specs.WriteEffects.{acknowledged as taken_by, clean_now, ring_after}
use Rattle.core_definitions.specs.Writes.{Write, comes_clean}
use Rattle.core_facts.proofs.Marking.{acked_last}
use Rattle.core_facts.proofs.Phases.{doomed_mounted, off_dead_not, up_mounted}
use Rattle.core_facts.proofs.Reading.{Arriving, Placed, flight_at}
use Rattle.core_facts.proofs.Turns.{Work, failed_at, Turn, Rests, Stays, Lines, Caches, Reclaims, Clears, Commits, Mounts, Leaves, Arms, Stalls, Settles, Asks, Lowers, Releases, Relocks, Wants, Issues, Fades, Lands, Drifts, Breaks, Fails, Dooms, Resumes, Dies, Renews, Ticks, Recovers, Loads, Looks, Finishes, Halts}
use Rattle.core_facts.proofs.WriteKinds.{NextOfLog, Places, Rescues, Wanted, wanted_is}
use Rattle.core_laws.proofs.FlightLists.{in_flights}
use Rattle.core_laws.proofs.Memory.{dead_of}
use Rattle.core_laws.specs.Facts.{KeepsWindows}
use Rattle.core_journals.specs.Journals.{IsJournal, IsLog, Journal}
use Rattle.core_journals.specs.Logs.{HasAll}
use Rattle.core_journals.proofs.Changing.{Arrived, DiskChange, Stands}
use Rattle.core_journals.proofs.Quiet.{Bounds, bounds_of, dead_off_not}
use Rattle.core_journals.proofs.ReadingAs.{sealing_reads}
use Rattle.core_journals.proofs.Touching.{Beside, Seals, Touch, touch}
use Rattle.core_journals.proofs.Turning.{Before, end_is, had_room, mounted_off_not, stage_up, still_mounted}

-- the greatest number that its log has, and may have behind a seal
abbrev pub top : Server → Sectors → ℕ → ℕ
top server disk a = if is_off server.phase then log_end (slots_of disk a) else last server.ring + 64

pub data Rise (s : State) (a : ℕ) (new : Server) (disk : Sectors) : Type 0 where
  Level : top new disk a ≤ top (s.core.servers a) s.disk a → Rise s a new disk
  Ends : IsTrue (is_some (s.core.servers a).under) → new.under ≡ None → top new disk a ≤ top (s.core.servers a) s.disk a + 192 → Rise s a new disk

-- both are off, or neither
level_if : (x y : Bool) (e f n m : ℕ) → x ≡ y → (y ≡ true → e ≤ f) → n ≤ m → (if x then e else n + 64) ≤ (if y then f else m + 64)
level_if true true e f n m same off on = off refl
level_if false false e f n m same off on = omega (arith, on)
level_if true false e f n m same off on = absurd (false≢true (sym same))
level_if false true e f n m same off on = absurd (false≢true same)

room_if : (x y : Bool) (e f n m : ℕ) → x ≡ false → y ≡ false → n ≤ m + 192 → (if x then e else n + 64) ≤ (if y then f else m + 64) + 192
room_if false false e f n m off was on = omega (arith, on)
room_if true y e f n m off was on = absurd (false≢true (sym off))
room_if false true e f n m off was on = absurd (false≢true (sym was))

mount_if : (x y : Bool) (e f n m : ℕ) → x ≡ false → y ≡ true → n ≤ f → (if x then e else n + 64) ≤ (if y then f else m + 64) + 192
mount_if false true e f n m off was on = omega (arith, on)
mount_if true y e f n m off was on = absurd (false≢true (sym off))
mount_if false false e f n m off was on = absurd (false≢true was)

leave_if : (x y : Bool) (e f n m : ℕ) → x ≡ true → y ≡ false → e ≤ m + 64 → (if x then e else n + 64) ≤ (if y then f else m + 64)
leave_if true false e f n m off was on = on
leave_if false y e f n m off was on = absurd (false≢true off)
leave_if true true e f n m off was on = absurd (false≢true (sym was))

-- ---- rings

issued_top : (r : Ring) (x : LogSector) (xs : List LogSector) → r.waiting ≡ x ∷ xs → last (issued r) ≤ last r
issued_top r x xs e =
    subst (λ (w : List LogSector). r.reached + length (r.above ++ false ∷ []) + length (drop 1 w) ≤ r.reached + length r.above + length w) (sym e)
    (subst (λ n. r.reached + n + length xs ≤ r.reached + length r.above + suc (length xs)) (sym (length-append r.above (false ∷ []))) (less r.reached (length r.above) (length xs)))
  where
    less : (n k m : ℕ) → n + (k + 1) + m ≤ n + k + suc m
    less n k m = omega arith

next_top : (r : Ring) (number : ℕ) (block : Block) → next_write r ≡ Some (number, block) → last (issued r) ≤ last r
next_top r number block e = go r.waiting refl e
  where
    go : (w : List LogSector) → r.waiting ≡ w → first_waiting (sent r + 1) w ≡ Some (number, block) → last (issued r) ≤ last r
    go [] f e = absurd (none-some (number, block) e)
    go (x ∷ xs) f e = issued_top r x xs f

module _ (s : State) (a : ℕ) (server : IsTrue (is_server a)) (b : Before s a) (j : Journal) (log : IsLog s a j) where
  abbrev old : Server
  old = s.core.servers a

  -- the log of a server that is off isn't written
  off_blocks : (disk : Sectors) → DiskChange s disk → IsTrue (is_off old.phase) → SameSlots (slots_of disk a) (slots_of s.disk a)
  off_blocks disk Stands off = λ slot low. refl
  off_blocks disk (Arrived ticket flight e early) off = go (touch s b.facts b.reads a server j log (written s.disk flight.sector flight.block) (Arrived ticket flight e early) (λ number of by. ar.not_off a server off by))
    where
      one : (x : ℕ × Flight) × Among x s.core.flights × (x.1 ≡ flight)
      one = flight_at s.core.flights ticket flight e

      ar : Arriving s flight
      ar =
          subst (Arriving s) one.2
          (b.facts.arriving one.0 one.1 (subst (λ (f : Flight). s.core.now ≤ f.stamp) (sym one.2) early) (in_flights Placed s.core.flights one.0 one.1 b.reads.placed))

      go : Touch s a j (written s.disk flight.sector flight.block) → SameSlots (slots_of (written s.disk flight.sector flight.block) a) (slots_of s.disk a)
      go (Beside same) = same
      go (Seals dead f k q e w is) = absurd (both_ways (is_dead old.phase) (off_dead_not old.phase off) dead)

  level : (disk : Sectors) → DiskChange s disk → (new : Server) → is_off new.phase ≡ is_off old.phase → last new.ring ≤ last old.ring → Rise s a new disk
  level disk change new off rings =
      Level (level_if (is_off new.phase) (is_off old.phase) (log_end (slots_of disk a)) (log_end (slots_of s.disk a)) (last new.ring) (last old.ring) off
      (λ o. subst (λ n. n ≤ log_end (slots_of s.disk a)) (sym (log_end_same (slots_of disk a) (slots_of s.disk a) (off_blocks disk change o))) (le_refl (log_end (slots_of s.disk a)))) rings)

  rests : (disk : Sectors) → DiskChange s disk → Rise s a old disk
  rests disk change = level disk change old refl (le_refl (last old.ring))

  put_rise : (disk : Sectors) → DiskChange s disk → (c : ℕ) (new : Server) → (a ≡ c → Rise s a new disk) → Rise s a (put s.core.servers c new a) disk
  put_rise disk change c new here = at_put (λ x. Rise s a x disk) s.core.servers c new a here (λ n. rests disk change)

  alike : (disk : Sectors) → DiskChange s disk → (c : ℕ) (new : Server) → is_off new.phase ≡ is_off (s.core.servers c).phase → last new.ring ≤ last (s.core.servers c).ring → Rise s a (put s.core.servers c new a) disk
  alike disk change c new off rings =
      put_rise disk change c new (λ e. level disk change new (off ∙ ap (λ n. is_off (s.core.servers n).phase) (sym e)) (subst (λ n. last new.ring ≤ last (s.core.servers n).ring) (sym e) rings))

  failed : (disk : Sectors) → DiskChange s disk → (c : ℕ) → Rise s a (failed_at s.core.servers c a) disk
  failed disk change c = go (c == host_party)
    where
      go : (t : Bool) → Rise s a ((if t then s.core.servers else put s.core.servers c (failed_by (s.core.servers c))) a) disk
      go true = rests disk change
      go false = alike disk change c (failed_by (s.core.servers c)) refl (le_refl (last (s.core.servers c).ring))

  flushed : (test : Bool) → Rise s a (if test then wanting_all_up old else old) s.disk
  flushed false = rests s.disk Stands
  flushed true = go (is_up old.phase)
    where
      go : (t : Bool) → Rise s a (if t then wanting_all old else old) s.disk
      go true = level s.disk Stands (wanting_all old) refl (le_refl (last old.ring))
      go false = rests s.disk Stands

  -- a record
  module _ (outcome : Outcome) (at : stage s.core a ≡ Some (Finishing outcome)) (windows : KeepsWindows disk_logs (appended_some old.ring outcome.redo)) where
    is_awake : IsTrue (is_up old.phase)
    is_awake = stage_up (is_up old.phase) (asks is_path_op old) (stage_under s.core.setting s.core.locks a old.cache old.under) (Finishing outcome) at

    has_line : IsTrue (is_some old.under)
    has_line = go (is_up old.phase && asks is_path_op old) old.under at
      where
        go : (t : Bool) (u : Option Under) → (if t then stage_under s.core.setting s.core.locks a old.cache u else None) ≡ Some (Finishing outcome) → IsTrue (is_some u)
        go false u e = absurd (none-some (Finishing outcome) e)
        go true None e = absurd (none-some (Finishing outcome) e)
        go true (Some u) e = refl

    grows : (redo : Option Redo) → KeepsWindows disk_logs (appended_some old.ring redo) → last (appended_some old.ring redo) ≤ last old.ring + 192
    grows None w = more (last old.ring)
      where
        more : (n : ℕ) → n ≤ n + 192
        more n = omega arith
    grows (Some redo) w =
        subst (λ n. sent old.ring + n ≤ last old.ring + 192) (sym (length-framed (last old.ring + 1) old.ring.waiting (frame_bytes redo)))
        (more (sent old.ring) (length old.ring.waiting) (need old.ring redo) old.ring.given_up (leb-true (need old.ring redo) (free old.ring) (had_room s a server b j log old.ring redo w)))
      where
        more : (n k m g : ℕ) → m ≤ 192 - (n + k - g) → n + (k + m) ≤ n + k + 192
        more n k m g h = omega (arith, h)

    commit_rise : (disk : Sectors) → Rise s a (committed_by outcome old) disk
    commit_rise disk =
        Ends has_line refl
        (room_if (is_off old.phase) (is_off old.phase) (log_end (slots_of disk a)) (log_end (slots_of s.disk a)) (last (appended_some old.ring outcome.redo)) (last old.ring)
        (mounted_off_not old.phase (up_mounted old.phase is_awake)) (mounted_off_not old.phase (up_mounted old.phase is_awake)) (grows outcome.redo windows))

  -- a mount begins, and ends
  mount_rise : (under : Under) → IsTrue (is_off old.phase) → old.under ≡ Some under → IsTrue (is_read s.core.setting.logs under.slots) → Rise s a (up_after s.core under) s.disk
  mount_rise under off has read =
      Ends (ap is_some has) refl
      (mount_if false (is_off old.phase) (log_end (slots_of s.disk a)) (log_end (slots_of s.disk a)) (end_of s.core.setting.logs under.slots + 0 + 0) (last old.ring) refl off
      (zero (end_of s.core.setting.logs under.slots) (log_end (slots_of s.disk a)) (end_is s a server b j log under off has read)))
    where
      zero : (n m : ℕ) → n ≡ m → n + 0 + 0 ≤ m
      zero n m e = omega (arith, e)

  end_within : is_off old.phase ≡ false → log_end j.log.slots ≤ last old.ring
  end_within on = up_to (log_end j.log.slots) (sent old.ring) (length old.ring.waiting) (subst (λ r. log_end j.log.slots ≤ sent r) is.ring_is (good_ends j.before j.log is.good).not_above)
    where
      is : IsJournal old.ring s.core.now s.core.flights a j
      is = log.journal on

      up_to : (n m k : ℕ) → n ≤ m → n ≤ m + k
      up_to n m k h = omega (arith, h)

  leave_rise : IsTrue (is_up old.phase) → Rise s a (off_after old) s.disk
  leave_rise up =
      Level (leave_if true (is_off old.phase) (log_end (slots_of s.disk a)) (log_end (slots_of s.disk a)) (last old.ring) (last old.ring) refl on
      (more (log_end (slots_of s.disk a)) (last old.ring) (subst (λ n. n ≤ last old.ring) (sym (log_end_same (slots_of s.disk a) j.log.slots (log.live (up_mounted old.phase up)))) (end_within on))))
    where
      on : is_off old.phase ≡ false
      on = mounted_off_not old.phase (up_mounted old.phase up)

      more : (n m : ℕ) → n ≤ m → n ≤ m + 64
      more n m h = omega (arith, h)

  finish_rise : IsTrue (is_dead old.phase) → Rise s a (recovered old) s.disk
  finish_rise dead =
      Level (leave_if true (is_off old.phase) (log_end (slots_of s.disk a)) (log_end (slots_of s.disk a)) 0 (last old.ring) refl (dead_off_not old dead)
      (go (sealing_reads j.log.slots bounds.low bounds.high bounds.within s.core.now old.expiry (slots_of s.disk a) (log.left dead).stands)))
    where
      bounds : Bounds j.log.slots
      bounds = bounds_of old.ring s.core.now s.core.flights a j (log.journal (dead_off_not old dead)) (b.fit.ring (dead_off_not old dead))

      same : (n m l : ℕ) → n ≡ m → m ≤ l → n ≤ l + 64
      same n m l e h = omega (arith, e, h)

      more : (n m l : ℕ) → n ≡ m + 64 → m ≤ l → n ≤ l + 64
      more n m l e h = omega (arith, e, h)

      go : HasAll j.log.slots (slots_of s.disk a) ⊎ IsSealedFrom j.log.slots (slots_of s.disk a) → log_end (slots_of s.disk a) ≤ last old.ring + 64
      go (inl all) = same (log_end (slots_of s.disk a)) (log_end j.log.slots) (last old.ring) all.end (end_within (dead_off_not old dead))
      go (inr sealed) = more (log_end (slots_of s.disk a)) (log_end j.log.slots) (last old.ring) sealed.end (end_within (dead_off_not old dead))

  -- a write is issued, or acknowledged
  issue_rings : (c sector : ℕ) (write : Write) → value_at (writes s.core c) sector ≡ Some write → last (ring_after write.purpose (s.core.servers c).ring) ≤ last (s.core.servers c).ring
  issue_rings c sector write e = go (wanted_is s.core.setting s.core.locks c (s.core.servers c) (stage s.core c) sector write e)
    where
      go : Wanted s.core.setting.logs s.core.setting.segments c (s.core.servers c) sector write → last (ring_after write.purpose (s.core.servers c).ring) ≤ last (s.core.servers c).ring
      go (Rescues recovery block has i wr) =
          subst (λ (x : Write). last (ring_after x.purpose (s.core.servers c).ring) ≤ last (s.core.servers c).ring) (sym wr) (le_refl (last (s.core.servers c).ring))
      go (Places cached dirt i d wr) =
          subst (λ (x : Write). last (ring_after x.purpose (s.core.servers c).ring) ≤ last (s.core.servers c).ring) (sym wr) (le_refl (last (s.core.servers c).ring))
      go (NextOfLog number block n at wr) =
          subst (λ (x : Write). last (ring_after x.purpose (s.core.servers c).ring) ≤ last (s.core.servers c).ring) (sym wr) (next_top (s.core.servers c).ring number block n)

  taken_off : (sector : ℕ) (block : Block) (p : Purpose) (c : ℕ) → is_off (taken_by sector block p (s.core.servers c)).phase ≡ is_off (s.core.servers c).phase
  taken_off sector block (OfLog number) c = refl
  taken_off sector block OfRecovery c = refl
  taken_off sector block (InPlace cover) c = go (comes_clean (s.core.servers c) sector block)
    where
      go : (t : Bool) → is_off (if t then clean_now sector (s.core.servers c) else s.core.servers c).phase ≡ is_off (s.core.servers c).phase
      go true = refl
      go false = refl

  taken_ring : (sector : ℕ) (block : Block) (p : Purpose) (c : ℕ) → last (taken_by sector block p (s.core.servers c)).ring ≤ last (s.core.servers c).ring
  taken_ring sector block (OfLog number) c = subst (λ n. n ≤ last (s.core.servers c).ring) (sym (acked_last (s.core.servers c).ring number)) (le_refl (last (s.core.servers c).ring))
  taken_ring sector block OfRecovery c = le_refl (last (s.core.servers c).ring)
  taken_ring sector block (InPlace cover) c = go (comes_clean (s.core.servers c) sector block)
    where
      go : (t : Bool) → last (if t then clean_now sector (s.core.servers c) else s.core.servers c).ring ≤ last (s.core.servers c).ring
      go true = le_refl (last (s.core.servers c).ring)
      go false = le_refl (last (s.core.servers c).ring)

pub turn_rise : (s : State) (w : Work) → Turn s w → (a : ℕ) (server : IsTrue (is_server a)) → Before s a → KeepsWindows disk_logs (w.servers a).ring → (j : Journal) → IsLog s a j → Rise s a (w.servers a) w.disk
turn_rise s w Rests a server b windows j log = rests s a server b j log s.disk Stands
turn_rise s w (Stays c) a server b windows j log = alike s a server b j log s.disk Stands c _ refl (le_refl (last (s.core.servers c).ring))
turn_rise s w (Lines c under is step) a server b windows j log = alike s a server b j log s.disk Stands c _ refl (le_refl (last (s.core.servers c).ring))
turn_rise s w (Caches c sector block needs cover is e f got) a server b windows j log = alike s a server b j log s.disk Stands c _ refl (le_refl (last (s.core.servers c).ring))
turn_rise s w (Reclaims c outcome is e) a server b windows j log = alike s a server b j log s.disk Stands c _ refl (le_refl (last (s.core.servers c).ring))
turn_rise s w (Clears c block is e) a server b windows j log = alike s a server b j log s.disk Stands c _ refl (le_refl (last (s.core.servers c).ring))
turn_rise s w (Commits c outcome is e settled) a server b windows j log =
    put_rise s a server b j log s.disk Stands c _
    (λ same. subst (λ n. Rise s a (committed_by outcome (s.core.servers n)) s.disk) same
    (commit_rise s a server b j log outcome (subst (λ n. stage s.core n ≡ Some (Finishing outcome)) (sym same) e) (subst (λ (x : Server). KeepsWindows disk_logs x.ring) (put_here same) windows) s.disk))
  where
    put_here : a ≡ c → put s.core.servers c (committed_by outcome (s.core.servers c)) a ≡ committed_by outcome (s.core.servers a)
    put_here same =
        ap (put s.core.servers c (committed_by outcome (s.core.servers c))) same ∙ put_same s.core.servers c (committed_by outcome (s.core.servers c))
        ∙ ap (λ n. committed_by outcome (s.core.servers n)) (sym same)
turn_rise s w (Mounts c under is off has read) a server b windows j log =
    put_rise s a server b j log s.disk Stands c _
    (λ same. mount_rise s a server b j log under (subst (λ n. IsTrue (is_off (s.core.servers n).phase)) (sym same) off) (subst (λ n. (s.core.servers n).under ≡ Some under) (sym same) has) read)
turn_rise s w (Leaves c is up clean) a server b windows j log =
    put_rise s a server b j log s.disk Stands c _
    (λ same. subst (λ n. Rise s a (off_after (s.core.servers n)) s.disk) same (leave_rise s a server b j log (subst (λ n. IsTrue (is_up (s.core.servers n).phase)) (sym same) up)))
turn_rise s w (Arms c arming is up) a server b windows j log = alike s a server b j log s.disk Stands c _ refl (le_refl (last (s.core.servers c).ring))
turn_rise s w (Stalls c is up) a server b windows j log =
    alike s a server b j log s.disk Stands c _ (sym (mounted_off_not (s.core.servers c).phase (up_mounted (s.core.servers c).phase up))) (le_refl (last (s.core.servers c).ring))
turn_rise s w (Settles c is) a server b windows j log = alike s a server b j log s.disk Stands c _ refl (le_refl (last (s.core.servers c).ring))
turn_rise s w (Asks c lock mode is e) a server b windows j log = rests s a server b j log s.disk Stands
turn_rise s w (Lowers c lock can) a server b windows j log = rests s a server b j log s.disk Stands
turn_rise s w (Releases c lock can) a server b windows j log = alike s a server b j log s.disk Stands c _ refl (le_refl (last (s.core.servers c).ring))
turn_rise s w (Relocks locks are same wait) a server b windows j log = rests s a server b j log s.disk Stands
turn_rise s w (Wants c up) a server b windows j log = alike s a server b j log s.disk Stands c _ refl (le_refl (last (s.core.servers c).ring))
turn_rise s w (Issues c sector write can e) a server b windows j log = alike s a server b j log s.disk Stands c _ refl (issue_rings s a server b j log c sector write e)
turn_rise s w (Fades ticket flight e late) a server b windows j log = rests s a server b j log s.disk Stands
turn_rise s w (Lands ticket flight e early present) a server b windows j log =
    alike s a server b j log _ (Arrived ticket flight e early) flight.server _ (taken_off s a server b j log flight.sector flight.block flight.purpose flight.server)
    (taken_ring s a server b j log flight.sector flight.block flight.purpose flight.server)
turn_rise s w (Drifts ticket flight e early present) a server b windows j log = rests s a server b j log _ (Arrived ticket flight e early)
turn_rise s w (Breaks ticket flight true e early) a server b windows j log = failed s a server b j log _ (Arrived ticket flight e early) flight.server
turn_rise s w (Breaks ticket flight false e early) a server b windows j log = failed s a server b j log s.disk Stands flight.server
turn_rise s w (Fails c) a server b windows j log = failed s a server b j log s.disk Stands c
turn_rise s w (Dooms c fate can) a server b windows j log =
    alike s a server b j log s.disk Stands c _ (sym (mounted_off_not (s.core.servers c).phase (doomed_mounted s.core c b.facts.safe can))) (le_refl (last (s.core.servers c).ring))
turn_rise s w (Resumes c can) a server b windows j log =
    alike s a server b j log s.disk Stands c _
    (sym (mounted_off_not (s.core.servers c).phase (still_mounted (s.core.servers c).phase (and_parts (is_still (s.core.servers c).phase) _ can.past).0))) (le_refl (last (s.core.servers c).ring))
turn_rise s w (Dies c fate is p) a server b windows j log = alike s a server b j log s.disk Stands c _ (sym (ap is_off p)) (le_refl (last (s.core.servers c).ring))
turn_rise s w (Renews c can) a server b windows j log = alike s a server b j log s.disk Stands c _ refl (le_refl (last (s.core.servers c).ring))
turn_rise s w (Ticks can) a server b windows j log = flushed s a server b j log ((s.core.now + 1) % s.core.setting.flush_ticks == 0)
turn_rise s w (Recovers dead c can) a server b windows j log = alike s a server b j log s.disk Stands c _ refl (le_refl (last (s.core.servers c).ring))
turn_rise s w (Loads c slot block recovery who has wants got) a server b windows j log = alike s a server b j log s.disk Stands c _ refl (le_refl (last (s.core.servers c).ring))
turn_rise s w (Looks c sector block recovery who has wants got) a server b windows j log = alike s a server b j log s.disk Stands c _ refl (le_refl (last (s.core.servers c).ring))
turn_rise s w (Finishes c recovery can has) a server b windows j log =
    at_put (λ x. Rise s a x s.disk) (put s.core.servers c (record (s.core.servers c) { recovery = None })) recovery.dead (recovered (s.core.servers recovery.dead)) a
    (λ same. subst (λ n. Rise s a (recovered (s.core.servers n)) s.disk) same
    (finish_rise s a server b j log (subst (λ n. IsTrue (is_dead (s.core.servers n).phase)) (sym same) (b.facts.safe.saved c recovery.dead can.who (ap dead_of has)).0)))
    (λ apart. alike s a server b j log s.disk Stands c (record (s.core.servers c) { recovery = None }) refl (le_refl (last (s.core.servers c).ring)))
turn_rise s w Halts a server b windows j log = rests s a server b j log s.disk Stands
