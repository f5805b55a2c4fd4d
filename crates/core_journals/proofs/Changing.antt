-- What each step makes of the recovery of who is at work: it is as before, but for what was looked at; it has read a slot more, or a write of it is acknowledged; or it begins.
use Rattle.std.proofs.Common.{◌≡◌, ℕ, ◌≤◌, ◌%◌, Bool, true, false, ◌&&◌, ◌||◌, ◌==◌, ◌+◌, if◌then◌else◌, IsTrue, Option, Some, None, refl, sym, ap, ◌∙◌, subst, arith}
use Rattle.std.proofs.lemmas.Bool.{eqb-true, false≢true}
use Rattle.std.proofs.lemmas.Bool.Decides.{nat_tests}
use Rattle.std.proofs.lemmas.Option.{same_Some, none-some}
use Rattle.std.specs.Option.{option_map}
use Rattle.frang_base.specs.Functions.{put}
use Rattle.frang_base.proofs.Basics.{at_put}
use Rattle.frang_outside.specs.Disk.{written}
use Rattle.disk_definitions.specs.Regions.{sector_of}
use Rattle.disk_definitions.specs.declared.region.Region.TheVariants as region
use Rattle.sector_bytes.specs.Blocks.{Block}
use Rattle.sector_bytes.specs.SectorMaps.{value_at}
use Rattle.sector_bytes.specs.Sectors.{Sectors}
use Rattle.core_definitions.specs.Flights.{Flight, InPlace, OfLog, OfRecovery, Purpose}
use Rattle.core_definitions.specs.Recoveries.{Recovery, recovery_of}
use Rattle.core_definitions.specs.Scripts.{host_party}
use Rattle.core_definitions.specs.Servers.{Server, is_up, wanting_all, wanting_all_up}
use Rattle.core_definitions.specs.Writes.{comes_clean}
use Rattle.core_definitions.specs.LineGuards.{is_server}
use Rattle.core_definitions.specs.WriteGuards.{is_worker}
use Rattle.core_definitions.specs.EndGuards.{CanRecover, wants_slot}
use Rattle.core_definitions.specs.LineEffects.{failed_by}
use Rattle.core_definitions.specs.WriteEffects.{acknowledged, acknowledged_for, clean_now}
use Rattle.core_definitions.specs.Effects.{disk_with}
use Rattle.core_definitions.specs.Events.{PutFailed}
use Rattle.core_definitions.specs.EndEffects.{look_made, recovered, slot_loaded}
use Rattle.core_definitions.specs.Runs.{State}
use Rattle.core_facts.proofs.Reading.{at_work}
use Rattle.core_facts.proofs.Turns.{Work, failed_at, Turn, Rests, Stays, Lines, Caches, Reclaims, Clears, Commits, Mounts, Leaves, Arms, Stalls, Settles, Asks, Lowers, Releases, Relocks, Wants, Issues, Fades, Lands, Drifts, Breaks, Fails, Dooms, Resumes, Dies, Renews, Ticks, Recovers, Loads, Looks, Finishes, Halts}
use Rattle.core_laws.proofs.Memory.{Safe, dead_of}
use Rattle.core_laws.proofs.Resting.{server_no_host}

-- where the recovery of who is at work comes from
pub data Change (s : State) (disk : Sectors) (by : ℕ) (r : Recovery) : Type 0 where
  Kept : (old : Recovery) → IsTrue (is_worker s.core by) → (s.core.servers by).recovery ≡ Some old → old.dead ≡ r.dead → old.slots ≡ r.slots → old.written ≡ r.written → Change s disk by r
  Read : (old : Recovery) (slot : ℕ) (block : Block) → IsTrue (is_worker s.core by) → (s.core.servers by).recovery ≡ Some old → IsTrue (wants_slot s.core slot old) →
      block ≡ s.disk (sector_of (region.Log old.dead slot)) → slot_loaded slot block old ≡ r → Change s disk by r
  Written_ : (old : Recovery) (ticket : ℕ) (flight : Flight) → IsTrue (is_worker s.core by) → (s.core.servers by).recovery ≡ Some old → value_at s.core.flights ticket ≡ Some flight →
      flight.server ≡ by → flight.purpose ≡ OfRecovery → flight.present ≡ true → s.core.now ≤ flight.stamp → disk ≡ written s.disk flight.sector flight.block →
      acknowledged_for flight.sector old ≡ r → Change s disk by r
  Taken : CanRecover s.core r.dead by → recovery_of r.dead ≡ r → Change s disk by r

abbrev ChangeOf : State → Sectors → ℕ → Server → Type 0
ChangeOf s disk by new = IsTrue (at_work by new.phase) → (r : Recovery) → new.recovery ≡ Some r → Change s disk by r

-- the same recovery of one that works no more than before
same_change : (s : State) (disk : Sectors) (by : ℕ) (new : Server) → (IsTrue (at_work by new.phase) → IsTrue (is_worker s.core by)) → new.recovery ≡ (s.core.servers by).recovery → ChangeOf s disk by new
same_change s disk by new works same w r e = Kept r (works w) (sym same ∙ e) refl refl refl

none_change : (s : State) (disk : Sectors) (by : ℕ) (new : Server) → new.recovery ≡ None → ChangeOf s disk by new
none_change s disk by new none w r e = absurd (none-some r (sym none ∙ e))

unchanged : (s : State) (disk : Sectors) (by : ℕ) → ChangeOf s disk by (s.core.servers by)
unchanged s disk by = same_change s disk by (s.core.servers by) (λ w. w) refl

put_change : (s : State) (disk : Sectors) (a : ℕ) (new : Server) → ChangeOf s disk a new → (by : ℕ) → ChangeOf s disk by (put s.core.servers a new by)
put_change s disk a new here by = at_put (ChangeOf s disk by) s.core.servers a new by (λ e. subst (λ k. ChangeOf s disk k new) (sym e) here) (λ n. unchanged s disk by)

put_alike : (s : State) (disk : Sectors) (a : ℕ) (new : Server) → (IsTrue (at_work a new.phase) → IsTrue (is_worker s.core a)) → new.recovery ≡ (s.core.servers a).recovery → (by : ℕ) → ChangeOf s disk by (put s.core.servers a new by)
put_alike s disk a new works same by = put_change s disk a new (same_change s disk a new works same) by

put_none : (s : State) (disk : Sectors) (a : ℕ) (new : Server) → new.recovery ≡ None → (by : ℕ) → ChangeOf s disk by (put s.core.servers a new by)
put_none s disk a new none by = put_change s disk a new (none_change s disk a new none) by

-- a server in a phase that isn't Up works not
works_not : (a : ℕ) → IsTrue (is_server a) → (up h : Bool) → up ≡ false → (is_server a && up) || (a == host_party) ≡ true → ⊥
works_not a server up h u w = go (is_server a) up (a == host_party) u (server_no_host a server) w
  where
    go : (number up h : Bool) → up ≡ false → h ≡ false → (number && up) || h ≡ true → ⊥
    go true true h u e w = false≢true (sym u)
    go true false h u e w = false≢true (sym e ∙ w)
    go false up h u e w = false≢true (sym e ∙ w)

failed_change : (s : State) (disk : Sectors) (a by : ℕ) → ChangeOf s disk by (failed_at s.core.servers a by)
failed_change s disk a by = go (a == host_party)
  where
    go : (b : Bool) → ChangeOf s disk by ((if b then s.core.servers else put s.core.servers a (failed_by (s.core.servers a))) by)
    go true = unchanged s disk by
    go false = put_change s disk a (failed_by (s.core.servers a)) (same_change s disk a (failed_by (s.core.servers a)) (λ w. w) refl) by

flushed_change : (s : State) (disk : Sectors) (by : ℕ) (test : Bool) → ChangeOf s disk by (if test then wanting_all_up (s.core.servers by) else s.core.servers by)
flushed_change s disk by false = unchanged s disk by
flushed_change s disk by true = go (is_up (s.core.servers by).phase)
  where
    go : (b : Bool) → ChangeOf s disk by (if b then wanting_all (s.core.servers by) else s.core.servers by)
    go true = same_change s disk by (wanting_all (s.core.servers by)) (λ w. w) refl
    go false = unchanged s disk by

landed_change : (s : State) (disk : Sectors) (ticket : ℕ) (flight : Flight) → value_at s.core.flights ticket ≡ Some flight → flight.present ≡ true → s.core.now ≤ flight.stamp → disk ≡ written s.disk flight.sector flight.block → (p : Purpose) → flight.purpose ≡ p →
    ChangeOf s disk flight.server (acknowledged flight.sector flight.block p (s.core.servers flight.server))
landed_change s disk ticket flight e present early wrote (OfLog number) q = same_change s disk flight.server (acknowledged flight.sector flight.block (OfLog number) (s.core.servers flight.server)) (λ w. w) refl
landed_change s disk ticket flight e present early wrote (InPlace cover) q = go (comes_clean (s.core.servers flight.server) flight.sector flight.block)
  where
    go : (b : Bool) → ChangeOf s disk flight.server (if b then clean_now flight.sector (s.core.servers flight.server) else s.core.servers flight.server)
    go true = same_change s disk flight.server (clean_now flight.sector (s.core.servers flight.server)) (λ w. w) refl
    go false = unchanged s disk flight.server
landed_change s disk ticket flight e present early wrote OfRecovery q = λ w r is. go w r (s.core.servers flight.server).recovery refl is
  where
    go : IsTrue (is_worker s.core flight.server) → (r : Recovery) (o : Option Recovery) → (s.core.servers flight.server).recovery ≡ o → option_map (acknowledged_for flight.sector) o ≡ Some r → Change s disk flight.server r
    go w r None f is = absurd (none-some r is)
    go w r (Some old) f is = Written_ old ticket flight w f e refl q present early wrote (same_Some (acknowledged_for flight.sector old) r is)

finished_change : (s : State) (disk : Sectors) (by i : ℕ) (old : Recovery) → IsTrue (is_worker s.core by) → (s.core.servers by).recovery ≡ Some old → Safe s.core.servers →
    ChangeOf s disk i (put (put s.core.servers by (record (s.core.servers by) { recovery = None })) old.dead (recovered (s.core.servers old.dead)) i)
finished_change s disk by i old who has safe =
    at_put (ChangeOf s disk i) (put s.core.servers by (record (s.core.servers by) { recovery = None })) old.dead (recovered (s.core.servers old.dead)) i
    (λ e w r f. absurd (works_not i (subst (λ n. IsTrue (is_server n)) (sym e) (safe.saved by old.dead who (ap dead_of has)).1) false false refl w))
    (λ n. put_change s disk by (record (s.core.servers by) { recovery = None }) (none_change s disk by (record (s.core.servers by) { recovery = None }) refl) i)

pub turn_recovery : (s : State) (w : Work) → Turn s w → Safe s.core.servers → (by : ℕ) → ChangeOf s w.disk by (w.servers by)
turn_recovery s w Rests safe by = unchanged s _ by
turn_recovery s w (Stays a) safe by = put_change s _ a _ (unchanged s _ a) by
turn_recovery s w (Lines a under server step) safe by = put_alike s _ a _ (λ w. w) refl by
turn_recovery s w (Caches a sector block needs cover server e f got) safe by = put_alike s _ a _ (λ w. w) refl by
turn_recovery s w (Reclaims a outcome server e) safe by = put_alike s _ a _ (λ w. w) refl by
turn_recovery s w (Clears a block server e) safe by = put_alike s _ a _ (λ w. w) refl by
turn_recovery s w (Commits a outcome server e cleared) safe by = put_alike s _ a _ (λ w. w) refl by
turn_recovery s w (Mounts a under server off u read) safe by = put_none s _ a _ refl by
turn_recovery s w (Leaves a server up clean) safe by = put_none s _ a _ refl by
turn_recovery s w (Arms a arming server up) safe by = put_alike s _ a _ (λ w. w) refl by
turn_recovery s w (Stalls a server up) safe by = put_change s _ a _ (λ w r e. absurd (works_not a server false false refl w)) by
turn_recovery s w (Settles a server) safe by = put_alike s _ a _ (λ w. w) refl by
turn_recovery s w (Asks a lock mode server e) safe by = unchanged s _ by
turn_recovery s w (Lowers a lock can) safe by = unchanged s _ by
turn_recovery s w (Releases a lock can) safe by = put_alike s _ a _ (λ w. w) refl by
turn_recovery s w (Relocks locks are same wait) safe by = unchanged s _ by
turn_recovery s w (Wants a up) safe by = put_alike s _ a _ (λ w. w) refl by
turn_recovery s w (Issues a sector write can e) safe by = put_alike s _ a _ (λ w. w) refl by
turn_recovery s w (Fades ticket flight e late) safe by = unchanged s _ by
turn_recovery s w (Lands ticket flight e early present) safe by = put_change s _ flight.server _ (landed_change s _ ticket flight e present early refl flight.purpose refl) by
turn_recovery s w (Drifts ticket flight e early present) safe by = unchanged s _ by
turn_recovery s w (Breaks ticket flight new e early) safe by = failed_change s _ flight.server by
turn_recovery s w (Fails a) safe by = failed_change s _ a by
turn_recovery s w (Dooms a fate can) safe by = put_change s _ a _ (λ w r e. absurd (works_not a can.server false false refl w)) by
turn_recovery s w (Resumes a can) safe by = put_none s _ a _ refl by
turn_recovery s w (Dies a fate server p) safe by = put_none s _ a _ refl by
turn_recovery s w (Renews a can) safe by = put_alike s _ a _ (λ w. w) refl by
turn_recovery s w (Ticks can) safe by = flushed_change s _ by ((s.core.now + 1) % s.core.setting.flush_ticks == 0)
turn_recovery s w (Recovers dead by' can) safe by =
    put_change s _ by' _ (λ w r e. let is : recovery_of dead ≡ r = same_Some (recovery_of dead) r e in Taken (subst (λ (x : Recovery). CanRecover s.core x.dead by') is can) (subst (λ (x : Recovery). recovery_of x.dead ≡ x) is refl)) by
turn_recovery s w (Loads by' slot block old who has wants got) safe by =
    put_change s _ by' _ (λ w r e. Read old slot block w has wants got (same_Some (slot_loaded slot block old) r e)) by
turn_recovery s w (Looks by' sector block old who has wants got) safe by = put_change s _ by' _ (λ w r e. looked_change old has w r (same_Some _ r e)) by
  where
    looked_change : (old : Recovery) → (s.core.servers by').recovery ≡ Some old → IsTrue (is_worker s.core by') → (r : Recovery) → look_made s.core sector block old ≡ r → Change s s.disk by' r
    looked_change old has w r is = Kept old w has (ap (λ (x : Recovery). x.dead) is) (ap (λ (x : Recovery). x.slots) is) (ap (λ (x : Recovery). x.written) is)
turn_recovery s w (Finishes by' old can has) safe by = finished_change s _ by' by old can.who has safe
turn_recovery s w Halts safe by = unchanged s _ by

-- ---- the disk

-- it is as before, or a write in flight has arrived in time
pub data DiskChange (s : State) : Sectors → Type 0 where
  Stands : DiskChange s s.disk
  Arrived : (ticket : ℕ) (flight : Flight) → value_at s.core.flights ticket ≡ Some flight → s.core.now ≤ flight.stamp → DiskChange s (written s.disk flight.sector flight.block)

broken_disk : (s : State) (ticket : ℕ) (flight : Flight) (new : Bool) → value_at s.core.flights ticket ≡ Some flight → s.core.now ≤ flight.stamp → DiskChange s (disk_with s.disk flight (PutFailed new))
broken_disk s ticket flight true e early = Arrived ticket flight e early
broken_disk s ticket flight false e early = Stands

pub turn_disk : (s : State) (w : Work) → Turn s w → DiskChange s w.disk
turn_disk s w Rests = Stands
turn_disk s w (Stays a) = Stands
turn_disk s w (Lines a under server step) = Stands
turn_disk s w (Caches a sector block needs cover server e f got) = Stands
turn_disk s w (Reclaims a outcome server e) = Stands
turn_disk s w (Clears a block server e) = Stands
turn_disk s w (Commits a outcome server e cleared) = Stands
turn_disk s w (Mounts a under server off u read) = Stands
turn_disk s w (Leaves a server up clean) = Stands
turn_disk s w (Arms a arming server up) = Stands
turn_disk s w (Stalls a server up) = Stands
turn_disk s w (Settles a server) = Stands
turn_disk s w (Asks a lock mode server e) = Stands
turn_disk s w (Lowers a lock can) = Stands
turn_disk s w (Releases a lock can) = Stands
turn_disk s w (Relocks locks are same wait) = Stands
turn_disk s w (Wants a up) = Stands
turn_disk s w (Issues a sector write can e) = Stands
turn_disk s w (Fades ticket flight e late) = Stands
turn_disk s w (Lands ticket flight e early present) = Arrived ticket flight e early
turn_disk s w (Drifts ticket flight e early present) = Arrived ticket flight e early
turn_disk s w (Breaks ticket flight new e early) = broken_disk s ticket flight new e early
turn_disk s w (Fails a) = Stands
turn_disk s w (Dooms a fate can) = Stands
turn_disk s w (Resumes a can) = Stands
turn_disk s w (Dies a fate server p) = Stands
turn_disk s w (Renews a can) = Stands
turn_disk s w (Ticks can) = Stands
turn_disk s w (Recovers dead by can) = Stands
turn_disk s w (Loads by slot block recovery who has wants got) = Stands
turn_disk s w (Looks by sector block recovery who has wants got) = Stands
turn_disk s w (Finishes by recovery can has) = Stands
turn_disk s w Halts = Stands

-- a sector of another number isn't written
pub written_elsewhere : (disk : Sectors) (sector other : ℕ) (block : Block) → (sector ≡ other → ⊥) → written disk sector block other ≡ disk other
written_elsewhere disk sector other block apart = go (sector == other) refl
  where
    go : (b : Bool) → (sector == other) ≡ b → (if b then block else disk other) ≡ disk other
    go true e = absurd (apart (eqb-true sector other e))
    go false e = refl

pub written_there : (disk : Sectors) (sector : ℕ) (block : Block) → written disk sector block sector ≡ block
written_there disk sector block = go (sector == sector) (itself sector)
  where
    itself : (n : ℕ) → (n == n) ≡ true
    itself n = grind (arith, nat_tests)

    go : (b : Bool) → b ≡ true → (if b then block else disk sector) ≡ block
    go true e = refl
    go false e = absurd (false≢true e)
