-- Over every run only servers are mounted, and only their logs are written; so those of all others stay zero.
use Rattle.std.proofs.Common.{◌≡◌, ℕ, ◌+◌, ◌%◌, ◌<◌, ◌≤◌, ◌==◌, inl, inr, Bool, true, false, if◌then◌else◌, IsTrue, Some, None, refl, sym, ap, ◌∙◌, subst}
use Rattle.std.proofs.lemmas.Bool.{both_ways, false≢true}
use Rattle.frang_base.specs.Functions.{put}
use Rattle.frang_base.proofs.Basics.{at_put}
use Rattle.disk_definitions.proofs.SameLogs.{zero_log_records}
use Rattle.disk_definitions.specs.declared.region.Region.TheVariants as region
use Rattle.disk_definitions.specs.Regions.{sector_of}
use Rattle.disk_definitions.specs.Replay.{slots_of}
use Rattle.sector_bytes.specs.Blocks.{Block}
use Rattle.sector_bytes.specs.SectorMaps.{value_at}
use Rattle.sector_bytes.specs.Sectors.{Sectors}
use Rattle.core_definitions.specs.Flights.{Flight, InPlace, OfLog, OfRecovery, Purpose}
use Rattle.core_definitions.specs.LineEffects.{failed_by}
use Rattle.core_definitions.specs.LineGuards.{is_server}
use Rattle.core_definitions.specs.Runs.{State, Run, Step, first_state}
use Rattle.core_definitions.specs.Scripts.{host_party}
use Rattle.core_definitions.specs.Servers.{Phase, Server, is_dead, is_off, is_up, wanting_all}
use Rattle.core_definitions.specs.Servers.Phase.{Off, Up, Still, Doomed, Dead}
use Rattle.core_definitions.specs.Settings.{Setting, setting_of}
use Rattle.core_definitions.specs.WriteEffects.{acknowledged, clean_now}
use Rattle.core_definitions.specs.Writes.{comes_clean}
use Rattle.core_facts.proofs.Reading.{Arriving, PlacedFor, low_high, same_log, slot_low}
use Rattle.core_facts.proofs.Turns as turns
use Rattle.core_facts.proofs.Turns.{Turn, Work, failed_at, step_turn, work_of}
use Rattle.core_journals.proofs.Changing.{Arrived, DiskChange, Stands, turn_disk, written_elsewhere}
use Rattle.core_laws.proofs.Along.{along}
use Rattle.core_laws.specs.Laws.{SectorsStandOnce}
use Rattle.core_laws.specs.Leases.{LeasesEnd}
use Rattle.core_log_writes.proofs.Servers.{logs_server}
use Rattle.core_world.specs.Steps.{IsReached}
use Rattle.core_writes.proofs.Landing.{arriving_there}
use Rattle.headline_definitions.specs.Laws.{setting_by}
use Rattle.headline_histories.specs.Replays.{OthersStayEmpty}

-- ---- who isn't a server is off

abbrev OthersAreOff : (ℕ → Server) → Type 0
OthersAreOff servers = (i : ℕ) → is_server i ≡ false → is_off (servers i).phase ≡ true

module _ (servers : ℕ → Server) (a : ℕ) (new : Server) where
  with_off : (is_server a ≡ false → is_off new.phase ≡ true) → OthersAreOff servers → OthersAreOff (put servers a new)
  with_off here off i e = at_put (λ (x : Server). is_off x.phase ≡ true) servers a new i (λ k. here (ap is_server (sym k) ∙ e)) (λ n. off i e)

  with_same : new.phase ≡ (servers a).phase → OthersAreOff servers → OthersAreOff (put servers a new)
  with_same same off = with_off (λ e. ap is_off same ∙ off a e) off

  with_server : IsTrue (is_server a) → OthersAreOff servers → OthersAreOff (put servers a new)
  with_server server off = with_off (λ e. absurd (both_ways (is_server a) e server)) off

failed_off : (servers : ℕ → Server) (a : ℕ) → OthersAreOff servers → OthersAreOff (failed_at servers a)
failed_off servers a off i e = go (a == host_party)
  where
    go : (b : Bool) → is_off ((if b then servers else put servers a (failed_by (servers a))) i).phase ≡ true
    go true = off i e
    go false = with_same servers a (failed_by (servers a)) refl off i e

taken_phase : (sector : ℕ) (block : Block) (p : Purpose) (server : Server) → (acknowledged sector block p server).phase ≡ server.phase
taken_phase sector block (OfLog number) server = refl
taken_phase sector block OfRecovery server = refl
taken_phase sector block (InPlace cover) server = go (comes_clean server sector block)
  where
    go : (b : Bool) → (if b then clean_now sector server else server).phase ≡ server.phase
    go true = refl
    go false = refl

still_on : (p : Phase) → is_off p ≡ true → IsTrue (is_up p) → ⊥
still_on Off e up = false≢true up
still_on Up e up = false≢true e
still_on Still e up = false≢true e
still_on (Doomed fate) e up = false≢true e
still_on Dead e up = false≢true e

turn_off : (s : State) (w : Work) → Turn s w → OthersAreOff s.core.servers → OthersAreOff w.servers
turn_off s w turns.Rests m = m
turn_off s w (turns.Stays a) m = with_same s.core.servers a _ refl m
turn_off s w (turns.Lines a under server step) m = with_same s.core.servers a _ refl m
turn_off s w (turns.Caches a sector block needs cover server e need got) m = with_same s.core.servers a _ refl m
turn_off s w (turns.Reclaims a outcome server e) m = with_same s.core.servers a _ refl m
turn_off s w (turns.Clears a block server e) m = with_same s.core.servers a _ refl m
turn_off s w (turns.Commits a outcome server e none) m = with_server s.core.servers a _ server m
turn_off s w (turns.Mounts a under server off u read) m = with_server s.core.servers a _ server m
turn_off s w (turns.Leaves a server up clean) m = with_server s.core.servers a _ server m
turn_off s w (turns.Arms a arming server up) m = with_same s.core.servers a _ refl m
turn_off s w (turns.Stalls a server up) m = with_server s.core.servers a _ server m
turn_off s w (turns.Settles a server) m = with_same s.core.servers a _ refl m
turn_off s w (turns.Asks a lock mode server e) m = m
turn_off s w (turns.Lowers a lock can) m = m
turn_off s w (turns.Releases a lock can) m = with_same s.core.servers a _ refl m
turn_off s w (turns.Relocks locks are same waits) m = m
turn_off s w (turns.Wants a up) m = with_same s.core.servers a _ refl m
turn_off s w (turns.Issues a sector write can e) m = with_same s.core.servers a _ refl m
turn_off s w (turns.Fades ticket flight e late) m = m
turn_off s w (turns.Lands ticket flight e early present) m =
    with_same s.core.servers flight.server _ (taken_phase flight.sector flight.block flight.purpose (s.core.servers flight.server)) m
turn_off s w (turns.Drifts ticket flight e early present) m = m
turn_off s w (turns.Breaks ticket flight new e early) m = failed_off s.core.servers flight.server m
turn_off s w (turns.Fails a) m = failed_off s.core.servers a m
turn_off s w (turns.Dooms a fate can) m = with_server s.core.servers a _ can.server m
turn_off s w (turns.Resumes a can) m = with_server s.core.servers a _ can.server m
turn_off s w (turns.Dies a fate server doomed) m = with_server s.core.servers a _ server m
turn_off s w (turns.Renews a can) m = with_same s.core.servers a _ refl m
turn_off s w (turns.Ticks can) m = λ i e. go i e ((s.core.now + 1) % s.core.setting.flush_ticks == 0) (is_up (s.core.servers i).phase)
  where
    go : (i : ℕ) → is_server i ≡ false → (b up : Bool) → is_off (if b then (if up then wanting_all (s.core.servers i) else s.core.servers i) else s.core.servers i).phase ≡ true
    go i e true true = m i e
    go i e true false = m i e
    go i e false up = m i e
turn_off s w (turns.Recovers dead by can) m = with_same s.core.servers by _ refl m
turn_off s w (turns.Loads by slot block recovery who has wants got) m = with_same s.core.servers by _ refl m
turn_off s w (turns.Looks by sector block recovery who has wants got) m = with_same s.core.servers by _ refl m
turn_off s w (turns.Finishes by recovery can has) m =
    with_off (put s.core.servers by (record (s.core.servers by) { recovery = None })) recovery.dead _ (λ e. refl) (with_same s.core.servers by _ refl m)
turn_off s w turns.Halts m = m

pub others_off : (setting : Setting) (disk : Sectors) (s : State) → Run (first_state setting disk) s → OthersAreOff s.core.servers
others_off setting disk = along setting disk (λ s. OthersAreOff s.core.servers) (λ s v run step m. turn_off s (work_of v) (step_turn s v step) m) (λ i e. refl)

pub off_not_dead : (p : Phase) → is_off p ≡ true → IsTrue (is_dead p) → ⊥
off_not_dead Off e dead = false≢true dead
off_not_dead Up e dead = false≢true e
off_not_dead Still e dead = false≢true e
off_not_dead (Doomed fate) e dead = false≢true e
off_not_dead Dead e dead = false≢true e

-- ---- what is written

module _ (ends : LeasesEnd) (once : SectorsStandOnce) (a slot : ℕ) (other : is_server a ≡ false) (low : a < 256) (at_slot : slot < 256) where
  abbrev place : ℕ
  place = sector_of (region.Log a slot)

  -- a write that comes in time isn't of this slot
  apart : (s : State) (r : IsReached s) (ticket : ℕ) (flight : Flight) → value_at s.core.flights ticket ≡ Some flight → s.core.now ≤ flight.stamp → flight.sector ≡ place → ⊥
  apart s r ticket flight at early is = go flight.purpose refl known.placed
    where
      known : Arriving s flight
      known = arriving_there ends once s r ticket flight at early

      not_here : (n : ℕ) → n ≡ a → IsTrue (is_server n) → ⊥
      not_here n e server = both_ways (is_server a) other (ap is_server (sym e) ∙ server)

      high : 4294967296 ≤ flight.sector → ⊥
      high h = low_high flight.sector place h (slot_low a slot low at_slot) is

      go : (p : Purpose) → flight.purpose ≡ p → PlacedFor p flight → ⊥
      go (OfLog number) e placed =
          not_here flight.server (same_log flight.server number a slot at_slot (sym (known.of_log number e) ∙ is)).0 (logs_server s r ticket flight at number e)
      go (InPlace cover) e placed = high placed
      go OfRecovery e (inl h) = high h
      go OfRecovery e (inr x) =
          off_not_dead (s.core.servers a).phase (others_off (setting_of r.script r.segments r.number) r.disk s r.run a other)
          (subst (λ n. IsTrue (is_dead (s.core.servers n).phase)) (same_log flight.behalf x.0 a slot at_slot (sym x.1 ∙ is)).0 (known.for_dead e))

  step_leaves : (s v : State) → IsReached s → Step s v → v.disk place ≡ s.disk place
  step_leaves s v r step = go v.disk (turn_disk s (work_of v) (step_turn s v step))
    where
      go : (disk : Sectors) → DiskChange s disk → disk place ≡ s.disk place
      go disk Stands = refl
      go disk (Arrived ticket flight e early) = written_elsewhere s.disk flight.sector place flight.block (apart s r ticket flight e early)

pub others_stay_empty : LeasesEnd → SectorsStandOnce → OthersStayEmpty
others_stay_empty ends once b s begins run a low other =
    zero_log_records (slots_of s.disk a) (λ slot at_slot. stays slot at_slot ∙ begins.opening.logs a slot low at_slot)
  where
    stays : (slot : ℕ) → slot < 256 → s.disk (sector_of (region.Log a slot)) ≡ b.disk (sector_of (region.Log a slot))
    stays slot at_slot =
        along (setting_by b) b.disk (λ s. s.disk (sector_of (region.Log a slot)) ≡ b.disk (sector_of (region.Log a slot)))
        (λ s v run step same. step_leaves ends once a slot other low at_slot s v (reached_by s run) step ∙ same) refl s run
      where
        reached_by : (s : State) → Run (first_state (setting_by b) b.disk) s → IsReached s
        reached_by s run = record { bytes = begins.bytes; script = b.script; read = begins.script; segments = b.opening.tree.segments; number = b.opening.run; disk = b.disk; run = run }
