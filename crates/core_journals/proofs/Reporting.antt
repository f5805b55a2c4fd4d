-- While a log is read for a recovery nothing else writes it: so what is read of it is the log as it stood when the recovery began. Step by step.
use Rattle.std.proofs.Common.{◌≡◌, ℕ, ◌≤◌, ◌<◌, ◌⊎◌, inl, inr, Bool, true, false, IsTrue, is_some, not, List, [], ◌∷◌, Option, Some, None, refl, sym, ap, ◌∙◌, subst}
use Rattle.std.proofs.lemmas.Bool.{and_parts, both_ways, false≢true}
use Rattle.std.proofs.lemmas.Option.{same_Some, none-some}
use Rattle.std.specs.Option.{unwrap_or}
use Rattle.frang_base.specs.Functions.{member}
use Rattle.frang_base.specs.declared.script.Line.{Line}
use Rattle.frang_base.specs.declared.said.Said.TheVariants as said
use Rattle.frang_outside.specs.Disk.{written}
use Rattle.disk_definitions.proofs.Listed.{Among, all_at, among_below, among_filtered, below_among}
use Rattle.disk_definitions.proofs.SameLogs.{SameSlots, log_records_same}
use Rattle.disk_definitions.specs.Logs.{greatest_operation, log_records}
use Rattle.disk_definitions.specs.Regions.{sector_of}
use Rattle.disk_definitions.specs.Replay.{greatest_of, slots_of}
use Rattle.disk_definitions.specs.declared.region.Region.TheVariants as region
use Rattle.sector_bytes.specs.Blocks.{Block, zero_block}
use Rattle.sector_bytes.specs.SectorMaps.{value_at}
use Rattle.sector_bytes.specs.Sectors.{Sectors, sectors_of}
use Rattle.tree_definitions.specs.Numbers.{below}
use Rattle.core_definitions.specs.Effects.{Says, deeds_of, id_of, says_recovered}
use Rattle.core_definitions.specs.EndEffects.{slot_loaded}
use Rattle.core_definitions.specs.EndGuards.{CanRecover, is_recovery, is_through, wants_slot}
use Rattle.core_definitions.specs.Events.{Finish, Heard}
use Rattle.core_definitions.specs.Flights.{Flight, InPlace, OfLog, OfRecovery, Purpose}
use Rattle.core_definitions.specs.Guards.{Can}
use Rattle.core_definitions.specs.Logs.{is_none, is_read, is_slot_read, unread}
use Rattle.core_definitions.specs.Recoveries.{Recovery, is_replay_done, is_seal_done, redos, replay_writes, to_look}
use Rattle.core_definitions.specs.Runs.{State, Step, Run, first_state}
use Rattle.core_definitions.specs.Settings.{Setting, disk_logs, setting_of}
use Rattle.core_definitions.specs.WriteGuards.{is_worker}
use Rattle.core_facts.proofs.Owing.{owed_read, unread_slot}
use Rattle.core_facts.proofs.Phases.{none_recovers}
use Rattle.core_facts.proofs.Reading.{Arriving, Facts, Placed, PlacedFor, Reads, facts_of, flight_at, low_high, put_slot, reads_of_run, same_log, slot_low}
use Rattle.core_facts.proofs.Turns.{work_of, step_turn}
use Rattle.core_laws.proofs.Along.{along, longer}
use Rattle.core_laws.proofs.Guarding.{Of3, of_3}
use Rattle.core_laws.proofs.Keys.{member_in}
use Rattle.core_laws.proofs.FlightLists.{in_flights}
use Rattle.core_laws.proofs.Memory.{dead_of}
use Rattle.core_laws.proofs.Resting.{good_of_run}
use Rattle.core_laws.specs.Leases.{LeasesEnd}
use Rattle.core_journals.specs.Reports.{At, Began, Goes, IsAtWork, Recovering}
use Rattle.core_journals.proofs.Changing.{Arrived, Change, DiskChange, Kept, Read, Stands, Taken, Written_, turn_disk, turn_recovery, written_elsewhere}

-- ---- each began

recovers_from : (s : State) (by dead : ℕ) (r : Recovery) → IsTrue (is_worker s.core by) → (s.core.servers by).recovery ≡ Some r → r.dead ≡ dead → IsAtWork s by dead
recovers_from s by dead r who has of = record { works = who; recovers = record { recovery = r; is = has; of = of } }

module _ (setting : Setting) (disk : Sectors) where
  abbrev pub AllBegan : State → Type 0
  AllBegan s = (by dead : ℕ) → IsAtWork s by dead → Began (first_state setting disk) s by dead

  goes_on : (s v : State) (by dead : ℕ) → Step s v → IsAtWork v by dead → Began (first_state setting disk) s by dead → Began (first_state setting disk) v by dead
  goes_on s v by dead step at b = record { before = b.before; since = b.since; reached = b.reached; can = b.can; step = b.step; works = Goes b.works step at }

  began_step : (s v : State) → Run (first_state setting disk) s → Step s v → AllBegan s → AllBegan v
  began_step s v run step all by dead at = go (turn_recovery s (work_of v) (step_turn s v step) (good_of_run setting disk s run) by at.works at.recovers.recovery at.recovers.is)
    where
      before : (old : Recovery) → IsTrue (is_worker s.core by) → (s.core.servers by).recovery ≡ Some old → old.dead ≡ at.recovers.recovery.dead → Began (first_state setting disk) v by dead
      before old who has same = goes_on s v by dead step at (all by dead (recovers_from s by dead old who has (same ∙ at.recovers.of)))

      go : Change s v.disk by at.recovers.recovery → Began (first_state setting disk) v by dead
      go (Kept old who has same slots acked) = before old who has same
      go (Read old slot block who has wants got is) = before old who has (ap (λ (x : Recovery). x.dead) is)
      go (Written_ old ticket flight who has e by_ purpose present early wrote is) = before old who has (ap (λ (x : Recovery). x.dead) is)
      go (Taken can is) = record { before = s; since = v; reached = run; can = subst (λ d. CanRecover s.core d by) at.recovers.of can; step = step; works = At at }

  pub all_began : (s : State) → Run (first_state setting disk) s → AllBegan s
  all_began = along setting disk AllBegan began_step (λ by dead at. absurd (none-some at.recovers.recovery at.recovers.is))

-- ---- a log that is read for a recovery

-- what a recovery has read is of this disk, and its log stands so while it isn't read
record ReadOf (from : Sectors) (dead : ℕ) (disk : Sectors) (r : Recovery) : Type 0 where
  reads : (slot : ℕ) (block : Block) → value_at r.slots slot ≡ Some block → block ≡ slots_of from dead slot
  stands : is_read disk_logs r.slots ≡ false → SameSlots (slots_of disk dead) (slots_of from dead)

module _ (s : State) (k : Facts s) (m : Reads s.core.servers s.core.flights s.disk) (by : ℕ) (r : Recovery) (who : IsTrue (is_worker s.core by)) (has : (s.core.servers by).recovery ≡ Some r)
    (unread : is_read disk_logs r.slots ≡ false) where
  untouched : (f : Flight) → Arriving s f → (slot : ℕ) → slot < 256 → f.sector ≡ sector_of (region.Log r.dead slot) → ⊥
  untouched f a slot low at = go f.purpose refl a.placed
    where
      high_not : 4294967296 ≤ f.sector → ⊥
      high_not high = low_high f.sector (sector_of (region.Log r.dead slot)) high (slot_low r.dead slot (a.looked by r has).1 low) at

      go : (p : Purpose) → f.purpose ≡ p → PlacedFor p f → ⊥
      go (OfLog number) e placed = a.not_dead by r who has (same_log f.server number r.dead slot low (sym (a.of_log number e) ∙ at)).0
      go (InPlace cover) e placed = high_not placed
      go OfRecovery e (inl high) = high_not high
      go OfRecovery e (inr x) =
          both_ways (is_read disk_logs r.slots) unread
          (owed_read disk_logs s.core.setting.segments r f.sector f.block (a.looked by r has).0
          (a.of_its_own e by r who has (same_log f.behalf x.0 r.dead slot low (sym x.1 ∙ at)).0).owed)

  pub unread_stands : (disk : Sectors) → DiskChange s disk → SameSlots (slots_of disk r.dead) (slots_of s.disk r.dead)
  unread_stands disk Stands slot low = refl
  unread_stands disk (Arrived ticket flight e early) slot low = go (flight_at s.core.flights ticket flight e)
    where
      go : (one : ℕ × Flight) × Among one s.core.flights × (one.1 ≡ flight) → written s.disk flight.sector flight.block (sector_of (region.Log r.dead slot)) ≡ s.disk (sector_of (region.Log r.dead slot))
      go x =
          written_elsewhere s.disk flight.sector (sector_of (region.Log r.dead slot)) flight.block
          (untouched flight (subst (Arriving s) x.2 (k.arriving x.0 x.1 (subst (λ f. s.core.now ≤ f.stamp) (sym x.2) early) (in_flights Placed s.core.flights x.0 x.1 m.placed))) slot low)

-- a step keeps that
module _ (from : Sectors) (s v : State) (k : Facts s) (m : Reads s.core.servers s.core.flights s.disk) (by dead : ℕ) (turned : DiskChange s v.disk)
    (before : (r : Recovery) → (s.core.servers by).recovery ≡ Some r → r.dead ≡ dead → ReadOf from dead s.disk r) where
  same_read : (old r : Recovery) → IsTrue (is_worker s.core by) → (s.core.servers by).recovery ≡ Some old → r.dead ≡ dead → old.dead ≡ r.dead → old.slots ≡ r.slots → ReadOf from dead v.disk r
  same_read old r who has of same slots = record {
    reads = λ slot block e. o.reads slot block (ap (λ x. value_at x slot) slots ∙ e);
    stands = λ e slot low.
        let unread : is_read disk_logs old.slots ≡ false = ap (is_read disk_logs) slots ∙ e in
        subst (λ d. slots_of v.disk d slot ≡ slots_of s.disk d slot) (same ∙ of) (unread_stands s k m by old who has unread v.disk turned slot low) ∙ o.stands unread slot low;
  }
    where
      o : ReadOf from dead s.disk old
      o = before old has (same ∙ of)

  loaded_read : (old r : Recovery) (slot : ℕ) (block : Block) → IsTrue (is_worker s.core by) → (s.core.servers by).recovery ≡ Some old → IsTrue (wants_slot s.core slot old) →
      block ≡ s.disk (sector_of (region.Log old.dead slot)) → slot_loaded slot block old ≡ r → r.dead ≡ dead → ReadOf from dead v.disk r
  loaded_read old r slot block who has wants got is of = subst (ReadOf from dead v.disk) is (record {
    reads = λ n b e. go n b (put_slot old.slots slot n block b e);
    stands = λ e n low. subst (λ d. slots_of v.disk d n ≡ slots_of s.disk d n) of_old (unread_stands s k m by old who has none_read v.disk turned n low) ∙ o.stands none_read n low;
  })
    where
      of_old : old.dead ≡ dead
      of_old = ap (λ (x : Recovery). x.dead) is ∙ of

      o : ReadOf from dead s.disk old
      o = before old has of_old

      wants_of : IsTrue (member slot (unread disk_logs old.slots))
      wants_of = subst (λ logs. IsTrue (member slot (unread logs old.slots))) k.rules wants

      none_read : is_read disk_logs old.slots ≡ false
      none_read = go (is_read disk_logs old.slots) refl
        where
          go : (b : Bool) → is_read disk_logs old.slots ≡ b → b ≡ false
          go true e = absurd (unread_slot disk_logs old.slots slot wants_of e)
          go false e = refl

      low : slot < 256
      low = below_among 256 slot (among_filtered (λ n. not (is_slot_read old.slots n)) (below 256) slot (member_in slot (unread disk_logs old.slots) wants_of)).0

      go : (n : ℕ) (b : Block) → ((slot ≡ n) × (block ≡ b)) ⊎ (value_at old.slots n ≡ Some b) → b ≡ slots_of from dead n
      go n b (inl x) = sym x.1 ∙ got ∙ ap (λ d. slots_of s.disk d slot) of_old ∙ o.stands none_read slot low ∙ ap (slots_of from dead) x.0
      go n b (inr f) = o.reads n b f

  step_read : (r : Recovery) → IsAtWork s by dead → r.dead ≡ dead → Change s v.disk by r → ReadOf from dead v.disk r
  step_read r at of (Kept old who has same slots acked) = same_read old r who has of same slots
  step_read r at of (Read old slot block who has wants got is) = loaded_read old r slot block who has wants got is of
  step_read r at of (Written_ old ticket flight who has e by_ purpose present early wrote is) = same_read old r who has of (ap (λ (x : Recovery). x.dead) is) (ap (λ (x : Recovery). x.slots) is)
  step_read r at of (Taken can is) = absurd (none_recovers s.core r.dead by can by at.recovers.recovery.dead at.works (ap dead_of at.recovers.is))

module _ (ends : LeasesEnd) (script : List Line) (segments number : ℕ) (disk : Sectors) where
  abbrev first : State
  first = first_state (setting_of script segments number) disk

  -- from the step with which it began
  module _ (before since : State) (run : Run first before) (step : Step before since) (by dead : ℕ) (can : CanRecover before.core dead by) where
    record Read_ (v : State) : Type 0 where
      reached : Run first v
      at : IsAtWork v by dead
      reads : (r : Recovery) → (v.core.servers by).recovery ≡ Some r → r.dead ≡ dead → ReadOf since.disk dead v.disk r

    read_first : IsAtWork since by dead → Read_ since
    read_first at = record {
      reached = longer first before since run step;
      at = at;
      reads = λ r e of. go r (turn_recovery before (work_of since) (step_turn before since step) (good_of_run (setting_of script segments number) disk before run) by at.works r e);
    }
      where
        none : (old : Recovery) → IsTrue (is_worker before.core by) → (before.core.servers by).recovery ≡ Some old → ⊥
        none old who has = none_recovers before.core dead by can by old.dead who (ap dead_of has)

        go : (r : Recovery) → Change before since.disk by r → ReadOf since.disk dead since.disk r
        go r (Kept old who has same slots acked) = absurd (none old who has)
        go r (Read old slot block who has wants got is) = absurd (none old who has)
        go r (Written_ old ticket flight who has e by_ purpose present early wrote is) = absurd (none old who has)
        go r (Taken c is) = record {
          reads = λ slot block e. absurd (none-some block (ap (λ (x : Recovery). value_at x.slots slot) is ∙ e));
          stands = λ e slot low. refl;
        }

    read_on : (v : State) → Recovering by dead since v → Read_ v
    read_on v (At at) = read_first at
    read_on w (Goes {v = v} on step at) = go (read_on v on)
      where
        go : Read_ v → Read_ w
        go p = record {
          reached = longer first v w p.reached step;
          at = at;
          reads = λ r e of.
              step_read since.disk v w (facts_of ends script segments number disk v p.reached) (reads_of_run ends script segments number disk v p.reached) by dead
              (turn_disk v (work_of w) (step_turn v w step)) p.reads r p.at of
              (turn_recovery v (work_of w) (step_turn v w step) (good_of_run (setting_of script segments number) disk v p.reached) by at.works r e);
        }

  -- ---- in the words of the laws

  module _ (s : State) (by dead : ℕ) (b : Began first s by dead) where
    known : Read_ b.before b.since b.reached b.step by dead b.can s
    known = read_on b.before b.since b.reached b.step by dead b.can s b.works

    is_of : (r : Recovery) → (s.core.servers by).recovery ≡ Some r → r.dead ≡ dead
    is_of r e = ap (λ (x : Recovery). x.dead) (same_Some r known.at.recovers.recovery (sym e ∙ known.at.recovers.is)) ∙ known.at.recovers.of

    pub slots_stood : (r : Recovery) → (s.core.servers by).recovery ≡ Some r → (slot : ℕ) (block : Block) → value_at r.slots slot ≡ Some block → block ≡ slots_of b.since.disk dead slot
    slots_stood r e = (known.reads r e (is_of r e)).reads

    rules : s.core.setting.logs ≡ disk_logs
    rules = (facts_of ends script segments number disk s known.reached).rules

    read_same : (r : Recovery) → (s.core.servers by).recovery ≡ Some r → IsTrue (is_read disk_logs r.slots) → SameSlots (sectors_of r.slots) (slots_of b.since.disk dead)
    read_same r e read slot low = go (value_at r.slots slot) refl (all_at (is_slot_read r.slots) (below 256) read slot (among_below 256 slot low))
      where
        go : (o : Option Block) → value_at r.slots slot ≡ o → IsTrue (is_some o) → sectors_of r.slots slot ≡ slots_of b.since.disk dead slot
        go None f t = absurd (false≢true t)
        go (Some block) f t = ap (λ o. unwrap_or o zero_block) f ∙ slots_stood r e slot block f

    pub redos_stood : (r : Recovery) → (s.core.servers by).recovery ≡ Some r → IsTrue (is_read s.core.setting.logs r.slots) → redos s.core.setting.logs r ≡ log_records (slots_of b.since.disk dead)
    redos_stood r e read =
        ap (λ logs. redos logs r) rules ∙ log_records_same (sectors_of r.slots) (slots_of b.since.disk dead) (read_same r e (subst (λ logs. IsTrue (is_read logs r.slots)) rules read))

    pub reports_stood : (heard : Heard) → Can s.core (Finish by) → deeds_of s.core (Finish by) heard ≡ Says (said.Recovered (id_of dead) (record { 0 = greatest_of b.since.disk dead })) ∷ []
    reports_stood heard can = go (s.core.servers by).recovery refl can.can.ended
      where
        go : (o : Option Recovery) → (s.core.servers by).recovery ≡ o → IsTrue (is_recovery (is_through s.core) o) →
            says_recovered s.core o ≡ Says (said.Recovered (id_of dead) (record { 0 = greatest_of b.since.disk dead })) ∷ []
        go None e t = absurd (false≢true t)
        go (Some r) e t =
            ap (λ d. Says (said.Recovered (id_of d) (record { 0 = greatest_operation (redos s.core.setting.logs r) })) ∷ []) (is_of r e)
            ∙ ap (λ records. Says (said.Recovered (id_of dead) (record { 0 = greatest_operation records })) ∷ []) (redos_stood r e (done.p0))
          where
            done : Of3 (is_read s.core.setting.logs r.slots) (is_none (to_look s.core.setting.logs s.core.setting.segments r)) (is_none (replay_writes r))
            done = of_3 (is_read s.core.setting.logs r.slots) (is_none (to_look s.core.setting.logs s.core.setting.segments r)) (is_none (replay_writes r))
                (and_parts (is_replay_done s.core.setting.logs s.core.setting.segments r) (is_seal_done s.core.setting.logs r) t).0
