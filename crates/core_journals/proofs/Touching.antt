-- A write that arrives in time and isn't one of a server's log leaves that log's slots, or is of the seal of it, the server being dead. What that makes of its seal, of what a recovery has
-- read of it, and of the writes of its seal in flight.
use Rattle.std.proofs.Common.{◌≡◌, ℕ, ◌+◌, ◌-◌, ◌*◌, ◌%◌, ◌<◌, ◌≤◌, ◌⊎◌, inl, inr, true, false, IsTrue, Some, refl, sym, ap, ◌∙◌, subst, arith}
use Rattle.std.proofs.lemmas.Bool.{both_ways, cases_eq}
use Rattle.frang_base.specs.Functions.{member}
use Rattle.frang_outside.specs.Disk.{written}
use Rattle.disk_definitions.proofs.Listed.{Among, all_at, among_below, among_map, among_mapped, below_among}
use Rattle.disk_definitions.proofs.SameLogs.{SameSlots}
use Rattle.disk_definitions.specs.Arriving.{with_sector}
use Rattle.disk_definitions.specs.LogSectors.{empty_sector}
use Rattle.disk_definitions.specs.Logs.{Slots, log_end}
use Rattle.disk_definitions.specs.Regions.{sector_of}
use Rattle.disk_definitions.specs.Replay.{slots_of}
use Rattle.disk_definitions.specs.declared.region.Region.TheVariants as region
use Rattle.sector_bytes.specs.Blocks.{Block}
use Rattle.sector_bytes.specs.Sectors.{Sectors}
use Rattle.tree_definitions.specs.Numbers.{below}
use Rattle.ring_definitions.specs.Sealing.{is_behind_gap}
use Rattle.core_definitions.specs.Flights.{Flight, InPlace, OfLog, OfRecovery, Purpose}
use Rattle.core_definitions.specs.LineGuards.{is_server}
use Rattle.core_definitions.specs.Logs.{end_of, is_read, is_sealed_by, later_seals, log_sector, seal_block}
use Rattle.core_definitions.specs.Recoveries.{Recovery, is_sealed_at}
use Rattle.core_definitions.specs.Runs.{State}
use Rattle.core_definitions.specs.Servers.{is_dead}
use Rattle.core_definitions.specs.Settings.{disk_logs}
use Rattle.core_definitions.specs.WriteGuards.{is_worker}
use Rattle.core_facts.proofs.Owing.{InTurn, IsOpen, Owed, Replays, SealsFirst, SealsLater, replayed_high}
use Rattle.core_facts.proofs.Reading.{Arriving, Facts, Placed, PlacedFor, Reads, flight_at, low_high, same_log, server_low, slot_low}
use Rattle.core_laws.proofs.FlightLists.{in_flights}
use Rattle.core_laws.proofs.Membership.{in_contains}
use Rattle.core_journals.specs.Journals.{AllStandBehind, IsLog, IsReading, IsSealWrite, Journal}
use Rattle.core_journals.proofs.Changing.{Arrived, DiskChange, Stands}
use Rattle.core_journals.proofs.LogBlocks.{same_back, same_on, sealed_same, with_again, written_beside, written_slots}
use Rattle.core_journals.proofs.SealStates.{behind_from, behind_parts, behind_stands}

-- ---- numbers of a seal

pub later_out : (end number : ℕ) → Among number (later_seals disk_logs end) → is_behind_gap end number ≡ true
later_out end number i = go (among_mapped (λ k. end + 2 + k) (below 63) number i)
  where
    go : (k : ℕ) × Among k (below 63) × (end + 2 + k ≡ number) → is_behind_gap end number ≡ true
    go x = behind_from end number (low end x.0 number x.2) (high end x.0 number (below_among 63 x.0 x.1) x.2)
      where
        low : (e k n : ℕ) → e + 2 + k ≡ n → e + 2 ≤ n
        low e k n h = omega (arith, h)

        high : (e k n : ℕ) → k < 63 → e + 2 + k ≡ n → n ≤ e + 64
        high e k n l h = omega (arith, l, h)

pub later_in : (end number : ℕ) → is_behind_gap end number ≡ true → Among number (later_seals disk_logs end)
later_in end number gap =
    let p = behind_parts end number gap in
    among_map (λ k. end + 2 + k) (below 63) (number - (end + 2)) number (among_below 63 (number - (end + 2)) (small end number p.0 p.1)) (is end number p.0)
  where
    small : (e n : ℕ) → e + 2 ≤ n → n ≤ e + 64 → n - (e + 2) < 63
    small e n h i = omega (arith, h, i)

    is : (e n : ℕ) → e + 2 ≤ n → e + 2 + (n - (e + 2)) ≡ n
    is e n h = omega (arith, h)

pub seal_range : (now expiry end : ℕ) (slots : Slots) (a : ℕ) (f : Flight) → (w : IsSealWrite now expiry end slots a f) → (end < w.number) × (w.number ≤ end + 64)
seal_range now expiry end slots a f w = go w.which
  where
    from : (e n : ℕ) → e + 2 ≤ n → e < n
    from e n h = omega (arith, h)

    first : (e n : ℕ) → n ≡ e + 1 → (e < n) × (n ≤ e + 64)
    first e n h = (omega (arith, h), omega (arith, h))

    go : IsTrue (is_behind_gap end w.number) ⊎ ((w.number ≡ end + 1) × AllStandBehind end slots) → (end < w.number) × (w.number ≤ end + 64)
    go (inl gap) = let p = behind_parts end w.number gap in (from end w.number p.0, p.1)
    go (inr x) = first end w.number x.0

pub low_slot : (n : ℕ) → n % 256 < 256
low_slot n = omega arith

pub slot_of : (a n m : ℕ) → 2147483648 + a * 8388608 + n % 256 ≡ 2147483648 + a * 8388608 + m % 256 → n % 256 ≡ m % 256
slot_of a n m e = omega (arith, e)

-- ---- which slots are touched

pub data Touch (s : State) (a : ℕ) (j : Journal) (disk : Sectors) : Type 0 where
  Beside : SameSlots (slots_of disk a) (slots_of s.disk a) → Touch s a j disk
  Seals : IsTrue (is_dead (s.core.servers a).phase) → (f : Flight) → Arriving s f → f.purpose ≡ OfRecovery → f.behalf ≡ a →
      (w : IsSealWrite s.core.now (s.core.servers a).expiry (log_end j.log.slots) (slots_of s.disk a) a f) →
      SameSlots (slots_of disk a) (with_sector (slots_of s.disk a) (empty_sector w.number)) → Touch s a j disk

-- it isn't of the server's log
abbrev pub IsQuiet : (s : State) (a : ℕ) (disk : Sectors) → DiskChange s disk → Type 0
IsQuiet s a disk Stands = Unit {0}
IsQuiet s a disk (Arrived ticket flight e early) = (number : ℕ) → flight.purpose ≡ OfLog number → flight.server ≡ a → ⊥

module _ (s : State) (k : Facts s) (m : Reads s.core.servers s.core.flights s.disk) (a : ℕ) (server : IsTrue (is_server a)) (j : Journal) (log : IsLog s a j) where
  pub seal_slots_of : (sector : ℕ) (block : Block) (f : Flight) (w : IsSealWrite s.core.now (s.core.servers a).expiry (log_end j.log.slots) (slots_of s.disk a) a f) → f.sector ≡ sector → f.block ≡ block →
      SameSlots (slots_of (written s.disk sector block) a) (with_sector (slots_of s.disk a) (empty_sector w.number))
  seal_slots_of sector block f w at is =
      subst (λ b. SameSlots (slots_of (written s.disk sector b) a) (with_sector (slots_of s.disk a) (empty_sector w.number))) (sym w.block_is ∙ is)
      (written_slots s.disk a sector (empty_sector w.number) (sym at ∙ w.sector_is))

  touch_one : (one : ℕ × Flight) → Among one s.core.flights → s.core.now ≤ one.1.stamp → Arriving s one.1 → ((number : ℕ) → one.1.purpose ≡ OfLog number → one.1.server ≡ a → ⊥) →
      Touch s a j (written s.disk one.1.sector one.1.block)
  touch_one one i early ar quiet = go one.1.purpose refl ar.placed
    where
      beside : ((slot : ℕ) → slot < 256 → one.1.sector ≡ sector_of (region.Log a slot) → ⊥) → Touch s a j (written s.disk one.1.sector one.1.block)
      beside apart = Beside (written_beside s.disk a one.1.sector one.1.block apart)

      high : 4294967296 ≤ one.1.sector → Touch s a j (written s.disk one.1.sector one.1.block)
      high h = beside (λ slot low at. low_high one.1.sector (sector_of (region.Log a slot)) h (slot_low a slot (server_low a server) low) at)

      own : one.1.purpose ≡ OfRecovery → (number : ℕ) → one.1.sector ≡ log_sector disk_logs one.1.behalf number → (one.1.behalf ≡ a) ⊎ (one.1.behalf ≡ a → ⊥) →
          Touch s a j (written s.disk one.1.sector one.1.block)
      own q number at (inr ne) = beside (λ slot low there. ne (same_log one.1.behalf number a slot low (sym at ∙ there)).0)
      own q number at (inl e) = Seals dead one.1 ar q e w (seal_slots_of one.1.sector one.1.block one.1 w refl refl)
        where
          dead : IsTrue (is_dead (s.core.servers a).phase)
          dead = subst (λ n. IsTrue (is_dead (s.core.servers n).phase)) e (ar.for_dead q)

          w : IsSealWrite s.core.now (s.core.servers a).expiry (log_end j.log.slots) (slots_of s.disk a) a one.1
          w = (log.left dead).seals one (number % 256) (in_contains s.core.flights one i) q (low_slot number) (at ∙ ap (λ d. log_sector disk_logs d number) e) early

      go : (p : Purpose) → one.1.purpose ≡ p → PlacedFor p one.1 → Touch s a j (written s.disk one.1.sector one.1.block)
      go (OfLog number) e placed = beside (λ slot low at. quiet number e (same_log one.1.server number a slot low (sym (ar.of_log number e) ∙ at)).0)
      go (InPlace cover) e placed = high placed
      go OfRecovery e (inl h) = high h
      go OfRecovery e (inr x) = own e x.0 x.1 (cases_eq one.1.behalf a)

  pub touch : (disk : Sectors) → (change : DiskChange s disk) → IsQuiet s a disk change → Touch s a j disk
  touch disk Stands quiet = Beside (λ slot low. refl)
  touch disk (Arrived ticket flight e early) quiet = go (flight_at s.core.flights ticket flight e)
    where
      go : (one : ℕ × Flight) × Among one s.core.flights × (one.1 ≡ flight) → Touch s a j (written s.disk flight.sector flight.block)
      go x =
          let soon : s.core.now ≤ x.0.1.stamp = subst (λ f. s.core.now ≤ f.stamp) (sym x.2) early in
          subst (λ f. Touch s a j (written s.disk f.sector f.block)) x.2
          (touch_one x.0 x.1 soon (k.arriving x.0 x.1 soon (in_flights Placed s.core.flights x.0 x.1 m.placed)) (λ n p by. quiet n (ap (λ (f : Flight). f.purpose) (sym x.2) ∙ p) (ap (λ (f : Flight). f.server) (sym x.2) ∙ by)))

  -- ---- what stands of the seal

  module _ (disk : Sectors) (t : Touch s a j disk) where
    pub still_stands : (number : ℕ) → log_end j.log.slots < number → number ≤ log_end j.log.slots + 64 → slots_of s.disk a (number % 256) ≡ seal_block number →
        slots_of disk a (number % 256) ≡ seal_block number
    still_stands number low high there = go t
      where
        go : Touch s a j disk → slots_of disk a (number % 256) ≡ seal_block number
        go (Beside same) = same (number % 256) (low_slot number) ∙ there
        go (Seals dead f ar q e w is) =
            let r = seal_range s.core.now (s.core.servers a).expiry (log_end j.log.slots) (slots_of s.disk a) a f w in
            behind_stands (log_end j.log.slots) (slots_of s.disk a) (slots_of disk a) w.number r.0 r.1 is number low high there

    pub all_still : AllStandBehind (log_end j.log.slots) (slots_of s.disk a) → AllStandBehind (log_end j.log.slots) (slots_of disk a)
    all_still each number gap = let p = behind_parts (log_end j.log.slots) number gap in still_stands number (from (log_end j.log.slots) number p.0) p.1 (each number gap)
      where
        from : (e n : ℕ) → e + 2 ≤ n → e < n
        from e n h = omega (arith, h)

    -- ---- a recovery that has read

    module _ (by : ℕ) (old : Recovery) (who : IsTrue (is_worker s.core by)) (has : (s.core.servers by).recovery ≡ Some old) (of : old.dead ≡ a) where
      pub turn : InTurn disk_logs s.core.setting.segments old
      turn = subst (λ logs. InTurn logs s.core.setting.segments old) k.rules (k.looked by old has).0

      -- what arrives is its own
      pub own_seal : (f : Flight) → Arriving s f → f.purpose ≡ OfRecovery → f.behalf ≡ a → (w : IsSealWrite s.core.now (s.core.servers a).expiry (log_end j.log.slots) (slots_of s.disk a) a f) →
          (is_read disk_logs old.slots ≡ true) × (is_sealed_by disk_logs old.slots ≡ false)
      own_seal f ar q e w = go open_.owed
        where
          open_ : IsOpen disk_logs s.core.setting.segments old f.sector f.block
          open_ = ar.of_its_own q by old who has (e ∙ sym of)

          go : Owed disk_logs s.core.setting.segments old f.sector f.block → (is_read disk_logs old.slots ≡ true) × (is_sealed_by disk_logs old.slots ≡ false)
          go (Replays i) =
              absurd (low_high f.sector (log_sector disk_logs a w.number) (replayed_high s.core.setting.segments f.sector (turn.looked f.sector (Some f.block) i).1)
              (slot_low a (w.number % 256) (server_low a server) (low_slot w.number)) w.sector_is)
          go (SealsLater number i at b read unsealed) = (read, unsealed)
          go (SealsFirst all at b read unsealed) = (read, unsealed)

      pub kept_reading : IsReading (log_end j.log.slots) (slots_of s.disk a) old → IsReading (log_end j.log.slots) (slots_of disk a) old
      kept_reading o = go t
        where
          go : Touch s a j disk → IsReading (log_end j.log.slots) (slots_of disk a) old
          go (Beside same) = record {
            sealed = λ e. sealed_same (slots_of s.disk a) (slots_of disk a) (same_back (slots_of disk a) (slots_of s.disk a) same) (o.sealed e);
            ends = o.ends;
            stand = λ u n low high w. still_stands n low high (o.stand u n low high w);
            closed = λ u w. sealed_same (slots_of s.disk a) (slots_of disk a) (same_back (slots_of disk a) (slots_of s.disk a) same) (o.closed u w);
          }
          go (Seals dead f ar q e w is) = record {
            sealed = λ t. absurd (both_ways (is_sealed_by disk_logs old.slots) (own_seal f ar q e w).1 t);
            ends = o.ends;
            stand = λ u n low high x. still_stands n low high (o.stand u n low high x);
            closed = λ u x.
                sealed_same (slots_of s.disk a) (slots_of disk a)
                (same_back (slots_of disk a) (slots_of s.disk a)
                (same_on (slots_of disk a) (with_sector (slots_of s.disk a) (empty_sector w.number)) (slots_of s.disk a) is (with_again (slots_of s.disk a) (empty_sector w.number) (there u x w.which))))
                (o.closed u x);
          }
            where
              range : (log_end j.log.slots < w.number) × (w.number ≤ log_end j.log.slots + 64)
              range = seal_range s.core.now (s.core.servers a).expiry (log_end j.log.slots) (slots_of s.disk a) a f w

              there : is_sealed_by disk_logs old.slots ≡ false → is_sealed_at disk_logs old (log_end j.log.slots + 1) ≡ true →
                  IsTrue (is_behind_gap (log_end j.log.slots) w.number) ⊎ ((w.number ≡ log_end j.log.slots + 1) × AllStandBehind (log_end j.log.slots) (slots_of s.disk a)) →
                  slots_of s.disk a (w.number % 256) ≡ seal_block w.number
              there u x (inl gap) =
                  o.stand u w.number range.0 range.1
                  (all_at (is_sealed_at disk_logs old) (later_seals disk_logs (end_of disk_logs old.slots))
                  (turn.seals (ap (λ n. is_sealed_at disk_logs old (n + 1)) (o.ends u) ∙ x)) w.number
                  (subst (λ n. Among w.number (later_seals disk_logs n)) (sym (o.ends u)) (later_in (log_end j.log.slots) w.number gap)))
              there u x (inr y) = o.stand u w.number range.0 range.1 (ap (is_sealed_at disk_logs old) y.0 ∙ x)

    same_acked : (old r : Recovery) → old.dead ≡ r.dead → old.written ≡ r.written → (number : ℕ) → is_sealed_at disk_logs old number ≡ is_sealed_at disk_logs r number
    same_acked old r dead ws number = ap (λ d. member (log_sector disk_logs d number) old.written) dead ∙ ap (λ xs. member (log_sector disk_logs r.dead number) xs) ws

    pub same_reading : (end : ℕ) (at : Slots) (old r : Recovery) → old.dead ≡ r.dead → old.slots ≡ r.slots → old.written ≡ r.written → IsReading end at old → IsReading end at r
    same_reading end at old r dead sl ws o = record {
      sealed = λ e. o.sealed (ap (is_sealed_by disk_logs) sl ∙ e);
      ends = λ e. ap (end_of disk_logs) (sym sl) ∙ o.ends (ap (is_sealed_by disk_logs) sl ∙ e);
      stand = λ u n low high w. o.stand (ap (is_sealed_by disk_logs) sl ∙ u) n low high (same_acked old r dead ws n ∙ w);
      closed = λ u w. o.closed (ap (is_sealed_by disk_logs) sl ∙ u) (same_acked old r dead ws (end + 1) ∙ w);
    }
