-- The log of a dead server after a step: what stands of its seal, the writes of its seal in flight, and what a recovery at work has read of it.
use Rattle.std.proofs.Common.{◌≡◌, ℕ, ◌+◌, ◌%◌, ◌<◌, ◌≤◌, ◌^◌, ◌⊎◌, inl, inr, Bool, true, false, is_some, IsTrue, [], if◌then◌else◌, Option, Some, None, nat_eq, refl, sym, ap, ◌∙◌, subst, arith}
use Rattle.std.proofs.Math.Nat.{le_trans}
use Rattle.std.proofs.lemmas.Bool.{both_ways, eqb-true, false≢true}
use Rattle.std.specs.Option.{unwrap_or}
use Rattle.frang_base.specs.Functions.{member}
use Rattle.frang_outside.specs.Disk.{written}
use Rattle.disk_definitions.proofs.Listed.{Among, all_at, among_below}
use Rattle.disk_definitions.proofs.SameLogs.{SameSlots, log_end_same}
use Rattle.disk_definitions.specs.Arriving.{with_sector}
use Rattle.disk_definitions.specs.LogSectors.{empty_sector}
use Rattle.disk_definitions.specs.Logs.{Slots, is_sealed, log_end}
use Rattle.disk_definitions.specs.Regions.{sector_of}
use Rattle.disk_definitions.specs.Replay.{slots_of}
use Rattle.disk_definitions.specs.declared.region.Region.TheVariants as region
use Rattle.lock_definitions.specs.Lease.{HasEnded}
use Rattle.sector_bytes.specs.Blocks.{Block, zero_block}
use Rattle.sector_bytes.specs.SectorMaps.{value_at, with_value}
use Rattle.sector_bytes.specs.Sectors.{Sectors, sectors_of}
use Rattle.tree_definitions.specs.Numbers.{below}
use Rattle.ring_definitions.specs.Sealing.{IsWithinFlight, is_behind_gap}
use Rattle.core_definitions.specs.Cores.{stage, writes}
use Rattle.core_definitions.specs.EndGuards.{wants_slot}
use Rattle.core_definitions.specs.EndEffects.{slot_loaded}
use Rattle.core_definitions.specs.Flights.{Flight, OfRecovery}
use Rattle.core_definitions.specs.LineGuards.{is_server}
use Rattle.core_definitions.specs.Logs.{end_of, is_read, is_sealed_by, is_slot_read, later_seals, log_sector, seal_block, unread}
use Rattle.core_definitions.specs.Recoveries.{Recovery, is_sealed_at}
use Rattle.core_definitions.specs.Runs.{State}
use Rattle.core_definitions.specs.Servers.{is_dead}
use Rattle.core_definitions.specs.Settings.{disk_logs}
use Rattle.core_definitions.specs.WriteEffects.{acknowledged_for, flight_of}
use Rattle.core_definitions.specs.WriteGuards.{CanIssue, is_worker}
use Rattle.core_definitions.specs.Writes.{Write}
use Rattle.core_facts.proofs.Owing.{Owed, Replays, SealsFirst, SealsLater, replayed_high, unread_slot, wanted_open}
use Rattle.core_facts.proofs.Reading.{Facts, ReadBy, Reads, flight_at, low_high, put_slot, same_log, server_low, slot_low}
use Rattle.core_facts.proofs.WriteKinds.{NextOfLog, Places, Rescues, Wanted, rescue_write, wanted_is}
use Rattle.core_facts.specs.LogReads.{IsSealedOver}
use Rattle.core_laws.proofs.Membership.{in_contains}
use Rattle.core_journals.specs.Journals.{AllStandBehind, IsLeft, IsLog, IsReading, IsSealWrite, IsSealing, Journal, Open, Partly, Wholly}
use Rattle.core_journals.proofs.Changing.{Change, Kept, Read, Taken, Written_, written_there}
use Rattle.core_journals.proofs.FlightChanges.{Flew, FlightFrom, New, Was, is_rescue}
use Rattle.core_journals.proofs.LogBlocks.{same_back, same_on, sealed_same}
use Rattle.core_journals.proofs.SealStates.{behind_parts, end_or_sealed, seal_arrives, seal_slots}
use Rattle.core_journals.proofs.Touching.{Beside, Seals, Touch, all_still, kept_reading, later_in, later_out, low_slot, own_seal, same_reading, seal_range, seal_slots_of, slot_of, turn}

-- ---- the seal, at a later moment and over the same slots

pub sealing_moved : (now later expiry : ℕ) (base slots after : Slots) → now ≤ later → SameSlots after slots → IsSealing now expiry base slots → IsSealing later expiry base after
sealing_moved now later expiry base slots after more same (Open is) = Open (same_on after slots base same is)
sealing_moved now later expiry base slots after more same (Partly over numbers all is) = Partly (le_trans over more) numbers all (same_on after slots _ same is)
sealing_moved now later expiry base slots after more same (Wholly over numbers all each is) = Wholly (le_trans over more) numbers all each (same_on after slots _ same is)

module _ (s : State) (k : Facts s) (m : Reads s.core.servers s.core.flights s.disk) (a : ℕ) (server : IsTrue (is_server a)) (j : Journal) (log : IsLog s a j) (disk : Sectors) (t : Touch s a j disk)
    (low : 255 ≤ log_end j.log.slots) (high : log_end j.log.slots < 2 ^ 62) (within : IsWithinFlight j.log.slots) (dead : IsTrue (is_dead (s.core.servers a).phase)) where
  abbrev end : ℕ
  end = log_end j.log.slots

  abbrev expiry : ℕ
  expiry = (s.core.servers a).expiry

  abbrev before : Slots
  before = slots_of s.disk a

  abbrev after : Slots
  after = slots_of disk a

  left : IsLeft expiry s.core.servers s.core.now s.core.flights s.disk a j.log.slots
  left = log.left dead

  -- ---- what stands of its seal

  pub stands_on : (later : ℕ) → s.core.now ≤ later → IsSealing later expiry j.log.slots after
  stands_on later more = go t
    where
      go : Touch s a j disk → IsSealing later expiry j.log.slots after
      go (Beside same) = sealing_moved s.core.now later expiry j.log.slots before after more same left.stands
      go (Seals d f ar q e w is) =
          sealing_moved s.core.now later expiry j.log.slots after after more (λ slot h. refl)
          (seal_arrives j.log.slots low high within s.core.now expiry before after w.number w.over w.which is left.stands).0

  -- ---- what a recovery has read

  module _ (by : ℕ) (old : Recovery) (who : IsTrue (is_worker s.core by)) (has : (s.core.servers by).recovery ≡ Some old) (of : old.dead ≡ a) where
    reading : is_read disk_logs old.slots ≡ true → IsReading end after old
    reading read = kept_reading s k m a server j log disk t by old who has of (left.reads by old who has of read)

    -- the last slot is read
    module _ (slot : ℕ) (block : Block) (wants : IsTrue (wants_slot s.core slot old)) (got : block ≡ s.disk (sector_of (region.Log old.dead slot))) (read : is_read disk_logs (with_value old.slots slot block) ≡ true) where
      none_read : is_read disk_logs old.slots ≡ false
      none_read = go (is_read disk_logs old.slots) refl
        where
          go : (b : Bool) → is_read disk_logs old.slots ≡ b → b ≡ false
          go true e = absurd (unread_slot disk_logs old.slots slot (subst (λ logs. IsTrue (member slot (unread logs old.slots))) k.rules wants) e)
          go false e = refl

      none_written : (number : ℕ) → is_sealed_at disk_logs old number ≡ true → ⊥
      none_written number w = false≢true (sym (ap (λ xs. member (log_sector disk_logs old.dead number) xs) ((turn s k m a server j log disk t by old who has of).early none_read)) ∙ w)

      beside : SameSlots after before
      beside = go t
        where
          go : Touch s a j disk → SameSlots after before
          go (Beside same) = same
          go (Seals d f ar q e w is) = absurd (both_ways (is_read disk_logs old.slots) none_read (own_seal s k m a server j log disk t by old who has of f ar q e w).0)

      of_disk : (n : ℕ) (b : Block) → value_at (with_value old.slots slot block) n ≡ Some b → b ≡ before n
      of_disk n b e = go (put_slot old.slots slot n block b e)
        where
          by_disk : (b ≡ s.disk (sector_of (region.Log old.dead n))) ⊎ IsSealedOver disk_logs s.disk old.dead old.slots n → b ≡ before n
          by_disk (inl is) = is ∙ ap (λ d. s.disk (sector_of (region.Log d n))) of
          by_disk (inr o) = absurd (both_ways (is_read disk_logs old.slots) none_read o.read)

          go : ((slot ≡ n) × (block ≡ b)) ⊎ (value_at old.slots n ≡ Some b) → b ≡ before n
          go (inl x) = sym x.1 ∙ got ∙ ap (λ d. s.disk (sector_of (region.Log d slot))) of ∙ ap before x.0
          go (inr f) = by_disk (subst (ReadBy s.disk) has ((m.held by).reads who) n b f).1

      read_same : SameSlots (sectors_of (with_value old.slots slot block)) before
      read_same n h = go (value_at (with_value old.slots slot block) n) refl (all_at (is_slot_read (with_value old.slots slot block)) (below 256) read n (among_below 256 n h))
        where
          go : (o : Option Block) → value_at (with_value old.slots slot block) n ≡ o → IsTrue (is_some o) → sectors_of (with_value old.slots slot block) n ≡ before n
          go None f x = absurd (false≢true x)
          go (Some b) f x = ap (λ o. unwrap_or o zero_block) f ∙ of_disk n b f

      now_same : SameSlots (sectors_of (with_value old.slots slot block)) after
      now_same = same_on (sectors_of (with_value old.slots slot block)) before after read_same (same_back after before beside)

      loaded_reading : IsReading end after (slot_loaded slot block old)
      loaded_reading = record {
        sealed = λ e. sealed_same (sectors_of (with_value old.slots slot block)) after now_same e;
        ends = λ u. log_end_same (sectors_of (with_value old.slots slot block)) before read_same ∙ go u (end_or_sealed j.log.slots low high within s.core.now expiry before left.stands);
        stand = λ u n l h w. absurd (none_written n w);
        closed = λ u w. absurd (none_written (end + 1) w);
      }
        where
          go : is_sealed_by disk_logs (with_value old.slots slot block) ≡ false → (log_end before ≡ end) ⊎ (is_sealed before ≡ true) → log_end before ≡ end
          go u (inl e) = e
          go u (inr sealed) =
              absurd (both_ways (is_sealed_by disk_logs (with_value old.slots slot block)) u
              (sealed_same before (sectors_of (with_value old.slots slot block)) (same_back (sectors_of (with_value old.slots slot block)) before read_same) sealed))

    -- a write of it is acknowledged
    module _ (flight : Flight) (there : (one : ℕ × Flight) × Among one s.core.flights × (one.1 ≡ flight)) (q : flight.purpose ≡ OfRecovery) (early : s.core.now ≤ flight.stamp)
        (wrote : disk ≡ written s.disk flight.sector flight.block) (read : is_read disk_logs old.slots ≡ true) where
      seal_of : (number : ℕ) → flight.sector ≡ log_sector disk_logs a number → IsSealWrite s.core.now expiry end before a flight
      seal_of number at =
          subst (IsSealWrite s.core.now expiry end before a) there.2
          (left.seals there.0 (number % 256) (in_contains s.core.flights there.0 there.1) (ap (λ (f : Flight). f.purpose) there.2 ∙ q) (low_slot number) (ap (λ (f : Flight). f.sector) there.2 ∙ at)
          (subst (λ (f : Flight). s.core.now ≤ f.stamp) (sym there.2) early))

      number_is : (number : ℕ) → end < number → number ≤ end + 64 → (at : flight.sector ≡ log_sector disk_logs a number) → (seal_of number at).number ≡ number
      number_is number l h at =
          let w = seal_of number at in
          let r = seal_range s.core.now expiry end before a flight w in
          seal_slots end w.number number r.0 r.1 l h (slot_of a w.number number (sym w.sector_is ∙ at))

      stood : (number : ℕ) → end < number → number ≤ end + 64 → flight.sector ≡ log_sector disk_logs a number → after (number % 256) ≡ seal_block number
      stood number l h at =
          ap (λ d. d (log_sector disk_logs a number)) wrote ∙ ap (written s.disk flight.sector flight.block) (sym at) ∙ written_there s.disk flight.sector flight.block
          ∙ (seal_of number at).block_is ∙ ap seal_block (number_is number l h at)

      closes : flight.sector ≡ log_sector disk_logs a (end + 1) → is_sealed after ≡ true
      closes at =
          (seal_arrives j.log.slots low high within s.core.now expiry before after w.number w.over w.which
          (subst (λ d. SameSlots (slots_of d a) (with_sector before (empty_sector w.number))) (sym wrote) (seal_slots_of s k m a server j log flight.sector flight.block flight w refl refl))
          left.stands).1
          (number_is (end + 1) (up end) (most end) at)
        where
          w : IsSealWrite s.core.now expiry end before a flight
          w = seal_of (end + 1) at

          up : (n : ℕ) → n < n + 1
          up n = omega arith

          most : (n : ℕ) → n + 1 ≤ n + 64
          most n = omega arith

      acked_reading : IsReading end after (acknowledged_for flight.sector old)
      acked_reading = record {
        sealed = o.sealed;
        ends = o.ends;
        stand = λ u n l h w. go n (nat_eq flight.sector (log_sector disk_logs old.dead n)) refl w (λ x. o.stand u n l h x) (λ at. stood n l h at);
        closed = λ u w. go (end + 1) (nat_eq flight.sector (log_sector disk_logs old.dead (end + 1))) refl w (λ x. o.closed u x) closes;
      }
        where
          o : IsReading end after old
          o = reading read

          go : {P : Type 0} (n : ℕ) (b : Bool) → nat_eq flight.sector (log_sector disk_logs old.dead n) ≡ b → (if b then true else is_sealed_at disk_logs old n) ≡ true →
              (is_sealed_at disk_logs old n ≡ true → P) → (flight.sector ≡ log_sector disk_logs a n → P) → P
          go n true e w was now = now (eqb-true flight.sector (log_sector disk_logs old.dead n) e ∙ ap (λ d. log_sector disk_logs d n) of)
          go n false e w was now = was w

  none_read_yet : is_read disk_logs [] ≡ true → ⊥
  none_read_yet read = false≢true (all_at (is_slot_read []) (below 256) read 0 (among_below 256 0 (some 255)))
    where
      some : (n : ℕ) → 0 < n + 1
      some n = omega arith

  pub reads_on : (by : ℕ) (r : Recovery) → Change s disk by r → r.dead ≡ a → is_read disk_logs r.slots ≡ true → IsReading end after r
  reads_on by r (Kept old who has same slots acked) of read =
      same_reading s k m a server j log disk t end after old r same slots acked (reading by old who has (same ∙ of) (ap (is_read disk_logs) slots ∙ read))
  reads_on by r (Read old slot block who has wants got is) of read =
      subst (IsReading end after) is
      (loaded_reading by old who has (ap (λ (x : Recovery). x.dead) is ∙ of) slot block wants got (ap (λ (x : Recovery). is_read disk_logs x.slots) is ∙ read))
  reads_on by r (Written_ old ticket flight who has e by_ q present early wrote is) of read =
      subst (IsReading end after) is
      (acked_reading by old who has (ap (λ (x : Recovery). x.dead) is ∙ of) flight (flight_at s.core.flights ticket flight e) q early wrote (ap (λ (x : Recovery). is_read disk_logs x.slots) is ∙ read))
  reads_on by r (Taken can is) of read = absurd (none_read_yet (ap (λ (x : Recovery). is_read disk_logs x.slots) is ∙ read))

  -- ---- the writes of its seal

  pub seals_on : ((by : ℕ) (recovery : Recovery) → IsTrue (is_worker s.core by) → (s.core.servers by).recovery ≡ Some recovery → HasEnded s.core.now (s.core.servers recovery.dead).expiry) →
      (later : ℕ) → s.core.now ≤ later → (one : Flight) → FlightFrom s one → one.purpose ≡ OfRecovery → (slot : ℕ) → slot < 256 → one.sector ≡ sector_of (region.Log a slot) → later ≤ one.stamp →
      IsSealWrite later expiry end after a one
  seals_on over_of later more one from q slot small at early = go from
    where
      moved : (number : ℕ) → IsTrue (is_behind_gap end number) ⊎ ((number ≡ end + 1) × AllStandBehind end before) → IsTrue (is_behind_gap end number) ⊎ ((number ≡ end + 1) × AllStandBehind end after)
      moved number (inl gap) = inl gap
      moved number (inr x) = inr (x.0, all_still s k m a server j log disk t x.1)

      was : Was s one → IsSealWrite later expiry end after a one
      was w = record {
        over = le_trans o.over more;
        number = o.number;
        sector_is = sym w.same.sector ∙ o.sector_is;
        block_is = sym w.same.block ∙ o.block_is;
        which = moved o.number o.which;
      }
        where
          o : IsSealWrite s.core.now expiry end before a w.old.1
          o = left.seals w.old slot (in_contains s.core.flights w.old w.there) (w.same.rescue q) small (w.same.sector ∙ at) (le_trans more (subst (λ n. later ≤ n) (sym w.same.stamp) early))

      new : (by sector : ℕ) (write : Write) → CanIssue s.core by sector → value_at (writes s.core by) sector ≡ Some write → one ≡ flight_of s.core by sector write → IsSealWrite later expiry end after a one
      new by sector write can e is = kinds (wanted_is s.core.setting s.core.locks by (s.core.servers by) (stage s.core by) sector write e)
        where
          purpose : write.purpose ≡ OfRecovery
          purpose = ap (λ (f : Flight). f.purpose) (sym is) ∙ q

          sector_is : one.sector ≡ sector
          sector_is = ap (λ (f : Flight). f.sector) is

          who : IsTrue (is_worker s.core by)
          who = can.issuable.who

          rescues : (recovery : Recovery) (block : Block) → (s.core.servers by).recovery ≡ Some recovery → write ≡ rescue_write recovery.dead block →
              Owed disk_logs s.core.setting.segments recovery sector block → IsSealWrite later expiry end after a one
          rescues recovery block has wr (Replays i) =
              absurd (low_high sector (sector_of (region.Log a slot)) (replayed_high s.core.setting.segments sector ((k.looked by recovery has).0.looked sector (Some block) i).1)
              (slot_low a slot (server_low a server) small) (sym sector_is ∙ at))
          rescues recovery block has wr (SealsLater number i e b read unsealed) = record {
            over = le_trans (subst (λ d. HasEnded s.core.now (s.core.servers d).expiry) of (over_of by recovery who has)) more;
            number = number;
            sector_is = sector_is ∙ e ∙ ap (λ d. log_sector disk_logs d number) of;
            block_is = ap (λ (f : Flight). f.block) is ∙ ap (λ (w : Write). w.block) wr ∙ b;
            which = inl (later_out end number (subst (λ n. Among number (later_seals disk_logs n)) (reading.ends unsealed) i));
          }
            where
              of : recovery.dead ≡ a
              of = (same_log recovery.dead number a slot small (sym e ∙ sym sector_is ∙ at)).0

              reading : IsReading end before recovery
              reading = left.reads by recovery who has of read
          rescues recovery block has wr (SealsFirst all e b read unsealed) = record {
            over = le_trans (subst (λ d. HasEnded s.core.now (s.core.servers d).expiry) of (over_of by recovery who has)) more;
            number = end_of disk_logs recovery.slots + 1;
            sector_is = sector_is ∙ e ∙ ap (λ d. log_sector disk_logs d (end_of disk_logs recovery.slots + 1)) of;
            block_is = ap (λ (f : Flight). f.block) is ∙ ap (λ (w : Write). w.block) wr ∙ b;
            which = inr (ap (λ n. n + 1) (reading.ends unsealed), all_still s k m a server j log disk t each);
          }
            where
              of : recovery.dead ≡ a
              of = (same_log recovery.dead (end_of disk_logs recovery.slots + 1) a slot small (sym e ∙ sym sector_is ∙ at)).0

              reading : IsReading end before recovery
              reading = left.reads by recovery who has of read

              from_gap : (e n : ℕ) → e + 2 ≤ n → e < n
              from_gap e n h = omega (arith, h)

              each : AllStandBehind end before
              each number gap =
                  let p = behind_parts end number gap in
                  reading.stand unsealed number (from_gap end number p.0) p.1
                  (all_at (is_sealed_at disk_logs recovery) (later_seals disk_logs (end_of disk_logs recovery.slots)) all number
                  (subst (λ n. Among number (later_seals disk_logs n)) (sym (reading.ends unsealed)) (later_in end number gap)))

          kinds : Wanted s.core.setting.logs s.core.setting.segments by (s.core.servers by) sector write → IsSealWrite later expiry end after a one
          kinds (Rescues recovery block has i wr) =
              rescues recovery block has wr
              (subst (λ logs. Owed logs s.core.setting.segments recovery sector block) k.rules (wanted_open s.core.setting.logs s.core.setting.segments recovery sector block i).owed)
          kinds (Places cached dirt i d wr) = absurd (false≢true (ap is_rescue (ap (λ (w : Write). w.purpose) (sym wr) ∙ purpose)))
          kinds (NextOfLog number block n there wr) = absurd (false≢true (ap is_rescue (ap (λ (w : Write). w.purpose) (sym wr) ∙ purpose)))

      go : FlightFrom s one → IsSealWrite later expiry end after a one
      go (Flew w) = was w
      go (New by sector write can e is) = new by sector write can e is
