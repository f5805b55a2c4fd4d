-- What a log reads as on the disk, beside its journal: the same, and once it is sealed perhaps without the records of its oldest numbers.
use Rattle.std.proofs.Common.{◌≡◌, ℕ, ◌+◌, ◌<◌, ◌≤◌, ◌^◌, ◌⊎◌, inl, inr, true, false, List, map, sym, ◌∙◌, arith, [], ◌∷◌, ◌%◌, IsTrue, ap, subst, refl}
use Rattle.std.proofs.lemmas.Bool.{and_parts, both_ways, cases_eq}
use Rattle.std.specs.List.{list_all}
use Rattle.disk_definitions.proofs.SameLogs.{SameSlots, log_end_same, log_records_same}
use Rattle.disk_definitions.specs.Arriving.{with_sector, with_sectors}
use Rattle.disk_definitions.specs.LogSectors.{empty_sector}
use Rattle.disk_definitions.specs.Logs.{Slots, log_end}
use Rattle.disk_definitions.specs.Replay.{slots_of}
use Rattle.ring_definitions.proofs.GoodLogs.{good_ends, good_reads}
use Rattle.ring_definitions.proofs.SealingLaws.{closed, end_kept, records_kept, sealed_log, sealing_kept}
use Rattle.ring_definitions.specs.Rings.{last}
use Rattle.ring_definitions.specs.Sealing.{IsSealedFrom, IsWithinFlight, is_behind_gap}
use Rattle.sector_bytes.specs.Blocks.{Block}
use Rattle.core_definitions.specs.Runs.{State}
use Rattle.core_definitions.specs.Logs.{seal_block}
use Rattle.core_definitions.specs.Servers.{Dead, Doomed, Off, Phase, Still, Up, is_dead, is_in_mount, is_off}
use Rattle.core_journals.specs.Journals.{AllStandBehind, IsJournal, IsLog, IsSealing, Journal, Open, Partly, Wholly}
use Rattle.core_journals.specs.Logs.{HasAll, IsReadAs, IsSealSlot}
use Rattle.core_journals.proofs.LogBlocks.{empty_stands, sealed_same, with_elsewhere, with_here}
use Rattle.core_journals.proofs.Quiet.{Bounds, bounds_of}
use Rattle.core_journals.proofs.SealStates.{behind_from, behind_parts}

same_has : (base slots : Slots) → SameSlots slots base → HasAll base slots
same_has base slots same = record { end = log_end_same slots base same; records = log_records_same slots base same }

module _ (base : Slots) (low : 255 ≤ log_end base) (high : log_end base < 2 ^ 62) (within : IsWithinFlight base) where
  part_has : (numbers : List ℕ) → list_all (is_behind_gap (log_end base)) numbers ≡ true → HasAll base (with_sectors base (map empty_sector numbers))
  part_has numbers all = record {
    end = end_kept base (with_sectors base (map empty_sector numbers)) low (sealing_kept base numbers high within all);
    records = records_kept base (with_sectors base (map empty_sector numbers)) low (sealing_kept base numbers high within all);
  }

  whole_has : (numbers : List ℕ) → list_all (is_behind_gap (log_end base)) numbers ≡ true → AllStandBehind (log_end base) (with_sectors base (map empty_sector numbers)) →
      IsSealedFrom base (with_sector (with_sectors base (map empty_sector numbers)) (empty_sector (log_end base + 1)))
  whole_has numbers all each =
      sealed_log base (with_sector (with_sectors base (map empty_sector numbers)) (empty_sector (log_end base + 1))) low
      (closed base (log_end base) (with_sectors base (map empty_sector numbers)) high (sealing_kept base numbers high within all)
      (λ n from to. empty_stands (with_sectors base (map empty_sector numbers)) n (small n to) (each n (behind_from (log_end base) n from to))))
    where
      small : (n : ℕ) → n ≤ log_end base + 64 → n < 2 ^ 63
      small n to = omega (arith, to, high)

  -- of the same slots
  sealed_from_same : (slots later : Slots) → SameSlots later slots → IsSealedFrom base slots → IsSealedFrom base later
  sealed_from_same slots later same is = record {
    end = log_end_same later slots same ∙ is.end;
    none_above = sealed_same slots later (λ slot h. sym (same slot h)) is.none_above;
    records = log_records_same later slots same ∙ is.records;
    missing = is.missing;
    last = log_records_same later slots same ∙ is.last;
  }

  has_from_same : (slots later : Slots) → SameSlots later slots → HasAll base slots → HasAll base later
  has_from_same slots later same is = record { end = log_end_same later slots same ∙ is.end; records = log_records_same later slots same ∙ is.records }

  pub sealing_reads : (now expiry : ℕ) (slots : Slots) → IsSealing now expiry base slots → HasAll base slots ⊎ IsSealedFrom base slots
  sealing_reads now expiry slots (Open same) = inl (same_has base slots same)
  sealing_reads now expiry slots (Partly over numbers all same) = inl (has_from_same (with_sectors base (map empty_sector numbers)) slots same (part_has numbers all))
  sealing_reads now expiry slots (Wholly over numbers all each same) =
      inr (sealed_from_same (with_sector (with_sectors base (map empty_sector numbers)) (empty_sector (log_end base + 1))) slots same (whole_has numbers all each))

pub log_reads : (s : State) (a : ℕ) (j : Journal) → last (s.core.servers a).ring < 2 ^ 62 → IsLog s a j → is_off (s.core.servers a).phase ≡ false → IsReadAs s a j
log_reads s a j small log on = record {
  back = good_reads j.before j.log is.good;
  ends = good_ends j.before j.log is.good;
  live = λ up. same_has j.log.slots (slots_of s.disk a) (log.live up);
  left = λ dead. sealing_reads j.log.slots b.low b.high b.within s.core.now (s.core.servers a).expiry (slots_of s.disk a) (log.left dead).stands;
}
  where
    is : IsJournal (s.core.servers a).ring s.core.now s.core.flights a j
    is = log.journal on

    b : Bounds j.log.slots
    b = bounds_of (s.core.servers a).ring s.core.now s.core.flights a j is small

-- ---- slot by slot

seal_slot : (end number slot : ℕ) → is_behind_gap end number ≡ true → slot ≡ number % 256 → (block : Block) → block ≡ seal_block number → IsSealSlot end slot block
seal_slot end number slot gap at block is = let p = behind_parts end number gap in record { number = number; above = from end number p.0; within = p.1; at = sym at; is = is }
  where
    from : (e n : ℕ) → e + 2 ≤ n → e < n
    from e n h = omega (arith, h)

-- one sector more
with_slot : {P : Type 0} (slots : Slots) (number slot : ℕ) → (slot ≡ number % 256 → with_sector slots (empty_sector number) slot ≡ seal_block number → P) →
    (with_sector slots (empty_sector number) slot ≡ slots slot → P) → P
with_slot {P} slots number slot here there = go (cases_eq slot (number % 256))
  where
    go : (slot ≡ number % 256) ⊎ (slot ≡ number % 256 → ⊥) → P
    go (inl e) = here e (ap (with_sector slots (empty_sector number)) e ∙ with_here slots (empty_sector number))
    go (inr ne) = there (with_elsewhere slots (empty_sector number) slot ne)

part_slot : (end : ℕ) (numbers : List ℕ) (slots : Slots) (slot : ℕ) → list_all (is_behind_gap end) numbers ≡ true →
    (with_sectors slots (map empty_sector numbers) slot ≡ slots slot) ⊎ IsSealSlot end slot (with_sectors slots (map empty_sector numbers) slot)
part_slot end [] slots slot all = inl refl
part_slot end (n ∷ ns) slots slot all = go (part_slot end ns (with_sector slots (empty_sector n)) slot parts.1)
  where
    parts : (is_behind_gap end n ≡ true) × (list_all (is_behind_gap end) ns ≡ true)
    parts = and_parts (is_behind_gap end n) (list_all (is_behind_gap end) ns) all

    go : (with_sectors (with_sector slots (empty_sector n)) (map empty_sector ns) slot ≡ with_sector slots (empty_sector n) slot)
        ⊎ IsSealSlot end slot (with_sectors (with_sector slots (empty_sector n)) (map empty_sector ns) slot) →
        (with_sectors (with_sector slots (empty_sector n)) (map empty_sector ns) slot ≡ slots slot) ⊎ IsSealSlot end slot (with_sectors (with_sector slots (empty_sector n)) (map empty_sector ns) slot)
    go (inr sealed) = inr sealed
    go (inl same) = with_slot slots n slot (λ e is. inr (seal_slot end n slot parts.0 e _ (same ∙ is))) (λ rest. inl (same ∙ rest))

sealing_slot : (now expiry : ℕ) (base slots : Slots) → IsSealing now expiry base slots → (slot : ℕ) → slot < 256 → (slots slot ≡ base slot) ⊎ IsSealSlot (log_end base) slot (slots slot)
sealing_slot now expiry base slots (Open same) slot low = inl (same slot low)
sealing_slot now expiry base slots (Partly over numbers all same) slot low = go (part_slot (log_end base) numbers base slot all)
  where
    go : (with_sectors base (map empty_sector numbers) slot ≡ base slot) ⊎ IsSealSlot (log_end base) slot (with_sectors base (map empty_sector numbers) slot) → (slots slot ≡ base slot) ⊎ IsSealSlot (log_end base) slot (slots slot)
    go (inl e) = inl (same slot low ∙ e)
    go (inr x) = inr (subst (IsSealSlot (log_end base) slot) (sym (same slot low)) x)
sealing_slot now expiry base slots (Wholly over numbers all each same) slot low =
    with_slot (with_sectors base (map empty_sector numbers)) (log_end base + 1) slot
    (λ e is. inr (record { number = log_end base + 1; above = up (log_end base); within = most (log_end base); at = sym e; is = same slot low ∙ is }))
    (λ rest. go (part_slot (log_end base) numbers base slot all) rest)
  where
    up : (n : ℕ) → n < n + 1
    up n = omega arith

    most : (n : ℕ) → n + 1 ≤ n + 64
    most n = omega arith

    go : (with_sectors base (map empty_sector numbers) slot ≡ base slot) ⊎ IsSealSlot (log_end base) slot (with_sectors base (map empty_sector numbers) slot) →
        with_sector (with_sectors base (map empty_sector numbers)) (empty_sector (log_end base + 1)) slot ≡ with_sectors base (map empty_sector numbers) slot →
        (slots slot ≡ base slot) ⊎ IsSealSlot (log_end base) slot (slots slot)
    go (inl e) rest = inl (same slot low ∙ rest ∙ e)
    go (inr x) rest = inr (subst (IsSealSlot (log_end base) slot) (sym (same slot low ∙ rest)) x)

pub log_slots : (s : State) (a : ℕ) (j : Journal) → IsLog s a j → is_off (s.core.servers a).phase ≡ false → (slot : ℕ) → slot < 256 →
    (slots_of s.disk a slot ≡ j.log.slots slot) ⊎ (IsTrue (is_dead (s.core.servers a).phase) × IsSealSlot (log_end j.log.slots) slot (slots_of s.disk a slot))
log_slots s a j log on slot low = go (s.core.servers a).phase refl
  where
    dead : IsTrue (is_dead (s.core.servers a).phase) → (slots_of s.disk a slot ≡ j.log.slots slot) ⊎ (IsTrue (is_dead (s.core.servers a).phase) × IsSealSlot (log_end j.log.slots) slot (slots_of s.disk a slot))
    dead d = by_seal (sealing_slot s.core.now (s.core.servers a).expiry j.log.slots (slots_of s.disk a) (log.left d).stands slot low)
      where
        by_seal : (slots_of s.disk a slot ≡ j.log.slots slot) ⊎ IsSealSlot (log_end j.log.slots) slot (slots_of s.disk a slot) →
            (slots_of s.disk a slot ≡ j.log.slots slot) ⊎ (IsTrue (is_dead (s.core.servers a).phase) × IsSealSlot (log_end j.log.slots) slot (slots_of s.disk a slot))
        by_seal (inl e) = inl e
        by_seal (inr x) = inr (d, x)

    go : (p : Phase) → (s.core.servers a).phase ≡ p → (slots_of s.disk a slot ≡ j.log.slots slot) ⊎ (IsTrue (is_dead (s.core.servers a).phase) × IsSealSlot (log_end j.log.slots) slot (slots_of s.disk a slot))
    go Off e = absurd (both_ways (is_off (s.core.servers a).phase) on (ap is_off e))
    go Up e = inl (log.live (ap is_in_mount e) slot low)
    go Still e = inl (log.live (ap is_in_mount e) slot low)
    go (Doomed fate) e = inl (log.live (ap is_in_mount e) slot low)
    go Dead e = dead (ap is_dead e)
