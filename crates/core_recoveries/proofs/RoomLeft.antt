-- The log of a dead server ends at most where a seal behind the last number of its ring would: no greater number stands in it.
use Rattle.std.proofs.Common.{◌≡◌, ◌⊎◌, ℕ, ◌+◌, ◌-◌, ◌%◌, ◌^◌, ◌<◌, ◌≤◌, ◌==◌, Bool, true, false, if◌then◌else◌, is_some, length, Some, None, refl, sym, ap, ◌∙◌, subst, inl, inr, ⊎_elim, arith}
use Rattle.std.proofs.lemmas.Bool.{cases_lt, eqb-true, false≢true}
use Rattle.frang_base.specs.declared.limits.TheConstants.{LOG_IN_FLIGHT_MAX}
use Rattle.disk_definitions.specs.Arriving.{with_sector}
use Rattle.disk_definitions.specs.LogSectors.{empty_sector, log_sector_bytes, log_sector_in}
use Rattle.disk_definitions.specs.Logs.{Slots, log_end, numbered, stands}
use Rattle.disk_definitions.specs.Replay.{slots_of}
use Rattle.disk_definitions.proofs.ArrivingLaws.{empty_arrived}
use Rattle.disk_definitions.proofs.EndLaws.{end_stands, log_end_is_one, numbered_is, numbers_are_below}
use Rattle.sector_bytes.specs.Sectors.{Sectors}
use Rattle.ring_definitions.specs.RingRuns.{EndsWithin}
use Rattle.ring_definitions.specs.RingSteps.{GoodLogsEndWithin}
use Rattle.ring_definitions.specs.Rings.{Ring, last, sent}
use Rattle.core_definitions.specs.Flights.{Flights}
use Rattle.core_definitions.specs.Servers as life
use Rattle.core_world.specs.Journals.{IsJournal, IsSeal, Journal, SectorLog}

-- an empty sector is read as it is
empty_read : (m : ℕ) → m < 2 ^ 63 → log_sector_in (m % 256) (log_sector_bytes (empty_sector m)) ≡ Some (empty_sector m)
empty_read m h = ap (log_sector_in (m % 256)) (sym here) ∙ (numbered_is m (log_sector_in (m % 256) (with_sector none (empty_sector m) (m % 256))) (empty_sector m) (empty_arrived none m h)).0
  where
    none : Slots
    none slot = log_sector_bytes (empty_sector m)

    here : with_sector none (empty_sector m) (m % 256) ≡ log_sector_bytes (empty_sector m)
    here = go (m % 256 == m % 256)
      where
        go : (b : Bool) → (if b then log_sector_bytes (empty_sector m) else log_sector_bytes (empty_sector m)) ≡ log_sector_bytes (empty_sector m)
        go true = refl
        go false = refl

-- so no other number stands in its slot
number_is : (m n : ℕ) → m < 2 ^ 63 → m % 256 ≡ n % 256 → is_some (numbered n (log_sector_in (n % 256) (log_sector_bytes (empty_sector m)))) ≡ true → m ≡ n
number_is m n h same there = go (m == n) refl (ap (λ o. is_some (numbered n o)) (sym (subst (λ slot. log_sector_in slot (log_sector_bytes (empty_sector m)) ≡ Some (empty_sector m)) same (empty_read m h))) ∙ there)
  where
    go : (b : Bool) → (m == n) ≡ b → is_some (if b then Some (empty_sector m) else None) ≡ true → m ≡ n
    go true e t = eqb-true m n e
    go false e t = absurd (false≢true t)

module _ (ends : GoodLogsEndWithin) (ring : Ring) (now : ℕ) (flights : Flights) (disk : Sectors) (log : SectorLog) (a : ℕ) (j : Journal) (t : IsJournal life.Dead ring now flights disk log a j)
    (small : last ring + LOG_IN_FLIGHT_MAX ≤ 2 ^ 61) where
  abbrev slots : Slots
  slots = slots_of disk a

  within : EndsWithin j.log
  within = ends j.before j.log t.good

  far : sent j.log.ring ≤ last ring
  far = subst (λ r. sent j.log.ring ≤ last r) t.ring_is (more (sent j.log.ring) (length j.log.ring.waiting))
    where
      more : (s n : ℕ) → s ≤ s + n
      more s n = omega arith

  slot_low : (n : ℕ) → n % 256 < 256
  slot_low n = omega arith

  no_more : (n : ℕ) → stands slots n ≡ true → n ≤ last ring + LOG_IN_FLIGHT_MAX
  no_more n h = ⊎_elim own seals (t.slots (n % 256) (slot_low n))
    where
      own : slots (n % 256) ≡ j.log.slots (n % 256) → n ≤ last ring + LOG_IN_FLIGHT_MAX
      own e = further n (sent j.log.ring) (last ring)
          (numbers_are_below j.log.slots (sent j.log.ring) within.numbers n (ap (λ block. is_some (numbered n (log_sector_in (n % 256) block))) (sym e) ∙ h)) far
        where
          further : (x y z : ℕ) → x ≤ y → y ≤ z → x ≤ z + 64
          further x y z p q = omega (arith, p, q)

      seals : IsSeal j.log.slots (n % 256) (slots (n % 256)) → n ≤ last ring + LOG_IN_FLIGHT_MAX
      seals s = subst (λ k. k ≤ last ring + LOG_IN_FLIGHT_MAX) is within_seal
        where
          within_seal : s.0 ≤ last ring + LOG_IN_FLIGHT_MAX
          within_seal = further s.0 (log_end j.log.slots) (sent j.log.ring) (last ring) s.2 within.not_above far
            where
              further : (x e y z : ℕ) → x ≤ e + 64 → e ≤ y → y ≤ z → x ≤ z + 64
              further x e y z o p q = omega (arith, o, p, q)

          is : s.0 ≡ n
          is = number_is s.0 n (low s.0 (last ring) within_seal small) s.3 (ap (λ block. is_some (numbered n (log_sector_in (n % 256) block))) (sym s.4) ∙ h)
            where
              low : (x y : ℕ) → x ≤ y + 64 → y + 64 ≤ 2 ^ 61 → x < 2 ^ 63
              low x y o p = omega (arith, o, p)

  pub ends_near : log_end slots ≤ last ring + LOG_IN_FLIGHT_MAX
  ends_near = go (cases_lt 0 (log_end slots))
    where
      below : (e : ℕ) → e - 191 ≤ e
      below e = omega arith

      itself : (e : ℕ) → e ≤ e
      itself e = omega arith

      none : (e x : ℕ) → e ≤ 0 → e ≤ x
      none e x h = omega (arith, h)

      go : (0 < log_end slots) ⊎ (log_end slots ≤ 0) → log_end slots ≤ last ring + LOG_IN_FLIGHT_MAX
      go (inl some) = no_more (log_end slots) (end_stands slots (log_end slots) (log_end_is_one slots some) (log_end slots) (below (log_end slots)) (itself (log_end slots)))
      go (inr h) = none (log_end slots) (last ring + LOG_IN_FLIGHT_MAX) h
