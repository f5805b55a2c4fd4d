-- The journal of a server that isn't off, its slots on the disk, and what an acknowledgement leaves of its ring.
use Rattle.std.proofs.Common.{◌≡◌, ℕ, ◌+◌, ◌-◌, ◌≤◌, Bool, true, false, if◌then◌else◌, List, [], ◌∷◌, nat_lt, slice_set, le_refl, refl, sym, subst, inl, arith}
use Rattle.std.proofs.lemmas.Bool.{false≢true}
use Rattle.disk_definitions.specs.Logs.{Slots, log_end}
use Rattle.disk_definitions.specs.declared.log_sector.LogSector.{LogSector}
use Rattle.sector_bytes.specs.Blocks.{Block}
use Rattle.sector_bytes.specs.Sectors.{Sectors}
use Rattle.ring_definitions.specs.RingRuns.{LogState}
use Rattle.ring_definitions.specs.RingSteps.{IsGoodLog}
use Rattle.ring_definitions.specs.Rings.{Ring, acked, passed}
use Rattle.ring_definitions.proofs.GoodLogs.{good_ends}
use Rattle.core_definitions.specs.Flights as core
use Rattle.core_definitions.specs.Servers as life
use Rattle.core_definitions.specs.Servers.{is_dead, is_off}
use Rattle.core_journals.specs.Journals as stands
use Rattle.core_journals.proofs.JournalSteps.{is_good}
use Rattle.core_world.specs.Journals.{IsJournal, IsLogOf, IsSent, IsSlotOn, Journal, SectorLog}

-- ---- by the phase

module _ (ring : Ring) (now : ℕ) (flights : core.Flights) (disk : Sectors) (log : SectorLog) (a : ℕ) (j : Journal) where
  pub as_journal : (p : life.Phase) → is_off p ≡ false → IsLogOf p ring now flights disk log a j → IsJournal p ring now flights disk log a j
  as_journal life.Off e g = absurd (false≢true (sym e))
  as_journal life.Up e g = g
  as_journal life.Still e g = g
  as_journal (life.Doomed fate) e g = g
  as_journal life.Dead e g = g

  pub as_log : (p : life.Phase) → is_off p ≡ false → IsJournal p ring now flights disk log a j → IsLogOf p ring now flights disk log a j
  as_log life.Off e g = absurd (false≢true (sym e))
  as_log life.Up e g = g
  as_log life.Still e g = g
  as_log (life.Doomed fate) e g = g
  as_log life.Dead e g = g

-- of a server that lives the slots are the journal's
pub on_disk : (p : life.Phase) (slots : Slots) (slot : ℕ) (block : Block) → is_dead p ≡ false → IsSlotOn p slots slot block → block ≡ slots slot
on_disk life.Off slots slot block e g = g
on_disk life.Up slots slot block e g = g
on_disk life.Still slots slot block e g = g
on_disk (life.Doomed fate) slots slot block e g = g
on_disk life.Dead slots slot block e g = absurd (false≢true (sym e))

pub on_slot : (p : life.Phase) (slots : Slots) (slot : ℕ) (block : Block) → block ≡ slots slot → IsSlotOn p slots slot block
on_slot life.Off slots slot block e = e
on_slot life.Up slots slot block e = e
on_slot life.Still slots slot block e = e
on_slot (life.Doomed fate) slots slot block e = e
on_slot life.Dead slots slot block e = inl e

-- ---- the same without the world

abbrev pub standing : Journal → stands.Journal
standing j = record { before = j.before; log = j.log }

low_end : (slots : Slots) (log : LogState) → IsGoodLog slots log → 255 ≤ log_end log.slots
low_end slots log g =
    up (log_end slots) log.ring.reached (log_end log.slots) g.low (subst (λ (r : Ring). log_end slots - 191 + 191 ≤ r.reached) (sym g.left.ring) (is_good slots log g).standing.low) (good_ends slots log g).not_below
  where
    up : (e r n : ℕ) → 255 ≤ e → e - 191 + 191 ≤ r → r ≤ n → 255 ≤ n
    up e r n h i j = omega (arith, h, i, j)

pub as_standing : (p : life.Phase) (ring : Ring) (now : ℕ) (flights : core.Flights) (disk : Sectors) (log : SectorLog) (a : ℕ) (j : Journal) → IsJournal p ring now flights disk log a j →
    stands.IsJournal ring now flights a (standing j)
as_standing p ring now flights disk log a j g = record {
  good = g.good;
  ring_is = g.ring_is;
  low = low_end j.before j.log g.good;
  sent = λ one number i by of early. let x = g.sent one number i by of early in record { sector = x.0; there = x.1; number_is = x.2; block_is = x.3 };
}

pub as_sent : (flying : List LogSector) (number : ℕ) (block : Block) → stands.IsSent flying number block → IsSent flying number block
as_sent flying number block x = (x.sector, x.there, x.number_is, x.block_is)

-- ---- an acknowledgement

one_more : (n m : ℕ) → n + 1 ≤ m → n ≤ m
one_more n m h = omega (arith, h)

passed_given : (r : Ring) (n : ℕ) (above : List Bool) → (passed r n above).given_up ≡ r.given_up
passed_given r n [] = refl
passed_given r n (true ∷ above) = passed_given r (n + 1) above
passed_given r n (false ∷ above) = refl

passed_on : (r : Ring) (n : ℕ) (above : List Bool) → n ≤ (passed r n above).reached
passed_on r n [] = le_refl n
passed_on r n (true ∷ above) = one_more n (passed r (n + 1) above).reached (passed_on r (n + 1) above)
passed_on r n (false ∷ above) = le_refl n

-- gives up no record
pub acked_given : (r : Ring) (number : ℕ) → (acked r number).given_up ≡ r.given_up
acked_given r number = go (nat_lt r.reached number)
  where
    go : (b : Bool) → (if b then passed r r.reached (slice_set r.above (number - r.reached - 1) true) else r).given_up ≡ r.given_up
    go true = passed_given r r.reached (slice_set r.above (number - r.reached - 1) true)
    go false = refl

-- and takes nothing back
pub acked_on : (r : Ring) (number : ℕ) → r.reached ≤ (acked r number).reached
acked_on r number = go (nat_lt r.reached number)
  where
    go : (b : Bool) → r.reached ≤ (if b then passed r r.reached (slice_set r.above (number - r.reached - 1) true) else r).reached
    go true = passed_on r r.reached (slice_set r.above (number - r.reached - 1) true)
    go false = le_refl r.reached
