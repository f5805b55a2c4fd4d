-- The journals of other servers go on where a recovery removes operations of a dead one.
use Rattle.std.proofs.Common.{◌≡◌, ◌≢◌, ◌↔◌, ℕ, ◌≤◌, List, [], ◌∷◌, sym, ◌∙◌, inl, inr, ⊎_elim}
use Rattle.std.proofs.lemmas.Bool.{false≢true}
use Rattle.frang_base.proofs.Basics.{by_keep}
use Rattle.sector_bytes.specs.Sectors.{Sectors}
use Rattle.disk_definitions.specs.Logs.{log_end}
use Rattle.ring_definitions.specs.Rings.{Ring}
use Rattle.core_definitions.specs.Flights.{Flights}
use Rattle.core_definitions.specs.Servers as life
use Rattle.sector_world.specs.Histories.{Commit, Item, kept, recovered, survives}
use Rattle.sector_world.specs.Histories.Item.{Done, Doubt}
use Rattle.sector_world.proofs.HistoryLaws.{each_kept}
use Rattle.sector_world.proofs.Removals.{survives_other}
use Rattle.core_world.specs.Journals.{IsJournal, IsLogOf, IsOwn, Journal, SectorLog}

-- an operation of another server stays
own_stays : (a n d k : ℕ) (h : List Item) → a ≢ d → IsOwn a n h → IsOwn a n (kept (survives d k) h)
own_stays a n d k [] other i = i
own_stays a n d k (Done c ∷ h) other (inl e) =
    by_keep (IsOwn a n) (survives d k c) (Done c) (kept (survives d k) h) (λ t. inl e)
    (λ t. absurd (false≢true (sym t ∙ survives_other d k c (λ i. other (sym e.0 ∙ i)))))
own_stays a n d k (Done c ∷ h) other (inr i) =
    by_keep (IsOwn a n) (survives d k c) (Done c) (kept (survives d k) h) (λ t. inr (own_stays a n d k h other i)) (λ t. own_stays a n d k h other i)
own_stays a n d k (Doubt m ∷ h) other i = own_stays a n d k h other i

-- the log of a server on the side of the theorem on sectors, with these operations removed
abbrev pub removed : ℕ → ℕ → ℕ → SectorLog → SectorLog
removed d k n log = record log { history = recovered d k n log.history }

left_journal : (phase : life.Phase) (ring : Ring) (now : ℕ) (flights : Flights) (disk : Sectors) (log : SectorLog) (a : ℕ) (j : Journal) (d k n : ℕ) → a ≢ d →
    IsJournal phase ring now flights disk log a j → IsJournal phase ring now flights disk (removed d k n log) a j
left_journal phase ring now flights disk log a j d k n other g = record {
  good = g.good;
  ring_is = g.ring_is;
  slots = g.slots;
  counted = record {
    rises = g.counted.rises;
    durable = each_kept (λ (c : Commit). c.by ≡ a → (c.op ≤ log.durable) ↔ (j.ends c.op ≤ log_end j.log.slots)) (survives d k) log.history g.counted.durable;
    acked = each_kept (λ (c : Commit). c.by ≡ a → (c.op ≤ log.acked) ↔ (j.ends c.op ≤ ring.reached)) (survives d k) log.history g.counted.acked;
    newest = ⊎_elim (λ l. inl l) (λ i. inr (own_stays a log.last d k log.history other i)) g.counted.newest;
    ends_at = g.counted.ends_at;
  };
  sent = g.sent;
  records = record { ends_at_last = g.records.ends_at_last; given_up = g.records.given_up; placed = g.records.placed; old = g.records.old };
}

pub left_log : (phase : life.Phase) (ring : Ring) (now : ℕ) (flights : Flights) (disk : Sectors) (log : SectorLog) (a : ℕ) (j : Journal) (d k n : ℕ) → a ≢ d →
    IsLogOf phase ring now flights disk log a j → IsLogOf phase ring now flights disk (removed d k n log) a j
left_log life.Off ring now flights disk log a j d k n other g = record { low = g.low; sealed = g.sealed; old = g.old }
left_log life.Up ring now flights disk log a j d k n other g = left_journal life.Up ring now flights disk log a j d k n other g
left_log life.Still ring now flights disk log a j d k n other g = left_journal life.Still ring now flights disk log a j d k n other g
left_log (life.Doomed fate) ring now flights disk log a j d k n other g = left_journal (life.Doomed fate) ring now flights disk log a j d k n other g
left_log life.Dead ring now flights disk log a j d k n other g = left_journal life.Dead ring now flights disk log a j d k n other g
