-- What a Commit leaves of writes in flight, by server and sector, and of the logs of other servers.
use Rattle.std.proofs.Common.{◌≡◌, ◌==◌, ℕ, ◌≤◌, Bool, true, false, if◌then◌else◌, ◌∷◌, refl, sym, ap, ◌∙◌, inl, inr, ⊎_elim}
use Rattle.sector_bytes.specs.Sectors.{Sectors}
use Rattle.ring_definitions.specs.Rings.{Ring}
use Rattle.core_definitions.specs.Flights.{Flight, Flights, OfLog, each_of_server}
use Rattle.core_definitions.specs.LineEffects.{flight_after, purpose_after}
use Rattle.core_definitions.specs.Plans as plans
use Rattle.core_definitions.specs.Servers as life
use Rattle.core_laws.proofs.FlightLists.{all_changed, all_flights, in_flights}
use Rattle.core_laws.proofs.Membership.{contains_in, in_contains, from_map, FromMap}
use Rattle.sector_world.specs.Histories.{Commit, settled}
use Rattle.sector_world.specs.Histories.Item.{Done}
use Rattle.sector_world.specs.World.{World}
use Rattle.core_world.specs.Journals.{AreSent, IsCounted, IsJournal, IsLogOf, IsSent, Journal, SectorLog, sector_log}
use Rattle.core_world.proofs.Same.{AreOfThose}
use Rattle.core_commits.proofs.Moving.{moved_on}
use Rattle.core_line_journals.proofs.Appending.{log_purpose}

module _ (outcome : plans.Outcome) (a : ℕ) (flights : Flights) where
  keeps_server : (one : ℕ × Flight) → (moved_on outcome a one).1.server ≡ one.1.server
  keeps_server one = go (one.1.server == a) one.1.present
    where
      go : (b p : Bool) → (if b then (one.0, (if p then record one.1 { purpose = purpose_after outcome one.1.sector one.1.purpose } else one.1)) else one).1.server ≡ one.1.server
      go true true = refl
      go true false = refl
      go false p = refl

  keeps_sector : (one : ℕ × Flight) → (moved_on outcome a one).1.sector ≡ one.1.sector
  keeps_sector one = go (one.1.server == a) one.1.present
    where
      go : (b p : Bool) → (if b then (one.0, (if p then record one.1 { purpose = purpose_after outcome one.1.sector one.1.purpose } else one.1)) else one).1.sector ≡ one.1.sector
      go true true = refl
      go true false = refl
      go false p = refl

  -- each write then is of one before, of the same server and sector
  pub of_those : AreOfThose (each_of_server a (flight_after outcome) flights) flights
  of_those one i =
      let r : FromMap (moved_on outcome a) flights one = from_map (moved_on outcome a) flights one (contains_in (each_of_server a (flight_after outcome) flights) one i) in
      (r.from, in_contains flights r.from r.there, sym (keeps_server r.from) ∙ ap (λ (o : ℕ × Flight). o.1.server) r.is, sym (keeps_sector r.from) ∙ ap (λ (o : ℕ × Flight). o.1.sector) r.is)

  -- writes of a log that are on their way still are
  module _ (j : Journal) (now b : ℕ) (sent : AreSent j now flights b) where
    abbrev IsOnItsWay : Flight → Type 0
    IsOnItsWay f = (number : ℕ) → f.server ≡ b → f.purpose ≡ OfLog number → now ≤ f.stamp → IsSent j.log.flying number f.block

    keep : (f : Flight) → IsOnItsWay f → (p : Bool) → IsOnItsWay (if p then record f { purpose = purpose_after outcome f.sector f.purpose } else f)
    keep f way false number mine purpose early = way number mine purpose early
    keep f way true number mine purpose early = way number mine (log_purpose outcome f.sector number f.purpose purpose) early

    pub sent_on : AreSent j now (each_of_server a (flight_after outcome) flights) b
    sent_on one number there mine purpose early =
        in_flights IsOnItsWay (each_of_server a (flight_after outcome) flights) one (contains_in (each_of_server a (flight_after outcome) flights) one there)
        (all_changed IsOnItsWay a (flight_after outcome) (λ f way. keep f way f.present) flights (all_flights IsOnItsWay flights (λ o i n. sent o n (in_contains flights o i)))) number mine purpose early

-- ---- the log of another server, as the history has one operation more

module _ (w : World) (c : Commit) (outcome : plans.Outcome) (b : ℕ) (other : b ≡ c.by → ⊥) where
  abbrev pub longer : SectorLog
  longer = record (sector_log w b) { history = Done c ∷ settled w.history }

  counted_on : (ring : Ring) (end : ℕ) (ends : ℕ → ℕ) → IsCounted (sector_log w b) b ring end ends → IsCounted longer b ring end ends
  counted_on ring end ends g = record {
    rises = g.rises;
    durable = ((λ mine. absurd (other (sym mine))), g.durable);
    acked = ((λ mine. absurd (other (sym mine))), g.acked);
    newest = ⊎_elim (λ l. inl l) (λ own. inr (inr own)) g.newest;
    ends_at = g.ends_at;
  }

  journal_on : (phase : life.Phase) (ring : Ring) (now : ℕ) (flights : Flights) (disk : Sectors) (j : Journal) → IsJournal phase ring now flights disk (sector_log w b) b j →
      IsJournal phase ring now (each_of_server c.by (flight_after outcome) flights) disk longer b j
  journal_on phase ring now flights disk j g = record {
    good = g.good;
    ring_is = g.ring_is;
    slots = g.slots;
    counted = counted_on ring _ j.ends g.counted;
    sent = sent_on outcome c.by flights j now b g.sent;
    records = g.records;
  }

  pub log_on : (phase : life.Phase) (ring : Ring) (now : ℕ) (flights : Flights) (disk : Sectors) (j : Journal) → IsLogOf phase ring now flights disk (sector_log w b) b j →
      IsLogOf phase ring now (each_of_server c.by (flight_after outcome) flights) disk longer b j
  log_on life.Off ring now flights disk j g = g
  log_on life.Up ring now flights disk j g = journal_on life.Up ring now flights disk j g
  log_on life.Still ring now flights disk j g = journal_on life.Still ring now flights disk j g
  log_on (life.Doomed fate) ring now flights disk j g = journal_on (life.Doomed fate) ring now flights disk j g
  log_on life.Dead ring now flights disk j g = journal_on life.Dead ring now flights disk j g
