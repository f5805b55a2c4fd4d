-- Three rules that would be wrong, each by a run that it allows: a seal without its last write, a log read by 191 numbers, and a record that counts as soon as its first sector stands.
use Rattle.std.specs.Prelude.{◌≡◌, ◌+◌, ◌-◌, ℕ, zero, suc, Bool, true, false, ◌&&◌, nat_le, List, [], ◌∷◌, map}
use Rattle.std.specs.List.{filter, filter_map, list_all}
use Rattle.frang_base.specs.declared.change.Redo.{Redo}
use Rattle.frang_base.specs.declared.limits.TheConstants.{LOG_WINDOW}
use Rattle.tree_definitions.specs.Numbers.{below}
use Rattle.disk_definitions.specs.Logs.{Slots, is_end, is_sealed, log_end, log_records, numbers_in, records_among, sector_numbered, stands}
use Rattle.ring_definitions.specs.RingRuns.{LogEvent, Placed, ReadsBack, may_all_happen, placed_up_to}
use Rattle.ring_definitions.specs.RingRuns.LogEvent.{Acknowledge, Append, Arrive, Issue}
use Rattle.ring_definitions.specs.Rings.{free, sent}
use Rattle.log_examples.specs.Rows.{IsWorkedRun, ReadAs, left_by, log_from, log_left, new_log, redo_with}
use Rattle.log_examples.specs.Seals.{first_record, later_seal}
use Rattle.log_examples.specs.Torn as torn

-- the records of these
abbrev pub redos_of : List Placed → List Redo
redos_of ps = map (λ p. p.redo) ps

-- ---- a seal without its last write

-- a mount behind the log of which all of the seal stands but the first number: two records have a sector each, and the first of these comes
abbrev pub came : Redo
came = redo_with 4 1

abbrev pub missing : Redo
missing = redo_with 5 1

abbrev pub early_session : List LogEvent
early_session = Append came ∷ Issue ∷ Append missing ∷ Issue ∷ Arrive 257 ∷ []

-- that sector closes the gap before the seal: the log ends past all that the ring has issued, so the record whose sector didn't come counts as whole; but it isn't read
pub record WithoutTheLastWrite : Type 0 where
  pub may : may_all_happen (log_from later_seal 256) early_session ≡ true
  pub read : ReadAs later_seal 256 (first_record ∷ [])
  pub open_ : is_sealed later_seal ≡ false
  pub ends : log_end (log_left later_seal 256 early_session) ≡ 320
  pub issued_ : sent (left_by later_seal 256 early_session).ring ≡ 258
  pub counted : redos_of (placed_up_to 320 (left_by later_seal 256 early_session)) ≡ came ∷ missing ∷ []
  pub reads : log_records (log_left later_seal 256 early_session) ≡ first_record ∷ came ∷ []
  pub wrong : ReadsBack later_seal (left_by later_seal 256 early_session) → ⊥

-- ---- a number too few

-- so many records, numbered from one on as their sectors are: each has a sector, which comes and is acknowledged
abbrev pub filled_from : ℕ → ℕ → List LogEvent
filled_from zero number = []
filled_from (suc n) number = Append (redo_with number 1) ∷ Issue ∷ Arrive number ∷ Acknowledge number ∷ filled_from n (number + 1)

abbrev pub records_from : ℕ → ℕ → List Redo
records_from zero number = []
records_from (suc n) number = redo_with number 1 ∷ records_from n (number + 1)

-- all 192 numbers for which a ring has room
abbrev pub filled : List LogEvent
filled = filled_from 192 256

-- the rule by so many numbers: they stand up to the end, and no number stands above it; what is read are the records among these
abbrev pub window_by : ℕ → ℕ → List ℕ
window_by size end = map (λ k. end - (size - 1) + k) (below size)

abbrev pub is_end_by : ℕ → Slots → ℕ → Bool
is_end_by size slots end = nat_le (size - 1) end && list_all (stands slots) (window_by size end)

pub record IsReadBy (size : ℕ) (slots : Slots) (end : ℕ) (records : List Redo) : Type 0 where
  pub whole : is_end_by size slots end ≡ true
  pub greatest : list_all (λ n. nat_le n end) (numbers_in slots) ≡ true
  pub reads : records_among (filter_map (sector_numbered slots) (window_by size end)) ≡ records

-- the ring is full, and nothing of it is given up. By 192 numbers, which is the rule, all its records are read; by 191 the oldest isn't, on which the ring still rests
pub record ByANumberTooFew : Type 0 where
  pub run : IsWorkedRun new_log 255 filled 447 (records_from 192 256)
  pub full : free (left_by new_log 255 filled).ring ≡ 0
  pub given_up : (left_by new_log 255 filled).ring.given_up ≡ 255
  pub by_all : IsReadBy 192 (log_left new_log 255 filled) 447 (records_from 192 256)
  pub by_less : IsReadBy 191 (log_left new_log 255 filled) 447 (records_from 191 257)
  pub rule : (slots : Slots) (end : ℕ) → is_end_by LOG_WINDOW slots end ≡ is_end slots end

-- ---- by the first sector

-- the records of which the first sector stands
abbrev pub counted_by_first : ℕ → List Placed → List Redo
counted_by_first end ps = redos_of (filter (λ p. nat_le p.first end) ps)

-- by its first sector a torn record counts, and isn't read; by its last it doesn't
pub record ByTheFirstSector : Type 0 where
  pub ends : log_end (log_left new_log 255 torn.torn) ≡ 256
  pub by_first : counted_by_first 256 (left_by new_log 255 torn.torn).placed ≡ torn.first_record ∷ torn.torn_record ∷ []
  pub by_last : redos_of (placed_up_to 256 (left_by new_log 255 torn.torn)) ≡ torn.first_record ∷ []
  pub reads : log_records (log_left new_log 255 torn.torn) ≡ torn.first_record ∷ []
