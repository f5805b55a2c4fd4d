-- Rings and the logs behind them, by hand.
use Rattle.std.proofs.Common.{◌≡◌, ℕ, ◌+◌, ◌-◌, ◌^◌, true, false, Option, Some, None, Ok, Err, List, [], ◌∷◌, ◌++◌, take, drop, replicate, refl}
use Rattle.std.specs.Option.{option_map}
use Rattle.frang_base.specs.declared.sector.Sector.{Sector}
use Rattle.disk_definitions.specs.declared.log_sector.LogSector.{LogSector}
use Rattle.sector_bytes.specs.Bytes.{zeros}
use Rattle.frang_base.specs.declared.change.Redo.{Redo}
use Rattle.disk_definitions.specs.Frames.{frame_bytes, frame_read}
use Rattle.disk_definitions.specs.Logs.{Slots, records_among, window, numbers_in, log_end, log_records, is_sealed}
use Rattle.disk_definitions.specs.Arriving.{with_sectors}
use Rattle.ring_definitions.specs.declared.ring.Named.{Named}
use Rattle.ring_definitions.specs.declared.ring.RingFault.TheVariants.{Full}
use Rattle.ring_definitions.specs.RingRuns.{LogEvent, log_at, may_all_happen, after_log_events}
use Rattle.ring_definitions.specs.RingRuns.LogEvent.{Append, Issue, Arrive, Acknowledge, GiveUp}
use Rattle.ring_definitions.specs.Rings.{Ring, ring_at, is_record, need, packed_sector, free, appended, append_answer, next_sector, issued, acked, oldest, oldest_of, oldest_versions, reclaimable, reclaimable_of, reclaimed, reclaimed_of, unwritten}

-- a record of one short change of a sector
abbrev redo : ℕ → ℕ → Redo
redo op sector = record { op = record { 0 = op }; changes = record { sector = record { 0 = sector }; version = 1; patches = record { at = 8; bytes = 1 ∷ [] } ∷ [] } ∷ [] }

-- a packed sector of this number with its frame alone
abbrev alone : ℕ → LogSector
alone number = packed_sector number 0 (frame_bytes (redo number 5))

in_one_sector : need (ring_at 255) (redo 9 5) ≡ 1
in_one_sector = refl

in_the_open_sector : need (appended (ring_at 255) (redo 9 5)) (redo 10 5) ≡ 0
in_the_open_sector = refl

behind_a_closed_sector : need (issued (appended (ring_at 255) (redo 9 5))) (redo 10 5) ≡ 1
behind_a_closed_sector = refl

a_record : is_record (redo (2 ^ 64 - 1) 5) ≡ true
a_record = refl

no_operation : is_record (redo 0 5) ≡ false
no_operation = refl

-- 8 bytes don't hold its operation, and so it would read as another's
an_operation_past_its_field : is_record (redo (2 ^ 64) 5) ≡ false
an_operation_past_its_field = refl

its_frame_is_of_another : records_among (alone (2 ^ 64) ∷ []) ≡ redo 0 5 ∷ []
unfolding frame_read
its_frame_is_of_another = refl

-- ---- logs

-- the log of a new disk
abbrev new_log : Slots
new_log slot = zeros 512

ends_at_255 : log_end new_log ≡ 255
unfolding zeros window numbers_in log_end
ends_at_255 = refl

is_new : is_sealed new_log ≡ true
unfolding zeros window numbers_in log_end
is_new = refl

-- two sectors arrived, and the one between them didn't
abbrev gap_log : Slots
gap_log = with_sectors new_log (alone 256 ∷ alone 258 ∷ [])

ends_at_256 : log_end gap_log ≡ 256
unfolding zeros window numbers_in log_end
ends_at_256 = refl

one_record : log_records gap_log ≡ redo 256 5 ∷ []
unfolding zeros window numbers_in log_end frame_read
one_record = refl

-- it arrives too
abbrev whole_log : Slots
whole_log = with_sectors gap_log (alone 257 ∷ [])

ends_at_258 : log_end whole_log ≡ 258
unfolding zeros window numbers_in log_end
ends_at_258 = refl

three_records : log_records whole_log ≡ redo 256 5 ∷ redo 257 5 ∷ redo 258 5 ∷ []
unfolding zeros window numbers_in log_end frame_read
three_records = refl

-- ---- rings

-- a ring behind a new log, with two records in one sector
abbrev together : Ring
together = appended (appended (ring_at 255) (redo 9 5)) (redo 10 6)

-- and with two that have a sector each, since the first one was issued before the second record came
abbrev ring : Ring
ring = appended (issued (appended (ring_at 255) (redo 9 5))) (redo 10 6)

-- a sector's number
abbrev number_of : Option (ℕ × List ℕ) → Option ℕ
number_of o = option_map (λ x. x.0) o

nothing_waits : number_of (next_sector (ring_at 255)) ≡ None
nothing_waits = refl

first_number : number_of (next_sector together) ≡ Some 256
first_number = refl

both_issued : number_of (next_sector (issued together)) ≡ None
both_issued = refl

next_number : number_of (next_sector ring) ≡ Some 257
next_number = refl

all_issued : number_of (next_sector (issued ring)) ≡ None
all_issued = refl

-- acknowledged in the other order
one_ahead : (acked (issued ring) 257).reached ≡ 255
one_ahead = refl

both : (acked (acked (issued ring) 257) 256).reached ≡ 257
both = refl

again : acked (acked (issued ring) 256) 256 ≡ acked (issued ring) 256
again = refl

-- ---- bounds

-- so many numbers are issued and not acknowledged, and one waits
abbrev behind : ℕ → Ring
behind n = record { given_up = 255; reached = 255; above = replicate n false; waiting = alone (256 + n) ∷ []; named = [] }

the_64th_is_given : number_of (next_sector (behind 63)) ≡ Some 319
the_64th_is_given = refl

the_65th_waits : number_of (next_sector (behind 64)) ≡ None
the_65th_waits = refl

-- so many numbers are acknowledged and not given up
abbrev held : ℕ → Ring
held n = record { given_up = 255; reached = 255 + n; above = []; waiting = []; named = [] }

one_is_free : append_answer (held 191) (redo 9 5) ≡ Ok 447
one_is_free = refl

none_is_free : append_answer (held 192) (redo 9 5) ≡ Err (Full 1 0)
none_is_free = refl

-- ---- giving up

-- a sector that a record names
abbrev named : ℕ → ℕ → ℕ → Named
named sector version first = record { sector = record { 0 = sector }; version = version; first = first }

-- records that begin in 256, in 319 and in 320
abbrev full : Ring
full = record { given_up = 255; reached = 320; above = []; waiting = []; named = named 5 1 256 ∷ named 6 1 256 ∷ named 5 2 319 ∷ named 5 3 320 ∷ [] }

the_oldest_64_name : oldest_versions full ≡ (5, 2) ∷ (6, 1) ∷ []
the_oldest_64_name = refl

given_up_to : (reclaimed full).given_up ≡ 319
given_up_to = refl

the_last_stays : (reclaimed full).named ≡ named 5 3 320 ∷ []
the_last_stays = refl

freed : free (reclaimed full) ≡ 191
freed = refl

-- records in a sector that is issued and in one that is open: both are among the oldest, and the first alone is given up
abbrev open_one : Ring
open_one = record { given_up = 255; reached = 256; above = []; waiting = alone 257 ∷ []; named = named 5 1 256 ∷ named 6 1 257 ∷ [] }

both_are_oldest : oldest open_one ≡ named 5 1 256 ∷ named 6 1 257 ∷ []
both_are_oldest = refl

one_is_reclaimable : reclaimable open_one ≡ named 5 1 256 ∷ []
one_is_reclaimable = refl

the_open_one_counts : oldest_versions open_one ≡ (5, 1) ∷ (6, 1) ∷ []
the_open_one_counts = refl

an_open_sector_stays : (reclaimed open_one).named ≡ named 6 1 257 ∷ []
an_open_sector_stays = refl

given_up_before_it : (reclaimed open_one).given_up ≡ 256
given_up_before_it = refl

-- nothing is issued, and so nothing is given up, whatever the oldest records name
abbrev unissued : Ring
unissued = record open_one { reached = 255; waiting = alone 256 ∷ alone 257 ∷ [] }

all_are_oldest : oldest unissued ≡ named 5 1 256 ∷ named 6 1 257 ∷ []
all_are_oldest = refl

none_is_reclaimable : reclaimable unissued ≡ []
none_is_reclaimable = refl

none_is_given_up : reclaimed unissued ≡ unissued
none_is_given_up = refl

-- of records that begin in 256, 257, 258 and 259 the first three are the oldest of a log with a quarter of three numbers, and the first two, of which the sectors are issued, are
-- given up
abbrev small : Ring
small = record { given_up = 255; reached = 256; above = false ∷ []; waiting = alone 258 ∷ alone 259 ∷ []; named = named 5 1 256 ∷ named 6 1 257 ∷ named 7 1 258 ∷ named 8 1 259 ∷ [] }

three_are_oldest : oldest_of 3 small ≡ named 5 1 256 ∷ named 6 1 257 ∷ named 7 1 258 ∷ []
three_are_oldest = refl

two_are_reclaimable : reclaimable_of 3 small ≡ named 5 1 256 ∷ named 6 1 257 ∷ []
two_are_reclaimable = refl

two_are_given_up : reclaimed_of 3 small ≡ record small { given_up = 257; named = named 7 1 258 ∷ named 8 1 259 ∷ [] }
two_are_given_up = refl

-- what is known to stand on the disk
abbrev stands : ℕ → ℕ → Sector × ℕ
stands sector version = (record { 0 = sector }, version)

the_open_one_is_not_asked : unwritten open_one (stands 5 1 ∷ []) ≡ None
the_open_one_is_not_asked = refl

all_stand : unwritten full (stands 6 1 ∷ stands 5 2 ∷ []) ≡ None
all_stand = refl

an_older_one_stands : unwritten full (stands 6 1 ∷ stands 5 1 ∷ []) ≡ Some (record { sector = record { 0 = 5 } })
an_older_one_stands = refl

-- ---- runs

-- two sectors arrive in the other order, and the first record is given up with the second
abbrev run : List LogEvent
run = Append (redo 9 5) ∷ Issue ∷ Append (redo 10 6) ∷ Issue ∷ Arrive 257 ∷ Acknowledge 257 ∷ Arrive 256 ∷ Acknowledge 256 ∷ GiveUp ∷ []

it_may_happen : may_all_happen (log_at new_log) run ≡ true
unfolding zeros window numbers_in log_end
it_may_happen = refl

it_reads_as_both : log_records (after_log_events (log_at new_log) run).slots ≡ redo 9 5 ∷ redo 10 6 ∷ []
unfolding zeros window numbers_in log_end frame_read
it_reads_as_both = refl

-- of a sector on its way no acknowledgement comes, and none is issued where none waits
too_early : may_all_happen (log_at new_log) (Append (redo 9 5) ∷ Issue ∷ Acknowledge 256 ∷ []) ≡ false
unfolding zeros window numbers_in log_end
too_early = refl

none_waits : may_all_happen (log_at new_log) (Append (redo 9 5) ∷ Issue ∷ Issue ∷ []) ≡ false
unfolding zeros window numbers_in log_end
none_waits = refl

-- ---- records with bodies of 100, 200 and 300 bytes

abbrev long : ℕ → ℕ → Redo
long op size = record { op = record { 0 = op }; changes = record { sector = record { 0 = 5 }; version = 1; patches = record { at = 8; bytes = replicate (size - 24) 7 } ∷ [] } ∷ [] }

abbrev one_of_three : Ring
one_of_three = appended (ring_at 255) (long 1 100)

abbrev two_of_three : Ring
two_of_three = appended one_of_three (long 2 200)

abbrev all_three : Ring
all_three = appended two_of_three (long 3 300)

the_first_ends : append_answer (ring_at 255) (long 1 100) ≡ Ok 256
the_first_ends = refl

the_second_ends : append_answer one_of_three (long 2 200) ≡ Ok 256
the_second_ends = refl

the_third_ends : append_answer two_of_three (long 3 300) ≡ Ok 257
the_third_ends = refl

-- the number of a sector, and the bytes of its part and of how many it uses
abbrev head_of : Option (ℕ × List ℕ) → Option (ℕ × List ℕ × List ℕ)
head_of o = option_map (λ x. (x.0, take 2 (drop 16 x.1), take 2 (drop 20 x.1))) o

the_first_sector : head_of (next_sector all_three) ≡ Some (256, 0 ∷ 0 ∷ [], 232 ∷ 1 ∷ [])
unfolding zeros
the_first_sector = refl

the_second_sector : head_of (next_sector (issued all_three)) ≡ Some (257, 255 ∷ 255 ∷ [], 142 ∷ 0 ∷ [])
unfolding zeros
the_second_sector = refl

abbrev three : List LogEvent
three = Append (long 1 100) ∷ Append (long 2 200) ∷ Append (long 3 300) ∷ Issue ∷ Issue ∷ []

they_may_happen : may_all_happen (log_at new_log) (three ++ Arrive 256 ∷ Arrive 257 ∷ []) ≡ true
unfolding zeros window numbers_in log_end
they_may_happen = refl

with_the_first_alone : log_records (after_log_events (log_at new_log) (three ++ Arrive 256 ∷ [])).slots ≡ long 1 100 ∷ long 2 200 ∷ []
unfolding zeros window numbers_in log_end frame_read
with_the_first_alone = refl

with_both : log_records (after_log_events (log_at new_log) (three ++ Arrive 256 ∷ Arrive 257 ∷ [])).slots ≡ long 1 100 ∷ long 2 200 ∷ long 3 300 ∷ []
unfolding zeros window numbers_in log_end frame_read
with_both = refl

the_end_with_both : log_end (after_log_events (log_at new_log) (three ++ Arrive 256 ∷ Arrive 257 ∷ [])).slots ≡ 257
unfolding zeros window numbers_in log_end
the_end_with_both = refl

the_end_with_the_first : log_end (after_log_events (log_at new_log) (three ++ Arrive 256 ∷ [])).slots ≡ 256
unfolding zeros window numbers_in log_end
the_end_with_the_first = refl
