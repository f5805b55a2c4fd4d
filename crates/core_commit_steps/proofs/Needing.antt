-- A record takes at most nine numbers of a log, and a line that commits is answered: so a log keeps its room.
use Rattle.std.proofs.Common.{◌≡◌, ◌+◌, ◌-◌, ◌*◌, ◌/◌, ◌^◌, ◌≤◌, ◌&&◌, ℕ, true, Option, Some, None, length, nat_le, nat_lt, refl, arith}
use Rattle.std.specs.List.{list_all}
use Rattle.std.proofs.lemmas.Bool.{and_parts, leb-true}
use Rattle.frang_base.specs.declared.change.Redo.{Redo}
use Rattle.disk_definitions.specs.Frames.{frame_bytes}
use Rattle.sector_bytes.specs.Changes.{is_change}
use Rattle.disk_definitions.specs.Records.{record_bytes, record_fits, sectors_ascend}
use Rattle.log_record.proofs.FrameBack.{length-frame_bytes}
use Rattle.ring_definitions.specs.Rings.{Ring, appended, is_record, last, need, open_room}
use Rattle.core_definitions.specs.Rings.{appended_some}
use Rattle.core_line_journals.proofs.Appending.{last_is}

short : (redo : Redo) → is_record redo ≡ true → length (record_bytes redo.changes) ≤ 4096
short redo is =
    let fits : record_fits redo.changes ≡ true = (and_parts (nat_le 1 redo.op.0 && nat_lt redo.op.0 (2 ^ 64)) (record_fits redo.changes) is).1 in
    leb-true (length (record_bytes redo.changes)) 4096
    (and_parts (nat_le 1 (length redo.changes) && nat_le (length redo.changes) 32 && list_all is_change redo.changes && sectors_ascend 0 redo.changes) (nat_le (length (record_bytes redo.changes)) 4096) fits).1

-- so many sectors at most
need_few : (r : Ring) (redo : Redo) → is_record redo ≡ true → need r redo ≤ 9
need_few r redo is = go (length (frame_bytes redo)) (length (record_bytes redo.changes)) (open_room r.waiting) (length-frame_bytes redo) (short redo is)
  where
    go : (f b o : ℕ) → f ≡ 10 + b → b ≤ 4096 → (f - o + 487) / 488 ≤ 9
    go f b o e l = omega (arith, e, l)

-- the last number of the log of a server that commits
pub last_few : (r : Ring) (redo : Option Redo) → ((x : Redo) → redo ≡ Some x → is_record x ≡ true) → last (appended_some r redo) ≤ last r + 9
last_few r None fits = few (last r)
  where
    few : (n : ℕ) → n ≤ n + 9
    few n = omega arith
last_few r (Some redo) fits = go (last r) (need r redo) (last (appended r redo)) (last_is r redo) (need_few r redo (fits redo refl))
  where
    go : (n m k : ℕ) → k ≡ n + m → m ≤ 9 → k ≤ n + 9
    go n m k e l = omega (arith, e, l)

pub room_left : (before after less more : ℕ) → after ≤ before + 9 → less + 1 ≤ more → before + 64 + 100 * more ≤ 2 ^ 61 → after + 64 + 100 * less ≤ 2 ^ 61
room_left before after less more l m h = omega (arith, l, m, h)
