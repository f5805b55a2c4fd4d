-- The records that stand in a log hold changes that may stand in one.
use Rattle.std.proofs.Common.{◌≡◌, ℕ, zero, suc, ◌-◌, true, ◌&&◌, ◌==◌, nat_le, Option, Some, None, List, [], ◌∷◌, ◌++◌, length, take, refl, sym, ap, ◌∙◌, subst}
use Rattle.std.specs.List.{All, cons_option, list_all}
use Rattle.std.specs.Option.{option_and_then, option_map}
use Rattle.std.proofs.lemmas.Bool.{and_parts}
use Rattle.std.proofs.lemmas.List.Elements.{All-append, All-cons, All-from_recursion, All-nil}
use Rattle.frang_base.specs.declared.change.Change.{Change}
use Rattle.frang_base.specs.declared.sector.OpNo.{OpNo}
use Rattle.disk_definitions.specs.declared.log_sector.LogSector.{LogSector}
use Rattle.disk_definitions.specs.LogSectors.{is_packed}
use Rattle.frang_base.proofs.Basics.{by_test}
use Rattle.sector_bytes.specs.Changes.{is_change}
use Rattle.frang_base.specs.declared.change.Redo.{Redo}
use Rattle.disk_definitions.specs.Records.{Read, all_read, change_read, number_read, record_bytes, record_fits, record_in, sectors_ascend, whole_record}
use Rattle.disk_definitions.specs.Frames.{Frame, frame_length, frame_most, frame_read, framed_record, next_frames, frames_among}
use Rattle.disk_definitions.specs.Logs.{Slots, are_parts, bytes_begun, bytes_on, frames_of, log_end, log_records, record_at, record_of, records_among, records_at, sectors_read, used_bytes}
use Rattle.log_record.proofs.RecordBack.{all_of}
use Rattle.disk_replay.specs.Laid.{HoldsChanges}

-- ---- the changes of a body

whole_fits : (o : Read (List Change)) (changes : List Change) → option_and_then whole_record o ≡ Some changes → record_fits changes ≡ true
whole_fits None changes e = absurd cc
whole_fits (Some (xs, b ∷ bytes)) changes e = absurd cc
whole_fits (Some (xs, [])) changes e = by_test (λ (o : Option (List Change)). o ≡ Some changes → record_fits changes ≡ true) (Some xs) None (record_fits xs)
    (λ t h. let same : xs ≡ changes = cc in ap record_fits (sym same) ∙ t) (λ t h. absurd cc) e

counted_fits : (o : Read ℕ) (changes : List Change) → option_and_then (λ n. option_and_then whole_record (all_read change_read n.0 n.1)) o ≡ Some changes → record_fits changes ≡ true
counted_fits None changes e = absurd cc
counted_fits (Some n) changes e = whole_fits (all_read change_read n.0 n.1) changes e

body_fits : (bytes : List ℕ) (changes : List Change) → record_in bytes ≡ Some changes → record_fits changes ≡ true
body_fits bytes changes e = counted_fits (number_read 2 bytes) changes e

fitting : (changes : List Change) → record_fits changes ≡ true → All (λ c. is_change c ≡ true) changes
fitting changes h =
    let some = nat_le 1 (length changes) in
    let few = nat_le (length changes) 32 in
    let each = list_all is_change changes in
    let ascend = sectors_ascend 0 changes in
    let room = nat_le (length (record_bytes changes)) 4096 in
    let ordered = (and_parts (some && few && each && ascend) room h).0 in
    let fit = (and_parts (some && few) each (and_parts (some && few && each) ascend ordered).0).1 in
    All-from_recursion (λ c. is_change c ≡ true) changes (all_of changes fit)

-- ---- the records among sectors

abbrev made : OpNo → List Change → Redo
made op changes = record { op = op; changes = changes }

made_holds : (op : OpNo) (o : Option (List Change)) (r : Redo) → ((changes : List Change) → o ≡ Some changes → record_fits changes ≡ true) → option_map (made op) o ≡ Some r → HoldsChanges r
made_holds op None r fits e = absurd cc
made_holds op (Some changes) r fits e = let same : made op changes ≡ r = cc in subst HoldsChanges same (fitting changes (fits changes refl))

of_holds : (first : LogSector) (parts : List LogSector) (r : Redo) → record_of first parts ≡ Some r → HoldsChanges r
of_holds first parts r = by_test (λ (o : Option Redo). o ≡ Some r → HoldsChanges r) (option_map (made first.op) (record_in (used_bytes parts))) None (length parts == first.parts && are_parts first 0 parts)
    (λ t e. made_holds first.op (record_in (used_bytes parts)) r (body_fits (used_bytes parts)) e) (λ t e. absurd cc)

at_holds : (x : LogSector) (xs : List LogSector) (r : Redo) → record_at (x ∷ xs) ≡ Some r → HoldsChanges r
at_holds x xs r = by_test (λ (o : Option Redo). o ≡ Some r → HoldsChanges r) (record_of x (take x.parts (x ∷ xs))) None (x.part == 0 && nat_le 1 x.parts)
    (λ t e. of_holds x (take x.parts (x ∷ xs)) r e) (λ t e. absurd cc)

framed_holds : (frame : Frame) (r : Redo) → framed_record frame ≡ Some r → HoldsChanges r
framed_holds frame r e = made_holds (record { 0 = frame.0 }) (record_in frame.1) r (body_fits frame.1) e

one_holds : (o : Option Redo) (rs : List Redo) → ((r : Redo) → o ≡ Some r → HoldsChanges r) → All HoldsChanges rs → All HoldsChanges (cons_option o rs)
one_holds None rs one rest = rest
one_holds (Some r) rs one rest = All-cons HoldsChanges r rs (one r refl) rest

next_hold : (n left : ℕ) (o : Read Frame) → ((left : ℕ) (bytes : List ℕ) → All HoldsChanges (frames_among n left bytes)) → All HoldsChanges (next_frames (frames_among n) left o)
next_hold n left None others = All-nil HoldsChanges
next_hold n left (Some (frame, rest)) others = one_holds (framed_record frame) (frames_among n (left - frame_length frame) rest) (framed_holds frame) (others (left - frame_length frame) rest)

frames_hold : (n left : ℕ) (bytes : List ℕ) → All HoldsChanges (frames_among n left bytes)
frames_hold zero left bytes = All-nil HoldsChanges
frames_hold (suc n) left bytes =
    by_test (λ rs. All HoldsChanges rs) [] (next_frames (frames_among n) left (frame_read bytes)) (left == 0) (λ t. All-nil HoldsChanges) (λ f. next_hold n left (frame_read bytes) (frames_hold n))

begun_hold : (x : LogSector) (xs : List LogSector) → All HoldsChanges (records_at (x ∷ xs))
begun_hold x xs =
    by_test (λ rs. All HoldsChanges rs) (frames_of x xs) (cons_option (record_at (x ∷ xs)) []) (is_packed x)
    (λ t. frames_hold (length (bytes_begun x)) (length (bytes_begun x)) (bytes_begun x ++ take frame_most (bytes_on xs)))
    (λ f. one_holds (record_at (x ∷ xs)) [] (at_holds x xs) (All-nil HoldsChanges))

among_hold : (xs : List LogSector) → All HoldsChanges (records_among xs)
among_hold [] = All-nil HoldsChanges
among_hold (x ∷ xs) = All-append HoldsChanges (records_at (x ∷ xs)) (records_among xs) (begun_hold x xs) (among_hold xs)

pub log_holds : (slots : Slots) → All HoldsChanges (log_records slots)
log_holds slots = among_hold (sectors_read slots (log_end slots))
