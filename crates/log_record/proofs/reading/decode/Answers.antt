-- What is read whole is the record, and nothing is read of too many bytes.
use Rattle.std.proofs.Common.{◌≡◌, ◌≤◌, ◌&&◌, nat_le, true, List, Some, Vec, Global, length, sym, ap, subst, ◌∙◌, arith}
use Rattle.std.specs.List.{list_all}
use Rattle.std.specs.Option.{option_map}
use Rattle.frang_base.specs.declared.change.Change.{Change}
use Rattle.sector_bytes.specs.Changes.{is_change}
use Rattle.sector_bytes.specs.Bytes.{AreBytes}
use Rattle.frang_base.specs.declared.change.Redo.{Redo}
use Rattle.disk_definitions.specs.Records.{sectors_ascend}
use Rattle.log_record.proofs.NumbersRead.{taken}
use Rattle.log_record.proofs.RecordRead.{changes_read}
use Rattle.log_record.proofs.RecordSteps.{empty_of, read_of, too_long, read_whole}
use Rattle.log_record.proofs.reading.decode.Goals as goal

-- the record of these changes, without an operation
redo : List Change → Redo
redo changes = record { op = record { 0 = 0 }; changes = changes }

pub returns-then-bytes-gt-RECORD_BYTES_MAX : goal.returns-then-bytes-gt-RECORD_BYTES_MAX
unfolding redo
returns-then-bytes-gt-RECORD_BYTES_MAX c =
    let small : AreBytes c.args.bytes.now = λ k. omega (arith, c.type_inv.bytes k) in
    sym (ap (option_map redo) (too_long c.args.bytes.now small (omega (arith, c.if-bytes-gt-RECORD_BYTES_MAX.true))))

pub returns : goal.returns
unfolding redo
returns c =
    let bytes = c.args.bytes.now in
    let changes = c.in-Some.changes.items in
    let rest = c.counted_changes.new.self.bytes.now in
    let small : AreBytes bytes = λ k. omega (arith, c.type_inv.bytes k) in
    let short : length bytes ≤ 4096 = omega (arith, c.if-bytes-gt-RECORD_BYTES_MAX.false) in
    let read : Some (taken changes rest) ≡ changes_read bytes = read_of {V = Vec Change Global} (λ v. v.items) c.in_ok-changes.field-0 c.in-Some.changes rest (changes_read bytes) c.in_ok-changes.ensures c.in-Some.is in
    let fit : (nat_le 1 (length changes) && nat_le (length changes) 32 && (list_all is_change changes && sectors_ascend 0 changes)) ≡ true =
    subst (λ xs. (nat_le 1 (length xs) && nat_le (length xs) 32 && (list_all is_change xs && sectors_ascend 0 xs)) ≡ true) c.deref.ensures.value (sym c.if-not-fit.ensures) in
    ap (λ xs. Some (redo xs)) c.from_vec.ensures ∙ sym (ap (option_map redo) (read_whole bytes changes rest small short read (empty_of rest (sym c.if-not-is_empty.ensures)) fit))
