-- What is written is the number of changes and then these.
use Rattle.std.proofs.Common.{◌≡◌, ◌++◌, true, length, ap, subst, sym, ◌∙◌, arith, length-append}
use Rattle.std.specs.List.{AllByRecursion, flat_map}
use Rattle.byteorder.specs.Endian.{little_bytes}
use Rattle.sector_bytes.specs.Changes.{is_change}
use Rattle.disk_definitions.specs.Records.{change_bytes, record_bytes}
use Rattle.log_record.proofs.RecordBack.{all_of, is_record}
use Rattle.log_record.proofs.RecordSteps.{fits_in, one_of, others, whatever, written_all, written_first, written_more}
use Rattle.log_record.proofs.writing.push_record.Goals as goal

pub count_bytes-requires : goal.count_bytes-requires
count_bytes-requires c = omega (arith, ap length c.as_slice-changes.ensures, (is_record c.args.redo.now.changes c.requires).few)

pub returns-in_err-extend_from_slice-clause-full : goal.returns-in_err-extend_from_slice-clause-full
returns-in_err-extend_from_slice-clause-full c =
    let changes = c.args.redo.now.changes in
    let head = little_bytes 2 (length changes) in
    let counted : c.count_bytes.result ≡ head = c.count_bytes.ensures ∙ ap (λ xs. little_bytes 2 (length xs)) c.as_slice-changes.ensures in
    whatever c.from_residual.result (omega (arith, c.in_err-extend_from_slice.ensures.full, ap length counted, length-append head (flat_map change_bytes changes)))

pub loop-change-init : goal.loop-change-init
loop-change-init c =
    let changes = c.args.redo.now.changes in
    let head = little_bytes 2 (length changes) in
    let after = c.extend_from_slice.new.self.items in
    let counted : c.count_bytes.result ≡ head = c.count_bytes.ensures ∙ ap (λ xs. little_bytes 2 (length xs)) c.as_slice-changes.ensures in
    let before = c.args.body.now.items in
    let grown : after ≡ before ++ head = c.in_ok-extend_from_slice.ensures.items ∙ ap (λ ys. before ++ ys) counted in
    record {
      fit = subst (AllByRecursion (λ x. is_change x ≡ true)) (sym c.as_slice-changes.ensures) (all_of changes (is_record changes c.requires).each);
      bytes = written_first change_bytes changes c.as_slice-changes.result.now before after head grown c.as_slice-changes.ensures;
      capacity = c.in_ok-extend_from_slice.ensures.capacity;
    }

pub push_change-requires : goal.push_change-requires
push_change-requires c =
    one_of (λ x. is_change x ≡ true) c.as_slice-changes.result.now c.loop-change.change-index c.change-item.result c.loop-change-test.true c.change-item.is c.loop-change.invariant.fit

pub loop-change-preserved : goal.loop-change-preserved
loop-change-preserved c =
    let changes = c.as_slice-changes.result.now in
    let i = c.loop-change.change-index in
    record {
      fit = others (λ x. is_change x ≡ true) changes i c.change-item.result c.loop-change-test.true c.loop-change.invariant.fit;
      bytes = written_more change_bytes changes i c.change-item.result c.loop-change.body.items c.push_change.new.body.items (c.args.body.now.items ++ record_bytes c.args.redo.now.changes) c.loop-change-test.true c.change-item.is c.in_ok-push_change.ensures.bytes
          c.loop-change.invariant.bytes;
      capacity = omega (arith, c.in_ok-push_change.ensures.capacity, c.loop-change.invariant.capacity);
    }

pub returns-in_err-push_change-clause-full : goal.returns-in_err-push_change-clause-full
returns-in_err-push_change-clause-full c =
    let changes = c.as_slice-changes.result.now in
    let fits = fits_in change_bytes changes c.loop-change.change-index c.change-item.result c.loop-change.body.items c.args.body.now.items (record_bytes c.args.redo.now.changes) c.loop-change-test.true c.change-item.is
    c.loop-change.invariant.bytes in
    whatever c.from_residual-in_err-push_change.result (omega (arith, fits, c.in_err-push_change.ensures.full, c.loop-change.invariant.capacity))

pub returns-clause-bytes : goal.returns-clause-bytes
returns-clause-bytes c =
    written_all change_bytes c.as_slice-changes.result.now c.loop-change.change-index c.loop-change.body.items (c.args.body.now.items ++ record_bytes c.args.redo.now.changes) c.loop-change-test.false c.loop-change.invariant.bytes
