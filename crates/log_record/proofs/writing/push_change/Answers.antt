-- A well-formed change has few patches, and what is written is its head and then these.
use Rattle.std.proofs.Common.{◌≡◌, ◌++◌, length, refl, ap, subst, sym, ◌∙◌, arith, length-append}
use Rattle.std.specs.List.{AllByRecursion, flat_map}
use Rattle.byteorder.specs.Endian.{little_bytes}
use Rattle.disk_definitions.specs.Records.{change_bytes, patch_bytes}
use Rattle.log_record.proofs.RecordBack.{IsShort, has_room}
use Rattle.log_record.proofs.RecordSteps.{fits_in, one_of, others, whatever, written_all, written_first, written_more}
use Rattle.log_record.proofs.writing.push_change.Goals as goal

pub change_head-requires : goal.change_head-requires
change_head-requires c = omega (arith, (has_room c.args.change.now c.requires).count)

pub returns-in_err-extend_from_slice-clause-full : goal.returns-in_err-extend_from_slice-clause-full
returns-in_err-extend_from_slice-clause-full c =
    let change = c.args.change.now in
    let head = little_bytes 8 change.sector.0 ++ little_bytes 8 change.version ++ little_bytes 2 (length change.patches) in
    let same : change_bytes change ≡ head ++ flat_map patch_bytes change.patches = refl in
    whatever c.from_residual.result (omega (arith, c.in_err-extend_from_slice.ensures.full, ap length c.change_head.ensures, ap length same, length-append head (flat_map patch_bytes change.patches)))

pub loop-patch-init : goal.loop-patch-init
loop-patch-init c =
    let change = c.args.change.now in
    let before = c.args.body.now.items in
    let head = little_bytes 8 change.sector.0 ++ little_bytes 8 change.version ++ little_bytes 2 (length change.patches) in
    let after = c.extend_from_slice.new.self.items in
    let grown : after ≡ before ++ head = c.in_ok-extend_from_slice.ensures.items ∙ ap (λ ys. before ++ ys) c.change_head.ensures in
    record {
      short = subst (AllByRecursion IsShort) (sym c.as_slice-patch-items.ensures) (has_room change c.requires).patches;
      bytes = written_first patch_bytes change.patches c.as_slice-patch-items.result.now before after head grown c.as_slice-patch-items.ensures;
      capacity = c.in_ok-extend_from_slice.ensures.capacity;
    }

pub push_patch-requires : goal.push_patch-requires
push_patch-requires c = (one_of IsShort c.as_slice-patch-items.result.now c.loop-patch.patch-index c.patch-item.result c.loop-patch-test.true c.patch-item.is c.loop-patch.invariant.short).1

pub loop-patch-preserved : goal.loop-patch-preserved
loop-patch-preserved c =
    let patches = c.as_slice-patch-items.result.now in
    let i = c.loop-patch.patch-index in
    record {
      short = others IsShort patches i c.patch-item.result c.loop-patch-test.true c.loop-patch.invariant.short;
      bytes = written_more patch_bytes patches i c.patch-item.result c.loop-patch.body.items c.push_patch.new.body.items (c.args.body.now.items ++ change_bytes c.args.change.now) c.loop-patch-test.true c.patch-item.is c.in_ok-push_patch.ensures.bytes
          c.loop-patch.invariant.bytes;
      capacity = omega (arith, c.in_ok-push_patch.ensures.capacity, c.loop-patch.invariant.capacity);
    }

pub returns-in_err-push_patch-clause-full : goal.returns-in_err-push_patch-clause-full
returns-in_err-push_patch-clause-full c =
    let fits = fits_in patch_bytes c.as_slice-patch-items.result.now c.loop-patch.patch-index c.patch-item.result c.loop-patch.body.items c.args.body.now.items (change_bytes c.args.change.now) c.loop-patch-test.true
    c.patch-item.is c.loop-patch.invariant.bytes in
    whatever c.from_residual-in_err-push_patch.result (omega (arith, fits, c.in_err-push_patch.ensures.full, c.loop-patch.invariant.capacity))

pub returns-clause-bytes : goal.returns-clause-bytes
returns-clause-bytes c =
    written_all patch_bytes c.as_slice-patch-items.result.now c.loop-patch.patch-index c.loop-patch.body.items (c.args.body.now.items ++ change_bytes c.args.change.now) c.loop-patch-test.false c.loop-patch.invariant.bytes
