-- Sector after sector.
use Rattle.std.proofs.Common.{◌≡◌, ◌+◌, ◌/◌, ◌<◌, ◌++◌, ◌∷◌, [], ℕ, Err, refl, sym, ap, subst, arith, rules}
use Rattle.disk_definitions.specs.Store.{stored}
use Rattle.dir_lookup.specs.Hands.{over}
use Rattle.plan_steps.specs.Edits.{edit_of, edits_of}
use Rattle.plan_steps.specs.declared.stop.Stop.TheVariants as stop
use Rattle.op_data.specs.Writings.{WritesSector, WritesSectors, write_behind, writing_of}
use Rattle.op_data.proofs.Sectors.{sector_added, sector_needed}
use Rattle.op_data.proofs.edits.add_sectors.Goals as goal

pub returns-in_err-edit : goal.returns-in_err-edit
returns-in_err-edit c =
    let hand = c.args.hand.now in
    let w = writing_of c.args.writing.now in
    let x = stored c.args.old.now in
    let y = stored c.args.new.now in
    let end : ℕ = w.off / 512 + c.sectors_met.result in
    let l : c.loop-t.t < end = omega arith in
    let need = c.in_err-edit.field-0.0 in
    let e : c.from_residual.result ≡ Err (stop.Need need.0) = search rules in
    let f : WritesSector hand w x y c.loop-t.t (Err need) = subst (WritesSector hand w x y c.loop-t.t) c.in_err-edit.was c.sector_edit.ensures in
    subst (WritesSectors hand w x y c.args.edits.items) (sym e)
    (λ next. sector_needed hand w x y next (edits_of c.loop-t.edits.items) c.loop-t.t end need (over (write_behind w x y (edits_of c.args.edits.items) next) hand) l f (c.loop-t.invariant.rest next))

pub loop-t-preserved : goal.loop-t-preserved
loop-t-preserved c =
    let hand = c.args.hand.now in
    let w = writing_of c.args.writing.now in
    let x = stored c.args.old.now in
    let y = stored c.args.new.now in
    let end : ℕ = w.off / 512 + c.sectors_met.result in
    let l : c.loop-t.t < end = omega arith in
    let p : edits_of c.push.new.edits.items ≡ edits_of c.loop-t.edits.items ++ edit_of c.in_ok-edit.edit ∷ [] = search rules in
    record {
      first = refl;
      end = ap (λ n. w.off / 512 + n) c.sectors_met.ensures;
      rest = λ next. sector_added hand w x y next (edits_of c.loop-t.edits.items) (edits_of c.push.new.edits.items) c.loop-t.t end c.in_ok-edit.edit
          (over (write_behind w x y (edits_of c.args.edits.items) next) hand) l
          (subst (WritesSector hand w x y c.loop-t.t) c.in_ok-edit.was c.sector_edit.ensures) p (c.loop-t.invariant.rest next);
    }
