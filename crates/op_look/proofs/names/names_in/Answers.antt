-- Sector after sector.
use Rattle.std.proofs.Common.{◌≡◌, ◌*◌, ◌/◌, ◌%◌, ◌<◌, ◌≤◌, ℕ, Err, slice_index, sym, ap, subst, arith, rules, ◌∙◌}
use Rattle.frang_base.specs.declared.reply.Reply.TheVariants as reply
use Rattle.disk_definitions.specs.Store.{stored}
use Rattle.disk_definitions.specs.Plans.{refuse}
use Rattle.disk_definitions.specs.LookPlans.{listing}
use Rattle.dir_lookup.specs.Reading.{Gives, reading}
use Rattle.dir_lookup.specs.Stored.{entries_at}
use Rattle.dir_lookup.proofs.Steps.{said_ok, said_err}
use Rattle.plan_steps.specs.declared.stop.Stop.TheVariants as stop
use Rattle.plan_steps.proofs.Examining.{directory_examined}
use Rattle.op_look.specs.Looks.{ListsNames}
use Rattle.op_look.proofs.Listed.{names_begin, names_end, names_lack, names_more}
use Rattle.op_look.proofs.ListLooks.{looks_all, looks_begin, looks_lack, looks_more}
use Rattle.op_look.proofs.names.names_in.Goals as goal

pub loop-j-init : goal.loop-j-init
loop-j-init c = record {
  reads = λ held touched. names_begin (stored c.args.directory.now) c.args.sectors.now.entries held touched c.new-sorted.result.entries (search rules);
  looks = λ held touched. looks_begin (stored c.args.directory.now) c.args.sectors.now.entries held touched c.new-sorted.result.entries _ (search rules);
}

pub returns-in_err-sector-clause-lists : goal.returns-in_err-sector-clause-lists
returns-in_err-sector-clause-lists c held =
    let small : ℕ → ℕ = slice_index c.args.directory.now.small in
    let cached = c.args.sectors.now.entries in
    let x = stored c.args.directory.now in
    let end : ℕ = 8 * c.args.directory.now.blocks in
    let l : c.loop-j.j < end = omega arith in
    let need = c.in_err-sector.field-0.0 in
    let e : c.from_residual.result ≡ Err (stop.Need need.0) = search rules in
    subst (ListsNames cached held x) (sym e)
    (λ touched. names_lack small cached held touched (reading (listing touched x) cached held) c.loop-j.j end c.loop-j.sorted.entries need.0.0 l
    (said_err entries_at c.part_at.result need _ c.in_err-sector.was (c.part_at.ensures.reads held)) (c.loop-j.invariant.reads held touched))

pub loop-j-preserved : goal.loop-j-preserved
loop-j-preserved c =
    let small : ℕ → ℕ = slice_index c.args.directory.now.small in
    let cached = c.args.sectors.now.entries in
    let x = stored c.args.directory.now in
    let end : ℕ = 8 * c.args.directory.now.blocks in
    let l : c.loop-j.j < end = omega arith in
    record {
      reads = λ held touched. names_more small cached held touched (reading (listing touched x) cached held) c.loop-j.j end c.loop-j.sorted.entries (entries_at c.in_ok-sector.sector) c.add_names.new.sorted.entries l
          (said_ok entries_at c.part_at.result c.in_ok-sector.sector _ c.in_ok-sector.was (c.part_at.ensures.reads held))
          c.in_ok-add_names.ensures (c.loop-j.invariant.reads held touched);
      looks = λ held touched. looks_more small cached held touched c.loop-j.j end c.loop-j.sorted.entries (listing touched x) _ _ (entries_at c.in_ok-sector.sector) c.add_names.new.sorted.entries _ l
          (said_ok entries_at c.part_at.result c.in_ok-sector.sector _ c.in_ok-sector.was (c.part_at.ensures.reads held))
          c.in_ok-add_names.ensures (c.loop-j.invariant.looks held touched) (directory_examined cached held _ _ (small (c.loop-j.j / 8)) (c.loop-j.j % 8) (c.part_at.ensures.looks held));
    }

pub returns-clause-lists : goal.returns-clause-lists
returns-clause-lists c held touched =
    let small : ℕ → ℕ = slice_index c.args.directory.now.small in
    let cached = c.args.sectors.now.entries in
    let x = stored c.args.directory.now in
    let end : ℕ = 8 * c.args.directory.now.blocks in
    let l : end ≤ c.loop-j.j = omega arith in
    names_end small cached held touched (reading (listing touched x) cached held) c.loop-j.j end c.loop-j.sorted.entries l (c.loop-j.invariant.reads held touched)
    ∙ ap (λ names. Gives (refuse (reply.Names names) touched)) (sym c.in_ok-names.ensures)

pub returns-in_err-sector-clause-looks : goal.returns-in_err-sector-clause-looks
returns-in_err-sector-clause-looks c held touched m =
    let small : ℕ → ℕ = slice_index c.args.directory.now.small in
    let cached = c.args.sectors.now.entries in
    let x = stored c.args.directory.now in
    let end : ℕ = 8 * c.args.directory.now.blocks in
    let l : c.loop-j.j < end = omega arith in
    let need = c.in_err-sector.field-0.0 in
    looks_lack small cached held touched c.loop-j.j end c.loop-j.sorted.entries (listing touched x) _ _ need.0.0 _ l
    (said_err entries_at c.part_at.result need _ c.in_err-sector.was (c.part_at.ensures.reads held)) (c.loop-j.invariant.looks held touched) (directory_examined cached held _ _ (small (c.loop-j.j / 8)) (c.loop-j.j % 8) (c.part_at.ensures.looks held))

pub returns-in_err-add_names-clause-looks : goal.returns-in_err-add_names-clause-looks
returns-in_err-add_names-clause-looks c held touched m = absurd (m (search rules))

pub returns-in_err-names-clause-looks : goal.returns-in_err-names-clause-looks
returns-in_err-names-clause-looks c held touched m = absurd (m (search rules))

pub returns-clause-looks : goal.returns-clause-looks
returns-clause-looks c held touched m =
    let small : ℕ → ℕ = slice_index c.args.directory.now.small in
    let cached = c.args.sectors.now.entries in
    let x = stored c.args.directory.now in
    let end : ℕ = 8 * c.args.directory.now.blocks in
    let l : end ≤ c.loop-j.j = omega arith in
    looks_all small cached held touched c.loop-j.j end c.loop-j.sorted.entries (listing touched x) _ _ l (c.loop-j.invariant.looks held touched)
