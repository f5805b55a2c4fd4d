-- A block more, and then the entry in its first place.
use Rattle.std.proofs.Common.{◌≡◌, ◌++◌, ◌*◌, ℕ, List, sym, ap, subst}
use Rattle.disk_definitions.specs.Store.{stored, entered}
use Rattle.disk_definitions.specs.Edits.{Edit}
use Rattle.disk_definitions.specs.Plans as plans
use Rattle.plan_steps.specs.Edits.{edits_of}
use Rattle.plan_steps.specs.Rooms.{room_in}
use Rattle.plan_steps.proofs.Editing.{entered_block, on_ok}
use Rattle.plan_steps.proofs.entries.enter.Goals as goal

pub returns-in_ok-grow-in-InBlock : goal.returns-in_ok-grow-in-InBlock
returns-in_ok-grow-in-InBlock c =
    let i : ℕ = c.args.directory.now.number in
    let x = stored c.args.directory.now.inode in
    let e = entered c.args.entry.now in
    let a : List Edit = edits_of c.args.edits.now.items in
    let b : List Edit = edits_of c.grow.new.edits.items in
    let d : List Edit = edits_of c.put_entry-in-InBlock.new.edits.items in
    record {
      ok =
          on_ok c.put_entry-in-InBlock.result _ _
          (λ p. subst (λ r. d ≡ a ++ plans.enter i x e (room_in r)) (sym c.in-InBlock.is)
          (entered_block a b d i c.in-InBlock.block (56 * c.from-first.result) x (stored c.with_block.result) e c.in_ok-grow-in-InBlock.ensures.ok p c.with_block.ensures.stored
          (ap (λ n. 56 * n) c.from-first.ensures)))
          c.put_entry-in-InBlock.ensures.ok;
    }
