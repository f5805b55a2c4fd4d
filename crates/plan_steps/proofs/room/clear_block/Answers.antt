-- By whether the block is clear.
use Rattle.std.proofs.Common.{◌≡◌, Err, sym, subst, ◌∙◌, rules}
use Rattle.disk_definitions.specs.Plans.{InBlock}
use Rattle.dir_lookup.specs.Reading.{Gives, Lacks}
use Rattle.dir_lookup.specs.Stored.{entries_at}
use Rattle.dir_lookup.proofs.Steps.{said_ok, said_err}
use Rattle.plan_steps.specs.declared.stop.Stop.TheVariants as stop
use Rattle.dir_lookup.specs.Hands.{seen}
use Rattle.plan_steps.specs.Rooms.{ClearsRoom}
use Rattle.plan_steps.proofs.Finding.{block_clears, block_reads}
use Rattle.plan_steps.proofs.Examining.{directory_examined}
use Rattle.plan_steps.proofs.RoomLooks.{block_looked, block_unlooked}
use Rattle.plan_steps.proofs.room.clear_block.Goals as goal

pub returns-then-must_clear-clause-clears : goal.returns-then-must_clear-clause-clears
returns-then-must_clear-clause-clears c finish =
    let cached = c.args.hand.now.sectors.now.entries in
    let held = c.args.hand.now.held.now in
    let h = seen c.args.hand.now in
    (finish.locks, block_clears cached held h c.args.block finish (sym (c.must_clear.ensures) ∙ c.if-must_clear.true))

pub returns-in_err-directory_at-clause-clears : goal.returns-in_err-directory_at-clause-clears
returns-in_err-directory_at-clause-clears c =
    let cached = c.args.hand.now.sectors.now.entries in
    let held = c.args.hand.now.held.now in
    let h = seen c.args.hand.now in
    let need = c.in_err-directory_at.field-0.0 in
    let e : c.from_residual.result ≡ Err (stop.Need need.0) = search rules in
    subst (ClearsRoom c.args.hand.now (InBlock c.args.block)) (sym e)
    (λ finish. block_reads cached held h c.args.block finish (Lacks need.0.0) (sym (c.must_clear.ensures) ∙ c.if-must_clear.false)
    (said_err entries_at c.directory_at.result need _ c.in_err-directory_at.was (c.directory_at.ensures.reads held)))

pub returns-clause-clears : goal.returns-clause-clears
returns-clause-clears c finish =
    let cached = c.args.hand.now.sectors.now.entries in
    let held = c.args.hand.now.held.now in
    let h = seen c.args.hand.now in
    block_reads cached held h c.args.block finish (Gives (entries_at c.in_ok-directory_at.field-0)) (sym (c.must_clear.ensures) ∙ c.if-must_clear.false)
    (said_ok entries_at c.directory_at.result c.in_ok-directory_at.field-0 _ c.in_ok-directory_at.was (c.directory_at.ensures.reads held))

pub returns-then-must_clear-clause-looks : goal.returns-then-must_clear-clause-looks
returns-then-must_clear-clause-looks c finish =
    let hand = c.args.hand.now in
    block_unlooked hand.sectors.now.entries hand.held.now (seen hand) c.args.block finish _ (sym (c.must_clear.ensures) ∙ c.if-must_clear.true)

pub returns-in_err-directory_at-clause-looks : goal.returns-in_err-directory_at-clause-looks
returns-in_err-directory_at-clause-looks c finish =
    let hand = c.args.hand.now in
    block_looked hand.sectors.now.entries hand.held.now (seen hand) c.args.block finish _ _ (sym (c.must_clear.ensures) ∙ c.if-must_clear.false) (directory_examined hand.sectors.now.entries hand.held.now _ _ c.args.block 0 (c.directory_at.ensures.looks hand.held.now))

pub returns-clause-looks : goal.returns-clause-looks
returns-clause-looks c finish =
    let hand = c.args.hand.now in
    block_looked hand.sectors.now.entries hand.held.now (seen hand) c.args.block finish _ _ (sym (c.must_clear.ensures) ∙ c.if-must_clear.false) (directory_examined hand.sectors.now.entries hand.held.now _ _ c.args.block 0 (c.directory_at.ensures.looks hand.held.now))
