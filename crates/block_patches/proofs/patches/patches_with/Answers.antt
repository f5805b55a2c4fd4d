-- Each turn adds the run at its place.
use Rattle.std.proofs.Common.{ℕ, Bool, ◌&&◌, nat_le, nat_lt}
use Rattle.sector_bytes.specs.Patches.{patches_with}
use Rattle.block_patches.proofs.RunLaws.{turn}
use Rattle.block_patches.proofs.patches.patches_with.Goals as goal

pub loop-at-preserved : goal.loop-at-preserved
loop-at-preserved c =
    let forced : ℕ → Bool = λ at. nat_le c.args.forced.now.start at && nat_lt at c.args.forced.now.end in
    turn forced c.loop-at.patches c.push_run.new.patches (patches_with forced c.args.old.now c.args.new.now) c.args.old.now c.args.new.now c.loop-at.at c.run_end-end.result
    c.run_end-end.ensures.end c.loop-at.invariant c.in_ok-push_run.ensures.ok
