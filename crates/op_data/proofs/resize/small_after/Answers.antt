-- Block after block.
use Rattle.std.proofs.Common.{◌≡◌, ◌<◌, ◌≤◌, ◌+◌, ℕ, length, set, refl, subst, ◌∙◌, arith, rules}
use Rattle.std.proofs.Math.ListN.{length-set}
use Rattle.disk_definitions.specs.Store.{stored}
use Rattle.disk_definitions.specs.FilePlans.{small_after}
use Rattle.op_data.proofs.Setting.{SetBelow, set_all, set_more}
use Rattle.op_data.proofs.Resized.{small_past}
use Rattle.op_data.proofs.resize.small_after.Goals as goal

pub loop-n-preserved : goal.loop-n-preserved
loop-n-preserved c =
    let f : ℕ → ℕ = small_after (stored c.args.inode.now) c.args.picks.now c.args.blocks in
    let l : c.loop-n.n < length c.loop-n.small = omega (arith, c.loop-n.invariant.size) in
    let e : c.loop-n.n ≡ c.from.result = search rules in
    record { size = length-set c.loop-n.small c.from.result c.small_at.result ∙ c.loop-n.invariant.size; set = subst (λ n. SetBelow (set c.loop-n.small n c.small_at.result) f (λ i. 0) (c.loop-n.n + 1)) e (set_more c.loop-n.small f (λ i. 0) c.loop-n.n c.small_at.result l c.small_at.ensures c.loop-n.invariant.set) }

pub returns : goal.returns
returns c =
    let f : ℕ → ℕ = small_after (stored c.args.inode.now) c.args.picks.now c.args.blocks in
    let l : c.args.blocks ≤ c.loop-n.n = omega arith in
    set_all c.loop-n.small f (λ i. 0) f c.args.blocks c.loop-n.n l (λ i m. refl) (small_past (stored c.args.inode.now) c.args.picks.now c.args.blocks c.loop-n.small c.loop-n.n c.loop-n.invariant.set) c.loop-n.invariant.set
