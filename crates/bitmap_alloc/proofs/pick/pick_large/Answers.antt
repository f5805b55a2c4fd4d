-- Segment after segment.
use Rattle.std.proofs.Common.{◌≡◌, ℕ, ◌<◌, Bool, true, false, sym, arith}
use Rattle.disk_definitions.specs.Held.{large_in}
use Rattle.disk_definitions.specs.Picks.{is_free, picked_large}
use Rattle.disk_definitions.proofs.LeastLaws.{least_below, step_found, step_passed, step_end}
use Rattle.bitmap_alloc.proofs.pick.pick_large.Goals as goal

pub loop-k-init : goal.loop-k-init
loop-k-init c = sym (least_below (λ k. is_free (large_in c.args.held.now k)) 64)

pub returns-then-is_large_free : goal.returns-then-is_large_free
returns-then-is_large_free c =
    let test : ℕ → Bool = λ k. is_free (large_in c.args.held.now k) in
    let l : c.loop-k.k < 64 = c.loop-k-test.true in
    let t : test c.loop-k.k ≡ true = cc in
    step_found test c.loop-k.k 64 (picked_large c.args.held.now) l t c.loop-k.invariant

pub loop-k-preserved : goal.loop-k-preserved
loop-k-preserved c =
    let test : ℕ → Bool = λ k. is_free (large_in c.args.held.now k) in
    let l : c.loop-k.k < 64 = c.loop-k-test.true in
    let t : test c.loop-k.k ≡ false = cc in
    step_passed test c.loop-k.k 64 (picked_large c.args.held.now) l t c.loop-k.invariant

pub returns : goal.returns
returns c =
    let test : ℕ → Bool = λ k. is_free (large_in c.args.held.now k) in
    step_end test c.loop-k.k 64 (picked_large c.args.held.now) (omega arith) c.loop-k.invariant
