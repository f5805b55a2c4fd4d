-- Bit after bit.
use Rattle.std.proofs.Common.{◌≡◌, ◌≤◌, not, ℕ, ◌<◌, Bool, true, false, sym, arith}
use Rattle.disk_definitions.specs.Bitmaps.{inode_bit}
use Rattle.disk_definitions.specs.Least.{least}
use Rattle.disk_definitions.proofs.LeastLaws.{least_below, step_found, step_passed, step_end}
use Rattle.bitmap_alloc.proofs.pick.free_inode_of.Goals as goal

pub loop-j-init : goal.loop-j-init
loop-j-init c = sym (least_below (λ j. not (inode_bit c.args.bitmap.now j)) 64)

pub returns-then-free-clause-least : goal.returns-then-free-clause-least
returns-then-free-clause-least c =
    let test : ℕ → Bool = λ j. not (inode_bit c.args.bitmap.now j) in
    let l : c.loop-j.j < 64 = omega arith in
    let t : test c.loop-j.j ≡ true = cc in
    step_found test c.loop-j.j 64 (least test 64) l t c.loop-j.invariant

pub loop-j-preserved : goal.loop-j-preserved
loop-j-preserved c =
    let test : ℕ → Bool = λ j. not (inode_bit c.args.bitmap.now j) in
    let l : c.loop-j.j < 64 = omega arith in
    let t : test c.loop-j.j ≡ false = cc in
    step_passed test c.loop-j.j 64 (least test 64) l t c.loop-j.invariant

pub returns-clause-least : goal.returns-clause-least
returns-clause-least c =
    let test : ℕ → Bool = λ j. not (inode_bit c.args.bitmap.now j) in
    let l : 64 ≤ c.loop-j.j = omega arith in
    step_end test c.loop-j.j 64 (least test 64) l c.loop-j.invariant
