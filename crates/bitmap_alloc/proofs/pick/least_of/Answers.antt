-- State after state.
use Rattle.std.proofs.Common.{◌≡◌, ◌≤◌, ◌-◌, ◌==◌, ℕ, ◌<◌, Bool, true, false, sym, ◌∙◌, arith}
use Rattle.disk_definitions.proofs.LeastLaws.{step_found, step_passed, step_end}
use Rattle.bitmap_block.specs.States.{state_number}
use Rattle.disk_definitions.specs.Bitmaps.{block_state}
use Rattle.disk_definitions.specs.Least.{least_from}
use denote.Enum.Bare.{sameb}
use Rattle.bitmap_block.specs.contracts.state.BlockState.{the_type}
use Rattle.bitmap_alloc.proofs.States.{same_number}
use Rattle.bitmap_alloc.proofs.pick.least_of.Goals as goal

pub returns-then-eq-clause-least : goal.returns-then-eq-clause-least
returns-then-eq-clause-least c =
    let test : ℕ → Bool = λ j. block_state c.args.bitmap.now j == state_number c.args.state in
    let l : c.loop-j.j < 1024 = omega arith in
    let e : c.eq.result ≡ sameb the_type c.state_of.result c.args.state = c.eq.ensures in
    let s : (state_number c.state_of.result == state_number c.args.state) ≡ true = same_number c.state_of.result c.args.state ∙ sym e ∙ c.if-eq.true in
    let t : test c.loop-j.j ≡ true = rw (← c.state_of.ensures) s in
    step_found test c.loop-j.j 1024 (least_from test c.args.start (1024 - c.args.start)) l t c.loop-j.invariant

pub loop-j-preserved : goal.loop-j-preserved
loop-j-preserved c =
    let test : ℕ → Bool = λ j. block_state c.args.bitmap.now j == state_number c.args.state in
    let l : c.loop-j.j < 1024 = omega arith in
    let e : c.eq.result ≡ sameb the_type c.state_of.result c.args.state = c.eq.ensures in
    let s : (state_number c.state_of.result == state_number c.args.state) ≡ false = same_number c.state_of.result c.args.state ∙ sym e ∙ c.if-eq.false in
    let t : test c.loop-j.j ≡ false = rw (← c.state_of.ensures) s in
    step_passed test c.loop-j.j 1024 (least_from test c.args.start (1024 - c.args.start)) l t c.loop-j.invariant

pub returns-clause-least : goal.returns-clause-least
returns-clause-least c =
    let test : ℕ → Bool = λ j. block_state c.args.bitmap.now j == state_number c.args.state in
    let l : 1024 ≤ c.loop-j.j = omega arith in
    step_end test c.loop-j.j 1024 (least_from test c.args.start (1024 - c.args.start)) l c.loop-j.invariant
