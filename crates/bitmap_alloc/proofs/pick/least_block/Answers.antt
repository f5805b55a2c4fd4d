-- Segment after segment.
use Rattle.std.proofs.Common.{◌≡◌, ◌-◌, ℕ, ◌+◌, ◌*◌, ◌<◌, Bool, sym, subst, ◌∙◌, arith}
use Rattle.disk_definitions.proofs.LeastLaws.{step_end}
use Rattle.bitmap_block.specs.States.{state_number}
use Rattle.disk_definitions.specs.Least.{least_from}
use Rattle.disk_definitions.specs.Held.{state_in}
use Rattle.disk_definitions.specs.Picks.{is_in_state}
use Rattle.bitmap_alloc.proofs.Steps.{segment_found, segment_passed}
use Rattle.bitmap_alloc.proofs.pick.least_block.Goals as goal

pub returns-in-Some-clause-least : goal.returns-in-Some-clause-least
returns-in-Some-clause-least c =
    let test : ℕ → Bool = λ b. is_in_state (state_number c.args.state) (state_in c.args.held.now b) in
    let l : c.loop-k.k < 64 = c.loop-k-test.true in
    segment_found test 1024 (1024 * c.loop-k.k) c.loop-k.start 65536 (least_from test c.args.from (65536 - c.args.from)) (omega arith) (omega (arith, c.loop-k.invariant.place)) c.loop-k.invariant.rest c.in-Some.j (sym c.least_in_segment.ensures.least ∙ c.in-Some.is)

pub loop-k-preserved : goal.loop-k-preserved
loop-k-preserved c =
    let test : ℕ → Bool = λ b. is_in_state (state_number c.args.state) (state_in c.args.held.now b) in
    let l : c.loop-k.k < 64 = c.loop-k-test.true in
    let next : 1024 * (c.loop-k.k + 1) + 0 ≡ 1024 * c.loop-k.k + 1024 = omega arith in
    let rest : least_from test (1024 * c.loop-k.k + 1024) (65536 - (1024 * c.loop-k.k + 1024)) ≡ least_from test c.args.from (65536 - c.args.from) =
    segment_passed test 1024 (1024 * c.loop-k.k) c.loop-k.start 65536 (least_from test c.args.from (65536 - c.args.from)) (omega arith) (omega (arith, c.loop-k.invariant.place)) c.loop-k.invariant.rest (sym c.least_in_segment.ensures.least ∙ c.in_default.is) in
    record {
      place = omega arith;
      within = omega arith;
      rest = subst (λ n. least_from test n (65536 - n) ≡ least_from test c.args.from (65536 - c.args.from)) (sym next) rest;
    }

pub returns-clause-least : goal.returns-clause-least
returns-clause-least c =
    let test : ℕ → Bool = λ b. is_in_state (state_number c.args.state) (state_in c.args.held.now b) in
    step_end test (1024 * c.loop-k.k + c.loop-k.start) 65536 (least_from test c.args.from (65536 - c.args.from)) (omega arith) c.loop-k.invariant.rest
