-- The record of a frame more.
use Rattle.std.proofs.Common.{◌≡◌, ◌+◌, ◌-◌, ◌++◌, [], length, sym, ap, ◌∙◌, arith}
use Rattle.std.specs.List.{cons_option}
use Rattle.disk_definitions.specs.Frames.{Frame, frames_among}
use Rattle.log_reading.proofs.Steps.{framed_more}
use Rattle.log_reading.proofs.frames.push_framed.Goals as goal

pub loop-left-preserved : goal.loop-left-preserved
loop-left-preserved c =
    let left = c.loop-left.left in
    let body = c.in-Some.frame.body.now in
    let frame : Frame = (c.in-Some.frame.op.0, body) in
    let next : c.saturating_sub-left.result ≡ left - (10 + length body) = omega (arith, c.saturating_sub.ensures, c.saturating_sub-left.ensures) in
    framed_more left c.saturating_sub-left.result c.loop-left.bytes.now frame c.in-Some.frame.rest.now c.loop-left.records.items c.push_some.new.records.items
    (c.args.records.now.items ++ frames_among c.args.left c.args.left c.args.bytes.now) c.loop-left-test.true (sym c.in-Some.ensures) next
    (c.in_ok-push_some.ensures ∙ ap (λ o. c.loop-left.records.items ++ cons_option o []) c.in_ok-framed_record.ensures) c.loop-left.invariant
