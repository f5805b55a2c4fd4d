-- A segment that the set hasn't is one of all.
use Rattle.std.proofs.Common.{sym, ◌∙◌}
use Rattle.frang_base.specs.declared.lock.LockId.TheVariants.{Segment}
use Rattle.set_definitions.specs.Sets.{has_lock}
use Rattle.line_sight.proofs.Testing.{one_fails}
use Rattle.line_sight.proofs.sight.has_all.Goals as goal

pub returns-then-not-has : goal.returns-then-not-has
returns-then-not-has c =
    sym (one_fails (λ segment. has_lock c.args.set.now (Segment segment)) c.args.segments c.loop-segment.segment c.loop-segment-test.true (sym c.has.ensures ∙ c.if-not-has.true))
