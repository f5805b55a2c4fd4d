-- Where these are all segments, the reply under their locks.
use Rattle.std.proofs.Common.{[], ◌++◌, ap, if◌then◌else◌}
use Rattle.std.specs.Map.{keys_of}
use Rattle.disk_definitions.specs.Plans.{Finishes, Lacks, shared_nodes, sole_segments}
use Rattle.dir_lookup.specs.Reading.{Gives}
use Rattle.plan_steps.proofs.room.nothing_left.Goals as goal

pub returns-then-hand : goal.returns-then-hand
returns-then-hand c touched =
    let locks = shared_nodes touched ++ sole_segments (keys_of c.args.hand.now.held.now) in
    (locks, ap (λ b. Gives (if b then Finishes (record { reply = c.args.reply; edits = []; locks = locks }) else Lacks)) c.if-hand.true)
