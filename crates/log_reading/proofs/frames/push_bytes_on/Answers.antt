-- The bytes of a sector more, until enough are there or none go on.
use Rattle.std.proofs.Common.{◌++◌, [], length, take, min, sym, ap, ◌∙◌}
use Rattle.disk_definitions.specs.declared.log_sector.LogSector.{LogSector}
use Rattle.disk_definitions.specs.Frames.{frame_most}
use Rattle.disk_definitions.specs.Logs.{bytes_on}
use Rattle.log_reading.proofs.Steps.{bytes_end, bytes_full, bytes_more, bytes_stop}
use Rattle.log_reading.proofs.frames.push_bytes_on.Goals as goal
use Rattle.log_reading.proofs.frames.push_bytes_on.Goals.{then-left-eq0-via-then-left-eq0, then-left-eq0-via-else-left-eq0+then-not-goes_on}

pub loop-sector-preserved : goal.loop-sector-preserved
loop-sector-preserved c =
    let sectors = c.args.sectors.now in
    let left = c.loop-sector.left in
    let used = c.used-run.result.now in
    let none : LogSector = record { seq = 0; op = record { 0 = 0 }; part = 0; parts = 0; used = 0; body = [] } in
    bytes_more sectors c.loop-sector.sector-index left none c.loop-sector.bytes.items c.extend_from_slice.new.self.items (take c.min.result used)
    (c.args.bytes.now.items ++ take frame_most (bytes_on sectors)) c.loop-sector-test.true (sym c.goes_on.ensures ∙ c.if-not-goes_on.false)
    (ap (λ n. take n used) c.min.ensures ∙ ap (λ bs. take (min (length bs) left) bs) c.used-run.ensures) c.in_ok-extend_from_slice.ensures.items c.loop-sector.invariant

pub returns-then-left-eq0 : goal.returns-then-left-eq0
returns-then-left-eq0 c =
    let sectors = c.args.sectors.now in
    let all = c.args.bytes.now.items ++ take frame_most (bytes_on sectors) in
    let none : LogSector = record { seq = 0; op = record { 0 = 0 }; part = 0; parts = 0; used = 0; body = [] } in
    elim c.then-left-eq0.branch [
      | then-left-eq0-via-then-left-eq0 w ↦ bytes_full sectors c.loop-sector.sector-index c.loop-sector.left c.loop-sector.bytes.items all w.if-left-eq0.true c.loop-sector.invariant
      | then-left-eq0-via-else-left-eq0+then-not-goes_on w ↦
          bytes_stop sectors c.loop-sector.sector-index c.loop-sector.left none c.loop-sector.bytes.items all c.loop-sector-test.true (sym w.goes_on.ensures ∙ w.if-not-goes_on.true) c.loop-sector.invariant
    ]

pub returns : goal.returns
returns c = bytes_end c.args.sectors.now c.loop-sector.sector-index c.loop-sector.left c.loop-sector.bytes.items (c.args.bytes.now.items ++ take frame_most (bytes_on c.args.sectors.now)) c.loop-sector-test.false c.loop-sector.invariant
