-- By the spot of the name.
use Rattle.std.proofs.Common.{[], ◌++◌, sym, ap, ◌∙◌}
use Rattle.dir_lookup.specs.Spots.{spot_of, walked_in}
use Rattle.dir_lookup.proofs.Steps.{said_ok, said_err}
use Rattle.namei.specs.Walks.{next_as}
use Rattle.namei.proofs.NameSteps.{over, spot_step, need_step}
use Rattle.namei.specs.Looks.{LooksOn, next_looks}
use Rattle.namei.proofs.NameLooks.{spot_looks, need_looks, by, seen}
use Rattle.disk_definitions.specs.Ask.{ReadInode}
use Rattle.disk_definitions.specs.Walks.{in_inode}
use Rattle.namei.proofs.onward.next_at.Goals as goal

pub returns-in-Ok-clause-leads : goal.returns-in-Ok-clause-leads
returns-in-Ok-clause-leads c held follow into here =
    let cached = c.args.sectors.now.entries in
    spot_step cached held c.args.last follow into here c.args.names.now c.args.dir c.args.name.now (spot_of c.in-Ok.spot)
    (said_ok (λ s. walked_in [] c.args.dir (spot_of s)) c.step.result c.in-Ok.spot _ c.in-Ok.is (c.step.ensures.reads [] held))
    ∙ ap (λ n. next_as n c.args.dir (λ i. over cached held (follow i)) (λ i. over cached held (into i)) here) (sym c.at_spot.ensures)

pub returns-in-Err-clause-leads : goal.returns-in-Err-clause-leads
returns-in-Err-clause-leads c held follow into here =
    need_step c.args.sectors.now.entries held c.args.last follow into here c.args.names.now c.args.dir c.args.name.now c.in-Err.need.0.0
    (said_err (λ s. walked_in [] c.args.dir (spot_of s)) c.step.result c.in-Err.need _ c.in-Err.is (c.step.ensures.reads [] held))

pub returns-in-Ok-clause-looks : goal.returns-in-Ok-clause-looks
returns-in-Ok-clause-looks c held follow into here =
    let cached = c.args.sectors.now.entries in
    let first = seen cached held (ReadInode c.args.dir (in_inode [] c.args.dir c.args.name.now)) in (
      first,
      c.step.ensures.looks [] held,
      spot_looks cached held c.args.last follow into here c.args.names.now c.args.dir c.args.name.now (spot_of c.in-Ok.spot)
          (said_ok (λ s. walked_in [] c.args.dir (spot_of s)) c.step.result c.in-Ok.spot _ c.in-Ok.is (c.step.ensures.reads [] held))
          ∙ ap (λ n. first ++ by cached held c.args.last follow into here n) (sym c.at_spot.ensures),
    )

pub returns-in-Err-clause-looks : goal.returns-in-Err-clause-looks
returns-in-Err-clause-looks c held follow into here =
    let cached = c.args.sectors.now.entries in (
      seen cached held (ReadInode c.args.dir (in_inode [] c.args.dir c.args.name.now)),
      c.step.ensures.looks [] held,
      need_looks cached held c.args.last follow into here c.args.names.now c.args.dir c.args.name.now c.in-Err.need.0.0
          (said_err (λ s. walked_in [] c.args.dir (spot_of s)) c.step.result c.in-Err.need _ c.in-Err.is (c.step.ensures.reads [] held)),
    )
