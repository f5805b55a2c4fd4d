-- By what stands in the link's inode.
use Rattle.std.proofs.Common.{◌++◌, Ok, Some, None, sym, ap, ◌∙◌}
use Rattle.std.specs.Option.{option_map}
use Rattle.disk_definitions.specs.Store.{stored}
use Rattle.frang_base.specs.PathText.{path_of}
use Rattle.tree_definitions.specs.Resolve.{is_absolute, target_text}
use Rattle.dir_lookup.specs.Reading.{Lacks, Gives}
use Rattle.dir_lookup.proofs.Steps.{said_ok, said_err}
use Rattle.namei.specs.Walks.{way_from}
use Rattle.namei.proofs.LinkSteps.{if_ok_then, by_way, link_step}
use Rattle.disk_definitions.specs.Ask.{Got, ReadInode}
use Rattle.namei.proofs.LinkLooks.{way_looked, by_way as looks_by_way}
use Rattle.namei.proofs.NameLooks.{seen}
use Rattle.namei.proofs.targets.way_at.Goals as goal

pub returns-in-Ok-Some-clause-leads : goal.returns-in-Ok-Some-clause-leads
returns-in-Ok-Some-clause-leads c held next dir above =
    let cached = c.args.sectors.now.entries in
    let names = c.args.names.now in
    let read = said_ok (option_map stored) c.inode_at.result (Some c.in-Ok-Some.inode) _ (c.in-Ok-Some.is ∙ ap Ok c.in-Ok-Some.field-0-is) (c.inode_at.ensures.reads held) in
    let step = link_step cached held next dir above names c.args.link (Gives (Some (stored c.in-Ok-Some.inode))) read in
    if_ok_then c.way_of.result c.way_of.ensures
    (λ way e. step ∙ ap (λ t. by_way cached held next dir above names (way_from (is_absolute t) (path_of (target_text t)) names)) (sym c.target_of.ensures) ∙ ap (by_way cached held next dir above names) (sym e))

pub returns-in-Ok-None-clause-leads : goal.returns-in-Ok-None-clause-leads
returns-in-Ok-None-clause-leads c held next dir above =
    link_step c.args.sectors.now.entries held next dir above c.args.names.now c.args.link (Gives None)
    (said_ok (option_map stored) c.inode_at.result None _ (c.in-Ok-None.is ∙ ap Ok c.in-Ok-None.field-0-is) (c.inode_at.ensures.reads held))

pub returns-in-Err-clause-leads : goal.returns-in-Err-clause-leads
returns-in-Err-clause-leads c held next dir above =
    link_step c.args.sectors.now.entries held next dir above c.args.names.now c.args.link (Lacks c.in-Err.need.0.0) (said_err (option_map stored) c.inode_at.result c.in-Err.need _ c.in-Err.is (c.inode_at.ensures.reads held))

pub returns-in-Ok-Some-clause-looks : goal.returns-in-Ok-Some-clause-looks
returns-in-Ok-Some-clause-looks c held next dir above =
    let cached = c.args.sectors.now.entries in
    let names = c.args.names.now in
    let first = seen cached held (ReadInode c.args.link Got) in
    let read = said_ok (option_map stored) c.inode_at.result (Some c.in-Ok-Some.inode) _ (c.in-Ok-Some.is ∙ ap Ok c.in-Ok-Some.field-0-is) (c.inode_at.ensures.reads held) in
    let step = way_looked cached held next dir above names c.args.link (Gives (Some (stored c.in-Ok-Some.inode))) read in
    if_ok_then c.way_of.result c.way_of.ensures
    (λ way e. (
      first,
      c.inode_at.ensures.looks held,
      step ∙ ap (λ t. first ++ looks_by_way cached held next dir above names (way_from (is_absolute t) (path_of (target_text t)) names)) (sym c.target_of.ensures) ∙ ap (λ w. first ++ looks_by_way cached held next dir above names w) (sym e),
    ))

pub returns-in-Ok-None-clause-looks : goal.returns-in-Ok-None-clause-looks
returns-in-Ok-None-clause-looks c held next dir above = (
  seen c.args.sectors.now.entries held (ReadInode c.args.link Got),
  c.inode_at.ensures.looks held,
  way_looked c.args.sectors.now.entries held next dir above c.args.names.now c.args.link (Gives None)
      (said_ok (option_map stored) c.inode_at.result None _ (c.in-Ok-None.is ∙ ap Ok c.in-Ok-None.field-0-is) (c.inode_at.ensures.reads held)),
)

pub returns-in-Err-clause-looks : goal.returns-in-Err-clause-looks
returns-in-Err-clause-looks c held next dir above = (
  seen c.args.sectors.now.entries held (ReadInode c.args.link Got),
  c.inode_at.ensures.looks held,
  way_looked c.args.sectors.now.entries held next dir above c.args.names.now c.args.link (Lacks c.in-Err.need.0.0) (said_err (option_map stored) c.inode_at.result c.in-Err.need _ c.in-Err.is (c.inode_at.ensures.reads held)),
)
