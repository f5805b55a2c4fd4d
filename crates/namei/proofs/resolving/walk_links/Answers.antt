-- By the walk with all links left, behind no nodes.
use Rattle.std.proofs.Common.{◌≡◌, IfOk, subst}
use Rattle.namei.specs.Walks.{read_as}
use Rattle.namei.proofs.LinkSteps.{from_root}
use Rattle.dir_lookup.proofs.Looking.{adds_as}
use Rattle.namei.proofs.LinkLooks.{on_ok_then, root_looks}
use Rattle.namei.proofs.resolving.walk_links.Goals as goal

pub returns-clause-leads : goal.returns-clause-leads
returns-clause-leads c held =
    subst (λ w. IfOk c.walk_on.result (λ r. read_as r ≡ w))
    (from_root c.args.sectors.now.entries held c.args.last c.args.root c.new-above.result c.as_slice-names.result.now c.args.path.now c.new-trail.result.items c.requires c.new-above.ensures c.as_slice-names.ensures c.new-trail.ensures.items)
    (c.walk_on.ensures.leads held)

pub returns-clause-looks : goal.returns-clause-looks
returns-clause-looks c held =
    on_ok_then c.walk_on.result (c.walk_on.ensures.looks held)
    (λ f. adds_as _ _ _ _
    (root_looks c.args.sectors.now.entries held c.args.last c.args.root c.new-above.result c.as_slice-names.result.now c.args.path.now c.requires c.new-above.ensures c.as_slice-names.ensures) f)
