-- By what stands in the inode.
use Rattle.std.proofs.Common.{◌≡◌, Some, None, Err, subst, sym, ap, rules, ◌∙◌}
use Rattle.std.specs.Option.{option_map}
use Rattle.disk_definitions.specs.Store.{stored}
use Rattle.dir_lookup.specs.Reading.{Gives, Lacks}
use Rattle.dir_lookup.proofs.Steps.{said_ok, said_err}
use Rattle.plan_steps.specs.declared.stop.Stop.TheVariants as stop
use Rattle.plan_steps.specs.Targets.{FindsInode}
use Rattle.plan_steps.proofs.Targets.{finds_inode}
use Rattle.plan_steps.specs.Looking.{LooksAtInode}
use Rattle.plan_steps.proofs.Examining.{inode_examined}
use Rattle.plan_steps.proofs.WalkLooks.{inode_free, inode_looks, inode_needed}
use Rattle.plan_steps.proofs.target.inode_of.Goals as goal

pub returns-in_err-found-clause-finds : goal.returns-in_err-found-clause-finds
returns-in_err-found-clause-finds c held =
    let cached = c.args.sectors.now.entries in
    let need = c.in_err-found.field-0.0 in
    let e : c.from_residual.result ≡ Err (stop.Need need.0) = search rules in
    subst (FindsInode cached held c.args.i) (sym e)
    (λ next touched. finds_inode c.args.i cached held (Lacks need.0.0) (said_err (option_map stored) c.inode_at.result need _ c.in_err-found.was (c.inode_at.ensures.reads held)) next touched)

pub returns-in-Some-clause-finds : goal.returns-in-Some-clause-finds
returns-in-Some-clause-finds c held next touched =
    finds_inode c.args.i c.args.sectors.now.entries held (Gives (Some (stored c.in-Some.inode)))
    (sym (ap (λ o. Gives (option_map stored o)) c.in-Some.is) ∙ said_ok (option_map stored) c.inode_at.result c.in_ok-found.found _ c.in_ok-found.was (c.inode_at.ensures.reads held)) next touched

pub returns-in-None-clause-finds : goal.returns-in-None-clause-finds
returns-in-None-clause-finds c held next touched =
    finds_inode c.args.i c.args.sectors.now.entries held (Gives None)
    (sym (ap (λ o. Gives (option_map stored o)) c.in-None.is) ∙ said_ok (option_map stored) c.inode_at.result c.in_ok-found.found _ c.in_ok-found.was (c.inode_at.ensures.reads held)) next touched

pub returns-in_err-found-clause-looks : goal.returns-in_err-found-clause-looks
returns-in_err-found-clause-looks c held =
    let cached = c.args.sectors.now.entries in
    let need = c.in_err-found.field-0.0 in
    let e : c.from_residual.result ≡ Err (stop.Need need.0) = search rules in
    subst (LooksAtInode cached held c.args.looked.now c.inode_at.new.looked c.args.i) (sym e)
    (λ next none. inode_needed c.args.i cached held c.args.looked.now c.inode_at.new.looked (inode_examined cached held _ _ c.args.i (c.inode_at.ensures.looks held)) need.0.0
    (said_err (option_map stored) c.inode_at.result need _ c.in_err-found.was (c.inode_at.ensures.reads held)) next)

pub returns-in-Some-clause-looks : goal.returns-in-Some-clause-looks
returns-in-Some-clause-looks c held next =
    let cached = c.args.sectors.now.entries in
    inode_looks c.args.i c.args.sectors.now.entries held c.args.looked.now c.inode_at.new.looked (inode_examined cached held _ _ c.args.i (c.inode_at.ensures.looks held)) (stored c.in-Some.inode)
    (sym (ap (λ o. Gives (option_map stored o)) c.in-Some.is) ∙ said_ok (option_map stored) c.inode_at.result c.in_ok-found.found _ c.in_ok-found.was (c.inode_at.ensures.reads held)) next

pub returns-in-None-clause-looks : goal.returns-in-None-clause-looks
returns-in-None-clause-looks c held next none =
    let cached = c.args.sectors.now.entries in
    inode_free c.args.i c.args.sectors.now.entries held c.args.looked.now c.inode_at.new.looked (inode_examined cached held _ _ c.args.i (c.inode_at.ensures.looks held))
    (sym (ap (λ o. Gives (option_map stored o)) c.in-None.is) ∙ said_ok (option_map stored) c.inode_at.result c.in_ok-found.found _ c.in_ok-found.was (c.inode_at.ensures.reads held)) next none
