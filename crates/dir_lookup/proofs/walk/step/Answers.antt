-- By what stands in the inode.
use Rattle.std.proofs.Common.{◌≡◌, Some, None, Err, sym, rules, ap, ◌∙◌}
use Rattle.std.specs.Option.{option_map}
use Rattle.disk_definitions.specs.Store.{stored}
use Rattle.dir_lookup.specs.Reading.{Gives, Lacks, read_of}
use Rattle.dir_lookup.specs.Spots.{spot_of, walked_in}
use Rattle.dir_lookup.proofs.Looking.{adds_as, adds_then}
use Rattle.dir_lookup.proofs.Steps.{said_ok, said_err, stepped}
use Rattle.dir_lookup.proofs.WalkLooks.{step_lacks, step_nowhere, step_on}
use Rattle.dir_lookup.proofs.walk.step.Goals as goal

pub returns-in_err-found-clause-reads : goal.returns-in_err-found-clause-reads
returns-in_err-found-clause-reads c dirs held =
    let need = c.in_err-found.field-0.0 in
    let e : c.from_residual.result ≡ Err need = search rules in
    ap (read_of (λ s. walked_in dirs c.args.number (spot_of s))) e
    ∙ stepped dirs c.args.number c.args.name.now c.args.sectors.now.entries held (Lacks need.0.0)
    (said_err (option_map stored) c.inode_at.result need _ c.in_err-found.was (c.inode_at.ensures.reads held))

pub returns-in-Some-clause-reads : goal.returns-in-Some-clause-reads
returns-in-Some-clause-reads c dirs held =
    c.below.ensures.reads dirs held
    ∙ stepped dirs c.args.number c.args.name.now c.args.sectors.now.entries held (Gives (Some (stored c.in-Some.inode)))
    (sym (ap (λ o. Gives (option_map stored o)) c.in-Some.is) ∙ said_ok (option_map stored) c.inode_at.result c.in_ok-found.found _ c.in_ok-found.was (c.inode_at.ensures.reads held))

pub returns-in-None-clause-reads : goal.returns-in-None-clause-reads
returns-in-None-clause-reads c dirs held =
    stepped dirs c.args.number c.args.name.now c.args.sectors.now.entries held (Gives None)
    (sym (ap (λ o. Gives (option_map stored o)) c.in-None.is) ∙ said_ok (option_map stored) c.inode_at.result c.in_ok-found.found _ c.in_ok-found.was (c.inode_at.ensures.reads held))

pub returns-in_err-found-clause-looks : goal.returns-in_err-found-clause-looks
returns-in_err-found-clause-looks c dirs held =
    let need = c.in_err-found.field-0.0 in
    adds_as _ _ _ _
    (step_lacks dirs c.args.number c.args.name.now c.args.sectors.now.entries held need.0.0
    (said_err (option_map stored) c.inode_at.result need _ c.in_err-found.was (c.inode_at.ensures.reads held))) (c.inode_at.ensures.looks held)

pub returns-in-Some-clause-looks : goal.returns-in-Some-clause-looks
returns-in-Some-clause-looks c dirs held =
    adds_as _ _ _ _
    (step_on dirs c.args.number c.args.name.now c.args.sectors.now.entries held (Some (stored c.in-Some.inode))
    (sym (ap (λ o. Gives (option_map stored o)) c.in-Some.is) ∙ said_ok (option_map stored) c.inode_at.result c.in_ok-found.found _ c.in_ok-found.was (c.inode_at.ensures.reads held)))
    (adds_then _ _ _ _ _ (c.inode_at.ensures.looks held) (c.below.ensures.looks dirs held))

pub returns-in-None-clause-looks : goal.returns-in-None-clause-looks
returns-in-None-clause-looks c dirs held =
    adds_as _ _ _ _
    (step_nowhere dirs c.args.number c.args.name.now c.args.sectors.now.entries held
    (sym (ap (λ o. Gives (option_map stored o)) c.in-None.is) ∙ said_ok (option_map stored) c.inode_at.result c.in_ok-found.found _ c.in_ok-found.was (c.inode_at.ensures.reads held)))
    (c.inode_at.ensures.looks held)
