-- From the root on.
use Rattle.std.proofs.Common.{[], subst}
use Rattle.dir_lookup.specs.Looked.{Adds}
use Rattle.dir_lookup.specs.Looks.{looks_of}
use Rattle.dir_lookup.specs.Passing.{PassesFrom}
use Rattle.plan_steps.proofs.Through.{finds_passing, passing_stands}
use Rattle.disk_definitions.specs.Walks.{walk}
use Rattle.plan_steps.specs.Looking.{Looks}
use Rattle.plan_steps.proofs.Examining.{walk_examined}
use Rattle.plan_steps.proofs.WalkLooks.{passing_looks}
use Rattle.plan_steps.proofs.passing.walk_passes.Goals as goal

pub returns-clause-finds : goal.returns-clause-finds
returns-clause-finds c held =
    let cached = c.args.sectors.now.entries in
    finds_passing cached held c.args.path.now c.args.inode c.walk_passing.result
    (subst (λ names. PassesFrom cached held 0 names c.args.inode [] c.walk_passing.result) c.as_slice.ensures (c.walk_passing.ensures.passes held))

pub returns-clause-stands : goal.returns-clause-stands
returns-clause-stands c =
    let cached = c.args.sectors.now.entries in
    passing_stands cached [] c.args.path.now c.args.inode c.walk_passing.result
    (subst (λ names. PassesFrom cached [] 0 names c.args.inode [] c.walk_passing.result) c.as_slice.ensures (c.walk_passing.ensures.passes []))

pub returns-clause-looks : goal.returns-clause-looks
returns-clause-looks c held =
    let cached = c.args.sectors.now.entries in
    let path = c.args.path.now in
    let l : Looks cached held c.args.looked.now c.walk_passing.new.looked (walk path) =
    walk_examined cached held _ _ path (subst (λ names. Adds c.args.looked.now c.walk_passing.new.looked (looks_of (walk names) cached held)) c.as_slice.ensures (c.walk_passing.ensures.looks held)) in
    passing_looks path cached held c.args.looked.now c.walk_passing.new.looked l c.args.inode c.walk_passing.result
    (subst (λ names. PassesFrom cached held 0 names c.args.inode [] c.walk_passing.result) c.as_slice.ensures (c.walk_passing.ensures.passes held))
