-- The spot of the walk, whatever directories it passed.
use Rattle.std.proofs.Common.{◌≡◌, Err, [], subst, ap, rules, ◌∙◌}
use Rattle.dir_lookup.specs.Reading.{read_of}
use Rattle.dir_lookup.specs.Spots.{spot_of}
use Rattle.dir_lookup.specs.Passing.{PassesFrom}
use Rattle.dir_lookup.proofs.Through.{spot_lacks, spot_led}
use Rattle.dir_lookup.proofs.walk.walk_spot.Goals as goal

pub returns-in_err-spot-clause-reads : goal.returns-in_err-spot-clause-reads
returns-in_err-spot-clause-reads c held =
    let cached = c.args.sectors.now.entries in
    let need = c.in_err-spot.field-0.0 in
    let e : c.from_residual.result ≡ Err need = search rules in
    ap (read_of spot_of) e
    ∙ spot_lacks cached held c.args.path.now 0 need (subst (PassesFrom cached held 0 c.args.path.now 0 []) c.in_err-spot.was (c.walk_passing.ensures.passes held))

pub returns-clause-reads : goal.returns-clause-reads
returns-clause-reads c held =
    let cached = c.args.sectors.now.entries in
    spot_led cached held c.args.path.now 0 _ (subst (PassesFrom cached held 0 c.args.path.now 0 []) c.in_ok-spot.was (c.walk_passing.ensures.passes held))

pub returns-in_err-spot-clause-looks : goal.returns-in_err-spot-clause-looks
returns-in_err-spot-clause-looks c held = c.walk_passing.ensures.looks held

pub returns-clause-looks : goal.returns-clause-looks
returns-clause-looks c held = c.walk_passing.ensures.looks held
