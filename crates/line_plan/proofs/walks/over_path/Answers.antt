-- By what the walk comes to.
use Rattle.std.proofs.Common.{[], sym, ap, ◌∙◌}
use Rattle.disk_definitions.specs.Resolving.{resolve}
use Rattle.disk_definitions.specs.Lines.{by_path}
use Rattle.dir_lookup.specs.Reading.{Gives, Lacks}
use Rattle.dir_lookup.proofs.Searches.{goes_on}
use Rattle.file_tree.specs.Walks.{with_path}
use Rattle.namei.specs.Walks.{read_as, walk_of}
use Rattle.dir_lookup.proofs.Looking.{adds_as}
use Rattle.line_plan.proofs.Looking.{by_path_looks}
use Rattle.line_plan.proofs.walks.over_path.Goals as goal

pub returns-in-Need-clause-comes : goal.returns-in-Need-clause-comes
returns-in-Need-clause-comes c held =
    goes_on (resolve c.args.last c.args.path.now) (by_path [] (λ p. with_path c.args.op.now p)) c.args.sectors.now.entries held (Lacks c.in-Need.sector.0)
    (sym (ap read_as c.in-Need.is) ∙ c.in_ok-walked.ensures.leads held)

pub returns-in_ok-resolved-in-Ends-clause-comes : goal.returns-in_ok-resolved-in-Ends-clause-comes
returns-in_ok-resolved-in-Ends-clause-comes c held =
    ap Gives c.in_ok-resolved-in-Ends.ensures
    ∙ goes_on (resolve c.args.last c.args.path.now) (by_path [] (λ p. with_path c.args.op.now p)) c.args.sectors.now.entries held (Gives (walk_of c.in-Ends.walk))
    (sym (ap read_as c.in-Ends.is) ∙ c.in_ok-walked.ensures.leads held)

pub returns-in-Need-clause-looks : goal.returns-in-Need-clause-looks
returns-in-Need-clause-looks c held =
    adds_as _ _ _ _ (by_path_looks [] (λ p. with_path c.args.op.now p) (resolve c.args.last c.args.path.now) c.args.sectors.now.entries held) (c.in_ok-walked.ensures.looks held)

pub returns-in_ok-resolved-in-Ends-clause-looks : goal.returns-in_ok-resolved-in-Ends-clause-looks
returns-in_ok-resolved-in-Ends-clause-looks c held =
    adds_as _ _ _ _ (by_path_looks [] (λ p. with_path c.args.op.now p) (resolve c.args.last c.args.path.now) c.args.sectors.now.entries held) (c.in_ok-walked.ensures.looks held)
