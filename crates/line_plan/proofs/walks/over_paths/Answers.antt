-- By what the first walk comes to.
use Rattle.std.proofs.Common.{◌≡◌, false, IfOk, sym, subst, ap, ◌∙◌}
use Rattle.disk_definitions.specs.Resolving.{resolve}
use Rattle.disk_definitions.specs.Lines.{by_first}
use Rattle.dir_lookup.specs.Reading.{Gives, Lacks}
use Rattle.dir_lookup.proofs.Searches.{goes_on}
use Rattle.file_tree.specs.Walks.{with_paths}
use Rattle.namei.specs.Walks.{read_as, walk_of}
use Rattle.line_plan.specs.Lines.{line_as}
use Rattle.dir_lookup.proofs.Looking.{adds_as, adds_then, looks_end, looks_on}
use Rattle.namei.proofs.LinkLooks.{on_ok_then}
use Rattle.line_plan.proofs.walks.over_paths.Goals as goal

pub returns-in-Need-clause-comes : goal.returns-in-Need-clause-comes
returns-in-Need-clause-comes c held =
    goes_on (resolve false c.args.path.now) (λ walk. by_first c.args.dirs c.args.to.now (λ p q. with_paths c.args.op.now p q) walk.end walk.trail) c.args.sectors.now.entries held (Lacks c.in-Need.sector.0)
    (sym (ap read_as c.in-Need.is) ∙ c.in_ok-walked.ensures.leads held)

pub returns-in-Ends-clause-comes : goal.returns-in-Ends-clause-comes
returns-in-Ends-clause-comes c held =
    subst (λ r. IfOk c.over_second.result (λ line. line_as line ≡ r))
    (goes_on (resolve false c.args.path.now) (λ walk. by_first c.args.dirs c.args.to.now (λ p q. with_paths c.args.op.now p q) walk.end walk.trail) c.args.sectors.now.entries held (Gives (walk_of c.in-Ends.walk))
    (sym (ap read_as c.in-Ends.is) ∙ c.in_ok-walked.ensures.leads held))
    (c.over_second.ensures.comes held)

pub returns-in-Need-clause-looks : goal.returns-in-Need-clause-looks
returns-in-Need-clause-looks c held =
    let cached = c.args.sectors.now.entries in
    adds_as _ _ _ _
    (sym (looks_end (resolve false c.args.path.now) (λ walk. by_first c.args.dirs c.args.to.now (λ p q. with_paths c.args.op.now p q) walk.end walk.trail) cached held c.in-Need.sector.0
    (sym (ap read_as c.in-Need.is) ∙ c.in_ok-walked.ensures.leads held))) (c.in_ok-walked.ensures.looks held)

pub returns-in-Ends-clause-looks : goal.returns-in-Ends-clause-looks
returns-in-Ends-clause-looks c held =
    let cached = c.args.sectors.now.entries in
    on_ok_then c.over_second.result (c.over_second.ensures.looks held)
    (λ f. adds_as _ _ _ _
    (sym (looks_on (resolve false c.args.path.now) (λ walk. by_first c.args.dirs c.args.to.now (λ p q. with_paths c.args.op.now p q) walk.end walk.trail) cached held (walk_of c.in-Ends.walk)
    (sym (ap read_as c.in-Ends.is) ∙ c.in_ok-walked.ensures.leads held)))
    (adds_then _ _ _ _ _ (c.in_ok-walked.ensures.looks held) f))
