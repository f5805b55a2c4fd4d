-- Where the first walk found a node, the second one goes on.
use Rattle.std.proofs.Common.{◌≡◌, true, IfOk, sym, subst, ap, ◌∙◌}
use Rattle.disk_definitions.specs.Lines.{by_first, by_second, is_found}
use Rattle.dir_lookup.specs.Reading.{reading}
use Rattle.file_tree.specs.Walks.{with_paths}
use Rattle.namei.specs.Walks.{end_of}
use Rattle.line_plan.specs.Lines.{line_as}
use Rattle.dir_lookup.specs.Looks.{looks_of}
use Rattle.dir_lookup.proofs.Looking.{adds_as}
use Rattle.namei.proofs.LinkLooks.{on_ok_then}
use Rattle.line_plan.proofs.walks.over_second.Goals as goal

pub returns-then-is_found-clause-comes : goal.returns-then-is_found-clause-comes
returns-then-is_found-clause-comes c held =
    let cached = c.args.sectors.now.entries in
    let operation = c.args.op.now in
    let trail = c.args.walk.trail.items in
    let found : is_found c.args.dirs c.in-At.kind ≡ true = sym c.is_found.ensures ∙ c.if-is_found.true in
    subst (λ end. IfOk c.to_second.result (λ line. line_as line ≡ reading (by_first c.args.dirs c.args.to.now (λ p q. with_paths operation p q) (end_of end) trail) cached held)) (sym c.in-At.is)
    (subst (λ b. IfOk c.to_second.result (λ line. line_as line ≡ reading (by_second b trail c.args.to.now (λ q. with_paths operation c.in-At.path q)) cached held)) (sym found) (c.to_second.ensures.comes held))

pub returns-then-is_found-clause-looks : goal.returns-then-is_found-clause-looks
returns-then-is_found-clause-looks c held =
    let cached = c.args.sectors.now.entries in
    let operation = c.args.op.now in
    let trail = c.args.walk.trail.items in
    let found : is_found c.args.dirs c.in-At.kind ≡ true = sym c.is_found.ensures ∙ c.if-is_found.true in
    on_ok_then c.to_second.result (c.to_second.ensures.looks held)
    (λ f. adds_as _ _ _ _
    (ap (λ b. looks_of (by_second b trail c.args.to.now (λ q. with_paths operation c.in-At.path q)) cached held) (sym found)
    ∙ ap (λ end. looks_of (by_first c.args.dirs c.args.to.now (λ p q. with_paths operation p q) (end_of end) trail) cached held) (sym c.in-At.is)) f)
