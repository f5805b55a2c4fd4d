-- By the tree after the entry's operation, if there is one.
use Rattle.std.proofs.Common.{ℕ, ◌==◌, ◌++◌, ◌≡◌, Bool, IfOk, ◌∙◌, sym, subst}
use Rattle.std.specs.List.{list_any}
use Rattle.tree_definitions.specs.History.{applied, is_answer}
use Rattle.tree_definitions.specs.Perform.{resolved}
use Rattle.tree_definitions.specs.Touched.{visited}
use Rattle.tree_model.proofs.Answering.{touched, untouched}
use Rattle.tree_model.proofs.touch.touches.Goals as goal

pub returns-in-Some : goal.returns-in-Some
returns-in-Some c =
    let tree = c.args.tree.now in
    let e = c.args.entry.now in
    let on = list_any {X = ℕ} (λ b. b == c.args.birth) ((resolved tree e.op).trail ++ visited tree (resolved tree e.op).step e.reply) in
    subst (λ (w : Bool). IfOk c.touches_by.result (λ it. it ≡ w))
    (touched (is_answer tree e) on tree (applied tree e).tree c.in-Some.next c.args.birth (sym c.in-Some.is ∙ c.in_ok-next.ensures)) c.touches_by.ensures

pub returns-in-None : goal.returns-in-None
returns-in-None c =
    let tree = c.args.tree.now in
    let e = c.args.entry.now in
    let on = list_any {X = ℕ} (λ b. b == c.args.birth) ((resolved tree e.op).trail ++ visited tree (resolved tree e.op).step e.reply) in
    untouched (is_answer tree e) on tree (applied tree e).tree c.args.birth (sym c.in-None.is ∙ c.in_ok-next.ensures)
