use Rattle.std.proofs.Common.{◌≡◌, true, false, List, [], ◌∷◌, ℕ, IfOk, refl, ◌∙◌, ap, subst}
use Rattle.frang_base.specs.declared.op.Op.{Op}
use Rattle.frang_base.specs.declared.op.Op.TheVariants as op
use Rattle.tree_definitions.specs.Tree.{FileTree}
use Rattle.tree_definitions.specs.Resolve.{resolve}
use Rattle.tree_definitions.specs.Perform.{Resolved, by_paths, resolved}
use Rattle.file_tree.specs.Walks.{with_paths, resolved_by}
use Rattle.file_tree.proofs.tree.Tree.resolved_rename.Goals as goal

-- a rename from and to a name walks both paths
walks_both : (tree : FileTree) (path to : List (List ℕ)) → (path ≡ [] → ⊥) → (to ≡ [] → ⊥)
    → by_paths tree true (resolve tree false path) (resolve tree false to) to (λ p q. op.Rename p q) ≡ resolved tree (op.Rename path to)
walks_both tree [] to some other = absurd (some refl)
walks_both tree (name ∷ names) [] some other = absurd (other refl)
walks_both tree (name ∷ names) (new ∷ news) some other = refl

pub returns : goal.returns
returns c =
    let tree = c.args.self.now in
    let path = c.args.path.now in
    let to = c.args.to.now in
    let some : path ≡ [] → ⊥ = λ e. (let is = c.is_empty.ensures.1 e in let not = c.if-is_empty.false in cc) in
    let other : to ≡ [] → ⊥ = λ e. (let is = c.is_empty-else-is_empty.ensures.1 e in let not = c.if-is_empty-2.false in cc) in
    let is : by_paths tree true (resolve tree false path) (resolve tree false to) to (λ p q. with_paths c.args.op.now p q) ≡ resolved tree (op.Rename path to)
    = ap (λ (o : Op). by_paths tree true (resolve tree false path) (resolve tree false to) to (λ p q. with_paths o p q)) c.requires ∙ walks_both tree path to some other in
    subst (λ (x : Resolved). IfOk c.by_paths.result (λ r. resolved_by r ≡ x)) is c.by_paths.ensures
