-- A step with an entry is that entry, which stays.
use Rattle.std.proofs.Common.{◌≡◌, ℕ, true, IfOk, sym, subst}
use Rattle.tree_definitions.specs.History.{Settled, Stays, after, may_stand}
use Rattle.history_rules.specs.Standing.{capped}
use Rattle.history_rules.proofs.Standing.{step_of}
use Rattle.history_rules.proofs.stands.stood.Goals as goal

pub returns-in-Some-clause-is : goal.returns-in-Some-clause-is
returns-in-Some-clause-is c =
    let is : c.args.step.now ≡ Stays c.in-Some.entry.now = step_of c.args.step.now c.in-Some.entry.now (sym c.in-Some.ensures.is) in
    subst (λ (s : Settled). IfOk c.entered.result (λ it. (n : ℕ) → c.args.ever ≡ capped n → it ≡ may_stand c.args.tree.now n s)) (sym is) c.entered.ensures.is

pub returns-in-Some-clause-tree : goal.returns-in-Some-clause-tree
returns-in-Some-clause-tree c =
    let is : c.args.step.now ≡ Stays c.in-Some.entry.now = step_of c.args.step.now c.in-Some.entry.now (sym c.in-Some.ensures.is) in
    subst (λ (s : Settled). IfOk c.entered.result (λ it. it ≡ true → c.entered.new.tree ≡ after c.args.tree.now s)) (sym is) c.entered.ensures.tree
