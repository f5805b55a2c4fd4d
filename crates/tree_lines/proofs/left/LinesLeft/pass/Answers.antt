-- The last of those that are left comes next.
use Rattle.std.proofs.Common.{◌++◌, option_to_list, reverse, subst}
use Rattle.tree_lines.specs.Waiting.{Passes}
use Rattle.tree_lines.proofs.LeftLaws.{passed}
use Rattle.tree_lines.proofs.left.LinesLeft.pass.Goals as goal

pub returns-clause-is : goal.returns-clause-is
returns-clause-is c =
    let w = c.self.inside in
    subst (λ old. Passes old (record { text = w.text.items; nodes = option_to_list c.pop-self-inside.result ++ reverse c.pop-self-inside.new.self.items })) c.self.view_is
    (passed w.text.items w.here c.pop-self-inside.result w.left.items c.pop-self-inside.new.self.items c.self.invariant.1 c.pop-self-inside.ensures.items)
