-- A line more in each turn; where no node is left, those that were given are all.
use Rattle.std.proofs.Common.{◌≡◌, ◌++◌, ◌∙◌, None, [], ap, length, sym, subst}
use Rattle.std.specs.Option.{option_copied}
use Rattle.tree_lines.specs.Shown.{lines_by}
use Rattle.tree_lines.specs.Waiting.{lines_left, next_birth}
use Rattle.file_tree.specs.Lined.{IsNext, shown_in}
use Rattle.file_tree.specs.Proper.{AreProper}
use Rattle.file_tree.proofs.NodeLines.{all_lines, given_all, given_more, proper_push}
use Rattle.file_tree.proofs.lines.lines_of.Goals as goal

pub loop-node-init : goal.loop-node-init
loop-node-init c =
    let nodes = c.args.nodes.now.entries in
    record {
      proper = subst AreProper (sym c.new-lines.ensures.items) tt;
      given = ap (λ ls. ls ++ lines_left (shown_in nodes) c.of-left.result) c.new-lines.ensures.items ∙ c.of-left.ensures (shown_in nodes) ∙ ap (λ n. lines_by (shown_in nodes) n [] 0) c.len.ensures.len;
    }

pub loop-node-preserved : goal.loop-node-preserved
loop-node-preserved c =
    let nodes = c.args.nodes.now.entries in
    record {
      proper = proper_push c.loop-node.lines.items c.push.new.self.items c.in_ok-line.line c.in_ok-push.ensures.items c.loop-node.invariant.proper c.in_ok-line.ensures.proper;
      given = given_more nodes c.in-Some.node.now c.loop-node.lines.items c.push.new.self.items (lines_by (shown_in nodes) (length nodes) [] 0) c.loop-node.left c.next_node.new.left c.node_line.new.left c.in_ok-line.line
          c.loop-node.invariant.given c.next_node.ensures.same c.in-Some.ensures.next c.in_ok-line.ensures.is c.in_ok-push.ensures.items;
    }

pub returns-clause-is : goal.returns-clause-is
returns-clause-is c = λ tree same.
    let nodes = c.args.nodes.now.entries in
    let left = c.next_node.new.left in
    let none : next_birth left.nodes ≡ None = subst (λ o. IsNext nodes left (option_copied o)) c.in_default.is c.next_node.ensures.next in
    given_all nodes c.loop-node.lines.items (lines_by (shown_in nodes) (length nodes) [] 0) c.loop-node.left left c.loop-node.invariant.given c.next_node.ensures.same none ∙ all_lines tree nodes same
