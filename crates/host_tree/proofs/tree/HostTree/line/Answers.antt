-- The line that is made is the next one, and where it is known to be none all are said.
use Rattle.std.proofs.Common.{ap, ◌∙◌, subst}
use Rattle.std.specs.List.{slice_get}
use Rattle.tree_lines.specs.Waiting.{lines_left}
use Rattle.host_tree.specs.Reading.{all_lines, needed, store_read}
use Rattle.host_tree.specs.Saying.{IsPlace, shown_in}
use Rattle.host_tree.proofs.ToSay.{end_is, line_is}
use Rattle.host_tree.proofs.tree.HostTree.line.Goals as goal

pub returns-in-Line : goal.returns-in-Line
returns-in-Line c =
    let i = c.self.inside in
    let r = i.sectors in
    let left = lines_left (shown_in (store_read r.segments r.read)) i.left in
    line_is (needed r.segments r.read) (all_lines r.segments r.read) left i.shown c.in-Line.line
    (subst (λ next. IsPlace (needed r.segments r.read) (all_lines r.segments r.read) next left i.shown) c.in-Line.is c.self.invariant)
    ∙ ap (λ t. slice_get (all_lines t.segments t.read) t.shown) c.self.view_is

pub returns-in-End : goal.returns-in-End
returns-in-End c =
    let i = c.self.inside in
    let r = i.sectors in
    let left = lines_left (shown_in (store_read r.segments r.read)) i.left in
    end_is (needed r.segments r.read) (all_lines r.segments r.read) left i.shown
    (subst (λ next. IsPlace (needed r.segments r.read) (all_lines r.segments r.read) next left i.shown) c.in-End.is c.self.invariant)
    ∙ ap (λ t. slice_get (all_lines t.segments t.read) t.shown) c.self.view_is
