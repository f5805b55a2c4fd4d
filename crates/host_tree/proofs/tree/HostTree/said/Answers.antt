-- The line that was made is said, and those behind it are left.
use Rattle.std.proofs.Common.{◌<◌, length, ap, ◌∙◌, subst, sym, arith}
use Rattle.tree_lines.specs.Waiting.{lines_left}
use Rattle.host_tree.specs.Reading.{HostReading, all_lines, needed, store_read}
use Rattle.host_tree.specs.Saying.{shown_in}
use Rattle.host_tree.proofs.ToSay.{place_said}
use Rattle.host_tree.proofs.tree.HostTree.said.Goals as goal

pub overflow_add-self : goal.overflow_add-self
overflow_add-self c =
    let i = c.self.inside in
    let r = i.sectors in
    let left = lines_left (shown_in (store_read r.segments r.read)) i.left in
    let there : i.shown < length (all_lines r.segments r.read) = subst (λ (t : HostReading). t.shown < length (all_lines t.segments t.read)) (sym c.self.view_is) c.requires.there in
    let few = (place_said (needed r.segments r.read) (all_lines r.segments r.read) i.next left i.shown c.self.invariant (ap (λ t. t.is_made) c.self.view_is ∙ c.requires.made) there).1 in
    omega (arith, few)

pub invariant_of-self : goal.invariant_of-self
invariant_of-self c =
    let i = c.self.inside in
    let r = i.sectors in
    let left = lines_left (shown_in (store_read r.segments r.read)) i.left in
    let there : i.shown < length (all_lines r.segments r.read) = subst (λ (t : HostReading). t.shown < length (all_lines t.segments t.read)) (sym c.self.view_is) c.requires.there in
    (place_said (needed r.segments r.read) (all_lines r.segments r.read) i.next left i.shown c.self.invariant (ap (λ t. t.is_made) c.self.view_is ∙ c.requires.made) there).0
