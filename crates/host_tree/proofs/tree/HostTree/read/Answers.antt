-- Nothing is said before all is read; from the last sector on all lines are left.
use Rattle.std.proofs.Common.{◌≡◌, true, false, Option, Some, None, is_some, refl, sym, ap, ◌∙◌, arith, rules}
use Rattle.std.proofs.lemmas.Grind.{common_steps}
use Rattle.std.specs.List.{slice_get}
use Rattle.std.specs.Option.{option_map}
use Rattle.frang_base.specs.Functions.{member}
use Rattle.frang_base.specs.declared.sector.Sector.{Sector}
use Rattle.tree_lines.specs.Waiting.{lines_left}
use Rattle.host_tree.specs.Reading.{all_lines, needed, store_read}
use Rattle.host_tree.specs.Saying.{shown_in}
use Rattle.host_tree.proofs.ToSay.{all_left, lines_begun, young}
use Rattle.host_tree.proofs.tree.HostTree.read.Goals as goal

mapped_some : (o : Option Sector) → is_some (option_map (λ (s : Sector). s.0) o) ≡ is_some o
mapped_some None = refl
mapped_some (Some s) = refl

pub invariant_of-self-2 : goal.invariant_of-self-2
invariant_of-self-2 c =
    let i = c.self.inside in
    let old = i.sectors in
    let t = c.put.new.self in
    let wanted : member c.args.sector.0 (needed old.segments old.read) ≡ true = ap (λ h. member c.args.sector.0 (needed h.segments h.read)) c.self.view_is ∙ c.requires.needed in
    let none_said = young (needed old.segments old.read) (all_lines old.segments old.read) i.next (lines_left (shown_in (store_read old.segments old.read)) i.left) i.shown c.args.sector.0 c.self.invariant wanted in
    let none : is_some c.first_needed.result ≡ false = first_of (search rules, cc, grind (arith, common_steps)) in
    let all_read : is_some (slice_get (needed t.segments t.read) 0) ≡ false = sym (ap is_some c.first_needed.ensures) ∙ mapped_some c.first_needed.result ∙ none in
    all_left (needed t.segments t.read) (all_lines t.segments t.read) i.next (lines_left (shown_in (store_read t.segments t.read)) c.of.result) i.shown all_read none_said
    (lines_begun t.segments t.read c.count-levels.result c.from.result c.of.result c.count-levels.ensures c.from.ensures c.of.ensures)
