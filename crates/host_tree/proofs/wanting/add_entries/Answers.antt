-- One place more; what is no sector of a directory has no entries.
use Rattle.std.proofs.Common.{◌≡◌, Some, option_to_list, sym, ◌∙◌, subst, arith, rules}
use Rattle.std.proofs.lemmas.Grind.{common_steps}
use Rattle.std.specs.List.{filter_map}
use Rattle.std.specs.Option.{option_map}
use Rattle.tree_definitions.specs.Numbers.{below}
use Rattle.disk_definitions.specs.Store.{entered, entry_in}
use Rattle.core_definitions.specs.Trees.{inode_sector}
use Rattle.host_tree.specs.Wanting.{Adds}
use Rattle.host_tree.proofs.AddedSectors.{added_none, filter_more}
use Rattle.host_tree.proofs.wanting.add_entries.Goals as goal

pub returns-in_default : goal.returns-in_default
returns-in_default c =
    subst (λ o. Adds c.args.read.now.entries (filter_map (λ slot. option_map (λ entry. inode_sector entry.inode) (entry_in o slot)) (below 7)) c.args.wanted.now.entries c.args.wanted.now.entries)
    (sym c.in_default.is ∙ c.decode.ensures.value) (added_none c.args.read.now.entries c.args.wanted.now.entries)

pub loop-place-preserved : goal.loop-place-preserved
loop-place-preserved c =
    let read = c.args.read.now.entries in
    let x = c.in-Some.sector in
    let k = c.loop-place.place in
    let at : option_map entered c.entry_at.result ≡ entry_in (Some x) k = first_of (search rules, grind (arith, common_steps), cc) in
    record {
      added = filter_more read (λ place. option_map (λ entry. inode_sector entry.inode) (entry_in (Some x) place)) k c.args.wanted.now.entries c.loop-place.wanted.entries c.add_entry.new.wanted.entries c.loop-place.invariant.added
          (subst (λ o. Adds read (option_to_list (option_map (λ entry. inode_sector entry.inode) o)) c.loop-place.wanted.entries c.add_entry.new.wanted.entries) at c.add_entry.ensures.added);
      spare = omega (arith, c.loop-place.invariant.spare, c.add_entry.ensures.spare);
    }

pub returns : goal.returns
returns c =
    let read = c.args.read.now.entries in
    let x = c.in-Some.sector in
    let all : c.loop-place.place ≡ 7 = search rules in
    subst (λ o. Adds read (filter_map (λ slot. option_map (λ entry. inode_sector entry.inode) (entry_in o slot)) (below 7)) c.args.wanted.now.entries c.loop-place.wanted.entries)
    (sym c.in-Some.is ∙ c.decode.ensures.value)
    (subst (λ n. Adds read (filter_map (λ slot. option_map (λ entry. inode_sector entry.inode) (entry_in (Some x) slot)) (below n)) c.args.wanted.now.entries c.loop-place.wanted.entries) all c.loop-place.invariant.added)
