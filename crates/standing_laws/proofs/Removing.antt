-- What loses a name isn't walked through: it is no directory, or has no entries.
use Rattle.std.proofs.Common.{ℕ, ◌≡◌, ◌≢◌, inl, true, false, Some, None, List, is_some, sym, ◌∙◌, ap, arith}
use Rattle.tree_definitions.specs.declared.node.Node.TheVariants.{Dir}
use Rattle.tree_definitions.specs.Entries.{Entries, entry_at, without_entry}
use Rattle.tree_definitions.specs.Tree.{FileTree, node_at, with_node}
use Rattle.tree_definitions.specs.Apply.{is_dir, has_entries, one_link_fewer}
use Rattle.tree_definitions.specs.WellFormed.{BirthsAscend, IsWellFormed}
use Rattle.tree_laws.proofs.Nodes.{ascend_with}
use Rattle.tree_laws.proofs.Places.{dir_is_some}
use Rattle.disk_definitions.specs.Naming.{find_in}
use Rattle.disk_definitions.specs.Standing.{IsReached}
use Rattle.standing_laws.proofs.Walks.{finds, named_by_dir}
use Rattle.standing_laws.proofs.Reaching.{KeepsWays, dirs_reached, all_reached, reached_links, links_with}
use Rattle.standing_laws.proofs.Changes.{entries_dirs, gone_keeps, fewer_else, fewer_here, fewer_links, no_entries}

module _ (t : FileTree) (w : IsWellFormed t) (reached : IsReached (node_at t)) (dir : ℕ) (es : Entries) (n : ℕ) (is : node_at t dir ≡ Some (Dir es n)) (name : List ℕ) (b : ℕ) (at : entry_at es name ≡ Some b) (there : is_some (node_at t b) ≡ true) (empty : has_entries (node_at t b) ≡ false) where
  abbrev one : FileTree
  one = with_node t dir (Dir (without_entry es name) n)

  births : BirthsAscend (with_node t dir (Dir (without_entry es name) n))
  births = ascend_with t dir (Dir (without_entry es name) n) w.births

  abbrev after : FileTree
  after = one_link_fewer (with_node t dir (Dir (without_entry es name) n)) b (node_at t b)

  -- it is no directory afterwards
  not_then : (d : ℕ) → is_dir (node_at after d) ≡ true → d ≢ b
  not_then d h e = absurd (let z : is_dir (node_at after d) ≡ false = ap (λ c. is_dir (node_at after c)) e ∙ fewer_here one b (node_at t b) births there in cc)

  kept : (c d : ℕ) (m : List ℕ) → finds t c m ≡ Some d → d ≢ b → finds after c m ≡ Some d
  kept c d m f far =
      let c_far : c ≢ b = λ e. absurd (let z : None ≡ Some d = sym (no_entries (node_at t b) m empty) ∙ ap (λ c. finds t c m) (sym e) ∙ f in cc) in
      ap (λ o. find_in o m) (fewer_else one b (node_at t b) c c_far)
      ∙ gone_keeps t dir es n is name n c m (λ e i. far (let z : Some d ≡ Some b = sym f ∙ ap (λ c. finds t c m) e ∙ ap (finds t dir) i ∙ ap (λ o. find_in o name) is ∙ at in cc)) ∙ f

  ways : KeepsWays t after
  ways c d m f h = (named_by_dir (node_at after c) m d (kept c d m f (not_then d h)), inl (kept c d m f (not_then d h)))

  pub gone_reached : IsWellFormed after → IsReached (node_at after)
  gone_reached u = all_reached after u
      (fewer_links one b (node_at t b) births (links_with t dir (Dir (without_entry es name) n) (reached_links t w reached) (omega arith)))
      (λ c h. dirs_reached t after ways c (reached c (dir_is_some (node_at t c)
      (sym ((entries_dirs t dir es n is (without_entry es name) n).dirs c) ∙ ap is_dir (sym (fewer_else one b (node_at t b) c (not_then c h))) ∙ h))) h)
