-- A new node is reached by its name, and a second name takes nothing away.
use Rattle.std.proofs.Common.{ℕ, ◌≡◌, ◌≢◌, ◌≤◌, inl, inr, true, false, Some, None, List, sym, ◌∙◌, ap, subst, arith}
use Rattle.std.proofs.lemmas.Bool.{cases_eq}
use Rattle.tree_definitions.specs.declared.node.Node.{Node}
use Rattle.tree_definitions.specs.declared.node.Node.TheVariants.{Dir}
use Rattle.tree_definitions.specs.Entries.{Entries, entry_at, with_entry}
use Rattle.tree_definitions.specs.Tree.{FileTree, node_at, with_node, grown}
use Rattle.tree_definitions.specs.Apply.{named, is_dir, links_of, one_link_more}
use Rattle.tree_definitions.specs.WellFormed.{IsWellFormed, IsNew}
use Rattle.tree_laws.proofs.Nodes.{with_other}
use Rattle.tree_laws.proofs.Places.{dir_is_some}
use Rattle.disk_definitions.specs.Naming.{find_in}
use Rattle.disk_definitions.specs.Standing.{IsReached, IsReachedAt}
use Rattle.standing_laws.proofs.Walks.{finds, reached_on, named_by_dir}
use Rattle.standing_laws.proofs.Reaching.{KeepsWays, dirs_reached, all_reached, reached_links, links_with}
use Rattle.standing_laws.proofs.Changes.{SameDirs, finds_there, entries_dirs, put_finds, put_keeps, more_dirs, more_finds, more_else, more_links}

module _ (t : FileTree) (w : IsWellFormed t) (reached : IsReached (node_at t)) (dir : ℕ) (es : Entries) (n : ℕ) (is : node_at t dir ≡ Some (Dir es n)) (name : List ℕ) (free : entry_at es name ≡ None) where
  -- a name that leads somewhere isn't the new one
  apart : (c d : ℕ) (m : List ℕ) → finds t c m ≡ Some d → (c ≡ dir) → (m ≡ name) → ⊥
  apart c d m f e i =
      let here : finds t c m ≡ finds t dir name = ap (λ c. finds t c m) e ∙ ap (finds t dir) i in
      let none : finds t dir name ≡ None = ap (λ o. find_in o name) is ∙ free in
      let z : None ≡ Some d = sym none ∙ sym here ∙ f in cc

  module _ (birth : ℕ) (node : Node) (new : IsNew t birth) (link : 1 ≤ links_of (Some node)) where
    abbrev one : FileTree
    one = with_node t birth node

    abbrev after : FileTree
    after = named (with_node t birth node) dir es n name birth

    away : dir ≢ birth
    away e = absurd (let z : None ≡ Some (Dir es n) = sym new ∙ sym (ap (node_at t) e) ∙ is in cc)

    is_one : node_at one dir ≡ Some (Dir es n)
    is_one = with_other t birth node dir away ∙ is

    kept : (c d : ℕ) (m : List ℕ) → finds t c m ≡ Some d → finds after c m ≡ Some d
    kept c d m f =
        let old : c ≢ birth = λ e. absurd (let z : None ≡ Some d = sym (ap (λ o. find_in o m) (ap (node_at t) e ∙ new)) ∙ f in cc) in
        put_keeps one dir es n is_one name birth (grown es n) c m (apart c d m f) ∙ finds_there t birth node c m old ∙ f

    ways : KeepsWays t after
    ways c d m f h = (named_by_dir (node_at after c) m d (kept c d m f), inl (kept c d m f))

    same : SameDirs one after
    same = entries_dirs one dir es n is_one (with_entry es name birth) (grown es n)

    pub made_reached : IsWellFormed after → IsReached (node_at after)
    made_reached u = all_reached after u
        (links_with one dir (Dir (with_entry es name birth) (grown es n)) (links_with t birth node (reached_links t w reached) link) (omega arith)) dirs
      where
        old : (b : ℕ) → b ≢ birth → is_dir (node_at after b) ≡ true → IsReachedAt (node_at after) b
        old b d h = dirs_reached t after ways b
            (reached b (dir_is_some (node_at t b) (ap is_dir (sym (with_other t birth node b d)) ∙ sym (same.dirs b) ∙ h))) h

        dirs : (b : ℕ) → is_dir (node_at after b) ≡ true → IsReachedAt (node_at after) b
        dirs b h = elim (cases_eq b birth) [
          | inl e ↦ subst (IsReachedAt (node_at after)) (sym e)
              (reached_on (node_at after) dir birth name (old dir away (same.dirs dir ∙ ap is_dir is_one)) (put_finds one dir es n is_one name birth (grown es n)))
          | inr d ↦ old b d h
        ]

  module _ (b : ℕ) (plain : is_dir (node_at t b) ≡ false) where
    abbrev more : FileTree
    more = one_link_more t b (node_at t b)

    abbrev after_more : FileTree
    after_more = named (one_link_more t b (node_at t b)) dir es n name b

    apart_dir : dir ≢ b
    apart_dir e = absurd (let z : is_dir (node_at t b) ≡ true = ap (λ c. is_dir (node_at t c)) (sym e) ∙ ap is_dir is in cc)

    is_more : node_at more dir ≡ Some (Dir es n)
    is_more = more_else t b (node_at t b) dir apart_dir ∙ is

    kept_more : (c d : ℕ) (m : List ℕ) → finds t c m ≡ Some d → finds after_more c m ≡ Some d
    kept_more c d m f = put_keeps more dir es n is_more name b (grown es n) c m (apart c d m f) ∙ more_finds t b c m ∙ f

    same_more : (c : ℕ) → is_dir (node_at after_more c) ≡ is_dir (node_at t c)
    same_more c = (entries_dirs more dir es n is_more (with_entry es name b) (grown es n)).dirs c ∙ (more_dirs t b).dirs c

    pub linked_reached : IsWellFormed after_more → IsReached (node_at after_more)
    linked_reached u = all_reached after_more u
        (links_with more dir (Dir (with_entry es name b) (grown es n)) (more_links t b (node_at t b) (reached_links t w reached)) (omega arith))
        (λ c h. dirs_reached t after_more
        (λ c d m f h. (named_by_dir (node_at after_more c) m d (kept_more c d m f), inl (kept_more c d m f))) c
        (reached c (dir_is_some (node_at t c) (sym (same_more c) ∙ h))) h)
