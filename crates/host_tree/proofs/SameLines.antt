-- The lines of the tree that was read, as the core has them, are those by what its nodes show.
use Rattle.std.proofs.Common.{◌≡◌, ℕ, zero, suc, ◌==◌, cond, Option, Some, None, List, [], ◌∷◌, refl, sym, ◌∙◌, ap, subst}
use Rattle.std.specs.List.{flat_map}
use Rattle.std.specs.Option.{option_map}
use Rattle.frang_base.specs.declared.said.Said.{Said}
use Rattle.frang_base.specs.declared.said.Said.TheVariants as said
use Rattle.tree_definitions.specs.Entries.{Entries}
use Rattle.tree_definitions.specs.TreeLines.{name_below, path_text}
use Rattle.tree_lines.specs.Shown.{lines_by, lines_shown}
use Rattle.tree_lines.proofs.LeftLaws.{flat_map_same}
use Rattle.sector_bytes.specs.Sectors.{Sectors}
use Rattle.disk_definitions.specs.Store.{Store, StoredNode, store_of}
use Rattle.standing_laws.proofs.Shapes.{Shape, disk_shape}
use Rattle.standing_laws.proofs.Shapes.Shape.{OfFile, OfDir, OfLink}
use Rattle.core_definitions.specs.Trees.{entries_from, lines_at, lines_from, sorted_entries}
use Rattle.host_tree.specs.Listing.{listed}
use Rattle.host_tree.specs.Saying.{shown_in, shown_of}

-- ---- a node's own line, by its kind

module _ (text : List ℕ) (size links : ℕ) (entries : Entries) (f : List ℕ × ℕ → List Said) where
  abbrev by_kind : ℕ → List Said
  by_kind k =
      cond (k == 2) (said.Node (path_text text) 2 size 0 ∷ flat_map f entries)
      (cond (k == 1) (said.Node (path_text text) 1 size links ∷ []) (said.Node (path_text text) 3 size 0 ∷ []))

  abbrev as_shown : ℕ → List Said
  as_shown k = said.Node (path_text text) k size (cond (k == 1) links 0) ∷ flat_map f (cond (k == 2) entries [])

  kind_shown : (x : StoredNode) → Shape x → by_kind x.kind ≡ as_shown x.kind
  kind_shown x (OfFile shape) = subst (λ k. by_kind k ≡ as_shown k) (sym shape.kind) refl
  kind_shown x (OfDir shape) = subst (λ k. by_kind k ≡ as_shown k) (sym shape.kind) refl
  kind_shown x (OfLink shape) = subst (λ k. by_kind k ≡ as_shown k) (sym shape.kind) refl

-- ---- all lines

module _ (segments : ℕ) (sectors : Sectors) where
  abbrev s : Store
  s = store_of segments sectors

  same_node : (text : List ℕ) (inode : ℕ) (onward : List ℕ → ℕ → List Said) (g : List ℕ × ℕ → List Said) → ((e : List ℕ × ℕ) → onward (name_below text e.0) e.1 ≡ g e) → (o : Option StoredNode) → s.inode inode ≡ o
      → lines_at onward s text o ≡ lines_shown text (option_map (shown_of s) o) g
  same_node text inode onward g same None e = refl
  same_node text inode onward g same (Some x) e =
      kind_shown text x.size x.links (sorted_entries (entries_from s x)) (λ e. onward (name_below text e.0) e.1) x (disk_shape segments sectors inode x e)
      ∙ ap (λ ls. said.Node (path_text text) x.kind x.size (cond (x.kind == 1) x.links 0) ∷ ls) (flat_map_same (λ e. onward (name_below text e.0) e.1) g (listed s x) same)

  pub same_lines : (n : ℕ) (text : List ℕ) (inode : ℕ) → lines_from n s text inode ≡ lines_by (shown_in s) n text inode
  same_lines zero text inode = refl
  same_lines (suc n) text inode =
      same_node text inode (lines_from n s) (λ e. lines_by (shown_in s) n (name_below text e.0) e.1) (λ e. same_lines n (name_below text e.0) e.1) (s.inode inode) refl
