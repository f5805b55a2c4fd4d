-- What single changes do to the uses of small blocks: an entry that comes may use a block for entries, and a node that goes leaves each of its blocks a directory's or not.
use Rattle.std.proofs.Common.{ℕ, ◌≡◌, ◌⊎◌, ⊎_elim, inl, inr, ◌<◌, Some, List, ◌++◌, refl, sym, ◌∙◌, ap, subst}
use Rattle.frang_base.proofs.Basics.{at_put}
use Rattle.tree_definitions.specs.Tree.{FileTree, node_at}
use Rattle.disk_definitions.specs.Store.{Store, StoredEntry, StoredNode}
use Rattle.disk_definitions.specs.Store.Use.{Entries}
use Rattle.disk_definitions.specs.Naming.{Naming}
use Rattle.disk_definitions.specs.Edits.{Edit, edited_all}
use Rattle.disk_definitions.specs.Changes.{freed}
use Rattle.disk_definitions.specs.Meets.{IsOfTree, is_directory_use}
use Rattle.disk_definitions.specs.NamePlans.{fewer}
use Rattle.disk_definitions.specs.Plans.{Room, enter}
use Rattle.disk_definitions.specs.Plans.Room.{Inside, InBlock, NoRoom}
use Rattle.disk_definitions.proofs.Puts.{edited_append}
use Rattle.plan_laws.proofs.Standing.{node_of}
use Rattle.plan_fit.proofs.OnDisk.{freed_alike}
use Rattle.plan_fit.proofs.Uses.{KeepsDirectories, keeps_fewer}
use Rattle.room_laws.specs.Growth.{FreesNone, GainsNone}

-- ---- an entry comes

pub entered : (s : Store) (i : ℕ) (x : StoredNode) (e : StoredEntry) (room : Room) → FreesNone s (edited_all s (enter i x e room))
entered s i x e (Inside q) k = inl refl
entered s i x e NoRoom k = inl refl
entered s i x e (InBlock b) k = at_put (λ u. (u ≡ s.use_of k) ⊎ (u ≡ Entries)) s.use_of b Entries k (λ same. inr refl) (λ other. inl refl)

-- behind edits that say nothing of uses
pub then_entered : (s : Store) (es : List Edit) (i : ℕ) (x : StoredNode) (e : StoredEntry) (room : Room) → (edited_all s es).use_of ≡ s.use_of →
    FreesNone s (edited_all s (es ++ enter i x e room))
then_entered s es i x e room same k =
    let here : (edited_all s (es ++ enter i x e room)).use_of k ≡ (edited_all (edited_all s es) (enter i x e room)).use_of k = ap (λ (z : Store). z.use_of k) (edited_append s es (enter i x e room)) in
    ⊎_elim (λ was. inl (here ∙ was ∙ ap (λ f. f k) same)) (λ is. inr (here ∙ is)) (entered (edited_all s es) i x e room k)

-- before others
pub entered_then : (s : Store) (i : ℕ) (x : StoredNode) (e : StoredEntry) (room : Room) (es : List Edit) → ((t : Store) → (edited_all t es).use_of ≡ t.use_of) →
    FreesNone s (edited_all s (enter i x e room ++ es))
entered_then s i x e room es same k =
    let here : (edited_all s (enter i x e room ++ es)).use_of k ≡ (edited_all s (enter i x e room)).use_of k =
    ap (λ (z : Store). z.use_of k) (edited_append s (enter i x e room) es) ∙ ap (λ f. f k) (same (edited_all s (enter i x e room))) in
    ⊎_elim (λ was. inl (here ∙ was)) (λ is. inr (here ∙ is)) (entered s i x e room k)

-- ---- a node goes

module _ (s : Store) (tree : FileTree) (n : Naming) (of : IsOfTree s tree n) where
  -- the blocks of a node that stands in an inode are directories' where it is one
  stored_freed : (j : ℕ) (y : StoredNode) → s.inode j ≡ Some y → (m : ℕ) → m < y.blocks → is_directory_use (freed y.kind) ≡ is_directory_use (s.use_of (y.small m))
  stored_freed j y is m l =
      let r = node_of s (node_at tree) n of.pictures j y is in
      subst (λ (z : StoredNode). m < z.blocks → is_directory_use (freed z.kind) ≡ is_directory_use (s.use_of (z.small m))) (sym r.inode) (freed_alike s tree n of r.birth r.node r.is m) l

  -- behind edits that say nothing of uses
  pub then_gone : (es : List Edit) (j : ℕ) (y : StoredNode) → s.inode j ≡ Some y → (edited_all s es).use_of ≡ s.use_of → GainsNone s (edited_all s (es ++ fewer j y))
  then_gone es j y is same k used =
      let t = edited_all s es in
      let alike : (m : ℕ) → m < y.blocks → is_directory_use (freed y.kind) ≡ is_directory_use (t.use_of (y.small m)) =
      (λ m l. stored_freed j y is m l ∙ ap (λ f. is_directory_use (f (y.small m))) (sym same)) in
      let keeps : KeepsDirectories t (edited_all t (fewer j y)) = keeps_fewer t j y alike in
      ap (λ f. is_directory_use (f k)) (sym same) ∙ sym (keeps k) ∙ ap (λ (z : Store). is_directory_use (z.use_of k)) (sym (edited_append s es (fewer j y))) ∙ used
