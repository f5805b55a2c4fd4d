-- The inodes that edits leave: the directory of a new entry has one more, and a node with a link fewer changes no other inode.
use Rattle.std.proofs.Common.{ℕ, zero, suc, ◌≡◌, ◌≢◌, ◌+◌, ◌-◌, ◌==◌, Bool, true, false, Option, Some, None, List, [], ◌∷◌, ◌++◌, if◌then◌else◌, is_some, refl, ◌∙◌, ap}
use Rattle.frang_base.proofs.Basics.{put_same, put_other}
use Rattle.disk_definitions.specs.Store.{Store, StoredNode, StoredEntry, Use}
use Rattle.disk_definitions.specs.Naming.{Naming, Nodes, Pictures}
use Rattle.disk_definitions.specs.Edits.{Edit, SetInode, SetBit, SetUse, SetLarge, edited, edited_all}
use Rattle.disk_definitions.specs.Changes.{take_entry, relink, freed, uses_to, large_gone, drop_node}
use Rattle.disk_definitions.proofs.Puts.{edited_append}
use Rattle.disk_definitions.specs.Plans.{Room, enter, with_block}
use Rattle.disk_definitions.specs.Plans.Room.{Inside, InBlock, NoRoom}
use Rattle.disk_definitions.specs.NamePlans.{is_last, fewer}
use Rattle.plan_laws.proofs.Tests.{own_inode}

-- the inode after several edits and then others
pub then_edited : (s : Store) (es fs : List Edit) (i : ℕ) (o : Option StoredNode) → (edited_all (edited_all s es) fs).inode i ≡ o → (edited_all s (es ++ fs)).inode i ≡ o
then_edited s es fs i o e = ap (λ (t : Store). t.inode i) (edited_append s es fs) ∙ e

-- ---- an entry comes
abbrev pub IsRoom : Room → Type 0
IsRoom NoRoom = ⊥
IsRoom (Inside slot) = Unit {0}
IsRoom (InBlock block) = Unit {0}

pub record HasOneMore (t : Store) (i : ℕ) (x : StoredNode) : Type 0 where
  pub node : StoredNode
  pub is : t.inode i ≡ Some node
  pub more : node.size ≡ x.size + 1

pub entered : (s : Store) (i : ℕ) (x : StoredNode) (e : StoredEntry) (room : Room) → IsRoom room → HasOneMore (edited_all s (enter i x e room)) i x
entered s i x e NoRoom there = absurd there
entered s i x e (Inside slot) there = record { node = record x { size = x.size + 1 }; is = put_same s.inode i (Some (record x { size = x.size + 1 })); more = refl }
entered s i x e (InBlock k) there =
    let y = with_block x k in
    let z : StoredNode = record y { size = y.size + 1 } in
    record { node = z; is = put_same (edited_all s (SetUse k Use.Entries ∷ SetInode i (Some y) false ∷ [])).inode i (Some z); more = refl }

-- ---- an entry goes
pub taken_here : (s : Store) (i : ℕ) (x : StoredNode) (q : ℕ) → (edited_all s (take_entry i x q)).inode i ≡ Some (record x { size = x.size - 1 })
taken_here s i x q = put_same s.inode i (Some (record x { size = x.size - 1 }))

pub taken_else : (s : Store) (i : ℕ) (x : StoredNode) (q k : ℕ) → k ≢ i → (edited_all s (take_entry i x q)).inode k ≡ s.inode k
taken_else s i x q k far = put_other s.inode i (Some (record x { size = x.size - 1 })) k far

-- ---- a link fewer
uses_else : (s : Store) (small : ℕ → ℕ) (u : Use) (m k : ℕ) → (edited_all s (uses_to small u m)).inode k ≡ s.inode k
uses_else s small u zero k = refl
uses_else s small u (suc m) k = uses_else (edited s (SetUse (small m) u)) small u m k

large_else : (s : Store) (large k : ℕ) → (edited_all s (large_gone large)).inode k ≡ s.inode k
large_else s large k = go (large == 0)
  where
    go : (b : Bool) → (edited_all s (if b then [] else SetLarge (large - 1) false ∷ [])).inode k ≡ s.inode k
    go true = refl
    go false = refl

dropped_else : (s : Store) (j : ℕ) (y : StoredNode) (k : ℕ) → k ≢ j → (edited_all s (drop_node j y)).inode k ≡ s.inode k
dropped_else s j y k far =
    let uses = uses_to y.small (freed y.kind) y.blocks in
    let large = large_gone y.large in
    let rest : List Edit = SetInode j None false ∷ SetBit j false ∷ [] in
    let t = edited_all s uses in
    let u = edited_all t large in
    then_edited s uses (large ++ rest) k (s.inode k) (then_edited t large rest k (s.inode k) (put_other u.inode j None k far ∙ large_else t y.large k ∙ uses_else s y.small (freed y.kind) y.blocks k))

pub fewer_elsewhere : (s : Store) (j : ℕ) (y : StoredNode) (k : ℕ) → k ≢ j → (edited_all s (fewer j y)).inode k ≡ s.inode k
fewer_elsewhere s j y k far = go (is_last y)
  where
    go : (b : Bool) → (edited_all s (if b then drop_node j y else relink j y (y.links - 1))).inode k ≡ s.inode k
    go true = dropped_else s j y k far
    go false = put_other s.inode j (Some (record y { links = y.links - 1 })) k far

-- nodes of their own have inodes of their own
pub far_inode : (s : Store) (at : Nodes) (n : Naming) → Pictures s at n → (c b : ℕ) → is_some (at c) ≡ true → is_some (at b) ≡ true → c ≢ b → n.inode c ≢ n.inode b
far_inode s at n g c b i j far e = far (own_inode s at n g c b i j e)
