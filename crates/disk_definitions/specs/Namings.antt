-- The naming after a change, and what stays of it. The cover of a sector is read off a naming: that of an inode by its birth, that of a
-- small or large block by its owner.
use Rattle.std.specs.Prelude.{◌≡◌, ◌≢◌, ℕ, Bool, true, false, ◌==◌, ◌↔◌, if◌then◌else◌, Option, Some, None, List, is_some}
use Rattle.std.specs.Ordering.{nat_cmp}
use Rattle.std.specs.Cmp.Lexicographic.{slice_cmp}
use Rattle.std.specs.BTreeMap.{is_at}
use Rattle.frang_base.specs.Functions.{put}
use Rattle.disk_definitions.specs.Naming.{Naming, Nodes}

-- f with this value at a name
abbrev pub put_name : {X : Type 0} → (List ℕ → X) → List ℕ → X → List ℕ → X
put_name f name v m = if is_at (slice_cmp nat_cmp name) m then v else f m

-- birth b has inode i
abbrev pub named_new : Naming → ℕ → ℕ → ℕ → ℕ → Naming
named_new n b i stamp kind = record n { inode = put n.inode b i; kind = put n.kind b kind; stamp = put n.stamp b stamp; birth = put n.birth i (Some b) }

-- a name of directory d stands at place q
abbrev pub named_at : Naming → ℕ → List ℕ → ℕ → Naming
named_at n d name q = record n { spot = put n.spot d (put_name (n.spot d) name q) }

-- block j of directory d is small block k
abbrev pub named_block : Naming → ℕ → ℕ → ℕ → Naming
named_block n d j k = record n { block = put n.block d (put (n.block d) j k); owner = put n.owner k (Some (d, j)) }

-- the owner of a small block is birth b
abbrev pub is_owned_by : ℕ → Option (ℕ × ℕ) → Bool
is_owned_by b None = false
is_owned_by b (Some o) = o.0 == b

-- the owner of a large block, or the birth of an inode, is b
abbrev pub is_of : ℕ → Option ℕ → Bool
is_of b None = false
is_of b (Some c) = c == b

-- birth b, of this kind, is gone: nothing is its own
abbrev pub named_less : Naming → ℕ → ℕ → Naming
named_less n b kind = record n {
  birth = put n.birth (n.inode b) None;
  owner = λ k. if is_owned_by b (n.owner k) then None else n.owner k;
  was = λ k. if is_owned_by b (n.owner k) then kind == 2 else n.was k;
  large_owner = λ g. if is_of b (n.large_owner g) then None else n.large_owner g;
}

-- but for birth b the naming stays: each birth that was there keeps its inode, kind and stamp, and each other birth its blocks, places and
-- sectors; no other birth gets one
pub record KeepsOthers (at : Nodes) (b : ℕ) (n m : Naming) : Type 0 where
  pub inode : (c : ℕ) → is_some (at c) ≡ true → m.inode c ≡ n.inode c
  pub kind : (c : ℕ) → is_some (at c) ≡ true → m.kind c ≡ n.kind c
  pub stamp : (c : ℕ) → is_some (at c) ≡ true → m.stamp c ≡ n.stamp c
  pub block : (c : ℕ) → c ≢ b → m.block c ≡ n.block c
  pub large : (c : ℕ) → c ≢ b → m.large c ≡ n.large c
  pub spot : (c : ℕ) → c ≢ b → m.spot c ≡ n.spot c
  pub birth : (i c : ℕ) → c ≢ b → (m.birth i ≡ Some c) ↔ (n.birth i ≡ Some c)
  pub owner : (k c j : ℕ) → c ≢ b → (m.owner k ≡ Some (c, j)) ↔ (n.owner k ≡ Some (c, j))
  pub large_owner : (g c : ℕ) → c ≢ b → (m.large_owner g ≡ Some c) ↔ (n.large_owner g ≡ Some c)
