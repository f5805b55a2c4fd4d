-- Edits that leave no sector of a file unwritten: each inode of a file that they write has bytes where a file had some or where they write some; and all
-- small blocks whose use they set come into the same use, large ones into one with it.
use Rattle.std.proofs.Common.{ℕ, zero, suc, ◌≡◌, ◌<◌, ◌+◌, ◌-◌, ◌*◌, ◌==◌, ◌⊎◌, inr, not, Bool, true, false, if◌then◌else◌, Some, None, List, [], ◌∷◌, ◌++◌, length, refl, sym, ◌∙◌, ap, arith}
use Rattle.std.specs.List.{AllByRecursion}
use Rattle.tree_definitions.specs.declared.node.Node.{Node}
use Rattle.tree_definitions.specs.declared.node.Node.TheVariants.{Dir, File, Link}
use Rattle.disk_definitions.specs.Store.{Store, StoredNode, StoredEntry, Use, is_unused}
use Rattle.disk_definitions.specs.Store.Use.{Entries}
use Rattle.disk_definitions.specs.Naming.{inode_of}
use Rattle.disk_definitions.specs.Edits.{Edit}
use Rattle.disk_definitions.specs.Edits.Edit.{SetInode, SetBit, SetUse, SetLarge, SetBytes, SetLargeBytes}
use Rattle.disk_definitions.specs.Changes.{new_node, take_entry, replace_entry, relink, freed, uses_to, large_gone, drop_node}
use Rattle.disk_definitions.specs.ChangeLaws.{IsBare}
use Rattle.disk_definitions.specs.Plans.{Room, enter, with_block}
use Rattle.disk_definitions.specs.Plans.Room.{Inside, InBlock, NoRoom}
use Rattle.disk_definitions.specs.NamePlans.{is_last, fewer}
use Rattle.plan_laws.proofs.Sound.{freed_unused}
use Rattle.line_histories.specs.Files.{file_sector, IsWritten}
use Rattle.line_histories.specs.Sectors.{StaysThere}

-- each sector below the size of a file's node held bytes before, or is written
abbrev pub IsFilled : Store → List Edit → ℕ → StoredNode → Type 0
IsFilled s es i y = y.kind ≡ 1 → (t : ℕ) → 512 * t < y.size → IsWritten es (file_sector y t) ⊎ StaysThere s i y t

-- one of these edits, which bring blocks into this use
abbrev pub Fine : (Edit → Type 0) → Store → List Edit → Use → Edit → Type 0
Fine P s es state (SetInode i (Some y) d) = IsFilled s es i y
Fine P s es state (SetInode i None d) = Unit {0}
Fine P s es state (SetUse k u) = u ≡ state
Fine P s es state (SetLarge g v) = not v ≡ is_unused state
Fine P s es state (SetBytes k part bytes) = P (SetBytes k part bytes)
Fine P s es state (SetLargeBytes g part bytes) = P (SetLargeBytes g part bytes)
Fine P s es state _ = Unit {0}

abbrev pub AreFine : (Edit → Type 0) → Store → List Edit → Use → List Edit → Type 0
AreFine P s es state part = AllByRecursion (Fine P s es state) part

module _ (P : Edit → Type 0) (s : Store) (es : List Edit) where
  pub both_fine : (b : Use) (xs ys : List Edit) → AreFine P s es b xs → AreFine P s es b ys → AreFine P s es b (xs ++ ys)
  both_fine b [] ys f g = g
  both_fine b (x ∷ xs) ys f g = (f.0, both_fine b xs ys f.1 g)

  -- no file, or one with the bytes that it had
  pub no_file : (i : ℕ) (y : StoredNode) → y.kind ≡ 2 → IsFilled s es i y
  no_file i y e one = absurd (let z : 2 ≡ 1 = sym e ∙ one in cc)

  pub same_file : (j : ℕ) (y : StoredNode) (links : ℕ) → s.inode j ≡ Some y → IsFilled s es j (record y { links = links })
  same_file j y links is one t l = inr (record { before = y; is = is; kind = one; below = l; here = refl })

  pub take_fine : (b : Use) (i : ℕ) (x : StoredNode) (q : ℕ) → x.kind ≡ 2 → AreFine P s es b (take_entry i x q)
  take_fine b i x q two = (no_file i (record x { size = x.size - 1 }) two, (tt, tt))

  pub replace_fine : (b : Use) (x : StoredNode) (q : ℕ) (e : StoredEntry) → AreFine P s es b (replace_entry x q e)
  replace_fine b x q e = (tt, tt)

  pub relink_fine : (b : Use) (j : ℕ) (y : StoredNode) (links : ℕ) → s.inode j ≡ Some y → AreFine P s es b (relink j y links)
  relink_fine b j y links is = (same_file j y links is, tt)

  pub enter_fine : (i : ℕ) (x : StoredNode) (e : StoredEntry) (room : Room) → x.kind ≡ 2 → AreFine P s es Entries (enter i x e room)
  enter_fine i x e NoRoom two = tt
  enter_fine i x e (Inside q) two = (no_file i (record x { size = x.size + 1 }) two, (tt, tt))
  enter_fine i x e (InBlock k) two = let y = with_block x k in (refl, (no_file i y two, (no_file i (record y { size = y.size + 1 }) two, (tt, tt))))

  -- a new node has no bytes
  pub new_fine : (b : Use) (i stamp : ℕ) (node : Node) → IsBare node → AreFine P s es b (new_node i stamp node)
  new_fine b i stamp (Dir entries blocks) bare = (no_file i (inode_of stamp (λ j. 0) 0 (Dir entries blocks)) refl, (tt, tt))
  new_fine b i stamp (Link target links) bare = ((λ one. absurd (let z : 3 ≡ 1 = one in cc)), (tt, tt))
  new_fine b i stamp (File cells links when) bare = ((λ one t l. absurd (let z : length cells ≡ 0 = ap length bare in let m : 512 * t < length cells = l in omega arith)), (tt, tt))

  -- a node goes
  uses_fine : (b : Use) (small : ℕ → ℕ) (u : Use) (m : ℕ) → u ≡ b → AreFine P s es b (uses_to small u m)
  uses_fine b small u zero e = tt
  uses_fine b small u (suc m) e = (e, uses_fine b small u m e)

  large_fine : (u : Use) → is_unused u ≡ true → (large : ℕ) → AreFine P s es u (large_gone large)
  large_fine u unused large = go (large == 0)
    where
      go : (b : Bool) → AreFine P s es u (if b then [] else SetLarge (large - 1) false ∷ [])
      go true = tt
      go false = (sym unused, tt)

  drop_fine : (j : ℕ) (y : StoredNode) → AreFine P s es (freed y.kind) (drop_node j y)
  drop_fine j y =
      let last : List Edit = SetInode j None false ∷ SetBit j false ∷ [] in
      both_fine (freed y.kind) (uses_to y.small (freed y.kind) y.blocks) (large_gone y.large ++ last) (uses_fine (freed y.kind) y.small (freed y.kind) y.blocks refl)
      (both_fine (freed y.kind) (large_gone y.large) last (large_fine (freed y.kind) (freed_unused y.kind) y.large) (tt, (tt, tt)))

  pub fewer_fine : (j : ℕ) (y : StoredNode) → s.inode j ≡ Some y → AreFine P s es (freed y.kind) (fewer j y)
  fewer_fine j y is = go (is_last y)
    where
      go : (b : Bool) → AreFine P s es (freed y.kind) (if b then drop_node j y else relink j y (y.links - 1))
      go true = drop_fine j y
      go false = relink_fine (freed y.kind) j y (y.links - 1) is
