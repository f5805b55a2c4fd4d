-- Where a walk over sectors of a disk leads in the tree for which the disk stands.
use Rattle.std.specs.Prelude.{◌≡◌, ◌↔◌, ℕ, Bool, Option, Some, None, List}
use Rattle.std.specs.Option.{option_map}
use Rattle.frang_base.specs.declared.reply.Reply.{Reply}
use Rattle.frang_base.specs.declared.reply.Reply.TheVariants as reply
use Rattle.frang_base.specs.declared.sector.Sector.{Sector as CodeSector}
use Rattle.tree_definitions.specs.Place.{Place, Root, Taken, Free, Nowhere, place}
use Rattle.tree_definitions.specs.Tree.{FileTree}
use Rattle.sector_bytes.specs.Sectors.{Sectors}
use Rattle.disk_definitions.specs.Store.{store_of}
use Rattle.disk_definitions.specs.Naming.{Naming}
use Rattle.disk_definitions.specs.Held.{Segments}
use Rattle.disk_definitions.specs.Ask.{Sector, looks, number_of}
use Rattle.disk_definitions.specs.Walks as walks
use Rattle.disk_definitions.specs.Written.{Cached, at_hand}
use Rattle.disk_definitions.specs.Missing.{first_missing}
use Rattle.disk_definitions.specs.OnDisk.{AreOfDisk, StandsBelow}
use Rattle.namei.specs.declared.walking.Step.{Step}
use Rattle.namei.specs.declared.walking.Step.TheVariants as step

-- the birth of the node at a place
abbrev pub birth_at : Place → Option ℕ
birth_at Root = Some 0
birth_at (Taken dir entries blocks name birth) = Some birth
birth_at (Free dir entries blocks name) = None
birth_at (Nowhere r) = None

-- how the tree refuses a walk to a place
abbrev pub refusal_at : Place → Option Reply
refusal_at Root = None
refusal_at (Taken dir entries blocks name birth) = None
refusal_at (Free dir entries blocks name) = Some reply.NoEnt
refusal_at (Nowhere r) = Some r

-- a place of a walk: where the tree refuses it, then by one of these two
abbrev pub IsRefused : Place → Type 0
IsRefused (Nowhere reply.NoEnt) = Unit {0}
IsRefused (Nowhere reply.NotDir) = Unit {0}
IsRefused (Nowhere _) = ⊥
IsRefused _ = Unit {0}

-- the step is the tree's: the first sector that is missing; or none is, and it is the inode of the node at the place, by a naming of the disk, or the refusal
pub record Leads (n : Naming) (p : Place) (missing : Option Sector) (s : Step) : Type 0 where
  pub need : (sector : CodeSector) → (s ≡ step.Need sector) ↔ (option_map number_of missing ≡ Some sector.0)
  pub at : (b : ℕ) → missing ≡ None → birth_at p ≡ Some b → s ≡ step.At (n.inode b)
  pub no_ent : missing ≡ None → refusal_at p ≡ Some reply.NoEnt → s ≡ step.NoEnt
  pub not_dir : missing ≡ None → refusal_at p ≡ Some reply.NotDir → s ≡ step.NotDir
  pub all_cases : IsRefused p

-- so it is over every disk that stands for a tree and of which the sectors are
abbrev pub LeadsOverDisks : List (List ℕ) → Cached → Step → Type 0
LeadsOverDisks path cached s = (held : Segments) (all : Bool) (disk : Sectors) (tree : FileTree) → AreOfDisk cached held all tree.segments disk → (below : StandsBelow disk tree) →
    Leads below.stands.naming (place tree path) (first_missing (at_hand cached held) (looks (walks.walk path) (store_of tree.segments disk))) s
