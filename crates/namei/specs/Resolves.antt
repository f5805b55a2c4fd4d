-- Where a path leads over sectors of a disk, links followed, in the tree for which the disk stands.
use Rattle.std.specs.Prelude.{◌≡◌, ◌↔◌, ℕ, Bool, Option, Some, None, List}
use Rattle.std.specs.Option.{option_map}
use Rattle.frang_base.specs.declared.reply.Reply.TheVariants as reply
use Rattle.frang_base.specs.declared.sector.Sector.{Sector as CodeSector}
use Rattle.tree_definitions.specs.Place.{place}
use Rattle.tree_definitions.specs.Resolve.{WalkEnd, At, Refused}
use Rattle.tree_definitions.specs.Resolve as trees
use Rattle.tree_definitions.specs.Tree.{FileTree}
use Rattle.sector_bytes.specs.Sectors.{Sectors}
use Rattle.disk_definitions.specs.Store.{store_of}
use Rattle.disk_definitions.specs.Held.{Segments}
use Rattle.disk_definitions.specs.Ask.{Sector, looks, number_of}
use Rattle.disk_definitions.specs.Written.{Cached, at_hand}
use Rattle.disk_definitions.specs.Missing.{first_missing}
use Rattle.disk_definitions.specs.OnDisk.{AreOfDisk, StandsBelow}
use Rattle.disk_definitions.specs.Resolving.{resolve}
use Rattle.line_laws.specs.Places.{IsPlaceOf}
use Rattle.namei.specs.declared.resolving.Resolved.{Resolved}
use Rattle.namei.specs.declared.resolving.Resolved.TheVariants as resolved

-- a walk of the tree leads to this path
abbrev pub LeadsThere : WalkEnd → List (List ℕ) → Type 0
LeadsThere (At way found) path = way ≡ path
LeadsThere (Refused r) path = ⊥

-- the answer is the tree's, both ways: the first sector that is missing; or none is, and it is the path to which the tree's walk leads or its refusal. The
-- path has a place in the tree, so that each name of it but the last is a directory's
pub record Resolves (tree : FileTree) (end : WalkEnd) (missing : Option Sector) (answer : Resolved) : Type 0 where
  pub need : (sector : CodeSector) → (answer ≡ resolved.Need sector) ↔ (option_map number_of missing ≡ Some sector.0)
  pub at : (path : List (List ℕ)) → (answer ≡ resolved.At path) ↔ ((missing ≡ None) × LeadsThere end path)
  pub no_ent : (answer ≡ resolved.NoEnt) ↔ ((missing ≡ None) × (end ≡ Refused reply.NoEnt))
  pub not_dir : (answer ≡ resolved.NotDir) ↔ ((missing ≡ None) × (end ≡ Refused reply.NotDir))
  pub loop : (answer ≡ resolved.Loop) ↔ ((missing ≡ None) × (end ≡ Refused reply.Loop))
  pub placed : (path : List (List ℕ)) → answer ≡ resolved.At path → (found : Option ℕ) × IsPlaceOf found (place tree path)

-- so it is over every disk that stands for a tree and of which the sectors are
abbrev pub ResolvesOverDisks : Bool → List (List ℕ) → Cached → Resolved → Type 0
ResolvesOverDisks last path cached answer = (held : Segments) (all : Bool) (disk : Sectors) (tree : FileTree) → AreOfDisk cached held all tree.segments disk → StandsBelow disk tree →
    Resolves tree (trees.resolve tree last path).end (first_missing (at_hand cached held) (looks (resolve last path) (store_of tree.segments disk))) answer
