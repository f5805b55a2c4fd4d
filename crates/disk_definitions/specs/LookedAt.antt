-- What a computation has looked at, with some sectors cached and some segments held: the sectors with a version, and the nodes at whose inodes it looked.
use Rattle.std.specs.Prelude.{ℕ, Option, Some, List, [], ◌∷◌, ◌++◌, filter, fold, map}
use Rattle.disk_definitions.specs.declared.region.Region.{Region}
use Rattle.disk_definitions.specs.declared.region.Region.TheVariants as region
use Rattle.disk_definitions.specs.Regions.{region_of}
use Rattle.disk_definitions.specs.Held.{Segments}
use Rattle.disk_definitions.specs.Ask.{Sector, InodeAt, DirectoryAt, SegmentAt, BytesAt, LargeAt, Ask, AtHand, number_of}
use Rattle.disk_definitions.specs.Written.{Cached, at_hand}
use Rattle.disk_definitions.specs.Traces.{has_version, traced}

-- the sectors with a version at which a program looks over cached sectors, in order, before the first that isn't cached
abbrev pub examined : {A : Type 0} → Ask A → Cached → Segments → List ℕ
examined program cached held = map number_of (filter has_version (traced program (at_hand cached held)).looked)

-- the nodes whose inodes are among these sectors, in order
abbrev pub nodes_of : List Sector → List ℕ
nodes_of [] = []
nodes_of (InodeAt inode ∷ sectors) = inode ∷ nodes_of sectors
nodes_of (DirectoryAt block part ∷ sectors) = nodes_of sectors
nodes_of (SegmentAt segment ∷ sectors) = nodes_of sectors
nodes_of (BytesAt block part ∷ sectors) = nodes_of sectors
nodes_of (LargeAt segment part ∷ sectors) = nodes_of sectors

-- the nodes at whose inodes a program looked
abbrev pub looked_nodes : {A : Type 0} → Ask A → AtHand → List ℕ
looked_nodes program known = nodes_of (traced program known).looked

-- those whose inodes are among the sectors of these numbers, in order
abbrev pub with_node_in : List ℕ → Option Region → List ℕ
with_node_in nodes (Some (region.Inode inode)) = nodes ++ inode ∷ []
with_node_in nodes _ = nodes

abbrev pub with_node : ℕ → List ℕ → ℕ → List ℕ
with_node segments nodes number = with_node_in nodes (region_of segments number)

abbrev pub nodes_in : ℕ → List ℕ → List ℕ
nodes_in segments numbers = fold (with_node segments) [] numbers
