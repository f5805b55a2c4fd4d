-- The nodes to which walks lead, by their inodes.
use Rattle.std.proofs.Common.{ℕ, ◌==◌, Bool, true, if◌then◌else◌, nat_eq, List, [], ◌∷◌}
use Rattle.disk_definitions.specs.Walks.{Spot, Target}
use Rattle.disk_definitions.specs.Walks.Spot.{AtRoot, AtName, AtGap, Lost}
use Rattle.disk_definitions.specs.NamePlans.{Moving}

abbrev pub any_kind : ℕ → Bool
any_kind k = true

abbrev pub is_kind : ℕ → ℕ → Bool
is_kind want k = nat_eq k want

-- the node of a target, where its kind is wanted
abbrev pub target_of : (ℕ → Bool) → Target → List ℕ
target_of wanted t = if wanted t.kind then t.inode ∷ [] else []

-- the node to which a walk leads, where its kind is wanted
abbrev pub spot_target : (ℕ → Bool) → Spot → List ℕ
spot_target wanted AtRoot = if wanted 2 then 0 ∷ [] else []
spot_target wanted (AtName i x name q e) = if wanted e.kind then e.inode ∷ [] else []
spot_target wanted (AtGap i x name) = []
spot_target wanted (Lost r) = []

-- the directory that gets a name
abbrev pub gap_dir : Spot → List ℕ
gap_dir (AtGap i x name) = i ∷ []
gap_dir _ = []

-- the directory of a name, and the node that is named
abbrev pub name_nodes : Spot → List ℕ
name_nodes (AtName i x name q e) = i ∷ e.inode ∷ []
name_nodes _ = []

-- what changes at a link's second name, and what at a rename's
abbrev pub link_changed : ℕ → Spot → List ℕ
link_changed j (AtGap i x name) = i ∷ j ∷ []
link_changed j _ = []

abbrev pub rename_changed : Moving → Spot → List ℕ
rename_changed m (AtName i x name q e) = if e.inode == m.entry.inode then [] else m.dir ∷ i ∷ e.inode ∷ []
rename_changed m (AtGap i x name) = m.dir ∷ i ∷ []
rename_changed m _ = []
