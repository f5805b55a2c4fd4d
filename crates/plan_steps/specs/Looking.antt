-- What a plan has examined, sectors of file bytes left out, which have no version: between two states of the sectors that are kept, in order, as far as they are kept.
use Rattle.std.specs.Prelude.{◌≡◌, ℕ, Bool, if◌then◌else◌, Option, Some, None, Result, Ok, Err, List, [], ◌∷◌, ◌++◌}
use Rattle.disk_definitions.specs.declared.region.Region.TheVariants as region
use Rattle.disk_definitions.specs.declared.inode.Inode.{Inode}
use Rattle.disk_definitions.specs.Regions.{sector_of}
use Rattle.disk_definitions.specs.Store.{StoredNode, stored}
use Rattle.disk_definitions.specs.Held.{Segments}
use Rattle.disk_definitions.specs.Ask.{Ask, ReadInode, bind}
use Rattle.disk_definitions.specs.Walks.{Spot, Target, walk}
use Rattle.disk_definitions.specs.Plans.{Plan}
use Rattle.disk_definitions.specs.LookPlans.{plan_of_node}
use Rattle.disk_definitions.specs.Written.{Cached, is_held}
use Rattle.disk_definitions.specs.LookedAt.{examined}
use Rattle.dir_lookup.specs.Looked.{Adds}
use Rattle.dir_lookup.specs.Spots.{has_inode, spot_of}
use Rattle.dir_lookup.specs.declared.need.Need.{Need}
use Rattle.dir_lookup.specs.declared.spot.Spot.{Spot as CodeSpot}
use Rattle.plan_steps.specs.Targets.{node_of}
use Rattle.plan_steps.specs.declared.stop.Stop.{Stop}
use Rattle.plan_steps.specs.declared.stop.Stop.TheVariants as stop
use Rattle.plan_steps.specs.declared.target.Target.{Target as Found}

-- so it is where memory isn't wanting
abbrev pub UnlessNoMemory : {A : Type 0} → Result A Stop → Type 0 → Type 0
UnlessNoMemory result P = (result ≡ Err stop.NoMemory → ⊥) → P

-- all that the program examines
abbrev pub Looks : {A : Type 0} → Cached → Segments → Option (List ℕ) → Option (List ℕ) → Ask A → Type 0
Looks cached held old new program = Adds old new (examined program cached held)

-- what the first program examines but for what the second does, which comes behind it
abbrev pub LooksTo : {A B : Type 0} → Cached → Segments → Option (List ℕ) → Option (List ℕ) → Ask A → Ask B → Type 0
LooksTo cached held old new first second = (seen : List ℕ) × Adds old new seen × (examined first cached held ≡ seen ++ examined second cached held)

-- each plan that walks the path has examined what the walk examines
abbrev pub LooksAtSpot : Cached → Segments → Option (List ℕ) → Option (List ℕ) → List (List ℕ) → Result CodeSpot Stop → Type 0
LooksAtSpot cached held old new path (Ok s) =
    (dirs : List ℕ) × ((next : List ℕ → Spot → Ask Plan) → LooksTo cached held old new (bind (walk path) (λ w. next w.dirs w.spot)) (next dirs (spot_of s)))
LooksAtSpot cached held old new path (Err e) = (next : List ℕ → Spot → Ask Plan) → Looks cached held old new (bind (walk path) (λ w. next w.dirs w.spot))

-- the same, with directories that have this inode or not
abbrev pub LooksPassing : Cached → Segments → Option (List ℕ) → Option (List ℕ) → List (List ℕ) → ℕ → Result (CodeSpot × Bool) Need → Type 0
LooksPassing cached held old new path inode (Ok p) = (dirs : List ℕ) × (p.1 ≡ has_inode inode dirs)
    × ((next : List ℕ → Spot → Ask Plan) → LooksTo cached held old new (bind (walk path) (λ w. next w.dirs w.spot)) (next dirs (spot_of p.0)))
LooksPassing cached held old new path inode (Err need) = (next : List ℕ → Spot → Ask Plan) → Looks cached held old new (bind (walk path) (λ w. next w.dirs w.spot))

-- each plan of the node that the path names has examined what its walk examines
abbrev pub LooksAtTarget : Cached → Segments → Option (List ℕ) → Option (List ℕ) → List (List ℕ) → Result Found Stop → Type 0
LooksAtTarget cached held old new path (Ok t) =
    (dirs : List ℕ) × ((next : Target → Ask Plan) → LooksTo cached held old new (plan_of_node path next) (next (record (node_of t) { dirs = dirs })))
LooksAtTarget cached held old new path (Err e) = (next : Target → Ask Plan) → Looks cached held old new (plan_of_node path next)

-- each plan with the inode has examined its sector; one that a free inode ends examines no more
abbrev pub LooksAtInode : Cached → Segments → Option (List ℕ) → Option (List ℕ) → ℕ → Result Inode Stop → Type 0
LooksAtInode cached held old new i (Ok x) = (next : Option StoredNode → Ask Plan) → LooksTo cached held old new (ReadInode i next) (next (Some (stored x)))
LooksAtInode cached held old new i (Err e) =
    (next : Option StoredNode → Ask Plan) → examined (next None) cached held ≡ [] → Looks cached held old new (ReadInode i next)

-- ---- segments

abbrev pub segment_number : ℕ → ℕ
segment_number segment = sector_of (region.Segment segment)

-- the sectors of these segments, before the first that isn't held
abbrev pub looked_over : Segments → List ℕ → List ℕ
looked_over held [] = []
looked_over held (segment ∷ segments) = if is_held held segment then segment_number segment ∷ looked_over held segments else []
