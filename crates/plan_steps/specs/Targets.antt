-- The node that a path names, and its inode, as every plan of a node or of a file goes on with them.
use Rattle.std.specs.Prelude.{◌≡◌, ℕ, Result, Ok, Err, List, []}
use Rattle.frang_base.specs.declared.reply.Reply.{Reply}
use Rattle.disk_definitions.specs.declared.inode.Inode.{Inode}
use Rattle.disk_definitions.specs.Store.{StoredNode, stored}
use Rattle.disk_definitions.specs.Held.{Segments}
use Rattle.disk_definitions.specs.Ask.{Ask, ReadInode}
use Rattle.disk_definitions.specs.Walks.{Spot, Target, at_spot}
use Rattle.disk_definitions.specs.Plans.{Plan, refuse}
use Rattle.disk_definitions.specs.LookPlans.{plan_of_node, with_inode}
use Rattle.disk_definitions.specs.Written.{Cached}
use Rattle.dir_lookup.specs.Reading.{Lacks, Gives, reading}
use Rattle.dir_lookup.specs.Spots.{reply_of}
use Rattle.dir_lookup.specs.declared.spot.Refusal.{Refusal}
use Rattle.plan_steps.specs.declared.stop.Stop.{Stop}
use Rattle.plan_steps.specs.declared.stop.Stop.TheVariants as stop
use Rattle.plan_steps.specs.declared.target.Target.{Target as Found}

-- the node of a spot, or the reply
abbrev pub target_at : Spot → Result Target Reply
target_at s = at_spot s [] (λ r dirs. Err r) Ok

abbrev pub node_of : Found → Target
node_of t = record { inode = t.inode; kind = t.kind; dirs = [] }

abbrev pub target_of : Result Found Refusal → Result Target Reply
target_of (Ok t) = Ok (node_of t)
target_of (Err r) = Err (reply_of r)

-- each plan of the node that the path names goes on at this node, or is refused, or needs the sector
abbrev pub FindsTarget : Cached → Segments → List (List ℕ) → Result Found Stop → Type 0
FindsTarget cached held path (Ok t) =
    (dirs : List ℕ) × ((next : Target → Ask Plan) → reading (plan_of_node path next) cached held ≡ reading (next (record (node_of t) { dirs = dirs })) cached held)
FindsTarget cached held path (Err (stop.Refused r)) = (dirs : List ℕ) × ((next : Target → Ask Plan) → reading (plan_of_node path next) cached held ≡ Gives (refuse r dirs))
FindsTarget cached held path (Err (stop.Need s)) = (next : Target → Ask Plan) → reading (plan_of_node path next) cached held ≡ Lacks s.0
FindsTarget cached held path (Err stop.Segments) = ⊥
FindsTarget cached held path (Err (stop.Clear k)) = ⊥
FindsTarget cached held path (Err stop.NoMemory) = ⊥

-- each plan with the inode goes on with it, or is refused, or needs its sector
abbrev pub FindsInode : Cached → Segments → ℕ → Result Inode Stop → Type 0
FindsInode cached held i (Ok x) =
    (next : List ℕ → StoredNode → Ask Plan) (touched : List ℕ) → reading (ReadInode i (with_inode next touched)) cached held ≡ reading (next touched (stored x)) cached held
FindsInode cached held i (Err (stop.Refused r)) = (next : List ℕ → StoredNode → Ask Plan) (touched : List ℕ) → reading (ReadInode i (with_inode next touched)) cached held ≡ Gives (refuse r touched)
FindsInode cached held i (Err (stop.Need s)) = (next : List ℕ → StoredNode → Ask Plan) (touched : List ℕ) → reading (ReadInode i (with_inode next touched)) cached held ≡ Lacks s.0
FindsInode cached held i (Err stop.Segments) = ⊥
FindsInode cached held i (Err (stop.Clear k)) = ⊥
FindsInode cached held i (Err stop.NoMemory) = ⊥
