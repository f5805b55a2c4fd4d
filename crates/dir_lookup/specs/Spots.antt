-- What the code's places and spots are in the definitions of walks.
use Rattle.std.specs.Prelude.{ℕ, Bool, ◌==◌, if◌then◌else◌, Some, None, Result, Ok, Err, List, [], ◌∷◌, ◌++◌}
use Rattle.std.specs.List.{list_any}
use Rattle.frang_base.specs.declared.reply.Reply.{Reply}
use Rattle.frang_base.specs.declared.reply.Reply.TheVariants as reply
use Rattle.disk_definitions.specs.Store.{stored, entered}
use Rattle.disk_definitions.specs.Walks.{Spot, AtRoot, AtName, AtGap, Lost, Walked}
use Rattle.disk_definitions.specs.Walks as walks
use Rattle.dir_lookup.specs.declared.search.Found.{Found}
use Rattle.dir_lookup.specs.declared.spot.Refusal.{Refusal}
use Rattle.dir_lookup.specs.declared.spot.Refusal.TheVariants as refusal
use Rattle.dir_lookup.specs.declared.spot.Spot.{Spot as CodeSpot}
use Rattle.dir_lookup.specs.declared.spot.Spot.TheVariants as spot

-- a place with its entry, and a place without one
abbrev pub found_at : Found → walks.Found
found_at found = (found.place, Some (entered found.entry))

abbrev pub vacant_at : ℕ → walks.Found
vacant_at q = (q, None)

abbrev pub reply_of : Refusal → Reply
reply_of refusal.NoEnt = reply.NoEnt
reply_of refusal.NotDir = reply.NotDir

abbrev pub spot_of : CodeSpot → Spot
spot_of spot.AtRoot = AtRoot
spot_of (spot.AtName directory name found) = AtName directory.number (stored directory.inode) name found.place (entered found.entry)
spot_of (spot.AtGap directory name) = AtGap directory.number (stored directory.inode) name
spot_of (spot.Lost r) = Lost (reply_of r)

-- the name of the spot was looked up in this directory
abbrev pub walked_in : List ℕ → ℕ → Spot → Walked
walked_in dirs i AtRoot = record { spot = AtRoot; dirs = dirs }
walked_in dirs i (AtName number x name q e) = record { spot = AtName number x name q e; dirs = dirs ++ i ∷ [] }
walked_in dirs i (AtGap number x name) = record { spot = AtGap number x name; dirs = dirs ++ i ∷ [] }
walked_in dirs i (Lost r) = record { spot = Lost r; dirs = dirs }

-- the directory at which a walk goes on from a name on the way, or how it is refused
abbrev pub leads : Spot → Result ℕ Reply
leads AtRoot = Ok 0
leads (AtName i x name q e) = if e.kind == 2 then Ok e.inode else Err reply.NotDir
leads (AtGap i x name) = Err reply.NoEnt
leads (Lost r) = Err r

abbrev pub led_of : Result ℕ Refusal → Result ℕ Reply
led_of (Ok i) = Ok i
led_of (Err r) = Err (reply_of r)

-- the directory in which the last name was looked up
abbrev pub looked_in : ℕ → Spot → List ℕ
looked_in i AtRoot = []
looked_in i (AtName number x name q e) = i ∷ []
looked_in i (AtGap number x name) = i ∷ []
looked_in i (Lost r) = []

-- this inode is one of the directories
abbrev pub has_inode : ℕ → List ℕ → Bool
has_inode inode dirs = list_any (λ i. i == inode) dirs
