-- What the code's walks through links mean: exactly the definitions' walks, their trails with them.
use Rattle.std.specs.Prelude.{ℕ, Bool, true, false, ◌&&◌, ◌==◌, if◌then◌else◌, Some, None, Result, Ok, Err, List, [], ◌∷◌, ◌++◌}
use Rattle.frang_base.specs.declared.fault.PathFault.{PathFault}
use Rattle.frang_base.specs.declared.limits.TheConstants.{KIND_DIRECTORY, KIND_LINK}
use Rattle.frang_base.specs.declared.reply.Reply.TheVariants as reply
use Rattle.disk_definitions.specs.Store.{StoredEntry}
use Rattle.disk_definitions.specs.Walks.{Spot, AtRoot, AtName, AtGap, Lost}
use Rattle.disk_definitions.specs.Resolving.{PathEnd, Leads, Refused, Resolution}
use Rattle.dir_lookup.specs.declared.spot.Refusal.TheVariants as refusal
use Rattle.dir_lookup.specs.Reading.{Read, Lacks, Gives}
use Rattle.dir_lookup.specs.Spots.{reply_of}
use Rattle.namei.specs.declared.ending.PathEnd.{PathEnd as CodeEnd}
use Rattle.namei.specs.declared.ending.PathEnd.TheVariants as ends
use Rattle.namei.specs.declared.ending.Resolution.{Resolution as CodeResolution}
use Rattle.namei.specs.declared.ending.Walked.{Walked}
use Rattle.namei.specs.declared.ending.Walked.TheVariants as walked
use Rattle.namei.specs.declared.onward.Next.{Next}
use Rattle.namei.specs.declared.onward.Next.TheVariants as next
use Rattle.namei.specs.declared.targets.Way.{Way}
use Rattle.namei.specs.declared.targets.Way.TheVariants as way

-- ---- a walk that ended

abbrev pub end_of : CodeEnd → PathEnd
end_of (ends.At path kind) = Leads path kind
end_of ends.NoEnt = Refused reply.NoEnt
end_of ends.NotDir = Refused reply.NotDir
end_of ends.Loop = Refused reply.Loop

abbrev pub walk_of : CodeResolution → Resolution
walk_of walk = record { end = end_of walk.end; trail = walk.trail.items }

abbrev pub read_as : Walked → Read Resolution
read_as (walked.Need sector) = Lacks sector.0
read_as (walked.Ends walk) = Gives (walk_of walk)

-- a walk behind these nodes
abbrev pub after : List ℕ → Read Resolution → Read Resolution
after way (Lacks sector) = Lacks sector
after way (Gives walk) = Gives (record { end = walk.end; trail = way ++ walk.trail })

-- ---- how it goes on from a name

-- by what is done where a link is followed, and where a directory is gone into
abbrev pub next_as : Next → ℕ → (ℕ → Read Resolution) → (ℕ → Read Resolution) → List (List ℕ) → Read Resolution
next_as (next.Need sector) dir follow into here = Lacks sector.0
next_as (next.Lost r) dir follow into here = Gives (record { end = Refused (reply_of r); trail = [] })
next_as (next.Ends kind) dir follow into here = Gives (record { end = Leads here kind; trail = dir ∷ [] })
next_as (next.Into inode) dir follow into here = after (dir ∷ []) (into inode)
next_as (next.Follows link) dir follow into here = after (dir ∷ []) (follow link)
next_as (next.Stays r) dir follow into here = Gives (record { end = Refused (reply_of r); trail = dir ∷ [] })

-- at an entry, before the names that are left
abbrev pub entry_as : Bool → List (List ℕ) → StoredEntry → Next
entry_as last [] entry = if last && entry.kind == KIND_LINK then next.Follows entry.inode else next.Ends (Some entry.kind)
entry_as last (name ∷ names) entry =
    if entry.kind == KIND_LINK then next.Follows entry.inode else (if entry.kind == KIND_DIRECTORY then next.Into entry.inode else next.Stays refusal.NotDir)

-- at a name that isn't there
abbrev pub gap_as : List (List ℕ) → Next
gap_as [] = next.Ends None
gap_as (name ∷ names) = next.Stays refusal.NoEnt

-- at the spot of a name; where it was looked up in no directory, the walk is lost
abbrev pub spot_as : Bool → List (List ℕ) → Spot → Next
spot_as last names AtRoot = next.Lost refusal.NoEnt
spot_as last names (AtName dir directory name slot entry) = entry_as last names entry
spot_as last names (AtGap dir directory name) = gap_as names
spot_as last names (Lost reply.NotDir) = next.Lost refusal.NotDir
spot_as last names (Lost _) = next.Lost refusal.NoEnt

-- ---- where a target leads

-- by what is done from the root on, and from the directory that holds the link
abbrev pub way_as : Way → (List (List ℕ) → Read Resolution) → (List (List ℕ) → Read Resolution) → Read Resolution
way_as (way.Need sector) root here = Lacks sector.0
way_as way.Nowhere root here = Gives (record { end = Refused reply.NoEnt; trail = [] })
way_as (way.FromRoot names) root here = root names
way_as (way.FromHere names) root here = here names

-- the names of a target, before the names that are left
abbrev pub way_from : Bool → Result (List (List ℕ)) PathFault → List (List ℕ) → Way
way_from absolute (Err fault) names = way.Nowhere
way_from true (Ok inner) names = way.FromRoot (inner ++ names)
way_from false (Ok inner) names = way.FromHere (inner ++ names)
