-- What an answer says of a walk through links: where it leads, without its trail.
use Rattle.frang_base.specs.declared.reply.Reply.{Reply}
use Rattle.frang_base.specs.declared.reply.Reply.TheVariants as reply
use Rattle.disk_definitions.specs.Resolving.{PathEnd, Leads, Refused, Resolution}
use Rattle.dir_lookup.specs.Reading.{Read, Lacks, Gives}
use Rattle.namei.specs.declared.resolving.Resolved.{Resolved}
use Rattle.namei.specs.declared.resolving.Resolved.TheVariants as resolved

-- how a walk was refused: by a node that is no directory, by a link too many, or by a name that isn't there
abbrev pub refused_as : Reply → Resolved
refused_as reply.NotDir = resolved.NotDir
refused_as reply.Loop = resolved.Loop
refused_as _ = resolved.NoEnt

abbrev pub end_as : PathEnd → Resolved
end_as (Leads path kind) = resolved.At path
end_as (Refused r) = refused_as r

abbrev pub resolved_as : Read Resolution → Resolved
resolved_as (Lacks sector) = resolved.Need (record { 0 = sector })
resolved_as (Gives walk) = end_as walk.end
