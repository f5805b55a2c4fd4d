-- The code's phases, armings and plain answers as those of the core.
use Rattle.frang_base.specs.declared.reply.Reply.{Reply}
use Rattle.frang_base.specs.declared.reply.Reply.TheVariants as reply
use Rattle.core_definitions.specs.Servers as core
use Rattle.server_core.specs.declared.answers.PlainAnswer.{PlainAnswer}
use Rattle.server_core.specs.declared.answers.PlainAnswer.TheVariants as plain
use Rattle.server_core.specs.declared.phase.Arming.{Arming}
use Rattle.server_core.specs.declared.phase.Fate.{Fate}
use Rattle.server_core.specs.declared.phase.Phase.{Phase}
use Rattle.server_core.specs.declared.phase.Phase.TheVariants.{Off, Up, Still, Doomed, Dead}

abbrev pub fate_of : Fate → core.Fate
fate_of fate = record { loses = fate.loses; owes = fate.owes }

abbrev pub phase_of : Phase → core.Phase
phase_of Off = core.Off
phase_of Up = core.Up
phase_of Still = core.Still
phase_of (Doomed fate) = core.Doomed (fate_of fate)
phase_of Dead = core.Dead

abbrev pub arming_of : Arming → core.Arming
arming_of arming = record { k = arming.k; cuts = arming.cuts }

abbrev pub reply_of : PlainAnswer → Reply
reply_of plain.Ok = reply.Ok
reply_of plain.Mounted = reply.Mounted
reply_of plain.Already = reply.Already
reply_of plain.Down = reply.Down
reply_of plain.Expired = reply.Expired
reply_of plain.Io = reply.Io
