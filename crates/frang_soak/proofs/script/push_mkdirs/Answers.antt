-- Each server adds its line.
use Rattle.frang_soak.specs.Scripts.{mkdir_line}
use Rattle.frang_soak.proofs.OneMore.{begun, pushed}
use Rattle.frang_soak.proofs.script.push_mkdirs.Goals as goal

pub loop-server-init : goal.loop-server-init
loop-server-init c = begun mkdir_line _

pub loop-server-preserved : goal.loop-server-preserved
loop-server-preserved c = pushed mkdir_line c.loop-server.server _ _ _ c.loop-server.invariant c.in_ok-push_mkdir.ensures
