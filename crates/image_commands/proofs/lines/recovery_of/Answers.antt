-- By whether the replayed disk stands for a tree, after the lines of its logs.
use Rattle.std.proofs.Common.{sym, ◌∙◌, subst, ◌≡◌, true, is_some, arith, rules}
use Rattle.std.proofs.lemmas.Bool.{false≢true}
use Rattle.frang_base.specs.declared.limits.TheConstants.{LOGS}
use Rattle.disk_definitions.specs.Params.{param_in}
use Rattle.sector_bytes.specs.Sectors.{sectors_of}
use Rattle.disk_replay.specs.Laid.{AreGreatest}
use Rattle.image_commands.specs.Lines.{recovered_below}
use Rattle.image_commands.proofs.LineLaws.{has_param, none_told}
use Rattle.image_commands.proofs.lines.recovery_of.Goals as goal

pub stands-requires : goal.stands-requires
stands-requires g c =
    let h : is_some (param_in (sectors_of c.in_ok-replay.replay.disk 0)) ≡ true = has_param c.args.disk c.in_ok-replay.replay.disk (recovered_below (sectors_of c.args.disk) LOGS) c.in_ok-replay.ensures.disk c.requires in
    first_of (search (rules, h), assumption h, grind (arith, h))

pub returns-then-not-sound : goal.returns-then-not-sound
returns-then-not-sound g c =
    none_told c.args.disk c.in_ok-replay.replay.disk (recovered_below (sectors_of c.args.disk) LOGS) c.in_ok-replay.ensures.disk (λ yes. false≢true (sym c.if-not-sound.true ∙ c.in_ok-sound.ensures.1 yes))

pub returns : goal.returns
returns g c = (
  (c.in_ok-replay.ensures.disk, c.in_ok-sound.ensures.0 c.if-not-sound.false),
  c.in_ok-before.ensures (sectors_of c.args.disk) (subst (AreGreatest LOGS (sectors_of c.args.disk)) (sym c.deref.ensures.value) c.in_ok-replay.ensures.greatest),
)
