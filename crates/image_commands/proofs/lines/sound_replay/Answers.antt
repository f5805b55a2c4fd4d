-- By whether the replayed disk stands for a tree.
use Rattle.std.proofs.Common.{[], sym, ◌∙◌, ◌≡◌, true, is_some, arith, rules}
use Rattle.std.proofs.lemmas.Bool.{false≢true}
use Rattle.disk_definitions.specs.Params.{param_in}
use Rattle.sector_bytes.specs.Sectors.{sectors_of}
use Rattle.image_commands.proofs.LineLaws.{has_param, none_told}
use Rattle.image_commands.proofs.lines.sound_replay.Goals as goal

pub stands-requires : goal.stands-requires
stands-requires g c =
    let h : is_some (param_in (sectors_of c.in_ok-new.new 0)) ≡ true = has_param c.args.disk c.in_ok-new.new [] c.in_ok-new.ensures c.requires in
    first_of (search (rules, h), assumption h, grind (arith, h))

pub returns-then-not-sound : goal.returns-then-not-sound
returns-then-not-sound g c = none_told c.args.disk c.in_ok-new.new [] c.in_ok-new.ensures (λ yes. false≢true (sym c.if-not-sound.true ∙ c.in_ok-sound.ensures.1 yes))

pub returns : goal.returns
returns g c = (c.in_ok-new.ensures, c.in_ok-sound.ensures.0 c.if-not-sound.false)
