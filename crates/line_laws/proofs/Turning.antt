-- One line after another.
use Rattle.std.proofs.Common.{◌≡◌, ◌<◌, ◌+◌, ◌*◌, suc, List, [], ◌∷◌, length, refl, ◌∙◌, ap, arith}
use Rattle.frang_base.specs.declared.limits.TheConstants.{RUN_VERSIONS_MAX}
use Rattle.tree_definitions.specs.Tree.{FileTree}
use Rattle.sector_bytes.specs.Sectors.{Sectors}
use Rattle.disk_definitions.specs.declared.param.Param.{Param}
use Rattle.disk_definitions.specs.OnDisk.{StandsBelow, FinishStands}
use Rattle.line_laws.specs.Onward.{IsOnward}
use Rattle.line_laws.specs.Turns.{Turn, Finishing, disk_left, performed, GoOn, LinesGoOn}
use Rattle.line_laws.proofs.Going.{goes_on, answers, next_below}

module _ (sectors : Sectors) (tree : FileTree) (turn : Turn) (below : StandsBelow sectors tree) (is : Finishing sectors tree turn) where
  first : IsOnward sectors tree below (disk_left sectors turn) (performed sectors tree turn).tree
  first = goes_on turn.cached turn.held turn.all sectors tree is.of_disk below turn.birth turn.when _ turn.operation turn.finish is.allowed is.new is.birth is.time refl is.met

  said : FinishStands turn.cached turn.held sectors (performed sectors tree turn) turn.finish
  said = answers turn.cached turn.held turn.all sectors tree is.of_disk below turn.birth turn.when _ turn.operation turn.finish is.allowed is.new is.birth is.time refl is.met

  one_more : (turns : List Turn) (room : below.most + 1 < RUN_VERSIONS_MAX * below.stands.param.run) →
      GoOn (disk_left sectors turn) (performed sectors tree turn).tree (next_below sectors tree below (disk_left sectors turn) (performed sectors tree turn).tree first room) turns → GoOn sectors tree below (turn ∷ turns)
  one_more turns room rest = record {
    answers = (said.answer, rest.answers);
    after = rest.after;
    param = rest.param ∙ first.param;
    most = let e : below.most + 1 + length turns ≡ below.most + suc (length turns) = omega arith in rest.most ∙ e;
  }

pub lines_go_on : LinesGoOn
lines_go_on sectors tree [] below left turns = record { answers = tt; after = below; param = refl; most = omega arith }
lines_go_on sectors tree (turn ∷ turns) below left is =
    let all : below.most + suc (length turns) < RUN_VERSIONS_MAX * below.stands.param.run = left in
    let room : below.most + 1 < RUN_VERSIONS_MAX * below.stands.param.run = omega arith in
    let now = first sectors tree turn below is.0 in
    let runs : RUN_VERSIONS_MAX * now.stands.param.run ≡ RUN_VERSIONS_MAX * below.stands.param.run = ap (λ (p : Param). RUN_VERSIONS_MAX * p.run) now.param in
    one_more sectors tree turn below is.0 turns room
    (lines_go_on (disk_left sectors turn) (performed sectors tree turn).tree turns (next_below sectors tree below (disk_left sectors turn) (performed sectors tree turn).tree now room) (omega arith) is.1)
