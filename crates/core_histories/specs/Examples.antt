-- A moment at which what the laws ask of an answer is met; and what happened in a run of a few lines, told twice.
use Rattle.std.specs.Prelude.{◌≡◌, ◌||◌, ℕ, false, List, [], ◌∷◌}
use Rattle.frang_base.specs.declared.lock.LockId.TheVariants.{Node}
use Rattle.frang_base.specs.declared.op.Op.{Op}
use Rattle.frang_base.specs.declared.op.Op.TheVariants as op
use Rattle.frang_base.specs.declared.op.What.TheVariants.{Server}
use Rattle.frang_base.specs.declared.reply.Reply.{Reply}
use Rattle.frang_base.specs.declared.reply.Reply.TheVariants as reply
use Rattle.frang_base.specs.declared.said.Said.{Said}
use Rattle.frang_base.specs.declared.said.Said.TheVariants as said
use Rattle.frang_base.specs.declared.script.Line.{Line}
use Rattle.tree_definitions.specs.declared.history.Entry.{Entry}
use Rattle.tree_definitions.specs.Tree.{FileTree}
use Rattle.sector_bytes.specs.Blocks.{zero_block}
use Rattle.core_definitions.specs.Effects.{id_of}
use Rattle.core_definitions.specs.Events.{Answer, Begin, Nothing}
use Rattle.core_definitions.specs.Runs.{State as RunMoment, Makes, entered, first_state, next}
use Rattle.core_definitions.specs.Settings.{Setting, setting_of}
use Rattle.sector_world.specs.Kinds.{Good}
use Rattle.sector_world.specs.Steps as sectors
use Rattle.sector_world.specs.World.{World}
use Rattle.core_world.specs.Events.{first_world}
use Rattle.core_world.specs.Steps.{IsReached}
use Rattle.core_lives.specs.Idle.{begins_mount, ends_mount, tells_sync}
use Rattle.stop_laws.specs.Happened.{Happening, Covers, Mounts, Speaks}
use Rattle.core_histories.specs.Tellings.{IsTold, Tells, entry_of}
use Rattle.core_histories.specs.Told.{HasItsStory}

-- the line of server 0 with this number
abbrev pub line : ℕ → Op → Line
line number operation = record { number = number; who = id_of 0; what = Server operation }

-- ---- a sync at a server that is off

-- it has begun over a disk of zeros of one segment
abbrev pub begun_moment : RunMoment
begun_moment = next (entered (first_state (setting_of (line 1 op.Sync ∷ []) 1 1) (λ sector. zero_block)) 1) (Begin 0) Nothing

-- no sector has a version or is of a file
abbrev pub empty_world : World
empty_world = first_world (λ sector. zero_block) (λ sector. false) (λ sector. false) (λ sector. Node 0)

-- it is answered `down`: what the law of answers asks is met, and what happened is told on
pub record AnswersDown (when : ℕ → ℕ) (first_tree : FileTree) (numbers : List ℕ) : Type 0 where
  pub reached : IsReached begun_moment
  pub good : Good empty_world
  pub makes : Makes begun_moment (Answer 0) Nothing
  pub story : HasItsStory (begins_mount begun_moment.core 0) (ends_mount begun_moment.core 0 || tells_sync begun_moment.core 0) empty_world empty_world 0
  pub before : IsTold when first_tree numbers begun_moment empty_world
  pub told : IsTold when first_tree numbers (next begun_moment (Answer 0) Nothing) empty_world

abbrev pub DownIsTold : Type 0
DownIsTold = (when : ℕ → ℕ) (first_tree : FileTree) (numbers : List ℕ) → AnswersDown when first_tree numbers

-- ---- `0 stat /`, `0 mount`, `0 mount`, `0 sync`, `0 unmount`, `0 stat /`

abbrev pub lines_setting : Setting
lines_setting = setting_of (line 1 (op.Stat []) ∷ line 2 op.Mount ∷ line 3 op.Mount ∷ line 4 op.Sync ∷ line 5 op.Unmount ∷ line 6 (op.Stat []) ∷ []) 1 1

abbrev pub answered : ℕ → Reply → Said
answered number answer = said.Answer (id_of 0) number answer

abbrev pub lines_said : List Said
lines_said = answered 1 reply.Down ∷ answered 2 reply.Mounted ∷ answered 3 reply.Already ∷ answered 4 reply.Ok ∷ answered 5 reply.Ok ∷ answered 6 reply.Down ∷ []

-- the world after the sync and the unmount of the mount
abbrev pub lines_world : World
lines_world = sectors.after (sectors.after (sectors.after empty_world (sectors.Mount 0)) (sectors.Sync 0)) (sectors.Unmount 0)

abbrev pub entry : ℕ → Op → Reply → Entry
entry number operation answer = entry_of lines_setting 0 number operation answer

-- what happened, the newest first: that all is covered comes before the lines that say so
abbrev pub lines_happened : List Happening
lines_happened =
    Speaks (entry 6 (op.Stat []) reply.Down) ∷ Speaks (entry 5 op.Unmount reply.Ok) ∷ Covers 0 0 ∷ Speaks (entry 4 op.Sync reply.Ok) ∷ Covers 0 0 ∷ Speaks (entry 3 op.Mount reply.Already)
    ∷ Mounts 0 (entry 2 op.Mount reply.Mounted) ∷ Speaks (entry 1 (op.Stat []) reply.Down) ∷ []

-- it meets the record
pub record AreToldTwice (when : ℕ → ℕ) (first_tree : FileTree) (numbers : List ℕ) : Type 0 where
  pub told : Tells lines_setting when first_tree numbers lines_said lines_world
  pub happened : told.happened ≡ lines_happened

abbrev pub LinesAreToldTwice : Type 0
LinesAreToldTwice = (when : ℕ → ℕ) (first_tree : FileTree) (numbers : List ℕ) → AreToldTwice when first_tree numbers
