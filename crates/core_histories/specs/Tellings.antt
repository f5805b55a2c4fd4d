-- What the lines said by a run tell of its world's history: a list of what happened, told twice, as entries of the file tree and as what was done to sectors.
use Rattle.std.specs.Prelude.{ℕ, ◌≡◌, Bool, List}
use Rattle.frang_base.specs.declared.lock.LockId.{LockId}
use Rattle.frang_base.specs.declared.op.Op.{Op}
use Rattle.frang_base.specs.declared.reply.Reply.{Reply}
use Rattle.frang_base.specs.declared.said.Said.{Said}
use Rattle.tree_definitions.specs.declared.history.Entry.{Entry}
use Rattle.tree_definitions.specs.Live.{live_history, number_of, script_time, time_in}
use Rattle.tree_definitions.specs.Tree.{FileTree}
use Rattle.sector_bytes.specs.Sectors.{Sectors}
use Rattle.sector_world.specs.World.{World}
use Rattle.core_definitions.specs.Effects.{id_of}
use Rattle.core_definitions.specs.Runs.{State as RunMoment, first_state, saids_of}
use Rattle.core_definitions.specs.Settings.{Setting}
use Rattle.core_world.specs.Events.{first_world}
use Rattle.core_world.specs.Steps.{Telling}
use Rattle.stop_laws.specs.Happened.{Happening, on_sectors, on_tree}
use Rattle.stop_laws.specs.Paired.{ArePaired}
use Rattle.stop_laws.specs.Replies.{SaidWhereItHappened}
use Rattle.stop_laws.specs.Synced.{AllSaidAtOnce}

-- the entry of a server's line with this number, what it asks and the reply: numbered and timed by the run and its script
abbrev pub entry_of : Setting → (a number : ℕ) → Op → Reply → Entry
entry_of setting a number operation answer = record {
  server = id_of a;
  number = record { 0 = number_of setting.run number };
  when = time_in setting.run (script_time setting.script number);
  op = operation;
  reply = answer;
}

-- What happened: on the side of sectors the world's history, on the tree's side the history that the lines said tell. Each operation and its entry are of one line, what a recovery
-- keeps is kept since its server's last mount, each entry says what its operation showed where it happened, and those of syncs and unmounts come once all is synced. An operation is
-- said as it is done, so that no operation of the world's history waits for its line
pub record Tells (setting : Setting) (when : ℕ → ℕ) (first_tree : FileTree) (numbers : List ℕ) (saids : List Said) (w : World) : Type 0 where
  pub happened : List Happening
  pub sectors : on_sectors happened ≡ w.history
  pub lines : on_tree happened ≡ live_history setting.script setting.run saids
  pub paired : ArePaired setting.segments when w.opening first_tree numbers happened
  pub said : SaidWhereItHappened setting.segments when w.opening happened
  pub synced : AllSaidAtOnce happened

-- so it is a telling of the step law
abbrev pub telling_by : Setting → (ℕ → ℕ) → FileTree → List ℕ → Telling
telling_by setting when first_tree numbers = Tells setting when first_tree numbers

-- at a moment of a run, of the lines that it has said
abbrev pub IsTold : (ℕ → ℕ) → FileTree → List ℕ → RunMoment → World → Type 0
IsTold when first_tree numbers s w = Tells s.core.setting when first_tree numbers (saids_of s.record_) w

-- nothing has happened at the first moment
abbrev pub FirstMomentsAreTold : Type 0
FirstMomentsAreTold =
    (setting : Setting) (disk : Sectors) (logged of_files : ℕ → Bool) (home : ℕ → LockId) (when : ℕ → ℕ) (first_tree : FileTree) (numbers : List ℕ) →
    IsTold when first_tree numbers (first_state setting disk) (first_world disk logged of_files home)
