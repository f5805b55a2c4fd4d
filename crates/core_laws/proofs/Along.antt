-- What each step keeps holds over every run; of the state before a step all that is known of runs may be cited.
use Rattle.sector_bytes.specs.Sectors.{Sectors}
use Rattle.core_definitions.specs.Settings.{Setting}
use Rattle.core_definitions.specs.Runs.{State, Step, Run, Stays, Goes, first_state}

-- a run, and a step more
pub longer : (s v w : State) → Run s v → Step v w → Run s w
longer s v w Stays step = Goes step Stays
longer s v w (Goes {v = u} first run) step = Goes first (longer u v w run step)

module _ (setting : Setting) (disk : Sectors) (P : State → Type 0) where
  abbrev pub Reached : State → Type 0
  Reached s = Run (first_state setting disk) s

  from : ((s v : State) → Reached s → Step s v → P s → P v) → (s v : State) → Reached s → P s → Run s v → P v
  from keeps s v before p Stays = p
  from keeps s w before p (Goes {v = v} step run) = from keeps v w (longer (first_state setting disk) s v before step) (keeps s v before step p) run

  pub along : ((s v : State) → Reached s → Step s v → P s → P v) → P (first_state setting disk) → (s : State) → Reached s → P s
  along keeps p s run = from keeps (first_state setting disk) s Stays p run
