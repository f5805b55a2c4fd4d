-- What stands on a board of a record, and what a desk keeps of its hall and its board.
use Rattle.std.specs.Prelude.{◌≡◌, ◌⊎◌, ℕ, Option, List, [], ◌∷◌, ◌++◌, length, map, take}
use Rattle.frang_outside.specs.Outside.{State as Outside}
use Rattle.frang_board.specs.declared.figures.Figures.{Figures}
use Rattle.frang_board.specs.Boards.{Posted}
use Rattle.frang_board.specs.Figures.{IsRising, last_of}
use Rattle.core_definitions.specs.Effects.{Deed}
use Rattle.core_definitions.specs.Runs.{State as RunMoment}
use Rattle.hall_runs.specs.declared.event.End.{End}
use Rattle.hall_runs.specs.Keeping.{KeptAt}
use Rattle.hall_runs.specs.Outsets.{Outset}
use Rattle.frang_hall.specs.Halls.{Seen}
use Rattle.frang_hall.specs.Machines.{Stands}
use Rattle.watched_hall.specs.Counting.{figures_in}

-- the figures of prefixes of a record, of which none is shorter than one before it
pub record AreOfPrefixes (deeds : List Deed) (list : List Figures) : Type 0 where
  pub lengths : List ℕ
  pub rising : IsRising 0 lengths (length deeds)
  pub are : list ≡ map (λ k. figures_in (take k deeds)) lengths

-- such were published of a record, and the last are those of the whole; zeros where nothing was
pub record IsPosted (deeds : List Deed) (list : List Figures) : Type 0 where
  pub prefixes : AreOfPrefixes deeds list
  pub last : last_of list ≡ figures_in deeds

-- what a clause sees of a desk
pub record DeskSeen (M O : Type 0) : Type 0 where
  pub hall : Seen M O
  pub writer : Posted

-- what the type of a desk keeps: what the hall's does, and of the record of the same moment that its figures were published
pub record IsDesk (stands : Stands) (outset : Outset) (over : Option End) (said : ℕ) (out : Outside) (list : List Figures) : Type 0 where
  pub moment : RunMoment
  pub is : KeptAt stands outset moment over said out
  pub posted : IsPosted moment.record_ list

-- the board shows these figures: it did, or they were published
pub record IsPostedOn (old new : Posted) (figures : Figures) : Type 0 where
  pub board : new.board ≡ old.board
  pub last : last_of new.figures ≡ figures
  pub list : (new.figures ≡ old.figures) ⊎ (new.figures ≡ old.figures ++ figures ∷ [])
