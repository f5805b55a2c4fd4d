-- A turn keeps a desk: the record goes on, and the board shows what it comes to.
use Rattle.std.proofs.Common.{◌≡◌, ◌∙◌, ◌⊎◌, inl, inr, ℕ, List, [], ◌∷◌, ◌++◌, Option, Result, refl, sym, ap, subst, arith, append-nil, append_assoc}
use Rattle.frang_base.specs.declared.fault.NoMemory.{NoMemory}
use Rattle.frang_base.specs.declared.said.Said.{Said}
use Rattle.frang_outside.specs.Outside.{State as Outside}
use Rattle.frang_board.specs.declared.figures.Figures.{Figures}
use Rattle.frang_board.specs.Boards.{Posted}
use Rattle.frang_board.specs.Figures.{AtMost, last_of, zeros}
use Rattle.core_definitions.specs.Cores.{Core}
use Rattle.core_definitions.specs.Effects.{Deed, Says, deeds_of}
use Rattle.core_definitions.specs.Events.{Event}
use Rattle.core_definitions.specs.Runs.{State as RunMoment, Step, Run, Stays, Goes, Event_, Enter, Hold, Flush, Relock, Note, Peek, PeekFails, entered}
use Rattle.hall_runs.specs.declared.event.End.{End}
use Rattle.hall_runs.specs.declared.event.Turn.{Turn}
use Rattle.hall_runs.specs.Gates.{IsToEnter}
use Rattle.hall_runs.specs.Keeping.{Kept, KeptAt}
use Rattle.hall_runs.specs.Outsets.{Outset}
use Rattle.hall_runs.specs.Turning.{Entered, Turned}
use Rattle.frang_hall.specs.Machines.{Stands}
use Rattle.watched_hall.specs.Counting.{Counts, figures_in}
use Rattle.watched_hall.specs.Desks.{IsDesk, IsPosted, IsPostedOn}
use Rattle.watched_hall.proofs.Prefixes.{last_push, posted_none, posted_on, record_grows}

-- ---- the record of a run goes on

pub record GoesOn (before after : List Deed) : Type 0 where
  pub more : List Deed
  pub is : after ≡ before ++ more

same_record : (deeds : List Deed) → GoesOn deeds deeds
same_record deeds = record { more = []; is = sym (append-nil deeds) }

step_on : (s v : RunMoment) → Step s v → GoesOn s.record_ v.record_
step_on s v (Event_ event heard makes) = record { more = deeds_of s.core event heard; is = refl }
step_on s v (Enter a line can) = same_record s.record_
step_on s v (Hold a on can) = same_record s.record_
step_on s v (Flush a can) = same_record s.record_
step_on s v (Relock locks can are same wait) = same_record s.record_
step_on s v (Note line may) = record { more = Says line ∷ []; is = refl }
step_on s v (Peek sector can) = same_record s.record_
step_on s v (PeekFails sector can) = same_record s.record_

both_on : (a b c : List Deed) → GoesOn a b → GoesOn b c → GoesOn a c
both_on a b c f g = record { more = f.more ++ g.more; is = g.is ∙ ap (λ d. d ++ g.more) f.is ∙ append_assoc a f.more g.more }

pub run_on : (s v : RunMoment) → Run s v → GoesOn s.record_ v.record_
run_on s v Stays = same_record s.record_
run_on s v (Goes {v = u} step run) = both_on s.record_ u.record_ v.record_ (step_on s u step) (run_on u v run)

-- ---- a turn

module _ (before after : Stands) (old new : Figures) (outset : Outset) (given : List ℕ) (over over' : Option End) (said said' : ℕ) (s t : Outside) where
  -- what a turn leaves: of a moment, whose record goes on from the desk's
  pub record TurnsDesk (list : List Figures) : Type 0 where
    pub first : RunMoment
    pub posted : IsPosted first.record_ list
    pub moment : RunMoment
    pub is : KeptAt (Counts after new) outset moment over' said' t
    pub on : GoesOn first.record_ moment.record_

  pub turns : (chosen : Core → Event → Type 0) (worker : ℕ) (result : Result Turn NoMemory) (list : List Figures) → IsDesk (Counts before old) outset over said s list
      → Turned chosen (Counts before old) (Counts after new) outset given worker over said s over' said' t result → TurnsDesk list
  turns chosen worker result list desk turned =
      let to = turned desk.moment desk.is in
      record { first = desk.moment; posted = desk.posted; moment = to.moment; is = to.is; on = run_on desk.moment to.moment to.run }

  -- what it comes to then is in no number below what the board shows
  pub turned_up : (list : List Figures) → TurnsDesk list → AtMost (last_of list) new
  turned_up list to =
      subst (λ f. AtMost f new) (sym to.posted.last)
      (subst (λ f. AtMost (figures_in to.first.record_) f) (sym (to.is.stands_for.1 ∙ ap figures_in to.on.is)) (record_grows to.first.record_ to.on.more))

  -- and once the board shows it, the desk is kept
  pub kept_on : (writer writer' : Posted) → TurnsDesk writer.figures → IsPostedOn writer writer' new → IsDesk (Counts after new) outset over' said' t writer'.figures
  kept_on writer writer' to on = record {
    moment = to.moment;
    is = to.is;
    posted =
        subst (λ d. IsPosted d writer'.figures) (sym to.on.is)
        (posted_on to.first.record_ to.on.more writer writer' new to.posted (to.is.stands_for.1 ∙ ap figures_in to.on.is) on);
  }

-- ---- a line passes the gate

-- the record is as it was
pub passes : (before after : Stands) (old new : Figures) (outset : Outset) (given : List ℕ) (line : ℕ) (over : Option End) (said : ℕ) (s : Outside) (list : List Figures) → IsDesk (Counts before old) outset over said s list
    → Entered (Counts before old) (Counts after new) outset given line over said s → IsDesk (Counts after new) outset over said s list
passes before after old new outset given line over said s list desk enters =
    let to = enters desk.moment desk.is in
    record { moment = to.moment; is = to.is; posted = subst (λ d. IsPosted d list) (sym (go to.moment to.passed)) desk.posted }
  where
    go : (v : RunMoment) → ((v ≡ entered desk.moment line) × ((a : ℕ) × IsToEnter desk.moment.core given line a)) ⊎ ((v ≡ desk.moment) × ((a : ℕ) → IsToEnter desk.moment.core given line a → ⊥))
        → v.record_ ≡ desk.moment.record_
    go v (inl passed) = ap (λ (r : RunMoment). r.record_) passed.0
    go v (inr same) = ap (λ (r : RunMoment). r.record_) same.0

-- ---- the board

pub posted_new : (old new : Posted) (f : Figures) → new ≡ record old { figures = old.figures ++ f ∷ [] } → IsPostedOn old new f
posted_new old new f is =
    subst (λ w. IsPostedOn old w f) (sym is) (record { board = refl; last = last_push zeros old.figures f; list = inr refl })

pub posted_still : (writer : Posted) (f : Figures) → f ≡ last_of writer.figures → IsPostedOn writer writer f
posted_still writer f is = record { board = refl; last = sym is; list = inl refl }

pub zeros_least : (f : Figures) → AtMost zeros f
zeros_least f = (omega arith, omega arith, omega arith, omega arith)

-- of a hall whose board is new
pub begins : (stands : Stands) (figures : Figures) (outset : Outset) (over : Option End) (said : ℕ) (s : Outside) (old new : Posted) → Kept (Counts stands figures) outset over said s → old.figures ≡ [] → IsPostedOn old new figures
    → IsDesk (Counts stands figures) outset over said s new.figures
begins stands figures outset over said s old new kept none on = record {
  moment = kept.moment;
  is = kept.is;
  posted = posted_on [] kept.moment.record_ old new figures (subst (IsPosted []) (sym none) posted_none) kept.is.stands_for.1 on;
}
