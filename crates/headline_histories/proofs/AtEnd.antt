-- Where the end was said all servers are off, over every run.
use Rattle.std.proofs.Common.{ℕ, ◌≡◌, ◌||◌, Bool, true, false, IsTrue, Option, Some, None, List, [], ◌∷◌, ◌++◌, refl, sym, ◌∙◌, ap, subst}
use Rattle.std.proofs.lemmas.Bool.{and_parts, false≢true, ltb-true, or_left, or_right}
use Rattle.std.proofs.lemmas.List.Folds.{list_any-append}
use Rattle.std.specs.List.{list_any}
use Rattle.disk_definitions.proofs.Listed.{all_at, among_below}
use Rattle.frang_base.specs.declared.reply.Reply.{Reply}
use Rattle.frang_base.specs.declared.said.Said.{Said}
use Rattle.frang_base.specs.declared.said.Said.TheVariants as said
use Rattle.sector_bytes.specs.SectorMaps.{value_at}
use Rattle.sector_bytes.specs.Sectors.{Sectors}
use Rattle.tree_definitions.specs.Numbers.{below}
use Rattle.tree_definitions.specs.Transcript.{halts, is_end, is_over}
use Rattle.core_definitions.specs.Cores.{Core, due_at, stage}
use Rattle.core_definitions.specs.Effects.{after, deeds_of, deeds_of_arrival, reply_by, says_answer, says_recovered}
use Rattle.core_definitions.specs.EndGuards.{all_off}
use Rattle.core_definitions.specs.Events.{Event, Begin, Ask, Fetch, Again, Clear, Commit, Answer, Give, Issue, Doom, Resume, Arrive, Lose, Die, Renew, Tick, Recover, Load, Look, Finish, HostLine, Close, Read, Show, End, Heard, Nothing, Got, GetFailed, Written, Late, PutFailed}
use Rattle.core_definitions.specs.Flights.{Flight}
use Rattle.core_definitions.specs.LineGuards.{is_server}
use Rattle.core_definitions.specs.Lines.{Under}
use Rattle.core_definitions.specs.Recoveries.{Recovery}
use Rattle.core_definitions.specs.Runs.{State as RunMoment, Step, Event_, Enter, Hold, Flush, Relock, Note, Peek, PeekFails, Run, Stays, Goes, Makes, first_state, goes_on, is_note, saids_of}
use Rattle.core_definitions.specs.Scripts.{host_party}
use Rattle.core_definitions.specs.Servers.{is_off}
use Rattle.core_definitions.specs.Settings.{Setting}
use Rattle.core_laws.proofs.Along.{along}
use Rattle.core_laws.specs.Laws.{NothingFollowsTheEnd}
use Rattle.core_transcripts.specs.Ends.{EndIsTold}
use Rattle.core_transcripts.specs.Faults.{has_failed}
use Rattle.core_transcripts.specs.Transcripts.{IsNumbered}
use Rattle.core_transcripts.proofs.Running.{said_more}

abbrev ended : List Said → Bool
ended saids = list_any is_end saids

-- ---- what is said by an event

answer_no_end : (a : ℕ) (under : Option Under) (answer : Option Reply) → ended (saids_of (says_answer a under answer)) ≡ false
answer_no_end a None None = refl
answer_no_end a None (Some answer) = refl
answer_no_end a (Some under) None = refl
answer_no_end a (Some under) (Some answer) = refl

recovered_no_end : (c : Core) (recovery : Option Recovery) → ended (saids_of (says_recovered c recovery)) ≡ false
recovered_no_end c None = refl
recovered_no_end c (Some recovery) = refl

arrival_no_end : (now : ℕ) (heard : Heard) (flight : Option Flight) → ended (saids_of (deeds_of_arrival now heard flight)) ≡ false
arrival_no_end now heard None = refl
arrival_no_end now Nothing (Some flight) = refl
arrival_no_end now (Got block) (Some flight) = refl
arrival_no_end now GetFailed (Some flight) = refl
arrival_no_end now Written (Some flight) = refl
arrival_no_end now Late (Some flight) = refl
arrival_no_end now (PutFailed new) (Some flight) = refl

module _ (s : RunMoment) where
  abbrev c : Core
  c = s.core

  not_so : {P : Type 0} (b : Bool) → b ≡ false → b ≡ true → P
  not_so b f e = absurd (false≢true (sym f ∙ e))

  event_rests : (event : Event) (heard : Heard) → Makes s event heard → ended (saids_of (deeds_of c event heard)) ≡ true → all_off (after c event heard) ≡ true
  event_rests (Begin a) heard makes e = absurd (false≢true e)
  event_rests (Ask a lock mode) heard makes e = absurd (false≢true e)
  event_rests (Fetch a sector) heard makes e = absurd (false≢true e)
  event_rests (Again a) heard makes e = absurd (false≢true e)
  event_rests (Clear a block) heard makes e = absurd (false≢true e)
  event_rests (Commit a) heard makes e = not_so _ (answer_no_end a (c.servers a).under (reply_by (stage c a))) e
  event_rests (Answer a) heard makes e = not_so _ (answer_no_end a (c.servers a).under (due_at c a)) e
  event_rests (Give a lock) heard makes e = absurd (false≢true e)
  event_rests (Issue a sector) heard makes e = absurd (false≢true e)
  event_rests (Doom a) heard makes e = absurd (false≢true e)
  event_rests (Resume a) heard makes e = absurd (false≢true e)
  event_rests (Arrive ticket) heard makes e = not_so _ (arrival_no_end c.now heard (value_at c.flights ticket)) e
  event_rests (Lose ticket) heard makes e = absurd (false≢true e)
  event_rests (Die a) heard makes e = absurd (false≢true e)
  event_rests (Renew a) heard makes e = absurd (false≢true e)
  event_rests Tick heard makes e = absurd (false≢true e)
  event_rests (Recover dead by) heard makes e = absurd (false≢true e)
  event_rests (Load by slot) heard makes e = absurd (false≢true e)
  event_rests (Look by sector) heard makes e = absurd (false≢true e)
  event_rests (Finish by) heard makes e = not_so _ (recovered_no_end c (c.servers by).recovery) e
  event_rests (HostLine number) heard makes e = absurd (false≢true e)
  event_rests (Close a) heard makes e = absurd (false≢true e)
  event_rests (Read sector) heard makes e = absurd (false≢true e)
  event_rests (Show place) heard makes e = makes.can.can.read.off
  event_rests End heard makes e = makes.can.can.read.off

  note_no_end : (line : Said) → is_note line ≡ true → is_end line ≡ false
  note_no_end (said.Backup line) e = refl
  note_no_end (said.Locks line) e = refl
  note_no_end said.End e = absurd (false≢true e)
  note_no_end (said.Answer server n r) e = absurd (false≢true e)
  note_no_end (said.Dead server) e = absurd (false≢true e)
  note_no_end (said.Recovering server by) e = absurd (false≢true e)
  note_no_end (said.Recovered server kept) e = absurd (false≢true e)
  note_no_end (said.Renewed server) e = absurd (false≢true e)
  note_no_end (said.Node path kind size links) e = absurd (false≢true e)
  note_no_end (said.Redo number) e = absurd (false≢true e)
  note_no_end (said.Shown text) e = absurd (false≢true e)

  -- what was said before, or is
  said_now : (more : List Said) → ended (saids_of s.record_) ≡ false → ended (saids_of s.record_ ++ more) ≡ true → ended more ≡ true
  said_now more none e = go (ended (saids_of s.record_)) none (sym (list_any-append is_end (saids_of s.record_) more) ∙ e)
    where
      go : (b : Bool) → b ≡ false → (b || ended more) ≡ true → ended more ≡ true
      go true f h = absurd (false≢true (sym f))
      go false f h = h

  step_rests : (v : RunMoment) → Step s v → ended (saids_of s.record_) ≡ false → ended (saids_of v.record_) ≡ true → all_off v.core ≡ true
  step_rests v (Event_ event heard makes) none e =
      event_rests event heard makes (said_now (saids_of (deeds_of c event heard)) none (ap ended (sym (said_more s.record_ (deeds_of c event heard))) ∙ e))
  step_rests v (Enter a line can) none e = not_so _ none e
  step_rests v (Hold a on may) none e = not_so _ none e
  step_rests v (Flush a may) none e = not_so _ none e
  step_rests v (Relock locks going are same wait) none e = not_so _ none e
  step_rests v (Note line may) none e =
      let now = said_now (line ∷ []) none (ap ended (sym (said_more s.record_ _)) ∙ e) in
      absurd (false≢true (sym (note_no_end line (and_parts (is_note line) (goes_on c) may).0) ∙ one (is_end line) now))
    where
      one : (b : Bool) → (b || false) ≡ true → b ≡ true
      one true h = refl
      one false h = h
  step_rests v (Peek sector going) none e = not_so _ none e
  step_rests v (PeekFails sector going) none e = not_so _ none e

module _ (last : NothingFollowsTheEnd) (told : EndIsTold) (setting : Setting) (disk : Sectors) (numbered : IsNumbered setting.script) where
  over_at : (s : RunMoment) → Run (first_state setting disk) s → ended (saids_of s.record_) ≡ true → IsTrue s.core.over
  over_at s run e =
      told setting disk s run numbered
      ∙ or_left (is_over setting.script (saids_of s.record_)) (has_failed (first_state setting disk) s run host_party)
      (or_right (list_any (halts setting.script) (saids_of s.record_)) (ended (saids_of s.record_)) e)

  abbrev RestsAtEnd : RunMoment → Type 0
  RestsAtEnd s = ended (saids_of s.record_) ≡ true → all_off s.core ≡ true

  one_step : (s v : RunMoment) → Run (first_state setting disk) s → Step s v → RestsAtEnd s → RestsAtEnd v
  one_step s v run step rests = go (ended (saids_of s.record_)) refl
    where
      go : (b : Bool) → ended (saids_of s.record_) ≡ b → RestsAtEnd v
      go true e = subst RestsAtEnd (sym (last s v (over_at s run e) (Goes step Stays))) rests
      go false e = step_rests s v step e

  pub all_are_off : (s : RunMoment) → Run (first_state setting disk) s → ended (saids_of s.record_) ≡ true → all_off s.core ≡ true
  all_are_off s run = along setting disk RestsAtEnd one_step (λ e. absurd (false≢true e)) s run

pub each_off : (c : Core) → all_off c ≡ true → (a : ℕ) → IsTrue (is_server a) → is_off (c.servers a).phase ≡ true
each_off c all a server = all_at (λ a. is_off (c.servers a).phase) (below 16) all a (among_below 16 a (ltb-true a 16 server))
