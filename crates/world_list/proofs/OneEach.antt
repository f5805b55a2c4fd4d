-- Rows that have one event of a party at most, by a test.
use Rattle.std.proofs.Common.{◌≡◌, ℕ, Bool, List, ◌++◌, ap, ◌∙◌}
use Rattle.core_definitions.specs.Cores.{stage, writes}
use Rattle.core_definitions.specs.Enabled.{only}
use Rattle.core_definitions.specs.EndGuards.{may_close, may_finish}
use Rattle.core_definitions.specs.Events.{Again, Answer, Begin, Close, Commit, Die, Doom, Finish, Renew, Resume}
use Rattle.core_definitions.specs.LineGuards.{may_again, may_answer, may_begin, may_commit}
use Rattle.core_definitions.specs.WriteGuards.{may_die, may_doom, may_renew, may_resume}
use Rattle.hall_runs.specs.declared.event.Event.{Event as Named}
use Rattle.world_list.specs.Listing.{Adds, AddsOf, events_of}
use Rattle.world_list.specs.Rows.{party_events}
use Rattle.world_list.specs.declared.row.Row.TheVariants as rows
use Rattle.world_state.specs.States.{State, core_at}

module _ (s : State) (a : ℕ) (may : Bool) (old new : List Named) where
  pub begin_row : may ≡ may_begin (core_at s) a → Adds old new (only may (Begin a)) → AddsOf old new (party_events s rows.Begins a)
  unfolding party_events
  begin_row is added tree = added ∙ ap (λ b. events_of old ++ only b (Begin a)) is

  pub again_row : may ≡ may_again (core_at s) a (stage (core_at s) a) → Adds old new (only may (Again a)) → AddsOf old new (party_events s rows.Agains a)
  unfolding party_events
  again_row is added tree = added ∙ ap (λ b. events_of old ++ only b (Again a)) is

  pub commit_row : may ≡ may_commit (core_at s) a (stage (core_at s) a) → Adds old new (only may (Commit a)) → AddsOf old new (party_events s rows.Commits a)
  unfolding party_events
  commit_row is added tree = added ∙ ap (λ b. events_of old ++ only b (Commit a)) is

  pub answer_row : may ≡ may_answer (core_at s) a → Adds old new (only may (Answer a)) → AddsOf old new (party_events s rows.Answers a)
  unfolding party_events
  answer_row is added tree = added ∙ ap (λ b. events_of old ++ only b (Answer a)) is

  pub doom_row : may ≡ may_doom (core_at s) a (writes (core_at s) a) → Adds old new (only may (Doom a)) → AddsOf old new (party_events s rows.Dooms a)
  unfolding party_events
  doom_row is added tree = added ∙ ap (λ b. events_of old ++ only b (Doom a)) is

  pub resume_row : may ≡ may_resume (core_at s) a → Adds old new (only may (Resume a)) → AddsOf old new (party_events s rows.Resumes a)
  unfolding party_events
  resume_row is added tree = added ∙ ap (λ b. events_of old ++ only b (Resume a)) is

  pub die_row : may ≡ may_die (core_at s) a → Adds old new (only may (Die a)) → AddsOf old new (party_events s rows.Dies a)
  unfolding party_events
  die_row is added tree = added ∙ ap (λ b. events_of old ++ only b (Die a)) is

  pub renew_row : may ≡ may_renew (core_at s) a → Adds old new (only may (Renew a)) → AddsOf old new (party_events s rows.Renews a)
  unfolding party_events
  renew_row is added tree = added ∙ ap (λ b. events_of old ++ only b (Renew a)) is

  pub finish_row : may ≡ may_finish (core_at s) a → Adds old new (only may (Finish a)) → AddsOf old new (party_events s rows.Finishes a)
  unfolding party_events
  finish_row is added tree = added ∙ ap (λ b. events_of old ++ only b (Finish a)) is

  pub close_row : may ≡ may_close (core_at s) a → Adds old new (only may (Close a)) → AddsOf old new (party_events s rows.Closes a)
  unfolding party_events
  close_row is added tree = added ∙ ap (λ b. events_of old ++ only b (Close a)) is
