-- The rows of the host's line and of its reading of the tree.
use Rattle.std.proofs.Common.{◌≡◌, ℕ, Bool, true, false, ◌&&◌, ◌==◌, length, nat_lt, List, [], ◌++◌, Option, Some, None, map, sym, ap, ◌∙◌}
use Rattle.frang_base.specs.declared.script.Line.{Line}
use Rattle.core_definitions.specs.Cores.{next_of, tree_lines}
use Rattle.core_definitions.specs.Enabled.{host_line, only, only_if}
use Rattle.core_definitions.specs.EndGuards.{is_at_rest, is_tree_read, may_host}
use Rattle.core_definitions.specs.Events.{End, Event, HostLine, Read, Show}
use Rattle.core_definitions.specs.Scripts.{host_party}
use Rattle.core_definitions.specs.Trees.{needed_sectors}
use Rattle.hall_runs.specs.declared.event.Event.{Event as Named}
use Rattle.host_tree.specs.Reading.{HostReading, needed}
use Rattle.world_list.specs.Going.{IsTreeOf}
use Rattle.world_list.specs.Listing.{Adds, AddsOf, events_of}
use Rattle.world_list.specs.Over.{core_over}
use Rattle.world_list.specs.Rows.{end_events, host_events, read_events, show_events}
use Rattle.world_list.proofs.Behind.{none_more}
use Rattle.world_state.specs.States.{State, core_at}

-- nothing where there is nothing
pub adds_none : (list : List Named) (events : List Event) → [] ≡ events → Adds list list events
adds_none list events none = none_more (events_of list) ∙ ap (λ es. events_of list ++ es) none

module _ (s : State) (old new : List Named) (next : Option Line) (is : next ≡ next_of (core_at s) host_party) where
  pub host_none : next ≡ None → AddsOf old old (host_events s)
  unfolding host_events
  host_none none tree = adds_none old (host_events s tree) (ap (host_line (core_over s tree)) (sym none ∙ is))

  pub host_some : (line : Line) → next ≡ Some line → Adds old new (only (may_host (core_at s) line.number) (HostLine line.number)) → AddsOf old new (host_events s)
  unfolding host_events
  host_some line some added tree = added ∙ ap (λ es. events_of old ++ es) (ap (host_line (core_over s tree)) (sym some ∙ is))

module _ (s : State) (tree : HostReading) (is : IsTreeOf s tree) where
  pub reads_on : is_at_rest (core_at s) ≡ true → map Read (needed tree.segments tree.read) ≡ read_events s tree
  unfolding needed read_events
  reads_on on = (λ j. map Read (only_if (sym on j) (needed_sectors (is.disk j) tree.read)))

  pub reads_off : is_at_rest (core_at s) ≡ false → [] ≡ read_events s tree
  unfolding read_events
  reads_off off = (λ j. map Read (only_if (sym off j) (needed_sectors s.parties.segments tree.read)))

module _ (s : State) (tree : HostReading) (may : Bool) (old new : List Named) where
  pub show_row : (place : ℕ) → place ≡ tree.shown → may ≡ (is_tree_read (core_over s tree) && nat_lt tree.shown (length (tree_lines (core_over s tree)))) → Adds old new (only may (Show place)) → Adds old new (show_events s tree)
  unfolding show_events
  show_row place at is added = added ∙ (λ j. events_of old ++ only (is j) (Show (at j)))

  pub end_row : may ≡ (is_tree_read (core_over s tree) && tree.shown == length (tree_lines (core_over s tree))) → Adds old new (only may End) → Adds old new (end_events s tree)
  unfolding end_events
  end_row is added = added ∙ ap (λ b. events_of old ++ only b End) is
