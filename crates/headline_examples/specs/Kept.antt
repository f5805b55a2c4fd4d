-- A run of the core that is computed: a file is cut and synced, its server crashes, and the host recovers it. Its record keeps what is computed of the headline.
use Rattle.std.specs.Prelude.{◌≡◌, ◌+◌, ◌&&◌, ℕ, Bool, true, List, [], ◌∷◌, codes, length, refl}
use Rattle.std.specs.List.{list_all}
use Rattle.lock_definitions.specs.Locks.{no_clerks, no_logs}
use Rattle.lock_definitions.specs.Servers.{any_server}
use Rattle.sector_bytes.specs.Bytes.{zeros}
use Rattle.sector_bytes.specs.Changes.{changed}
use Rattle.tree_definitions.specs.declared.node.Node.TheVariants.{Dir, File}
use Rattle.tree_definitions.specs.History.{Opening}
use Rattle.tree_definitions.specs.Numbers.{below}
use Rattle.tree_definitions.specs.Resolve.{resolve}
use Rattle.tree_definitions.specs.Transcript.{IsTranscript, no_faults}
use Rattle.disk_definitions.specs.Frames.{frame_read}
use Rattle.disk_definitions.specs.Least.{least, least_from}
use Rattle.disk_definitions.specs.Resolving.{resolve as resolve_over}
use Rattle.core_examples.specs.Deaths.{kept_lines, kept_run, kept_says}
use Rattle.core_examples.specs.Driving.{filed_disk}
use Rattle.headline_definitions.specs.Beginning.{Beginning}
use Rattle.headline_definitions.specs.Headline.{say_greatest}
use Rattle.headline_definitions.specs.Ordered.{is_ordered}
use Rattle.headline_definitions.specs.Witnessed.{Witnessed, told}
use Rattle.headline_examples.specs.Writes.{is_kept_at, small_logs}

-- the root with an empty file
abbrev pub filed : Opening
filed = record { tree = record { segments = 1; nodes = (0, Dir ((codes "f", 1) ∷ []) 1) ∷ (1, File [] 1 0) ∷ [] }; dir_blocks = 1; run = 2 }

abbrev pub kept_beginning : Beginning
kept_beginning = record { script = kept_lines; opening = filed; disk = filed_disk; logs = small_logs }

pub kept_lines_are_said : IsTranscript kept_lines filed no_faults kept_says
unfolding resolve
kept_lines_are_said = (refl, (refl, (refl, (refl, (refl, (refl, (refl, ((refl, refl), ((refl, refl), ((refl, refl), tt))))))))))

-- what recoveries say, the order of writes, and the history and what a stop leaves of it at each prefix
abbrev pub keeps_what_is_computed : Beginning → List Witnessed → Bool
keeps_what_is_computed b witnessed =
    say_greatest b witnessed && is_ordered b.logs b.opening.tree.segments b.disk witnessed && list_all (is_kept_at b witnessed) (below (length witnessed + 1))

pub kept_run_keeps_the_headline : keeps_what_is_computed kept_beginning (told kept_run.end.record_) ≡ true
unfolding no_clerks no_logs any_server zeros resolve resolve_over least least_from changed frame_read
kept_run_keeps_the_headline = refl
