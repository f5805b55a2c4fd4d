-- At each sector the write of the log counts first, then one in place, then one of a recovery.
use Rattle.std.proofs.Common.{◌≡◌, ℕ, Bool, true, false, if◌then◌else◌, [], ◌∷◌, ◌++◌, Option, Some, None, nat_le, refl, ap, ◌∙◌}
use Rattle.std.specs.Option.{option_or}
use Rattle.sector_bytes.specs.Blocks.{Block}
use Rattle.sector_bytes.specs.SectorMaps.{Ascend, value_at}
use Rattle.lock_definitions.specs.Locks.{Locks}
use Rattle.log_slots.specs.Reading.{log_rules}
use Rattle.core_definitions.specs.Lines.{Stage}
use Rattle.core_definitions.specs.Flights.{OfLog}
use Rattle.core_definitions.specs.Logs.{log_sector}
use Rattle.core_definitions.specs.Rings.{next_write}
use Rattle.core_definitions.specs.Servers.{Server}
use Rattle.core_definitions.specs.Settings.{LogRules}
use Rattle.core_definitions.specs.Writes.{Write, is_place_wanted, log_wanted_to, log_write, place_write, place_writes, rescue_writes}
use Rattle.server_writes.specs.Lists.{write_at}
use Rattle.server_issues.specs.Doubled.{last_at}
use Rattle.server_issues.specs.Laws.{TheLogCountsFirst}
use Rattle.server_issues.proofs.Doubled.{folded, last-append, last-made, or_none}

-- of the log there is one at most
log_once : (logs : LogRules) (number upto : ℕ) (next : Option (ℕ × Block)) (s : ℕ) → last_at (log_write logs number upto next) s ≡ value_at (log_write logs number upto next) s
log_once logs number upto None s = refl
log_once logs number upto (Some next) s = go (nat_le next.0 upto)
  where
    one : Write
    one = record { behalf = number; block = next.1; purpose = OfLog next.0; mark = None }

    go : (b : Bool) → last_at (if b then (log_sector logs number next.0, one) ∷ [] else []) s ≡ value_at (if b then (log_sector logs number next.0, one) ∷ [] else []) s
    go true = refl
    go false = refl

pub the_log_counts_first : TheLogCountsFirst
the_log_counts_first setting locks number server stage s =
    let rescues = rescue_writes setting.logs setting.segments server.recovery in
    let places = place_writes setting.logs locks number server stage in
    let logged = log_write setting.logs number (log_wanted_to setting.logs locks number server stage) (next_write server.ring) in
    folded (rescues ++ places ++ logged) [] s ∙ or_none (last_at (rescues ++ places ++ logged) s)
    ∙ last-append (rescues ++ places) logged s ∙ ap (option_or (last_at logged s)) (last-append rescues places s)
    ∙ ap (λ o. option_or o (option_or (last_at places s) (last_at rescues s))) (log_once setting.logs number (log_wanted_to setting.logs locks number server stage) (next_write server.ring) s)

-- in place there is one at most where the cache ascends
pub place_once : (locks : Locks) (number : ℕ) (server : Server) (stage : Option Stage) (s : ℕ) → Ascend server.cache
    → last_at (place_writes log_rules locks number server stage) s ≡ write_at locks number server stage s
place_once locks number server stage s sorted =
    last-made (λ entry. place_write number (is_place_wanted log_rules locks number server stage entry.0 entry.1) entry.1 entry.1.dirt) server.cache s sorted
