-- Of the writes that a server wants, those of its log: only the first number not issued.
use Rattle.std.proofs.Common.{◌≡◌, ℕ, ◌⊎◌, inl, inr, ⊎_elim, Bool, true, false, if◌then◌else◌, List, [], ◌∷◌, ◌++◌, Option, Some, None, fold, nat_le, refl, sym, ap, ◌∙◌, subst}
use Rattle.std.proofs.lemmas.Cmp.{nat_cmp_total}
use Rattle.std.specs.BTreeMap.{is_at}
use Rattle.std.specs.List.{cons_option, filter_map}
use Rattle.std.specs.Option.{option_map}
use Rattle.std.specs.Ordering.{nat_cmp}
use Rattle.std.proofs.lemmas.Option.{same_Some}
use Rattle.disk_definitions.proofs.Listed.{Among, among_either}
use Rattle.lock_definitions.specs.Locks.{Locks}
use Rattle.sector_bytes.specs.Blocks.{Block}
use Rattle.sector_bytes.specs.SectorMaps.{value_at, with_value}
use Rattle.sector_bytes.proofs.MapLaws.{found}
use Rattle.sorted_entries.proofs.Sorted.{lookup-insert_entry}
use Rattle.cache_definitions.specs.declared.dirt.Dirt.{Dirt}
use Rattle.cache_definitions.specs.Caches.{CachedSector}
use Rattle.core_definitions.specs.Flights.{InPlace, OfLog, OfRecovery, Purpose}
use Rattle.core_definitions.specs.Lines.{Stage}
use Rattle.core_definitions.specs.Logs.{log_sector}
use Rattle.core_definitions.specs.Recoveries.{Recovery, recovery_writes}
use Rattle.core_definitions.specs.Rings.{next_write}
use Rattle.core_definitions.specs.Servers.{Server}
use Rattle.core_definitions.specs.Settings.{LogRules, Setting}
use Rattle.core_definitions.specs.Writes.{Write, Writes, is_place_wanted, log_wanted_to, log_write, place_write, place_writes, rescue_writes, wanted_writes}
use Rattle.core_laws.proofs.Membership.{FromMap, from_map}

abbrev entry_of : ℕ → Write → ℕ × Write
entry_of sector write = (sector, write)

-- what a map of a list of entries has is one of them
from_fold : (entries writes : Writes) (sector : ℕ) (write : Write) →
    value_at (fold (λ all entry. with_value all entry.0 entry.1) writes entries) sector ≡ Some write →
    Among {X = ℕ × Write} (sector, write) entries ⊎ (value_at writes sector ≡ Some write)
from_fold [] writes sector write e = inr e
from_fold (x ∷ xs) writes sector write e = ⊎_elim (λ i. inl (inr i)) (λ f. here (is_at (nat_cmp sector) x.0) refl (sym (lookup-insert_entry nat_cmp_total x.0 x.1 sector writes) ∙ f)) (from_fold xs (with_value writes x.0 x.1) sector write e)
  where
    pair : (one : ℕ × Write) → one.0 ≡ sector → one.1 ≡ write → one ≡ entry_of sector write
    pair one e f = λ i. (e i, f i)

    here : (b : Bool) → is_at (nat_cmp sector) x.0 ≡ b → (if b then Some x.1 else value_at writes sector) ≡ Some write →
        Among {X = ℕ × Write} (sector, write) (x ∷ xs) ⊎ (value_at writes sector ≡ Some write)
    here true k f = inl (inl (sym (pair x (found sector x.0 k) (same_Some x.1 write f))))
    here false k f = inr f

from_filter : {X Y : Type 0} (f : X → Option Y) (P : Y → Type 0) → ((x : X) (y : Y) → f x ≡ Some y → P y) → (xs : List X) (y : Y) → Among y (filter_map f xs) → P y
from_filter f P give [] y i = absurd i
from_filter {Y = Y} f P give (x ∷ xs) y i = go (f x) refl (from_filter f P give xs y) i
  where
    go : (o : Option Y) → f x ≡ o → (Among y (filter_map f xs) → P y) → Among y (cons_option o (filter_map f xs)) → P y
    go None e rest i = rest i
    go (Some z) e rest (inl same) = subst P (sym same) (give x z e)
    go (Some z) e rest (inr i) = rest i

abbrev is_of_log : Purpose → Bool
is_of_log (OfLog number) = true
is_of_log (InPlace cover) = false
is_of_log OfRecovery = false

-- those of a recovery and those in place aren't of the log
rescue_not : (logs : LogRules) (segments : ℕ) (recovery : Option Recovery) (one : ℕ × Write) → Among one (rescue_writes logs segments recovery) →
    is_of_log one.1.purpose ≡ false
rescue_not logs segments None one i = absurd i
rescue_not logs segments (Some recovery) one i =
    let m : FromMap (λ write. (write.0, record { behalf = recovery.dead; block = write.1; purpose = OfRecovery; mark = None })) (recovery_writes logs segments recovery) one =
    from_map (λ write. (write.0, record { behalf = recovery.dead; block = write.1; purpose = OfRecovery; mark = None })) (recovery_writes logs segments recovery) one i in
    ap (λ w. is_of_log w.1.purpose) (sym m.is)

place_not : (logs : LogRules) (locks : Locks) (number : ℕ) (server : Server) (at : Option Stage) (one : ℕ × Write) → Among one (place_writes logs locks number server at) →
    is_of_log one.1.purpose ≡ false
place_not logs locks number server at one i =
    from_filter (λ entry. option_map (λ write. (entry.0, write)) (place_write number (is_place_wanted logs locks number server at entry.0 entry.1) entry.1 entry.1.dirt)) (λ w. is_of_log w.1.purpose ≡ false)
    (λ entry w e. go entry.0 (is_place_wanted logs locks number server at entry.0 entry.1) entry.1 entry.1.dirt w e) server.cache one i
  where
    purpose_of : Option (ℕ × Write) → Bool
    purpose_of None = false
    purpose_of (Some w) = is_of_log w.1.purpose

    none_some : (w : ℕ × Write) → None ≡ Some w → is_of_log w.1.purpose ≡ false
    none_some w e = absurd (cc)

    go : (sector : ℕ) (wanted : Bool) (cached : CachedSector) (dirt : Option Dirt) (w : ℕ × Write) →
        option_map (λ write. (sector, write)) (place_write number wanted cached dirt) ≡ Some w → is_of_log w.1.purpose ≡ false
    go sector wanted cached None w e = none_some w e
    go sector false cached (Some dirt) w e = none_some w e
    go sector true cached (Some dirt) w e = ap purpose_of (sym e)

-- one of the log is of the first number not issued
pub record IsNextOfLog (logs : LogRules) (a : ℕ) (server : Server) (sector number : ℕ) : Type 0 where
  pub block : Block
  pub next : next_write server.ring ≡ Some (number, block)
  pub at : sector ≡ log_sector logs a number

pub next_of_log : (setting : Setting) (locks : Locks) (a : ℕ) (server : Server) (at : Option Stage) (sector : ℕ) (write : Write) (number : ℕ) →
    value_at (wanted_writes setting locks a server at) sector ≡ Some write → write.purpose ≡ OfLog number → IsNextOfLog setting.logs a server sector number
next_of_log setting locks a server at sector write number e p =
    ⊎_elim
    (λ i. ⊎_elim
    (λ j. ⊎_elim (λ k. absurd (not_log (rescue_not setting.logs setting.segments server.recovery one k))) (λ k. absurd (not_log (place_not setting.logs locks a server at one k)))
    (among_either one rescues places j))
    (λ j. of_log (next_write server.ring) refl j)
    (among_either one (rescues ++ places) (log_write setting.logs a (log_wanted_to setting.logs locks a server at) (next_write server.ring)) i))
    (λ f. absurd (none f))
    (from_fold (rescues ++ places ++ log_write setting.logs a (log_wanted_to setting.logs locks a server at) (next_write server.ring)) [] sector write e)
  where
    one : ℕ × Write
    one = (sector, write)

    rescues : Writes
    rescues = rescue_writes setting.logs setting.segments server.recovery

    places : Writes
    places = place_writes setting.logs locks a server at

    none : None ≡ Some write → ⊥
    none f = absurd (cc)

    not_log : is_of_log write.purpose ≡ false → ⊥
    not_log f = clash (sym (ap is_of_log p) ∙ f)
      where
        clash : true ≡ false → ⊥
        clash e = absurd (cc)

    number_of : Purpose → ℕ
    number_of (OfLog n) = n
    number_of (InPlace cover) = 0
    number_of OfRecovery = 0

    of_log : (next : Option (ℕ × Block)) → next_write server.ring ≡ next →
        Among {X = ℕ × Write} (sector, write) (log_write setting.logs a (log_wanted_to setting.logs locks a server at) next) → IsNextOfLog setting.logs a server sector number
    of_log None e i = absurd i
    of_log (Some (n, block)) e i = go (nat_le n (log_wanted_to setting.logs locks a server at)) i
      where
        go : (b : Bool) →
            Among {X = ℕ × Write} (sector, write) (if b then (log_sector setting.logs a n, record { behalf = a; block = block; purpose = OfLog n; mark = None }) ∷ [] else []) → IsNextOfLog setting.logs a server sector number
        go false i = absurd i
        go true (inr i) = absurd i
        go true (inl same) =
            let is_number : n ≡ number = sym (ap (λ w. number_of w.1.purpose) same) ∙ ap number_of p in
            record { block = block; next = e ∙ ap (λ m. Some (m, block)) is_number; at = ap (λ w. w.0) same ∙ ap (log_sector setting.logs a) is_number }
