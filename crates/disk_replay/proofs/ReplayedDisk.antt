-- The changes of all logs laid over a disk, one log after another, and then the logs made zero, make the replayed disk.
use Rattle.std.proofs.Common.{◌≡◌, ℕ, ◌+◌, ◌<◌, ⊎_elim, true, nat_lt, if◌then◌else◌, Option, Some, None, List, [], ◌∷◌, ◌++◌, length, slice_index_or, refl, sym, ap, ◌∙◌, subst, arith, add-one, append-nil}
use Rattle.std.specs.List.{flat_map}
use Rattle.std.specs.Prelude.{IfSome, ◌≤◌}
use Rattle.std.proofs.lemmas.Bool.{and_from, cases_eq, lt-ltb}
use Rattle.std.proofs.lemmas.List.{get_or_append_left}
use Rattle.std.proofs.lemmas.List.Concat.{flat_map-append}
use Rattle.std.proofs.Math.Seq.{get_or-append_seam}
use Rattle.frang_base.specs.declared.change.Change.{Change}
use Rattle.frang_base.specs.declared.sector.OpNo.{OpNo}
use Rattle.disk_definitions.specs.declared.param.Param.{Param}
use Rattle.disk_definitions.specs.declared.region.Region.TheVariants as region
use Rattle.sector_bytes.specs.Bytes.{zeros}
use Rattle.disk_definitions.specs.Params.{param_in}
use Rattle.disk_definitions.specs.Regions.{region_of, sector_of}
use Rattle.disk_definitions.proofs.ParamLaws.{few_segments}
use Rattle.disk_definitions.proofs.RegionLaws.{region_found}
use Rattle.sector_bytes.specs.Sectors.{Sectors, SameSectors}
use Rattle.tree_definitions.specs.Numbers.{below}
use Rattle.disk_definitions.specs.Replay.{is_log, replayed, slots_of, with_logs}
use Rattle.disk_replay.specs.Laid.{changes_below, changes_in, greatest_at, greatest_kept, is_logged, laid_by, records_at, with_changes, without_logs, AreGreatest}
use Rattle.disk_replay.proofs.LaidChanges.{laid_more, nothing_laid}
use Rattle.disk_replay.proofs.LogsApart.{log_stays}
use Rattle.disk_replay.proofs.ReadSlots.{same_records}

-- ---- the logs stay while changes are laid

pub few : (block : List ℕ) (o : Option Param) → o ≡ param_in block → IfSome o (λ p. p.segments ≤ 64)
few block None e = tt
few block (Some p) e = few_segments block p (sym e)

stays : (o : Option Param) (s : Sectors) (changes : List Change) (sector : ℕ) → is_logged sector ≡ true → laid_by o s changes sector ≡ s sector
stays None s changes sector t = refl
stays (Some p) s changes sector t = log_stays p.segments changes s sector t

slot_logged : (server slot : ℕ) → server < 256 → slot < 256 → is_logged (sector_of (region.Log server slot)) ≡ true
unfolding is_logged
slot_logged server slot a b = ap is_log (region_found 64 (region.Log server slot) (omega arith) (and_from (nat_lt server 256) (nat_lt slot 256) (lt-ltb server 256 a) (lt-ltb slot 256 b)))

module _ (o : Option Param) (s old : Sectors) (changes : List Change) (server : ℕ) (l : server < 256) (same : SameSectors old (laid_by o s changes)) where
  records_stay : records_at old server ≡ records_at s server
  unfolding records_at
  records_stay = same_records (slots_of old server) (slots_of s server) (λ slot h. same (sector_of (region.Log server slot)) ∙ stays o s changes (sector_of (region.Log server slot)) (slot_logged server slot l h))

  greatest_stays : greatest_at old server ≡ greatest_at s server
  unfolding greatest_at
  greatest_stays = ap greatest_kept records_stay

-- ---- logs in order

no_logs : (s : Sectors) → changes_below s 0 ≡ []
unfolding changes_below
no_logs s = refl

next_log : (s : Sectors) (server : ℕ) → changes_below s (server + 1) ≡ changes_below s server ++ changes_in (records_at s server)
unfolding changes_below records_at
next_log s server =
    let of_log = λ (n : ℕ). changes_in (records_at s n) in
    ap (λ k. flat_map of_log (below k)) (add-one server) ∙ flat_map-append of_log (below server) (server ∷ []) ∙ ap (λ cs. flat_map of_log (below server) ++ cs) (append-nil (of_log server))

pub first_laid : (o : Option Param) (s : Sectors) → SameSectors s (laid_by o s (changes_below s 0))
first_laid None s sector = refl
first_laid (Some p) s sector = nothing_laid p.segments s sector ∙ ap (λ cs. with_changes p.segments s cs sector) (sym (no_logs s))

pub next_laid : (o : Option Param) (s old new : Sectors) (server : ℕ) → server < 256 → SameSectors old (laid_by o s (changes_below s server)) → SameSectors new (laid_by o old (changes_in (records_at old server))) → SameSectors new (laid_by o s (changes_below s (server + 1)))
next_laid None s old new server l h made = λ sector. made sector ∙ h sector
next_laid (Some p) s old new server l h made =
    laid_more p.segments s old new (changes_below s server) (changes_in (records_at old server)) (changes_below s (server + 1))
    (next_log s server ∙ ap (λ rs. changes_below s server ++ changes_in rs) (sym (records_stay (Some p) s old (changes_below s server) server l h))) made h

pub next_greatest : (o : Option Param) (s old : Sectors) (server : ℕ) (kept : List (Option OpNo)) (held : Option OpNo) → server < 256 → SameSectors old (laid_by o s (changes_below s server)) → length kept ≡ server → AreGreatest server s kept → held ≡ greatest_at old server
    → AreGreatest (server + 1) s (kept ++ held ∷ [])
next_greatest o s old server kept held l same e are is n d less =
    let own : held ≡ greatest_at s server = is ∙ greatest_stays o s old (changes_below s server) server l same in
    let there : slice_index_or (kept ++ held ∷ []) server d ≡ held = ap (λ k. slice_index_or (kept ++ held ∷ []) k d) (sym e) ∙ get_or-append_seam kept held [] d in
    ⊎_elim
    (λ at. subst (λ (k : ℕ). slice_index_or (kept ++ held ∷ []) k d ≡ greatest_at s k) (sym at) (there ∙ own))
    (λ other. let under : n < server = omega arith in get_or_append_left kept (held ∷ []) d n (subst (λ m. n < m) (sym e) under) ∙ are n d under)
    (cases_eq n server)

-- ---- the whole

by_parameters : (s : Sectors) (o : Option Param) → param_in (s 0) ≡ o → (sector : ℕ) → (if is_logged sector then zeros 512 else with_logs o s sector) ≡ replayed s sector
unfolding is_logged
by_parameters s o e sector = ap (λ (p : Option Param). if is_log (region_of 64 sector) then zeros 512 else with_logs p s sector) (sym e)

laid_is : (o : Option Param) (s : Sectors) (sector : ℕ) → laid_by o s (changes_below s 256) sector ≡ with_logs o s sector
unfolding with_changes changes_below
laid_is None s sector = refl
laid_is (Some p) s sector = refl

-- the changes of all logs laid by the parameters, and then the logs made zero
pub erased_is_replayed : (s laid new : Sectors) (o : Option Param) → o ≡ param_in (s 0) → SameSectors laid (laid_by o s (changes_below s 256)) → SameSectors new (without_logs laid) → SameSectors new (replayed s)
unfolding without_logs
erased_is_replayed s laid new o e h made sector =
    made sector ∙ ap (λ block. if is_logged sector then zeros 512 else block) (h sector ∙ laid_is o s sector) ∙ by_parameters s o (sym e) sector
