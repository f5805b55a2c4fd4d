-- What a recovery is seen to want is what is kept of its replay; and where not all slots are read, only loads are wanted.
use Rattle.std.proofs.Common.{◌≡◌, ℕ, Bool, true, false, not, ◌&&◌, if◌then◌else◌, cond, List, [], ◌∷◌, ◌++◌, append-nil, filter, map, Option, Some, None, is_some, nat_le, refl, sym, arith, ap, ◌∙◌}
use Rattle.std.proofs.lemmas.Map.Entries.{lookup-filter-keys}
use Rattle.std.specs.BTreeMap.{is_at}
use Rattle.std.specs.Map.{keys_of}
use Rattle.std.proofs.lemmas.Bool.Decides.{nat_tests}
use Rattle.std.specs.Option.{option_map}
use Rattle.std.specs.Ordering.{is_le, nat_cmp}
use Rattle.ordered_map.specs.Entries.{first_from}
use Rattle.sector_bytes.specs.Blocks.{Block}
use Rattle.sector_bytes.specs.SectorMaps.{value_at}
use Rattle.sector_bytes.proofs.MapLaws.{found}
use Rattle.disk_definitions.specs.Written.{ascending}
use Rattle.core_definitions.specs.Logs as logs
use Rattle.core_definitions.specs.Logs.{SlotsRead, is_none, is_read, is_sealed_by, log_sector, seal_block}
use Rattle.core_definitions.specs.Recoveries.{Recovery, is_replay_done, is_seal_done, named_sectors, recovery_writes, redos, replay_writes, seals_from, to_look}
use Rattle.recovery_demon.specs.declared.next.Next.TheVariants as next
use Rattle.recovery_demon.specs.Inside.{IsTied, replay_end, replay_wants}
use Rattle.recovery_demon.specs.Recovering.{behind_loads, end_of, first_sector_from, greatest_kept, is_all_done, log_redos, look, looks_wanted, write, write_sectors, writes_wanted}
use Rattle.recovery_demon.specs.Replays.{Replaying, is_over, left_of, looked_writes}
use Rattle.log_slots.specs.Reading.{are_all_read, log_rules}
use Rattle.log_slots.proofs.Maps.{ascending_member, ascending_sorted, keys_member, same_lists}
use Rattle.recovery_demon.proofs.Meaning.{greatest_is, looks_are, through_is, writes_are}

module _ (dead segments : ℕ) (slots : SlotsRead) (r : Replaying) (tied : IsTied dead segments slots r) where
  -- the recovery that is seen
  abbrev R : Recovery
  R = record { dead = dead; slots = slots; looked = r.looked; written = r.written }

  pub seen_looks : keys_of r.looks ≡ looks_wanted segments (record { dead = dead; slots = slots; looked = r.looked; written = r.written })
  unfolding looks_wanted
  seen_looks = looks_are dead segments slots r tied

  pub seen_writes : (s : ℕ) → value_at r.waiting s ≡ value_at (writes_wanted segments (record { dead = dead; slots = slots; looked = r.looked; written = r.written }) r.flying) s
  unfolding writes_wanted
  seen_writes s =
      tied.kept.nearly.waiting s ∙ ap (λ o. if is_some (value_at r.flying s) then None else o) (sym (writes_are dead segments slots r tied s))
      ∙ turned (is_some (value_at r.flying s)) (value_at (recovery_writes log_rules segments R) s)
      ∙ sym (lookup-filter-keys (is_at (nat_cmp s)) (λ k. not (is_some (value_at r.flying k))) (not (is_some (value_at r.flying s))) (λ k h. ap (λ n. not (is_some (value_at r.flying n))) (found s k h)) (recovery_writes log_rules segments R))
    where
      turned : (b : Bool) (o : Option Block) → (if b then None else o) ≡ cond (not b) o None
      turned true o = refl
      turned false o = refl

  pub seen_sectors : keys_of r.waiting ≡ write_sectors segments (record { dead = dead; slots = slots; looked = r.looked; written = r.written }) r.flying
  unfolding write_sectors
  seen_sectors = same_lists (keys_of r.waiting) (ascending (keys_of (writes_wanted segments R r.flying))) tied.kept.nearly.ordered.waiting (ascending_sorted (keys_of (writes_wanted segments R r.flying)))
      (λ s. keys_member r.waiting s ∙ ap is_some (seen_writes s) ∙ sym (keys_member (writes_wanted segments R r.flying) s) ∙ sym (ascending_member (keys_of (writes_wanted segments R r.flying)) s))

  pub seen_done : is_over r.stage ≡ is_all_done segments (record { dead = dead; slots = slots; looked = r.looked; written = r.written })
  unfolding is_all_done
  seen_done = sym (through_is dead segments slots r tied)

  pub seen_greatest : r.greatest ≡ greatest_kept (record { dead = dead; slots = slots; looked = r.looked; written = r.written })
  unfolding greatest_kept log_redos
  seen_greatest = sym (greatest_is dead segments slots r tied)

  -- the list
  pub seen_wants : replay_wants r ≡ behind_loads segments (record { dead = dead; slots = slots; looked = r.looked; written = r.written }) r.flying
  seen_wants =
      ap (λ ks. map look ks ++ map write (keys_of r.waiting) ++ replay_end r) seen_looks
      ∙ ap (λ ks. map look (looks_wanted segments R) ++ map write ks ++ replay_end r) seen_sectors
      ∙ ap (λ b. map look (looks_wanted segments R) ++ map write (write_sectors segments R r.flying) ++ (if b then next.Done (record { 0 = r.greatest }) ∷ [] else [])) seen_done
      ∙ ap (λ g. map look (looks_wanted segments R) ++ map write (write_sectors segments R r.flying) ++ (if is_all_done segments R then next.Done (record { 0 = g }) ∷ [] else [])) seen_greatest

-- ---- where not all slots are read

module _ (segments : ℕ) (recovery : Recovery) (unread : are_all_read recovery.slots ≡ false) where
  is_unread : is_read log_rules recovery.slots ≡ false
  unfolding are_all_read
  is_unread = unread

  no_look : to_look log_rules segments recovery ≡ []
  no_look = go (is_read log_rules recovery.slots) is_unread (filter (λ sector. not (is_some (value_at recovery.looked sector))) (named_sectors segments (redos log_rules recovery)))
    where
      go : (b : Bool) → b ≡ false → (xs : List ℕ) → (if b then xs else []) ≡ []
      go b e xs = ap (λ c. if c then xs else []) e

  undone : is_replay_done log_rules segments recovery ≡ false
  undone = ap (λ b. b && is_none (to_look log_rules segments recovery) && is_none (replay_writes recovery)) is_unread

  pub no_looks : looks_wanted segments recovery ≡ []
  unfolding looks_wanted
  no_looks = no_look

  pub not_done : is_all_done segments recovery ≡ false
  unfolding is_all_done
  not_done = ap (λ b. b && is_seal_done log_rules recovery) undone

  module _ (issued : List (ℕ × Block)) (nothing : recovery.looked ≡ []) where
    no_write : recovery_writes log_rules segments recovery ≡ []
    no_write =
        ap (λ b. replay_writes recovery ++ map (λ number. (log_sector log_rules recovery.dead number, seal_block number)) (if b && not (is_sealed_by log_rules recovery.slots) then seals_from log_rules recovery (logs.end_of log_rules recovery.slots) else [])) undone
        ∙ append-nil (replay_writes recovery)
        ∙ ap (λ looked. left_of (looked_writes looked) recovery.written) nothing

    pub no_writes : writes_wanted segments recovery issued ≡ []
    unfolding writes_wanted
    no_writes = ap (filter (λ write. not (is_some (value_at issued write.0)))) no_write

    pub no_sectors : write_sectors segments recovery issued ≡ []
    unfolding write_sectors
    no_sectors = ap (λ ws. ascending (keys_of ws)) no_writes

    pub no_wants : behind_loads segments recovery issued ≡ []
    no_wants =
        ap (λ xs. map look xs ++ map write (write_sectors segments recovery issued) ++ end_of segments recovery) no_looks
        ∙ ap (λ xs. map write xs ++ end_of segments recovery) no_sectors
        ∙ ap (λ b. if b then next.Done (record { 0 = greatest_kept recovery }) ∷ [] else []) not_done

-- the first that isn't below one, of entries and of their keys
pub first_keys : {V : Type 0} (es : List (ℕ × V)) (from : ℕ) → option_map (λ e. e.0) (first_from nat_cmp es from) ≡ first_sector_from (keys_of es) from
first_keys [] from = refl
first_keys (e ∷ es) from = go (is_le (nat_cmp from e.0)) (nat_le from e.0) (same from e.0) (first_keys es from)
  where
    same : (a b : ℕ) → is_le (nat_cmp a b) ≡ nat_le a b
    same a b = grind (arith, nat_tests)

    go : (a b : Bool) → a ≡ b → option_map (λ e. e.0) (first_from nat_cmp es from) ≡ first_sector_from (keys_of es) from →
        option_map (λ x. x.0) (if a then Some e else first_from nat_cmp es from) ≡ (if b then Some e.0 else first_sector_from (keys_of es) from)
    go true b same rest = ap (λ c. if c then Some e.0 else first_sector_from (keys_of es) from) same
    go false b same rest = rest ∙ ap (λ c. if c then Some e.0 else first_sector_from (keys_of es) from) same
