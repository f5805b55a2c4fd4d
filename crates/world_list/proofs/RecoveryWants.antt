-- The loads, looks and writes that a recovery wants, kind by kind, are those of the core.
use Rattle.std.proofs.Common.{◌≡◌, ℕ, Bool, true, false, if◌then◌else◌, List, [], ◌∷◌, ◌++◌, Option, Some, None, map, refl, sym, ap, ◌∙◌}
use Rattle.std.specs.List.{flat_map}
use Rattle.std.proofs.lemmas.Grind.{flat_map-append}
use Rattle.std.proofs.lemmas.List.{append-nil}
use Rattle.sector_bytes.specs.Blocks.{Block}
use Rattle.core_definitions.specs.Cores.{Core}
use Rattle.core_definitions.specs.Enabled.{loads_for, looks_for, only_if}
use Rattle.core_definitions.specs.Events.{Load, Look}
use Rattle.core_definitions.specs.Recoveries.{Recovery, to_look}
use Rattle.core_definitions.specs.Settings.{disk_logs}
use Rattle.core_definitions.specs.Logs.{unread}
use Rattle.core_definitions.specs.WriteGuards.{is_worker}
use Rattle.log_slots.specs.Reading.{log_rules, unread_slots}
use Rattle.recovery_demon.specs.declared.next.Next.{Next}
use Rattle.recovery_demon.specs.declared.next.Next.TheVariants.{Done}
use Rattle.recovery_demon.specs.Recovering.{Recovering, all_wanted, behind_loads, end_of, greatest_kept, is_all_done, load, look, looks_wanted, write, write_sectors}
use Rattle.world_list.specs.Wanting.{load_of, look_of, written_of}

-- ---- kind by kind

module _ {E : Type 0} (f : Next → List E) where
  -- a kind that gives nothing, and one that gives one each
  none_of : (kind : ℕ → Next) → ((n : ℕ) → f (kind n) ≡ []) → (ns : List ℕ) → flat_map f (map kind ns) ≡ []
  none_of kind none [] = refl
  none_of kind none (n ∷ ns) = ap (λ es. es ++ flat_map f (map kind ns)) (none n) ∙ none_of kind none ns

  each_of : (kind : ℕ → Next) (made : ℕ → E) → ((n : ℕ) → f (kind n) ≡ made n ∷ []) → (ns : List ℕ) → flat_map f (map kind ns) ≡ map made ns
  each_of kind made one [] = refl
  each_of kind made one (n ∷ ns) = ap (λ es. es ++ flat_map f (map kind ns)) (one n) ∙ ap (λ es. made n ∷ es) (each_of kind made one ns)

  module _ (segments : ℕ) (recovery : Recovery) (issued : List (ℕ × Block)) where
    abbrev loads_ : List E
    loads_ = flat_map f (map load (unread_slots recovery.slots))

    abbrev looks_ : List E
    looks_ = flat_map f (map look (looks_wanted segments recovery))

    abbrev writes_ : List E
    writes_ = flat_map f (map write (write_sectors segments recovery issued))

    by_kind : flat_map f (all_wanted segments recovery issued) ≡ loads_ ++ (looks_ ++ writes_ ++ flat_map f (end_of segments recovery))
    by_kind =
        flat_map-append f (map load (unread_slots recovery.slots)) (behind_loads segments recovery issued)
        ∙ ap (λ es. loads_ ++ es) (flat_map-append f (map look (looks_wanted segments recovery) ++ map write (write_sectors segments recovery issued)) (end_of segments recovery)
        ∙ ap (λ es. es ++ flat_map f (end_of segments recovery)) (flat_map-append f (map look (looks_wanted segments recovery)) (map write (write_sectors segments recovery issued))))

    end_none : ((done : ℕ) → f (Done (record { 0 = done })) ≡ []) → flat_map f (end_of segments recovery) ≡ []
    end_none none = go (is_all_done segments recovery)
      where
        go : (b : Bool) → flat_map f (if b then Done (record { 0 = greatest_kept recovery }) ∷ [] else []) ≡ []
        go true = ap (λ es. es ++ []) (none (greatest_kept recovery))
        go false = refl

module _ (segments : ℕ) (recovery : Recovery) (issued : List (ℕ × Block)) where
  pub loads_wanted : (by : ℕ) → flat_map (load_of by) (all_wanted segments recovery issued) ≡ map (Load by) (unread_slots recovery.slots)
  loads_wanted by =
      by_kind (load_of by) segments recovery issued
      ∙ (λ j. each_of (load_of by) load (Load by) (λ n. refl) (unread_slots recovery.slots) j ++ (none_of (load_of by) look (λ n. refl) (looks_wanted segments recovery) j
      ++ none_of (load_of by) write (λ n. refl) (write_sectors segments recovery issued) j ++ end_none (load_of by) segments recovery issued (λ n. refl) j))
      ∙ append-nil (map (Load by) (unread_slots recovery.slots))

  pub looks_are_wanted : (by : ℕ) → flat_map (look_of by) (all_wanted segments recovery issued) ≡ map (Look by) (looks_wanted segments recovery)
  looks_are_wanted by =
      by_kind (look_of by) segments recovery issued
      ∙ (λ j. none_of (look_of by) load (λ n. refl) (unread_slots recovery.slots) j ++ (each_of (look_of by) look (Look by) (λ n. refl) (looks_wanted segments recovery) j
      ++ none_of (look_of by) write (λ n. refl) (write_sectors segments recovery issued) j ++ end_none (look_of by) segments recovery issued (λ n. refl) j))
      ∙ append-nil (map (Look by) (looks_wanted segments recovery) ++ []) ∙ append-nil (map (Look by) (looks_wanted segments recovery))

  pub writes_are_wanted : flat_map written_of (all_wanted segments recovery issued) ≡ write_sectors segments recovery issued
  writes_are_wanted =
      by_kind written_of segments recovery issued
      ∙ (λ j. none_of written_of load (λ n. refl) (unread_slots recovery.slots) j ++ (none_of written_of look (λ n. refl) (looks_wanted segments recovery) j
      ++ each_of written_of write (λ n. n) (λ n. refl) (write_sectors segments recovery issued) j ++ end_none written_of segments recovery issued (λ n. refl) j))
      ∙ append-nil (map (λ n. n) (write_sectors segments recovery issued)) ∙ itself (write_sectors segments recovery issued)
    where
      itself : (ns : List ℕ) → map (λ n. n) ns ≡ ns
      itself [] = refl
      itself (n ∷ ns) = ap (λ ms. n ∷ ms) (itself ns)

-- ---- the rows of a party

pub rules_are : disk_logs ≡ log_rules
unfolding log_rules
rules_are = refl

module _ (c : Core) (by : ℕ) (logs : c.setting.logs ≡ log_rules) where
  pub no_loads : (recovery : Option Recovery) → is_worker c by ≡ false → loads_for c by recovery ≡ []
  no_loads None off = refl
  no_loads (Some recovery) off = ap (λ b. map (Load by) (only_if b (unread c.setting.logs recovery.slots))) off

  pub no_looks : (recovery : Option Recovery) → is_worker c by ≡ false → looks_for c by recovery ≡ []
  no_looks None off = refl
  no_looks (Some recovery) off = ap (λ b. map (Look by) (only_if b (to_look c.setting.logs c.setting.segments recovery))) off

  pub its_loads : (r : Recovering) → is_worker c by ≡ true → loads_for c by (Some r.recovery) ≡ flat_map (load_of by) (all_wanted r.segments r.recovery r.issued)
  unfolding unread_slots
  its_loads r on =
      (λ j. map (Load by) (only_if (on j) (unread (logs j) r.recovery.slots))) ∙ sym (loads_wanted r.segments r.recovery r.issued by)

  pub its_looks : (r : Recovering) → is_worker c by ≡ true → r.segments ≡ c.setting.segments → looks_for c by (Some r.recovery) ≡ flat_map (look_of by) (all_wanted r.segments r.recovery r.issued)
  unfolding looks_wanted
  its_looks r on disk =
      (λ j. map (Look by) (only_if (on j) (to_look (logs j) (sym disk j) r.recovery))) ∙ sym (looks_are_wanted r.segments r.recovery r.issued by)
