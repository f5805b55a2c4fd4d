-- Of records that replay as those of the world the names follow: what they don't name a replay leaves.
use Rattle.std.proofs.Common.{◌≡◌, ◌⊎◌, ℕ, Bool, true, false, if◌then◌else◌, IsTrue, is_some, List, [], ◌∷◌, fold, Some, le_refl, refl, sym, ap, ◌∙◌, inl, inr, ⊎_elim}
use Rattle.std.proofs.lemmas.Bool.{cases_eq, false≢true}
use Rattle.std.specs.BTreeMap.{is_at}
use Rattle.std.specs.List.{Contains}
use Rattle.std.specs.Map.{keys_of}
use Rattle.std.specs.Ordering.{nat_cmp}
use Rattle.frang_base.specs.declared.change.Redo.{Redo}
use Rattle.frang_base.proofs.Tests.{at_only}
use Rattle.disk_definitions.proofs.Listed.{Among, among_filter}
use Rattle.disk_definitions.specs.Regions.{region_of}
use Rattle.disk_definitions.specs.Replay.{is_replayed}
use Rattle.disk_definitions.specs.ReplayedBlocks.{replayed_block}
use Rattle.disk_definitions.specs.Written.{ascending, with_number}
use Rattle.sector_bytes.specs.Blocks.{Block, version_of}
use Rattle.sector_bytes.specs.Replays.{redo_all, redone}
use Rattle.sector_bytes.specs.SectorMaps.{value_at, with_value}
use Rattle.core_definitions.specs.Recoveries.{named_sectors}
use Rattle.core_laws.proofs.Membership.{in_contains}
use Rattle.sector_world.specs.Guards.{NoneNames, to_replay}
use Rattle.core_recoveries.proofs.Acknowledged.{put_elsewhere, put_in}
use Rattle.core_recoveries.proofs.Sweeping.{named_or, redo_sectors}
use Rattle.core_recoveries.specs.Reads.{NamesFollow}

-- ---- numbers in order

still_there : (ns : List ℕ) (sorted : List (ℕ × ℕ)) (x : ℕ) → is_some (value_at sorted x) ≡ true → is_some (value_at (fold with_number sorted ns) x) ≡ true
still_there [] sorted x e = e
still_there (n ∷ ns) sorted x e = still_there ns (with_number sorted n) x (go (cases_eq x n))
  where
    go : (x ≡ n) ⊎ (x ≡ n → ⊥) → is_some (value_at (with_value sorted n 0) x) ≡ true
    go (inl i) = ap is_some (ap (value_at (with_value sorted n 0)) i ∙ put_in sorted n 0)
    go (inr i) = ap is_some (put_elsewhere sorted n 0 x i) ∙ e

comes_in : (ns : List ℕ) (sorted : List (ℕ × ℕ)) (x : ℕ) → Among x ns → is_some (value_at (fold with_number sorted ns) x) ≡ true
comes_in [] sorted x i = absurd i
comes_in (n ∷ ns) sorted x (inl e) = still_there ns (with_number sorted n) x (ap is_some (ap (value_at (with_value sorted n 0)) e ∙ put_in sorted n 0))
comes_in (n ∷ ns) sorted x (inr i) = comes_in ns (with_number sorted n) x i

key_there : (entries : List (ℕ × ℕ)) (x : ℕ) → is_some (value_at entries x) ≡ true → Among x (keys_of entries)
key_there [] x e = absurd (false≢true e)
key_there (entry ∷ entries) x e = go (is_at (nat_cmp x) entry.0) refl e (key_there entries x)
  where
    go : (b : Bool) → is_at (nat_cmp x) entry.0 ≡ b → is_some (if b then Some entry.1 else value_at entries x) ≡ true → (is_some (value_at entries x) ≡ true → Among x (keys_of entries)) →
        Among x (keys_of (entry ∷ entries))
    go true f i rest = inl (at_only x entry.0 f)
    go false f i rest = inr (rest i)

ascends : (ns : List ℕ) (x : ℕ) → Among x ns → Among x (ascending ns)
ascends ns x i = key_there (fold with_number [] ns) x (comes_in ns [] x i)

-- ---- what isn't named

left_alone : (records : List Redo) (s : ℕ) (block : Block) → NoneNames records s → replayed_block records s block ≡ block
left_alone [] s block n = refl
left_alone (r ∷ rs) s block n = ap (replayed_block rs s) (ap (λ o. redone o block) n.0) ∙ left_alone rs s block n.1

pub names_follow : NamesFollow
names_follow segments w d records reads replayed s = ⊎_elim (λ n. inl n) (λ of. inr (go of (named_or records s))) (replayed s)
  where
    go : IsTrue (is_replayed (region_of segments s)) → Among s (redo_sectors records) ⊎ NoneNames records s →
        Contains (named_sectors segments records) s ⊎ (redo_all (to_replay w d) s (w.disk s) ≡ w.disk s)
    go of (inl i) = inl (in_contains (named_sectors segments records) s
        (among_filter (λ sector. is_replayed (region_of segments sector)) (ascending (redo_sectors records)) s (ascends (redo_sectors records) s i) of))
    go of (inr n) = inr (sym (reads s (w.disk s) (le_refl (version_of (w.disk s)))) ∙ left_alone records s (w.disk s) n)
