-- Where no sector is needed any more, the root's inode is read, and all that what was read shows to be needed.
use Rattle.std.proofs.Common.{ℕ, ◌≡◌, ◌⊎◌, inl, inr, ⊎_elim, Bool, true, false, not, if◌then◌else◌, Some, is_some, List, [], ◌∷◌, refl, sym, ◌∙◌, ap, subst}
use Rattle.std.specs.Prelude.{fold}
use Rattle.std.specs.BTreeMap.{is_at}
use Rattle.std.specs.List.{flat_map}
use Rattle.std.specs.Map.{keys_of}
use Rattle.std.specs.Ordering.{nat_cmp}
use Rattle.std.proofs.lemmas.Bool.{cases_eq}
use Rattle.tree_definitions.proofs.Pairs.{birth_exact, found_other, found_put, tie}
use Rattle.sector_bytes.specs.Blocks.{Block}
use Rattle.sector_bytes.specs.SectorMaps.{value_at}
use Rattle.disk_definitions.specs.Regions.{region_of}
use Rattle.disk_definitions.specs.Written.{ascending, with_number}
use Rattle.disk_definitions.proofs.Listed.{Among, among_filter, among_left, among_right}
use Rattle.core_definitions.specs.Trees.{TreeRead, inode_sector, needed_sectors, shown_by}

-- ---- numbers in order are the same numbers

number_kept : (sorted : List (ℕ × ℕ)) (numbers : List ℕ) (x : ℕ) → (is_some (value_at sorted x) ≡ true) ⊎ Among x numbers → is_some (value_at (fold with_number sorted numbers) x) ≡ true
number_kept sorted [] x (inl there) = there
number_kept sorted [] x (inr among) = absurd among
number_kept sorted (k ∷ numbers) x (inr (inr among)) = number_kept (with_number sorted k) numbers x (inr among)
number_kept sorted (k ∷ numbers) x (inr (inl same)) =
    number_kept (with_number sorted k) numbers x (inl (subst (λ z. is_some (value_at (with_number sorted k) z) ≡ true) (sym same) (ap is_some (found_put nat_cmp birth_exact sorted k 0))))
number_kept sorted (k ∷ numbers) x (inl there) = number_kept (with_number sorted k) numbers x (inl (⊎_elim
    (λ same. subst (λ z. is_some (value_at (with_number sorted k) z) ≡ true) (sym same) (ap is_some (found_put nat_cmp birth_exact sorted k 0)))
    (λ far. ap is_some (found_other nat_cmp birth_exact sorted k 0 x far) ∙ there) (cases_eq x k)))

key_there : {V : Type 0} (entries : List (ℕ × V)) (x : ℕ) → is_some (value_at entries x) ≡ true → Among x (keys_of entries)
key_there [] x some = absurd (cc)
key_there (e ∷ entries) x some = go (is_at (nat_cmp x) e.0) refl some (λ there. key_there entries x there)
  where
    go : (b : Bool) → is_at (nat_cmp x) e.0 ≡ b → is_some (if b then Some e.1 else value_at entries x) ≡ true → (is_some (value_at entries x) ≡ true → Among x (keys_of entries)) →
        Among x (e.0 ∷ keys_of entries)
    go true is there later = inl (tie nat_cmp birth_exact x e.0 is)
    go false is there later = inr (later there)

in_order : (numbers : List ℕ) (x : ℕ) → Among x numbers → Among x (ascending numbers)
in_order numbers x among = key_there (fold with_number [] numbers) x (number_kept [] numbers x (inr among))

-- ---- what is read

entry_there : (read : TreeRead) (s : ℕ) (block : Block) → value_at read s ≡ Some block → Among (s, block) read
entry_there [] s block e = absurd (cc)
entry_there (x ∷ read) s block e = go (is_at (nat_cmp s) x.0) refl e (λ there. entry_there read s block there)
  where
    go : (b : Bool) → is_at (nat_cmp s) x.0 ≡ b → (if b then Some x.1 else value_at read s) ≡ Some block → (value_at read s ≡ Some block → Among (s, block) read) → Among (s, block) (x ∷ read)
    go true is there later =
        let key : s ≡ x.0 = tie nat_cmp birth_exact s x.0 is in
        let value : x.1 ≡ block = cc in
        inl (ap (λ (k : ℕ). (k, block)) key ∙ ap (λ (v : Block). (x.0, v)) (sym value))
    go false is there later = inr (later there)

pub among_flat : {X Y : Type 0} (f : X → List Y) (xs : List X) (x : X) (y : Y) → Among x xs → Among y (f x) → Among y (flat_map f xs)
among_flat f [] x y here there = absurd here
among_flat f (z ∷ xs) x y (inl same) there = among_left y (f z) (flat_map f xs) (subst (λ k. Among y (f k)) same there)
among_flat f (z ∷ xs) x y (inr here) there = among_right y (f z) (flat_map f xs) (among_flat f xs x y here there)

module _ (segments : ℕ) (read : TreeRead) (none : needed_sectors segments read ≡ []) where
  known_read : (x : ℕ) → Among x (inode_sector 0 ∷ flat_map (λ entry. shown_by (region_of segments entry.0) entry.1) read) → is_some (value_at read x) ≡ true
  known_read x among = go (is_some (value_at read x)) refl
    where
      go : (b : Bool) → is_some (value_at read x) ≡ b → b ≡ true
      go true e = refl
      go false e =
          absurd (subst (Among x) none (among_filter (λ sector. not (is_some (value_at read sector)))
          (ascending (inode_sector 0 ∷ flat_map (λ entry. shown_by (region_of segments entry.0) entry.1) read)) x
          (in_order (inode_sector 0 ∷ flat_map (λ entry. shown_by (region_of segments entry.0) entry.1) read) x among) (ap not e)))

  pub root_read : is_some (value_at read (inode_sector 0)) ≡ true
  root_read = known_read (inode_sector 0) (inl refl)

  pub shown_read : (s : ℕ) (block : Block) (x : ℕ) → value_at read s ≡ Some block → Among x (shown_by (region_of segments s) block) → is_some (value_at read x) ≡ true
  shown_read s block x there among =
      known_read x (inr (among_flat (λ (entry : ℕ × Block). shown_by (region_of segments entry.0) entry.1) read (s, block) x (entry_there read s block there) among))
