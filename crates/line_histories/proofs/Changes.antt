-- The changes of edits, sector by sector: one where an edit of a sector with a version has this sector and one of its bytes changes, of the next version.
use Rattle.std.proofs.Common.{ℕ, ◌≡◌, ◌+◌, Bool, true, false, nat_eq, if◌then◌else◌, Option, Some, None, List, [], ◌∷◌, refl, sym, ap, ◌∙◌, subst}
use Rattle.std.specs.Prelude.{fold}
use Rattle.std.specs.List.{filter_map, cons_option, Contains}
use Rattle.std.specs.Map.{keys_of}
use Rattle.std.specs.Ordering.{nat_cmp, match_ordering}
use Rattle.std.specs.declared.cmp.Ordering.{Ordering}
use Rattle.std.specs.declared.cmp.Ordering.TheVariants.{Less, Equal, Greater}
use Rattle.std.proofs.lemmas.Bool.{eq-eqb, eqb-true}
use Rattle.plan_laws.proofs.Filled.{filter_from}
use Rattle.frang_base.specs.declared.change.Change.{Change}
use Rattle.frang_base.specs.declared.change.Patch.{Patch}
use Rattle.frang_base.specs.Functions.{member}
use Rattle.sector_bytes.specs.Patches.{patches_with}
use Rattle.sector_bytes.specs.Replays.{change_at}
use Rattle.sector_bytes.specs.Sectors.{Sectors}
use Rattle.tree_definitions.proofs.Pairs.{birth_exact}
use Rattle.disk_definitions.specs.Standing.{version_at}
use Rattle.disk_definitions.specs.Edits.{Edit}
use Rattle.disk_definitions.specs.Written.{edit_sector, all_edited, is_metadata, metadata_sector, with_number, ascending, change_by, change_of, changes_of, forced_in}
use Rattle.plan_fit.proofs.LaidOver.{change_sector}
use Rattle.line_histories.proofs.Lists.{member_has}

-- ---- sorted numbers are those that were put there

abbrev or_first : Bool → Bool → Bool
or_first a b = if a then true else b

swap : (a b c : Bool) → or_first a (or_first b c) ≡ or_first b (or_first a c)
swap true true c = refl
swap true false c = refl
swap false true c = refl
swap false false c = refl

twice : (a c : Bool) → or_first a c ≡ or_first a (or_first a c)
twice true c = refl
twice false c = refl

module _ (s : ℕ) where
  key_member : (sorted : List (ℕ × ℕ)) (n : ℕ) → member s (keys_of (with_number sorted n)) ≡ or_first (nat_eq n s) (member s (keys_of sorted))
  key_member [] n = refl
  key_member (x ∷ sorted) n = go (key_member sorted n) (nat_cmp n x.0) refl
    where
      equal : (a b : ℕ) → nat_cmp a b ≡ Equal → a ≡ b
      equal a b e = birth_exact.ties a b e

      go : member s (keys_of (with_number sorted n)) ≡ or_first (nat_eq n s) (member s (keys_of sorted)) → (o : Ordering) → nat_cmp n x.0 ≡ o →
          member s (keys_of (match_ordering o ((n, 0) ∷ x ∷ sorted) ((x.0, 0) ∷ sorted) (x ∷ with_number sorted n))) ≡ or_first (nat_eq n s) (or_first (nat_eq x.0 s) (member s (keys_of sorted)))
      go rest Less i = refl
      go rest Equal i = let same : n ≡ x.0 = equal n x.0 i in subst (λ m. or_first (nat_eq x.0 s) (member s (keys_of sorted)) ≡ or_first (nat_eq m s) (or_first (nat_eq x.0 s) (member s (keys_of sorted)))) (sym same) (twice (nat_eq x.0 s) (member s (keys_of sorted)))
      go rest Greater i = ap (or_first (nat_eq x.0 s)) rest ∙ swap (nat_eq x.0 s) (nat_eq n s) (member s (keys_of sorted))

  sorted_member : (ns : List ℕ) (sorted : List (ℕ × ℕ)) → member s (keys_of (fold with_number sorted ns)) ≡ or_first (member s ns) (member s (keys_of sorted))
  sorted_member [] sorted = refl
  sorted_member (n ∷ ns) sorted =
      sorted_member ns (with_number sorted n) ∙ ap (or_first (member s ns)) (key_member sorted n) ∙ swap (member s ns) (nat_eq n s) (member s (keys_of sorted))
      ∙ go (nat_eq n s) (member s ns) (member s (keys_of sorted))
    where
      go : (a b c : Bool) → or_first a (or_first b c) ≡ or_first (if a then true else b) c
      go true b c = refl
      go false b c = refl

  pub ascending_member : (ns : List ℕ) → member s (ascending ns) ≡ member s ns
  ascending_member ns = sorted_member ns [] ∙ go (member s ns)
    where
      go : (a : Bool) → or_first a false ≡ a
      go true = refl
      go false = refl

  -- ---- the change of a sector

  module _ (f : ℕ → Option Change) (own : (n : ℕ) (c : Change) → f n ≡ Some c → c.sector.0 ≡ n) where
    listed : (ns : List ℕ) → change_at (filter_map f ns) s ≡ (if member s ns then f s else None)
    listed [] = refl
    listed (n ∷ ns) = go (listed ns) (f n) refl (nat_eq n s) refl
      where
        go : change_at (filter_map f ns) s ≡ (if member s ns then f s else None) → (o : Option Change) → f n ≡ o → (b : Bool) → nat_eq n s ≡ b →
            change_at (cons_option o (filter_map f ns)) s ≡ (if (if b then true else member s ns) then f s else None)
        go rest None e true q = rest ∙ none (member s ns) (sym (ap f (eqb-true n s q)) ∙ e)
          where
            none : (c : Bool) → f s ≡ None → (if c then f s else None) ≡ f s
            none true z = refl
            none false z = sym z
        go rest None e false q = rest
        go rest (Some c) e true q = let t : nat_eq c.sector.0 s ≡ true = eq-eqb c.sector.0 s (own n c e ∙ eqb-true n s q) in rw t (sym e ∙ ap f (eqb-true n s q))
        go rest (Some c) e false q = let t : nat_eq c.sector.0 s ≡ false = ap (λ m. nat_eq m s) (own n c e) ∙ q in rw t rest

-- the numbers of the sectors with versions that are edited
abbrev pub numbers_of : List Edit → List ℕ
numbers_of edits = filter_map metadata_sector edits

pub change_is : (disk : Sectors) (edits : List Edit) (s : ℕ) → change_at (changes_of disk edits) s ≡ (if member s (numbers_of edits) then change_of edits disk (all_edited disk edits) s else None)
change_is disk edits s =
    listed s (change_of edits disk (all_edited disk edits)) (λ n c e. change_sector n (version_at disk n + 1) (patches_with (forced_in edits n) (disk n) (all_edited disk edits n)) c e) (ascending (numbers_of edits))
    ∙ ap (λ b. if b then change_of edits disk (all_edited disk edits) s else None) (ascending_member s (numbers_of edits))

-- ---- what a change is of

-- an edit of a sector with a version has this number
pub record IsEdited (edits : List Edit) (s : ℕ) : Type 0 where
  pub edit : Edit
  pub among : Contains edits edit
  pub metadata : is_metadata edit ≡ true
  pub here : edit_sector edit ≡ s

pub named_edit : (edits : List Edit) (s : ℕ) → member s (numbers_of edits) ≡ true → IsEdited edits s
named_edit edits s m = let r = filter_from metadata_sector edits s (member_has s (numbers_of edits) m) in go r.0 r.1 (is_metadata r.0) refl r.2
  where
    go : (e : Edit) → Contains edits e → (b : Bool) → is_metadata e ≡ b → (if b then Some (edit_sector e) else None) ≡ Some s → IsEdited edits s
    go e c true q i = record { edit = e; among = c; metadata = q; here = cc }
    go e c false q i = absurd (cc)

changed_version : (s v : ℕ) (ps : List Patch) (c : Change) → change_by s v ps ≡ Some c → c.version ≡ v
changed_version s v [] c e = absurd (cc)
changed_version s v (p ∷ ps) c e = let q : record { sector = record { 0 = s }; version = v; patches = p ∷ ps } ≡ c = cc in sym (ap (λ x. x.version) q)

pub record IsChange (disk : Sectors) (edits : List Edit) (s : ℕ) (c : Change) : Type 0 where
  pub edited : IsEdited edits s
  pub version : c.version ≡ version_at disk s + 1

pub change_of_edit : (disk : Sectors) (edits : List Edit) (s : ℕ) (c : Change) → change_at (changes_of disk edits) s ≡ Some c → IsChange disk edits s c
change_of_edit disk edits s c e = go (member s (numbers_of edits)) refl (sym (change_is disk edits s) ∙ e)
  where
    go : (b : Bool) → member s (numbers_of edits) ≡ b → (if b then change_of edits disk (all_edited disk edits) s else None) ≡ Some c → IsChange disk edits s c
    go true m i = record { edited = named_edit edits s m; version = changed_version s (version_at disk s + 1) (patches_with (forced_in edits s) (disk s) (all_edited disk edits s)) c i }
    go false m i = absurd (cc)
