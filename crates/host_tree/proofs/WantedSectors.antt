-- The sectors that are kept as wanted are the definition's, and stay so where one is read and those that it shows to be needed are added.
use Rattle.std.proofs.Common.{◌≡◌, ◌≢◌, ⊎_elim, ℕ, Bool, true, false, not, ◌&&◌, ◌||◌, if◌then◌else◌, List, [], ◌∷◌, is_some, Option, Some, None, refl, sym, ap, ◌∙◌, append-nil}
use Rattle.std.proofs.lemmas.Bool.{and_parts, cases_eq}
use Rattle.std.specs.List.{flat_map}
use Rattle.std.specs.List.Sorted.{IsStrictlySortedBy}
use Rattle.std.specs.Map.{keys_of}
use Rattle.std.specs.Ordering.{is_eq, match_ordering, nat_cmp}
use Rattle.std.specs.declared.cmp.Ordering.TheVariants.{Less, Equal, Greater}
use Rattle.std.specs.declared.cmp.Ordering.{Ordering}
use Rattle.frang_base.specs.Functions.{member}
use Rattle.sector_bytes.specs.Blocks.{Block}
use Rattle.sector_bytes.specs.SectorMaps.{Ascend, value_at, with_value, without}
use Rattle.sector_bytes.proofs.MapLaws.{ascend_with}
use Rattle.disk_definitions.specs.Regions.{region_of}
use Rattle.disk_definitions.specs.Written.{ascending}
use Rattle.core_definitions.specs.Trees.{TreeRead, inode_sector, shown_by}
use Rattle.log_slots.proofs.Maps.{ascending_member, ascending_sorted, at_with, at_without, filter_member, filter_sorted, keys_member, member_append, other_with, other_without, same_lists}
use Rattle.host_tree.specs.Reading.{needed, needed_by}
use Rattle.host_tree.specs.Wanting.{Adds, AreWanted, SectorSet}

-- ---- as the definition lists them

abbrev is_read : TreeRead → ℕ → Bool
is_read read sector = is_some (value_at read sector)

-- those known to be needed, read or not
abbrev known : ℕ → TreeRead → List ℕ
known segments read = inode_sector 0 ∷ flat_map (λ entry. shown_by (region_of segments entry.0) entry.1) read

needed_member : (segments : ℕ) (read : TreeRead) (s : ℕ) → member s (needed segments read) ≡ (member s (known segments read) && not (is_read read s))
unfolding needed
needed_member segments read s =
    filter_member (λ sector. not (is_read read sector)) s (ascending (known segments read)) ∙ ap (λ b. b && not (is_read read s)) (ascending_member (known segments read) s)

needed_sorted : (segments : ℕ) (read : TreeRead) → IsStrictlySortedBy nat_cmp (needed segments read)
unfolding needed
needed_sorted segments read = filter_sorted (λ sector. not (is_read read sector)) (ascending (known segments read)) (ascending_sorted (known segments read))

pub wanted_is : (segments : ℕ) (read : TreeRead) (wanted : SectorSet) → AreWanted segments read wanted → keys_of wanted ≡ needed segments read
wanted_is segments read wanted is =
    same_lists (keys_of wanted) (needed segments read) is.ascend (needed_sorted segments read) (λ s. keys_member wanted s ∙ is.are s)

pub wanted_member : (segments : ℕ) (read : TreeRead) (wanted : SectorSet) (s : ℕ) → AreWanted segments read wanted → is_some (value_at wanted s) ≡ member s (needed segments read)
wanted_member segments read wanted s is = is.are s

-- a needed sector isn't read
pub needed_unread : (segments : ℕ) (read : TreeRead) (s : ℕ) → member s (needed segments read) ≡ true → value_at read s ≡ None
needed_unread segments read s e = go (value_at read s) (and_parts (member s (known segments read)) (not (is_read read s)) (sym (needed_member segments read s) ∙ e)).1
  where
    go : (o : Option Block) → not (is_some o) ≡ true → o ≡ None
    go None h = refl
    go (Some b) h = cc h

-- ---- the root alone

none_sorted : Ascend {V = Unit {0}} []
unfolding IsStrictlySortedBy
none_sorted = tt

abbrev pub root_set : SectorSet
root_set = with_value [] (inode_sector 0) tt

pub root_wanted : (segments : ℕ) → AreWanted segments [] root_set
root_wanted segments = record { ascend = ascend_with {V = Unit {0}} (inode_sector 0) tt [] none_sorted; are = λ s. at s }
  where
    with_true : (b : Bool) → b ≡ (b && true)
    with_true true = refl
    with_true false = refl

    at : (s : ℕ) → is_some (value_at root_set s) ≡ member s (needed segments [])
    at s = sym (keys_member root_set s) ∙ with_true (member s (inode_sector 0 ∷ [])) ∙ sym (needed_member segments [] s)

-- ---- one sector more

or_swap : (a b : Bool) → (a || b) ≡ (b || a)
or_swap true true = refl
or_swap true false = refl
or_swap false true = refl
or_swap false false = refl

or_assoc : (a b c : Bool) → (a || (b || c)) ≡ ((a || b) || c)
or_assoc true b c = refl
or_assoc false b c = refl

module _ (f : ℕ × Block → List ℕ) where
  -- what all entries show, with one entry more
  shown_more : (read : TreeRead) (s : ℕ) (block : Block) (x : ℕ) → value_at read s ≡ None → member x (flat_map f (with_value read s block)) ≡ (member x (flat_map f read) || member x (f (s, block)))
  shown_more [] s block x none = ap (member x) (append-nil (f (s, block)))
  shown_more (e ∷ es) s block x none = go (λ rest. shown_more es s block x rest) (nat_cmp s e.0) refl
    where
      go : (value_at es s ≡ None → member x (flat_map f (with_value es s block)) ≡ (member x (flat_map f es) || member x (f (s, block)))) → (o : Ordering) → nat_cmp s e.0 ≡ o → member x (flat_map f (match_ordering o ((s, block) ∷ e ∷ es) ((e.0, block) ∷ es) (e ∷ with_value es s block))) ≡ (member x (flat_map f (e ∷ es)) || member x (f (s, block)))
      go later Less is = member_append x (f (s, block)) (flat_map f (e ∷ es)) ∙ or_swap (member x (f (s, block))) (member x (flat_map f (e ∷ es)))
      go later Equal is = let there : value_at (e ∷ es) s ≡ Some e.1 = ap (λ b. if b then Some e.1 else value_at es s) (ap is_eq is) in absurd (let bad : Some e.1 ≡ None = sym there ∙ none in cc)
      go later Greater is =
          let rest : value_at es s ≡ None = sym (ap (λ b. if b then Some e.1 else value_at es s) (ap is_eq is)) ∙ none in
          member_append x (f e) (flat_map f (with_value es s block)) ∙ ap (λ b. member x (f e) || b) (later rest)
          ∙ or_assoc (member x (f e)) (member x (flat_map f es)) (member x (f (s, block)))
          ∙ ap (λ b. b || member x (f (s, block))) (sym (member_append x (f e) (flat_map f es)))

abbrev shown_at : ℕ → ℕ × Block → List ℕ
shown_at segments entry = shown_by (region_of segments entry.0) entry.1

by_is : (segments s : ℕ) (block : Block) → needed_by segments s block ≡ shown_at segments (s, block)
unfolding needed_by
by_is segments s block = refl

known_more : (segments : ℕ) (read : TreeRead) (s : ℕ) (block : Block) (x : ℕ) → value_at read s ≡ None
    → member x (known segments (with_value read s block)) ≡ (member x (known segments read) || member x (needed_by segments s block))
known_more segments read s block x none =
    member_append x (inode_sector 0 ∷ []) (flat_map (shown_at segments) (with_value read s block))
    ∙ ap (λ b. member x (inode_sector 0 ∷ []) || b) (shown_more (shown_at segments) read s block x none)
    ∙ or_assoc (member x (inode_sector 0 ∷ [])) (member x (flat_map (shown_at segments) read)) (member x (shown_at segments (s, block)))
    ∙ ap (λ b. b || member x (shown_at segments (s, block))) (sym (member_append x (inode_sector 0 ∷ []) (flat_map (shown_at segments) read)))
    ∙ ap (λ ns. member x (known segments read) || member x ns) (sym (by_is segments s block))

both_needed : (k m u : Bool) → ((k && u) || (m && u)) ≡ ((k || m) && u)
both_needed true m true = refl
both_needed true true false = refl
both_needed true false false = refl
both_needed false m u = refl

pub one_read : (segments : ℕ) (read : TreeRead) (s : ℕ) (block : Block) (wanted after : SectorSet) → AreWanted segments read wanted → member s (needed segments read) ≡ true
    → Adds (with_value read s block) (needed_by segments s block) (without wanted s) after → Ascend after → AreWanted segments (with_value read s block) after
one_read segments read s block wanted after is needed_here adds ascend = record { ascend = ascend; are = λ x. ⊎_elim (λ h. here x h) (λ h. other x h) (cases_eq x s) }
  where
    none : value_at read s ≡ None
    none = needed_unread segments read s needed_here

    now_read : (x : ℕ) → x ≡ s → is_read (with_value read s block) x ≡ true
    now_read x h = ap (is_read (with_value read s block)) h ∙ ap is_some (at_with read s block)

    never : (b : Bool) → (b && not true) ≡ false
    never true = refl
    never false = refl

    here : (x : ℕ) → x ≡ s → is_some (value_at after x) ≡ member x (needed segments (with_value read s block))
    here x h =
        adds x ∙ ap (λ n. is_some (value_at (without wanted s) n) || (member x (needed_by segments s block) && not (is_read (with_value read s block) x))) h
        ∙ ap (λ o. is_some o || (member x (needed_by segments s block) && not (is_read (with_value read s block) x))) (at_without wanted s is.ascend)
        ∙ ap (λ b. member x (needed_by segments s block) && not b) (now_read x h) ∙ never (member x (needed_by segments s block))
        ∙ sym (needed_member segments (with_value read s block) x ∙ ap (λ b. member x (known segments (with_value read s block)) && not b) (now_read x h) ∙ never (member x (known segments (with_value read s block))))

    same_read : (x : ℕ) → x ≢ s → is_read (with_value read s block) x ≡ is_read read x
    same_read x h = ap is_some (other_with read s block x h)

    other : (x : ℕ) → x ≢ s → is_some (value_at after x) ≡ member x (needed segments (with_value read s block))
    other x h =
        let u = not (is_read read x) in
        adds x ∙ ap (λ o. is_some o || (member x (needed_by segments s block) && not (is_read (with_value read s block) x))) (other_without wanted s x h)
        ∙ ap (λ b. is_some (value_at wanted x) || (member x (needed_by segments s block) && not b)) (same_read x h)
        ∙ ap (λ b. b || (member x (needed_by segments s block) && u)) (is.are x ∙ needed_member segments read x)
        ∙ both_needed (member x (known segments read)) (member x (needed_by segments s block)) u
        ∙ ap (λ b. b && u) (sym (known_more segments read s block x none))
        ∙ sym (needed_member segments (with_value read s block) x ∙ ap (λ b. member x (known segments (with_value read s block)) && not b) (same_read x h))
