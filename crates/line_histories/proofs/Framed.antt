-- The plan over the sectors goes by those with versions that it looks at.
use Rattle.std.proofs.Common.{ℕ, ◌≡◌, ◌+◌, ◌*◌, ◌/◌, ◌%◌, ◌<◌, ◌≤◌, ◌&&◌, ⊎_elim, Bool, true, false, nat_lt, if◌then◌else◌, IsTrue, Option, Some, None, List, [], ◌∷◌, ◌++◌, map, is_some, refl, sym, ap, ap₂, ◌∙◌, subst, arith}
use Rattle.std.proofs.Math.Path.{fun_ext}
use Rattle.std.proofs.lemmas.Bool.{cases_lt, le-ltb}
use Rattle.std.proofs.lemmas.List.Elements.{Contains-append_left, Contains-append_right}
use Rattle.std.specs.List.{filter_map, cons_option, Contains}
use Rattle.std.specs.Option.{option_map}
use Rattle.frang_base.specs.declared.change.Change.{Change}
use Rattle.frang_base.specs.declared.op.Op.{Op}
use Rattle.frang_base.specs.Functions.{member}
use Rattle.sector_bytes.specs.Blocks.{Block}
use Rattle.sector_bytes.specs.Replays.{change_at}
use Rattle.sector_bytes.specs.Sectors.{Sectors}
use Rattle.sector_world.specs.Plans.{Outcome, looks as touched}
use Rattle.disk_definitions.specs.declared.region.Region.TheVariants as region
use Rattle.disk_definitions.specs.Bitmaps.{bitmap_in}
use Rattle.disk_definitions.specs.Directories.{directory_in}
use Rattle.disk_definitions.specs.Inodes.{inode_in}
use Rattle.disk_definitions.specs.Regions.{sector_of}
use Rattle.disk_definitions.specs.Store.{Store, stored_node, entry_in, store_of}
use Rattle.disk_definitions.specs.Held.{Segments}
use Rattle.disk_definitions.specs.Edits.{Edit}
use Rattle.disk_definitions.specs.Edits.Edit.{SetInode, SetBit, SetUse, SetPlace, SetLarge, SetBytes, SetLargeBytes}
use Rattle.disk_definitions.specs.Ask.{Sector, InodeAt, DirectoryAt, SegmentAt, BytesAt, LargeAt, Ask, run, looks, seven, number_of}
use Rattle.disk_definitions.specs.Plans.{Hand, Plan, Finish}
use Rattle.disk_definitions.specs.Plans.Plan.{Lacks, Clears, Finishes}
use Rattle.disk_definitions.specs.Written.{changes_of, is_metadata, edit_sector}
use Rattle.plan_laws.specs.Looking.{AllSayTheSame}
use Rattle.plan_laws.proofs.Asking.{framed}
use Rattle.plan_laws.proofs.Covering.{has_head, has_more, map_has, all_from}
use Rattle.plan_laws.specs.Looked.{edited_at}
use Rattle.plan_laws.specs.Plans.{Planner}
use Rattle.line_laws.proofs.SameChanges.{same_changes}
use Rattle.line_laws.specs.Stores.{with_bytes}
use Rattle.disk_definitions.specs.Lines.{plan_of_line}
use Rattle.disk_definitions.specs.Numbered.{moves_of}
use Rattle.line_histories.specs.LinePlans.{may_be_planned, held_of, hand_by, hand_on, byte_shown, store_showing, store_on, without_bytes, blocks_told, versioned, plain, claims_of, makes_by, lock_in, sole_in, segment_lock, segment_number, outcome_by, outcome_if, outcome_over, are_segments}
use Rattle.line_histories.specs.Planners.{IsSoundPlanner}
use Rattle.line_histories.specs.Guards.{SoundPlansAreFramed, LinePlansAreFramed}
use Rattle.line_histories.proofs.Lists.{has_member, filter_has}
use Rattle.line_histories.proofs.LinesSound.{lines_are_sound}

-- an edit of a sector with a version is of one that was looked at
pub edited_versioned : (e : Edit) → is_metadata e ≡ true → versioned (edited_at e) ≡ Some (edit_sector e)
edited_versioned (SetInode i x dated) m = refl
edited_versioned (SetBit i b) m = refl
edited_versioned (SetUse k u) m = refl
edited_versioned (SetPlace k p e) m = refl
edited_versioned (SetLarge g b) m = refl
edited_versioned (SetBytes k part bytes) m = absurd (cc)
edited_versioned (SetLargeBytes g part bytes) m = absurd (cc)

-- what is looked at is among the sectors of the outcome
pub seen_is_looked : (xs : List Sector) (hint : List ℕ) (x : Sector) (m : ℕ) → Contains xs x → versioned x ≡ Some m → member m (filter_map versioned xs ++ map segment_number hint) ≡ true
seen_is_looked xs hint x m c e = has_member m (filter_map versioned xs ++ map segment_number hint) (Contains-append_left (filter_map versioned xs) (map segment_number hint) m (filter_has versioned xs x m e c))

segment_is_looked : (xs : List Sector) (hint : List ℕ) (k : ℕ) → Contains hint k → member (segment_number k) (filter_map versioned xs ++ map segment_number hint) ≡ true
segment_is_looked xs hint k c =
    has_member (segment_number k) (filter_map versioned xs ++ map segment_number hint) (Contains-append_right (filter_map versioned xs) (map segment_number hint) (segment_number k) (map_has segment_number hint k c))

looked_touched : (o : Outcome) (m : ℕ) → member m o.looked ≡ true → IsTrue (touched o m)
looked_touched o m e = go (is_some (change_at o.changes m))
  where
    go : (b : Bool) → IsTrue (if b then true else member m o.looked)
    go true = refl
    go false = e

-- ---- two disks that are the same in some sectors, with the same bytes

module _ (segments : ℕ) (old new : Sectors) where
  pub held_same : (hint : List ℕ) → ((k : ℕ) → Contains hint k → old (segment_number k) ≡ new (segment_number k)) → held_of segments old hint ≡ held_of segments new hint
  held_same [] h = refl
  held_same (k ∷ hint) h =
      ap₂ (λ o more. cons_option o more) (ap (λ block. if nat_lt k segments then option_map (λ x. (k, x)) (bitmap_in block) else None) (h k (has_head k hint)))
      (held_same hint (λ j c. h j (has_more k j hint c)))

  module _ (byte large_byte : ℕ → ℕ → ℕ) where
    abbrev s : Store
    s = with_bytes (store_of segments old) byte large_byte

    abbrev t : Store
    t = with_bytes (store_of segments new) byte large_byte

    inode_same : (i : ℕ) → old (sector_of (region.Inode i)) ≡ new (sector_of (region.Inode i)) → t.inode i ≡ s.inode i
    inode_same i e = ap (λ block. if nat_lt i (64 * segments) then stored_node (inode_in block) else None) (sym e)

    directory_same : (k part : ℕ) → old (sector_of (region.Small k part)) ≡ new (sector_of (region.Small k part)) → seven t.place k part ≡ seven s.place k part
    directory_same k part e = fun_ext (λ r. ⊎_elim (inside r) (outside r) (cases_lt r 7))
      where
        inside : (r : ℕ) → r < 7 → seven t.place k part r ≡ seven s.place k part r
        inside r l =
            let a : part ≡ (7 * part + r) / 7 = omega arith in
            let f : old (sector_of (region.Small k ((7 * part + r) / 7))) ≡ new (sector_of (region.Small k ((7 * part + r) / 7))) = subst (λ p. old (sector_of (region.Small k p)) ≡ new (sector_of (region.Small k p))) a e in
            ap (λ block. if nat_lt r 7 then (if nat_lt k (1024 * segments) then entry_in (directory_in block) ((7 * part + r) % 7) else None) else None) (sym f)

        outside : (r : ℕ) → 7 ≤ r → seven t.place k part r ≡ seven s.place k part r
        outside r l = rw (le-ltb r 7 l) refl

    pub says_the_same : (xs : List Sector) → ((x : Sector) (m : ℕ) → Contains xs x → versioned x ≡ Some m → old m ≡ new m) → AllSayTheSame s t xs
    says_the_same [] h = tt
    says_the_same (InodeAt i ∷ xs) h = (inode_same i (h (InodeAt i) (number_of (InodeAt i)) (has_head (InodeAt i) xs) refl), says_the_same xs (λ x m c e. h x m (has_more (InodeAt i) x xs c) e))
    says_the_same (DirectoryAt k part ∷ xs) h = (directory_same k part (h (DirectoryAt k part) (number_of (DirectoryAt k part)) (has_head (DirectoryAt k part) xs) refl), says_the_same xs (λ x m c e. h x m (has_more (DirectoryAt k part) x xs c) e))
    says_the_same (SegmentAt k ∷ xs) h = (tt, says_the_same xs (λ x m c e. h x m (has_more (SegmentAt k) x xs c) e))
    says_the_same (BytesAt k part ∷ xs) h = (refl, says_the_same xs (λ x m c e. h x m (has_more (BytesAt k part) x xs c) e))
    says_the_same (LargeAt g part ∷ xs) h = (refl, says_the_same xs (λ x m c e. h x m (has_more (LargeAt g part) x xs c) e))

  module _ (planner : Planner) (sound : IsSoundPlanner planner) (when : ℕ → ℕ) (hint : List ℕ) (n : ℕ) (op : Op) (o : Outcome) (agree : (m : ℕ) → IsTrue (touched o m) → old m ≡ new m) where
    abbrev h : Hand
    h = hand_on segments old hint

    abbrev p : Ask Plan
    p = planner h n (when n) op

    abbrev seen : List Sector
    seen = looks p (store_on segments old)

    abbrev before : Option Block → Plan
    before shown = run p (store_showing shown segments old)

    abbrev after : Option Block → Plan
    after shown = run p (store_showing shown segments new)

    -- whatever is read, the same sectors are looked at
    sees : (shown : Option Block) → looks p (store_showing shown segments old) ≡ seen
    sees shown = (sound.blind op h (store_on segments old) n (when n) (λ block index. byte_shown shown (index % 512)) (λ large index. byte_shown shown (index % 512))).0

    -- the outcome of the program with the segments that are at hand
    abbrev Comes : Hand → Type 0
    Comes g = outcome_over segments new hint (planner g n (when n) op) ≡ Some o

    by_finish : (f : Finish) → run p (store_on segments old) ≡ Finishes f → outcome_by segments old hint before seen f ≡ o → Comes (hand_on segments new hint)
    by_finish f is same = subst Comes (ap (hand_by segments) held) base
      where
        all : (m : ℕ) → member m (filter_map versioned seen ++ map segment_number hint) ≡ true → old m ≡ new m
        all m e = agree m (looked_touched o m (subst (λ (q : Outcome). member m q.looked ≡ true) same e))

        each : (shown : Option Block) → AllSayTheSame (store_showing shown segments old) (store_showing shown segments new) seen
        each shown = says_the_same (λ block index. byte_shown shown (index % 512)) (λ large index. byte_shown shown (index % 512)) seen (λ x m c e. all m (seen_is_looked seen hint x m c e))

        goes : (run p (store_on segments new) ≡ run p (store_on segments old)) × (looks p (store_on segments new) ≡ seen)
        goes = framed p (store_on segments old) (store_on segments new) (each None)

        planned : before ≡ after
        planned = fun_ext (λ shown. sym (framed p (store_showing shown segments old) (store_showing shown segments new)
            (subst (AllSayTheSame (store_showing shown segments old) (store_showing shown segments new)) (sym (sees shown)) (each shown))).0)

        held : held_of segments old hint ≡ held_of segments new hint
        held = held_same hint (λ k c. all (segment_number k) (segment_is_looked seen hint k c))

        changes : changes_of old f.edits ≡ changes_of new f.edits
        changes = same_changes old new f.edits (all_from (λ e. is_metadata e ≡ true → old (edit_sector e) ≡ new (edit_sector e)) f.edits
            (λ e c m. all (edit_sector e) (seen_is_looked seen hint (edited_at e) (edit_sector e) (sound.looked op h (store_on segments old) n (when n) f is e c m) (edited_versioned e m))))

        parts : List Change → Segments → (Option Block → Plan) → Outcome
        parts changes held planned = record {
          reply = without_bytes f.reply;
          blocks = blocks_told f.reply;
          looked = filter_map versioned seen ++ map segment_number hint;
          changes = changes;
          claims = claims_of segments held f.edits;
          moves = moves_of segments f.edits;
          reads = filter_map plain seen;
          makes = makes_by planned;
          uses = map lock_in f.locks ++ map segment_lock hint;
          alone = filter_map sole_in f.locks;
        }

        base : Comes h
        base =
            ap₂ (λ xs v. outcome_if segments new hint after xs v) goes.1 (goes.0 ∙ is)
            ∙ ap Some (ap (λ changes. parts changes (held_of segments new hint) after) (sym changes) ∙ ap₂ (λ held planned. parts (changes_of old f.edits) held planned) (sym held) (sym planned) ∙ same)

    by_plan : (v : Plan) → run p (store_on segments old) ≡ v → outcome_if segments old hint before seen v ≡ Some o → Comes (hand_on segments new hint)
    by_plan Lacks is e = absurd (cc)
    by_plan (Clears k locks) is e = absurd (cc)
    by_plan (Finishes f) is e = by_finish f is (let q : outcome_by segments old hint before seen f ≡ o = cc in q)

    by_test : (b : Bool) → (if b then outcome_over segments old hint p else None) ≡ Some o → (if b then outcome_over segments new hint (planner (hand_on segments new hint) n (when n) op) else None) ≡ Some o
    by_test true e = by_plan (run p (store_on segments old)) refl e
    by_test false e = absurd (cc)

pub sound_framed : SoundPlansAreFramed
sound_framed planner sound segments when hint n op old new o e agree = by_test segments old new planner sound when hint n op o agree (may_be_planned op && are_segments segments hint) e

pub lines_framed : LinePlansAreFramed
lines_framed segments when = sound_framed plan_of_line lines_are_sound segments when
