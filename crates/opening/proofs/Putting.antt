-- Puts behind puts: what they leave together, and where they stop; those of a fresh disk and of an image.
use Rattle.std.proofs.Common.{◌≡◌, ◌⊎◌, inl, inr, ℕ, ◌<◌, ◌==◌, Bool, true, false, if◌then◌else◌, List, [], ◌∷◌, ◌++◌, Result, Ok, Err, MatchResult, OnOk, refl, sym, ap, ◌∙◌, subst, arith, append_assoc, append-nil}
use Rattle.std.specs.Prelude.{filter}
use Rattle.std.proofs.lemmas.Result.{MatchResult-weaker}
use Rattle.frang_base.specs.declared.limits.TheConstants.{ROOT_INODE}
use Rattle.frang_base.specs.declared.script.Line.{Line}
use Rattle.frang_base.specs.declared.sector.Sector.{Sector}
use Rattle.frang_outside.specs.declared.act.Act.TheVariants as act
use Rattle.frang_outside.specs.declared.act.Taken.{Taken}
use Rattle.frang_outside.specs.declared.act.Taken.TheVariants.{Written, Late}
use Rattle.frang_outside.specs.declared.outside.PutFault.TheVariants as put
use Rattle.frang_outside.specs.Disk.{written}
use Rattle.frang_outside.specs.Outside.{State as Outside, Follows, NoneRose, OldOrNew, OneRose, PutOutcome}
use Rattle.sector_bytes.specs.Blocks.{Block, zero_block}
use Rattle.sector_bytes.specs.Sectors.{SameSectors, Sectors}
use Rattle.tree_definitions.specs.Tree.{FileTree}
use Rattle.disk_definitions.specs.declared.param.Param.{Param}
use Rattle.disk_definitions.specs.declared.region.Region.TheVariants as region
use Rattle.disk_definitions.specs.Bitmaps.{bitmap_bytes}
use Rattle.disk_definitions.specs.FreshDisk.{first_bitmap, fresh_param, root_inode}
use Rattle.disk_definitions.specs.Inodes.{inode_bytes}
use Rattle.disk_definitions.specs.Params.{param_bytes}
use Rattle.disk_definitions.specs.Regions.{sector_of}
use Rattle.core_definitions.specs.Opening.{Puts, disk_put, fresh_puts, fresh_start, image_puts, image_start, is_put, next_param, opening_deeds, opening_put, param_put, put_over}
use Rattle.core_definitions.specs.Runs.{acts_of}
use Rattle.core_definitions.specs.Scripts.{host_party}
use Rattle.hall_runs.specs.Outsets.{told_behind}
use Rattle.hall_runs.proofs.Runs.{acts_append, told_append, told_none, told_one}
use Rattle.opening.specs.declared.puts.OpenFault.{OpenFault}
use Rattle.opening.specs.declared.puts.OpenFault.TheVariants.{Failed, NoMemory}
use Rattle.opening.specs.Puts.{HasPut, IsBlank, PutSoFar, Refused, StopsAt}

-- ---- sectors

written_same : (a b : Sectors) (sector : ℕ) (block : Block) → SameSectors a b → SameSectors (written a sector block) (written b sector block)
written_same a b sector block same x = go (sector == x)
  where
    go : (t : Bool) → (if t then block else a x) ≡ (if t then block else b x)
    go true = refl
    go false = same x

put_over_same : (a b : Sectors) (puts : Puts) → SameSectors a b → SameSectors (put_over a puts) (put_over b puts)
put_over_same a b [] same = same
put_over_same a b (one ∷ puts) same = put_over_same (written a one.0 one.1) (written b one.0 one.1) puts (written_same a b one.0 one.1 same)

put_over_append : (old : Sectors) (xs ys : Puts) → put_over old (xs ++ ys) ≡ put_over (put_over old xs) ys
put_over_append old [] ys = refl
put_over_append old (x ∷ xs) ys = put_over_append (written old x.0 x.1) xs ys

sectors_behind : (old middle new : Sectors) (xs ys : Puts) → SameSectors middle (put_over old xs) → SameSectors new (put_over middle ys) → SameSectors new (put_over old (xs ++ ys))
sectors_behind old middle new xs ys first more x =
    more x ∙ put_over_same middle (put_over old xs) ys first x ∙ ap (λ d. d x) (sym (put_over_append old xs ys))

pub blank_put : (old new : Outside) (puts : Puts) → HasPut old new puts → IsBlank old → SameSectors new.sectors (disk_put puts)
blank_put old new puts has blank x = has.sectors x ∙ put_over_same old.sectors (λ sector. zero_block) puts blank x

-- ---- records

deeds_append : (xs ys : Puts) → opening_deeds (xs ++ ys) ≡ opening_deeds xs ++ opening_deeds ys
deeds_append [] ys = refl
deeds_append (x ∷ xs) ys = ap (λ r. opening_deeds (x ∷ []) ++ r) (deeds_append xs ys)

acts_behind : (old middle new : Outside) (xs ys : Puts) → middle.acts ≡ told_behind old.acts (acts_of (opening_deeds xs)) → new.acts ≡ told_behind middle.acts (acts_of (opening_deeds ys))
    → new.acts ≡ told_behind old.acts (acts_of (opening_deeds (xs ++ ys)))
acts_behind old middle new xs ys first more =
    more ∙ ap (λ o. told_behind o (acts_of (opening_deeds ys))) first ∙ told_append old.acts (acts_of (opening_deeds xs)) (acts_of (opening_deeds ys))
    ∙ ap (told_behind old.acts) (sym (acts_append (opening_deeds xs) (opening_deeds ys)) ∙ sym (ap acts_of (deeds_append xs ys)))

-- ---- counts

none_behind : (a b c : Outside) → NoneRose a b → NoneRose b c → NoneRose a c
none_behind a b c f g = record { faults = λ p. g.faults p ∙ f.faults p; says = g.says ∙ f.says }

one_behind : (a b c : Outside) (party : ℕ) → NoneRose a b → OneRose b c party → OneRose a c party
one_behind a b c party f g = record {
  own = omega (arith, g.own, f.faults party);
  others = λ other ne. g.others other ne ∙ f.faults other;
  says = g.says ∙ f.says;
}

-- ---- one put

late_never : (t : ℕ) → t < 0 → ⊥
late_never t h = omega arith

pub put_one : (old new : Outside) (next : ℕ × Block) (taken : Taken) → Follows old new → PutOutcome old new (opening_put next) (Ok taken) → HasPut old new (next ∷ [])
put_one old new next Written follows outcome = record {
  sectors = outcome.1;
  acts = outcome.2 ∙ told_one old.acts (act.Put (opening_put next) Written);
  counts = outcome.3;
  mark = follows.mark;
}
put_one old new next Late follows outcome = absurd (late_never (opening_put next).stamp outcome.0)

-- at its sector
pub failed_one : (old new : Outside) (sector : Sector) (block : Block) → Follows old new → PutOutcome old new (opening_put (sector.0, block)) (Err put.Failed) → StopsAt old new ((sector.0, block) ∷ []) (Failed sector)
failed_one old new sector block follows outcome = record {
  made = [];
  next = (sector.0, block);
  left = [];
  parts = refl;
  acts = outcome.2 ∙ sym (told_none old.acts);
  refused = (refl, outcome.1, outcome.3);
  mark = follows.mark;
}

pub wanting_one : (old new : Outside) (next : ℕ × Block) → Follows old new → PutOutcome old new (opening_put next) (Err put.NoMemory) → StopsAt old new (next ∷ []) NoMemory
wanting_one old new next follows outcome = record {
  made = [];
  next = next;
  left = [];
  parts = refl;
  acts = outcome.1 ∙ sym (told_none old.acts);
  refused = (outcome.0, outcome.2);
  mark = follows.mark;
}

-- ---- puts behind puts

pub put_behind : (old middle new : Outside) (xs ys : Puts) → HasPut old middle xs → HasPut middle new ys → HasPut old new (xs ++ ys)
put_behind old middle new xs ys first more = record {
  sectors = sectors_behind old.sectors middle.sectors new.sectors xs ys first.sectors more.sectors;
  acts = acts_behind old middle new xs ys first.acts more.acts;
  counts = none_behind old middle new first.counts more.counts;
  mark = more.mark ∙ first.mark;
}

either_same : (a b : Sectors) (new : Sectors) (next : ℕ × Block) → SameSectors a b → OldOrNew a new (opening_put next) → OldOrNew b new (opening_put next)
either_same a b new next same either = record {
  own = go either.own;
  others = λ s ne. either.others s ne ∙ same s;
}
  where
    go : (new next.0 ≡ a next.0) ⊎ (new next.0 ≡ next.1) → (new next.0 ≡ b next.0) ⊎ (new next.0 ≡ next.1)
    go (inl e) = inl (e ∙ same next.0)
    go (inr e) = inr e

refused_behind : (old middle new : Outside) (xs made : Puts) (next : ℕ × Block) (fault : OpenFault) → HasPut old middle xs → Refused middle new made next fault → Refused old new (xs ++ made) next fault
refused_behind old middle new xs made next (Failed sector) has refused = (
  refused.0,
  either_same (put_over middle.sectors made) (put_over old.sectors (xs ++ made)) new.sectors next
      (sectors_behind old.sectors middle.sectors (put_over middle.sectors made) xs made has.sectors (λ x. refl)) refused.1,
  one_behind old middle new host_party has.counts refused.2,
)
refused_behind old middle new xs made next NoMemory has refused =
    (sectors_behind old.sectors middle.sectors new.sectors xs made has.sectors refused.0, none_behind old middle new has.counts refused.1)

pub stops_behind : (old middle new : Outside) (xs ys : Puts) (fault : OpenFault) → HasPut old middle xs → StopsAt middle new ys fault → StopsAt old new (xs ++ ys) fault
stops_behind old middle new xs ys fault has stops = record {
  made = xs ++ stops.made;
  next = stops.next;
  left = stops.left;
  parts = ap (λ r. xs ++ r) stops.parts ∙ sym (append_assoc xs stops.made (stops.next ∷ stops.left));
  acts = acts_behind old middle new xs stops.made has.acts stops.acts;
  refused = refused_behind old middle new xs stops.made stops.next fault has stops.refused;
  mark = stops.mark ∙ has.mark;
}

-- more would have followed
pub stops_before : (old new : Outside) (xs ys : Puts) (fault : OpenFault) → StopsAt old new xs fault → StopsAt old new (xs ++ ys) fault
stops_before old new xs ys fault stops = record {
  made = stops.made;
  next = stops.next;
  left = stops.left ++ ys;
  parts = ap (λ r. r ++ ys) stops.parts ∙ append_assoc stops.made (stops.next ∷ stops.left) ys;
  acts = stops.acts;
  refused = stops.refused;
  mark = stops.mark;
}

-- ---- the three of a fresh disk

abbrev root_put : ℕ × Block
root_put = (sector_of (region.Inode ROOT_INODE), inode_bytes root_inode)

abbrev segment_put : ℕ × Block
segment_put = (sector_of (region.Segment 0), bitmap_bytes first_bitmap)

module _ (segments : ℕ) (a b : Outside) where
  pub first_stops : (root : Block) (fault : OpenFault) → root ≡ inode_bytes root_inode → StopsAt a b ((sector_of (region.Inode ROOT_INODE), root) ∷ []) fault → StopsAt a b (fresh_puts segments) fault
  first_stops root fault e stops =
      stops_before a b (root_put ∷ []) (segment_put ∷ param_put (fresh_param segments) ∷ []) fault (subst (λ block. StopsAt a b ((sector_of (region.Inode ROOT_INODE), block) ∷ []) fault) e stops)

  module _ (c : Outside) (root segment : Block) (e : root ≡ inode_bytes root_inode) (f : segment ≡ bitmap_bytes first_bitmap)
      (first : HasPut a b ((sector_of (region.Inode ROOT_INODE), root) ∷ [])) where
    root_made : HasPut a b (root_put ∷ [])
    root_made = subst (λ block. HasPut a b ((sector_of (region.Inode ROOT_INODE), block) ∷ [])) e first

    pub second_stops : (fault : OpenFault) → StopsAt b c ((sector_of (region.Segment 0), segment) ∷ []) fault → StopsAt a c (fresh_puts segments) fault
    second_stops fault stops =
        stops_before a c (root_put ∷ segment_put ∷ []) (param_put (fresh_param segments) ∷ []) fault
        (stops_behind a b c (root_put ∷ []) (segment_put ∷ []) fault root_made (subst (λ block. StopsAt b c ((sector_of (region.Segment 0), block) ∷ []) fault) f stops))

    pub third_made : (d : Outside) (param : Block) (result : Result (Unit {0}) OpenFault) → param ≡ param_bytes (fresh_param segments) → HasPut b c ((sector_of (region.Segment 0), segment) ∷ []) →
        MatchResult result (λ done. HasPut c d ((sector_of region.Param, param) ∷ [])) (λ fault. StopsAt c d ((sector_of region.Param, param) ∷ []) fault) →
        MatchResult result (λ done. HasPut a d (fresh_puts segments)) (λ fault. StopsAt a d (fresh_puts segments) fault)
    third_made d param result g second third =
        MatchResult-weaker result third
        (λ done has. put_behind a c d (root_put ∷ segment_put ∷ []) (param_put (fresh_param segments) ∷ []) two_made (subst (λ block. HasPut c d ((sector_of region.Param, block) ∷ [])) g has))
        (λ fault stops. stops_behind a c d (root_put ∷ segment_put ∷ []) (param_put (fresh_param segments) ∷ []) fault two_made
        (subst (λ block. StopsAt c d ((sector_of region.Param, block) ∷ []) fault) g stops))
      where
        two_made : HasPut a c (root_put ∷ segment_put ∷ [])
        two_made = put_behind a b c (root_put ∷ []) (segment_put ∷ []) root_made (subst (λ block. HasPut b c ((sector_of (region.Segment 0), block) ∷ [])) f second)

-- over sectors of zeros they make the disk from which a run begins
pub start_made : (segments : ℕ) (a b : Outside) (result : Result (Unit {0}) OpenFault) → MatchResult result (λ done. HasPut a b (fresh_puts segments)) (λ fault. StopsAt a b (fresh_puts segments) fault) →
    OnOk result (IsBlank a → (script : List Line) → SameSectors b.sectors (fresh_start script segments).disk)
start_made segments a b result made = MatchResult-weaker result made (λ done has blank script. blank_put a b (fresh_puts segments) has blank) (λ fault stops. tt)

-- ---- those of an image

nothing_put : (old : Outside) → HasPut old old []
nothing_put old = record {
  sectors = λ s. refl;
  acts = sym (told_none old.acts);
  counts = record { faults = λ p. refl; says = refl };
  mark = refl;
}

pub none_so_far : (old : Outside) (all : Puts) → PutSoFar old old all all
none_so_far old all = record { made = []; parts = refl; puts = nothing_put old }

module _ (old now : Outside) (all entries rest : Puts) (sector : ℕ) (block : Block) (steps : entries ≡ (sector, block) ∷ rest) (so_far : PutSoFar old now all (filter is_put entries)) where
  taken_first : (b : Bool) → is_put (sector, block) ≡ b → filter is_put entries ≡ (if b then (sector, block) ∷ filter is_put rest else filter is_put rest)
  taken_first b is = ap (filter is_put) steps ∙ ap (λ t. if t then (sector, block) ∷ filter is_put rest else filter is_put rest) is

  pub skipped : is_put (sector, block) ≡ false → PutSoFar old now all (filter is_put rest)
  skipped is = subst (PutSoFar old now all) (taken_first false is) so_far

  all_parts : is_put (sector, block) ≡ true → all ≡ so_far.made ++ (sector, block) ∷ filter is_put rest
  all_parts is = so_far.parts ∙ ap (λ left. so_far.made ++ left) (taken_first true is)

  pub one_more_put : (new : Outside) → is_put (sector, block) ≡ true → HasPut now new ((sector, block) ∷ []) → PutSoFar old new all (filter is_put rest)
  one_more_put new is has = record {
    made = so_far.made ++ (sector, block) ∷ [];
    parts = all_parts is ∙ sym (append_assoc so_far.made ((sector, block) ∷ []) (filter is_put rest));
    puts = put_behind old now new so_far.made ((sector, block) ∷ []) so_far.puts has;
  }

  pub one_refused : (new : Outside) (fault : OpenFault) → is_put (sector, block) ≡ true → StopsAt now new ((sector, block) ∷ []) fault → StopsAt old new all fault
  one_refused new fault is stops =
      subst (λ puts. StopsAt old new puts fault) (append_assoc so_far.made ((sector, block) ∷ []) (filter is_put rest) ∙ sym (all_parts is))
      (stops_before old new (so_far.made ++ (sector, block) ∷ []) (filter is_put rest) fault (stops_behind old now new so_far.made ((sector, block) ∷ []) fault so_far.puts stops))

pub all_put : (old now : Outside) (all : Puts) → PutSoFar old now all [] → HasPut old now all
all_put old now all so_far = subst (HasPut old now) (sym (so_far.parts ∙ append-nil so_far.made)) so_far.puts

-- behind the sectors the parameters
module _ (p : Param) (disk : Puts) (a b c : Outside) (first : HasPut a b (filter is_put disk)) where
  pub image_made : (param : Block) (result : Result (Unit {0}) OpenFault) → param ≡ param_bytes (next_param p) →
      MatchResult result (λ done. HasPut b c ((sector_of region.Param, param) ∷ [])) (λ fault. StopsAt b c ((sector_of region.Param, param) ∷ []) fault) →
      MatchResult result (λ done. HasPut a c (image_puts p disk)) (λ fault. StopsAt a c (image_puts p disk) fault)
  image_made param result e last =
      MatchResult-weaker result last
      (λ done has. put_behind a b c (filter is_put disk) (param_put (next_param p) ∷ []) first (subst (λ block. HasPut b c ((sector_of region.Param, block) ∷ [])) e has))
      (λ fault stops. stops_behind a b c (filter is_put disk) (param_put (next_param p) ∷ []) fault first (subst (λ block. StopsAt b c ((sector_of region.Param, block) ∷ []) fault) e stops))

pub image_stops : (p : Param) (disk : Puts) (a b : Outside) (fault : OpenFault) → StopsAt a b (filter is_put disk) fault → StopsAt a b (image_puts p disk) fault
image_stops p disk a b fault stops = stops_before a b (filter is_put disk) (param_put (next_param p) ∷ []) fault stops

-- over sectors of zeros they make the disk from which a run on the image begins
pub image_start_made : (p : Param) (disk : Puts) (a b : Outside) (result : Result (Unit {0}) OpenFault) → MatchResult result (λ done. HasPut a b (image_puts p disk)) (λ fault. StopsAt a b (image_puts p disk) fault) →
    OnOk result (IsBlank a → (script : List Line) (tree : FileTree) → SameSectors b.sectors (image_start script p tree disk).disk)
image_start_made p disk a b result made = MatchResult-weaker result made (λ done has blank script tree. blank_put a b (image_puts p disk) has blank) (λ fault stops. tt)
