-- What was looked at is put together from its parts.
use Rattle.std.proofs.Common.{◌≡◌, ℕ, Option, Some, None, List, [], ◌∷◌, ◌++◌, map, append_assoc, append-nil, refl, sym, ap, subst, ◌∙◌}
use Rattle.std.proofs.lemmas.List.{map-append}
use Rattle.disk_definitions.specs.declared.region.Region.TheVariants as region
use Rattle.disk_definitions.specs.Regions.{sector_of}
use Rattle.sector_bytes.specs.SectorMaps.{value_at}
use Rattle.disk_definitions.specs.Held.{Segments}
use Rattle.disk_definitions.specs.Ask.{Ask, Got, ReadInode, ReadDirectory, Sector, Met, bind, meet, number_of}
use Rattle.disk_definitions.specs.Ask.Met.{Needs, Has}
use Rattle.disk_definitions.specs.Written.{Cached, at_hand}
use Rattle.disk_definitions.specs.Traces.{Traced, traced, on_from}
use Rattle.disk_definitions.proofs.Traces.{traces_go_on, traces_meet}
use Rattle.dir_lookup.specs.Looked.{Adds}
use Rattle.dir_lookup.specs.Looks.{looks_of}
use Rattle.dir_lookup.specs.Reading.{Read, Lacks, Gives, numbered, reading, read_or_lacks}

-- ---- what is kept

pub adds_none : (kept : Option (List ℕ)) → Adds kept kept []
adds_none kept list e = (list, e, sym (append-nil list))

pub adds_then : (first second third : Option (List ℕ)) (xs ys : List ℕ) → Adds first second xs → Adds second third ys → Adds first third (xs ++ ys)
adds_then first second third xs ys f g list e =
    let r = g list e in
    let q = f r.0 r.1 in
    (q.0, q.1, r.2 ∙ ap (λ l. l ++ ys) q.2 ∙ append_assoc q.0 xs ys)

pub adds_as : (first second : Option (List ℕ)) (xs ys : List ℕ) → xs ≡ ys → Adds first second xs → Adds first second ys
adds_as first second xs ys e = subst (Adds first second) e

-- ---- what is met

pub gives_met : {A : Type 0} (m : Met A) (a : A) → Gives a ≡ numbered m → m ≡ Has a
gives_met (Needs x) a e = absurd (cc)
gives_met (Has b) a e = cc

pub lacks_met : {A : Type 0} (m : Met A) (s : ℕ) → Lacks s ≡ numbered m → (x : Sector) × (m ≡ Needs x)
lacks_met (Needs x) s e = (x, refl)
lacks_met (Has b) s e = absurd (cc)

-- ---- one program after another

pub looks_on : {A B : Type 0} (p : Ask A) (f : A → Ask B) (cached : Cached) (held : Segments) (a : A) → Gives a ≡ reading p cached held → looks_of (bind p f) cached held ≡ looks_of p cached held ++ looks_of (f a) cached held
looks_on p f cached held a e =
    let c = at_hand cached held in
    let l = (traced p c).looked in
    ap (λ t. map number_of t.looked) (traces_go_on p f c)
    ∙ ap (λ m. map number_of (on_from l m (λ a. traced (f a) c)).looked) (traces_meet p c ∙ gives_met (meet p c) a e)
    ∙ map-append number_of l (traced (f a) c).looked

pub looks_end : {A B : Type 0} (p : Ask A) (f : A → Ask B) (cached : Cached) (held : Segments) (s : ℕ) → Lacks s ≡ reading p cached held → looks_of (bind p f) cached held ≡ looks_of p cached held
looks_end p f cached held s e =
    let c = at_hand cached held in
    let l = (traced p c).looked in
    let r = lacks_met (meet p c) s e in
    ap (λ t. map number_of t.looked) (traces_go_on p f c)
    ∙ ap (λ m. map number_of (on_from l m (λ a. traced (f a) c)).looked) (traces_meet p c ∙ r.1)

-- ---- one sector

pub some_there : {A : Type 0} (s : ℕ) (o : Option A) (a : A) → Gives a ≡ read_or_lacks s o → o ≡ Some a
some_there s None a e = absurd (cc)
some_there s (Some x) a e = cc

none_there : {A : Type 0} (s n : ℕ) (o : Option A) → Lacks n ≡ read_or_lacks s o → o ≡ None
none_there s n None e = refl
none_there s n (Some x) e = absurd (cc)

pub inode_looked : (cached : Cached) (i s : ℕ) (block : List ℕ) (held : Segments) → s ≡ sector_of (region.Inode i) → Gives block ≡ read_or_lacks s (value_at cached s) → s ∷ [] ≡ looks_of (ReadInode i Got) cached held
inode_looked cached i s block held at there =
    let e : value_at cached (sector_of (region.Inode i)) ≡ Some block = subst (λ s. value_at cached s ≡ Some block) at (some_there s (value_at cached s) block there) in
    rw e (ap (λ s. s ∷ []) at)

pub inode_missing : (cached : Cached) (i s n : ℕ) (held : Segments) → s ≡ sector_of (region.Inode i) → Lacks n ≡ read_or_lacks s (value_at cached s) → [] ≡ looks_of (ReadInode i Got) cached held
inode_missing cached i s n held at there =
    let e : value_at cached (sector_of (region.Inode i)) ≡ None = subst (λ s. value_at cached s ≡ None) at (none_there s n (value_at cached s) there) in
    rw e refl

pub directory_looked : (cached : Cached) (k part s : ℕ) (block : List ℕ) (held : Segments) → s ≡ sector_of (region.Small k part) → Gives block ≡ read_or_lacks s (value_at cached s) → s ∷ [] ≡ looks_of (ReadDirectory k part Got) cached held
directory_looked cached k part s block held at there =
    let e : value_at cached (sector_of (region.Small k part)) ≡ Some block = subst (λ s. value_at cached s ≡ Some block) at (some_there s (value_at cached s) block there) in
    rw e (ap (λ s. s ∷ []) at)

pub directory_missing : (cached : Cached) (k part s n : ℕ) (held : Segments) → s ≡ sector_of (region.Small k part) → Lacks n ≡ read_or_lacks s (value_at cached s) → [] ≡ looks_of (ReadDirectory k part Got) cached held
directory_missing cached k part s n held at there =
    let e : value_at cached (sector_of (region.Small k part)) ≡ None = subst (λ s. value_at cached s ≡ None) at (none_there s n (value_at cached s) there) in
    rw e refl
