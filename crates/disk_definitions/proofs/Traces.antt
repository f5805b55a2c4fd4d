-- How traces go on and what they come to, by induction on the computation.
use Rattle.std.proofs.Common.{◌≡◌, Bool, true, false, if◌then◌else◌, Option, Some, None, List, ◌∷◌, refl, ◌∙◌, ap}
use Rattle.disk_definitions.specs.Ask.{Sector, InodeAt, DirectoryAt, SegmentAt, BytesAt, LargeAt, Ask, Got, ReadInode, ReadDirectory, ReadSegment, ReadBytes, ReadLarge, Met, bind, meet, or_needs}
use Rattle.disk_definitions.specs.Ask.Met.{Needs, Has}
use Rattle.disk_definitions.specs.Traces.{Traced, traced, needs, behind, by_said, on_from, then_traced, TracesGoOn, TracesMeet}

-- ---- one after another

one_first : {A B : Type 0} (x : Sector) (looked : List Sector) (m : Met A) (k : A → Traced B) → behind x (on_from looked m k) ≡ on_from (x ∷ looked) m k
one_first x looked (Needs sector) k = refl
one_first x looked (Has value) k = refl

said_then : {X A B : Type 0} (x : Sector) (o : Option X) (g : X → Traced B) (h : X → Traced A) (k : A → Traced B) → ((y : X) → g y ≡ then_traced (h y) k) → by_said x o g ≡ then_traced (by_said x o h) k
said_then x None g h k e = refl
said_then x (Some y) g h k e = ap (behind x) (e y) ∙ one_first x (h y).looked (h y).met k

segment_then : {A B : Type 0} (x : Sector) (b : Bool) (g : Traced B) (h : Traced A) (k : A → Traced B) → g ≡ then_traced h k → (if b then behind x g else needs x) ≡ then_traced (if b then behind x h else needs x) k
segment_then x true g h k e = ap (behind x) e ∙ one_first x h.looked h.met k
segment_then x false g h k e = refl

pub traces_go_on : {A B : Type 0} → TracesGoOn A B
traces_go_on (Got a) f c = refl
traces_go_on (ReadInode i next) f c =
    said_then (InodeAt i) (c.inode i) (λ x. traced (bind (next x) f) c) (λ x. traced (next x) c) (λ a. traced (f a) c) (λ x. traces_go_on (next x) f c)
traces_go_on (ReadDirectory k part next) f c =
    said_then (DirectoryAt k part) (c.directory k part) (λ x. traced (bind (next x) f) c) (λ x. traced (next x) c) (λ a. traced (f a) c) (λ x. traces_go_on (next x) f c)
traces_go_on (ReadSegment k next) f c = segment_then (SegmentAt k) (c.segment k) (traced (bind next f) c) (traced next c) (λ a. traced (f a) c) (traces_go_on next f c)
traces_go_on (ReadBytes k part next) f c =
    said_then (BytesAt k part) (c.bytes k part) (λ x. traced (bind (next x) f) c) (λ x. traced (next x) c) (λ a. traced (f a) c) (λ x. traces_go_on (next x) f c)
traces_go_on (ReadLarge g part next) f c =
    said_then (LargeAt g part) (c.large g part) (λ x. traced (bind (next x) f) c) (λ x. traced (next x) c) (λ a. traced (f a) c) (λ x. traces_go_on (next x) f c)

-- ---- what it comes to

said_met : {X A : Type 0} (x : Sector) (o : Option X) (g : X → Traced A) (m : X → Met A) → ((y : X) → (g y).met ≡ m y) → (by_said x o g).met ≡ or_needs x o m
said_met x None g m e = refl
said_met x (Some y) g m e = e y

segment_met : {A : Type 0} (x : Sector) (b : Bool) (t : Traced A) (m : Met A) → t.met ≡ m → (if b then behind x t else needs x).met ≡ (if b then m else Needs x)
segment_met x true t m e = e
segment_met x false t m e = refl

pub traces_meet : {A : Type 0} → TracesMeet A
traces_meet (Got a) c = refl
traces_meet (ReadInode i next) c = said_met (InodeAt i) (c.inode i) (λ x. traced (next x) c) (λ x. meet (next x) c) (λ x. traces_meet (next x) c)
traces_meet (ReadDirectory k part next) c = said_met (DirectoryAt k part) (c.directory k part) (λ x. traced (next x) c) (λ x. meet (next x) c) (λ x. traces_meet (next x) c)
traces_meet (ReadSegment k next) c = segment_met (SegmentAt k) (c.segment k) (traced next c) (meet next c) (traces_meet next c)
traces_meet (ReadBytes k part next) c = said_met (BytesAt k part) (c.bytes k part) (λ x. traced (next x) c) (λ x. meet (next x) c) (λ x. traces_meet (next x) c)
traces_meet (ReadLarge g part next) c = said_met (LargeAt g part) (c.large g part) (λ x. traced (next x) c) (λ x. meet (next x) c) (λ x. traces_meet (next x) c)
