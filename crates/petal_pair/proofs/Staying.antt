-- What a get and a say leave of two copies, and of their pair.
use Rattle.std.proofs.Common.{◌≡◌, ℕ, Bool, true, false, ◌&&◌, if◌then◌else◌, List, [], ◌∷◌, ◌++◌, Option, Some, None, is_some, Result, Ok, Err, refl, sym, ap, ◌∙◌}
use Rattle.frang_base.specs.declared.sector.Sector.{Sector}
use Rattle.frang_outside.proofs.Acts.{bytes_after_all_push}
use Rattle.frang_outside.specs.declared.act.Act.{Act}
use Rattle.frang_outside.specs.declared.act.Act.TheVariants.{Said}
use Rattle.frang_outside.specs.declared.outside.Failed.{Failed}
use Rattle.frang_outside.specs.declared.outside.SayFault.{SayFault}
use Rattle.frang_outside.specs.declared.outside.SayFault.TheVariants.{Failed as SayFailed, NoMemory as SayNoMemory}
use Rattle.frang_outside.specs.Outside.{State, SayOutcome}
use Rattle.petal_pair.specs.PairedCopies.{AreCopies, IsPaired, sectors_told, sectors_used, told_by_both}
use Rattle.petal_pair.specs.PairedCalls.{GetFails, Gets, PairGets, acts_said}
use Rattle.petal_pair.specs.declared.in_use.InUse.{InUse}
use Rattle.petal_pair.specs.declared.in_use.InUse.TheVariants.{Both, FirstAlone, SecondAlone}
use Rattle.petal_pair.proofs.Putting.{tells_more}
use Rattle.petal_pair.proofs.Copying.{told_same}
use Rattle.sector_bytes.specs.Blocks.{zero_block}
use Rattle.sector_bytes.specs.Sectors.{Sectors, SameSectors}

-- a copy that no sector changed in, and that goes on telling its record or not
pub record Stays (s t : State) : Type 0 where
  pub sectors : SameSectors t.sectors s.sectors
  pub acts : is_some t.acts ≡ is_some s.acts

stays_same : (s t : State) → t ≡ s → Stays s t
stays_same s t e = record { sectors = λ sector. ap (λ u. u.sectors sector) e; acts = ap (λ u. is_some u.acts) e }

stays_got : (s t : State) (server sector : ℕ) (r : Result (List ℕ) Failed) → Gets s t server sector r → Stays s t
stays_got s t server sector r h = record { sectors = h.sectors; acts = ap is_some h.acts }

stays_failed : (s t : State) (server : ℕ) → GetFails s t server → Stays s t
stays_failed s t server h = record { sectors = h.sectors; acts = ap is_some h.acts }

get_stays : (was now : InUse) (a a' b b' : State) (server sector : ℕ) (r : Result (List ℕ) Failed) → PairGets was now a a' b b' server sector r → Stays a a' × Stays b b'
get_stays Both Both a a' b b' server sector (Ok block) h = (stays_got a a' server sector (Ok block) h.0, stays_same b b' h.1)
get_stays Both Both a a' b b' server sector (Err fault) h = absurd h
get_stays Both FirstAlone a a' b b' server sector (Ok block) h = absurd h
get_stays Both FirstAlone a a' b b' server sector (Err fault) h = absurd h
get_stays Both SecondAlone a a' b b' server sector (Ok block) h = (stays_failed a a' server h.0, stays_got b b' server sector (Ok block) h.1)
get_stays Both SecondAlone a a' b b' server sector (Err fault) h = (stays_failed a a' server h.0, stays_got b b' server sector (Err fault) h.1)
get_stays FirstAlone now a a' b b' server sector r h = (stays_got a a' server sector r h.1, stays_same b b' h.2)
get_stays SecondAlone now a a' b b' server sector r h = (stays_same a a' h.1, stays_got b b' server sector r h.2)

-- the copies in use stay, or the first goes out
abbrev pub GoesOn : InUse → InUse → Type 0
GoesOn Both Both = Unit {0}
GoesOn Both FirstAlone = ⊥
GoesOn Both SecondAlone = Unit {0}
GoesOn FirstAlone now = now ≡ FirstAlone
GoesOn SecondAlone now = now ≡ SecondAlone

get_goes_on : (was now : InUse) (a a' b b' : State) (server sector : ℕ) (r : Result (List ℕ) Failed) → PairGets was now a a' b b' server sector r → GoesOn was now
get_goes_on Both Both a a' b b' server sector r h = tt
get_goes_on Both FirstAlone a a' b b' server sector (Ok block) h = h
get_goes_on Both FirstAlone a a' b b' server sector (Err fault) h = h
get_goes_on Both SecondAlone a a' b b' server sector r h = tt
get_goes_on FirstAlone now a a' b b' server sector r h = h.0
get_goes_on SecondAlone now a a' b b' server sector r h = h.0

used_stays : (was now : InUse) (a a' b b' : State) (missed : List Sector) → AreCopies was missed a.sectors b.sectors → GoesOn was now → Stays a a' → Stays b b' → SameSectors (sectors_used now a' b') (sectors_used was a b)
used_stays Both Both a a' b b' missed same on p q = p.sectors
used_stays Both FirstAlone a a' b b' missed same on p q = absurd on
used_stays Both SecondAlone a a' b b' missed same on p q = λ s. q.sectors s ∙ same.0 s
used_stays FirstAlone now a a' b b' missed same on p q = rw on p.sectors
used_stays SecondAlone now a a' b b' missed same on p q = rw on q.sectors

copies_stay : (was now : InUse) (a a' b b' : State) (missed : List Sector) → AreCopies was missed a.sectors b.sectors → GoesOn was now → Stays a a' → Stays b b' → AreCopies now missed a'.sectors b'.sectors
copies_stay Both Both a a' b b' missed same on p q = (λ s. q.sectors s ∙ same.0 s ∙ sym (p.sectors s), same.1)
copies_stay Both FirstAlone a a' b b' missed same on p q = absurd on
copies_stay Both SecondAlone a a' b b' missed same on p q = λ s none. p.sectors s ∙ sym (same.0 s) ∙ sym (q.sectors s)
copies_stay FirstAlone now a a' b b' missed same on p q = rw on (λ s none. q.sectors s ∙ same s none ∙ sym (p.sectors s))
copies_stay SecondAlone now a a' b b' missed same on p q = rw on (λ s none. p.sectors s ∙ same s none ∙ sym (q.sectors s))

-- the sectors where a record is told or not
pub told_moved : (told : Option (List Act)) (old new : Sectors) → SameSectors (sectors_told told old) old → SameSectors new old → SameSectors (sectors_told told new) new
told_moved None old new is e s = refl
told_moved (Some acts) old new is e s = is s ∙ sym (e s)

pub told_equal : (told : Option (List Act)) (old new : Sectors) → SameSectors new old → SameSectors (sectors_told told new) (sectors_told told old)
told_equal None old new e = e
told_equal (Some acts) old new e = λ s. refl

is_pair_stays : (was now : InUse) (a a' b b' : State) (missed : List Sector) (acts : List Act) → IsPaired a b was missed acts → GoesOn was now → Stays a a' → Stays b b' → IsPaired a' b' now missed acts
is_pair_stays was now a a' b b' missed acts is on p q = record {
  sectors =
      rw (told_same a.acts a'.acts b.acts b'.acts acts p.acts q.acts)
      (told_moved (told_by_both a.acts b.acts acts) (sectors_used was a b) (sectors_used now a' b') is.sectors (used_stays was now a a' b b' missed is.copies on p q));
  copies = copies_stay was now a a' b b' missed is.copies on p q;
}

sectors_stay : (was now : InUse) (a a' b b' : State) (missed : List Sector) (acts : List Act) → IsPaired a b was missed acts → GoesOn was now → Stays a a' → Stays b b' →
    SameSectors (sectors_told (told_by_both a'.acts b'.acts acts) (sectors_used now a' b')) (sectors_told (told_by_both a.acts b.acts acts) (sectors_used was a b))
sectors_stay was now a a' b b' missed acts is on p q =
    rw (told_same a.acts a'.acts b.acts b'.acts acts p.acts q.acts)
    (told_equal (told_by_both a.acts b.acts acts) (sectors_used was a b) (sectors_used now a' b') (used_stays was now a a' b b' missed is.copies on p q))

-- a get
pub is_pair_got : (was now : InUse) (a a' b b' : State) (missed : List Sector) (acts : List Act) (server sector : ℕ) (r : Result (List ℕ) Failed) → IsPaired a b was missed acts → PairGets was now a a' b b' server sector r → IsPaired a' b' now missed acts
is_pair_got was now a a' b b' missed acts server sector r is h =
    is_pair_stays was now a a' b b' missed acts is (get_goes_on was now a a' b b' server sector r h) (get_stays was now a a' b b' server sector r h).0 (get_stays was now a a' b b' server sector r h).1

pub sectors_got : (was now : InUse) (a a' b b' : State) (missed : List Sector) (acts : List Act) (server sector : ℕ) (r : Result (List ℕ) Failed) → IsPaired a b was missed acts → PairGets was now a a' b b' server sector r →
    SameSectors (sectors_told (told_by_both a'.acts b'.acts acts) (sectors_used now a' b')) (sectors_told (told_by_both a.acts b.acts acts) (sectors_used was a b))
sectors_got was now a a' b b' missed acts server sector r is h =
    sectors_stay was now a a' b b' missed acts is (get_goes_on was now a a' b b' server sector r h) (get_stays was now a a' b b' server sector r h).0 (get_stays was now a a' b b' server sector r h).1

-- a say
said_stays : (s t : State) (line : List ℕ) (r : Result (Unit {0}) SayFault) → SameSectors t.sectors s.sectors → SayOutcome s t line r → Stays s t
said_stays s t line (Ok done) same h = record { sectors = same; acts = ap is_some h.0 ∙ tells_more s.acts (Said line) }
said_stays s t line (Err SayFailed) same h = record { sectors = same; acts = ap is_some h.0 }
said_stays s t line (Err SayNoMemory) same h = record { sectors = same; acts = ap is_some h.0 }

goes_on_same : (was : InUse) → GoesOn was was
goes_on_same Both = tt
goes_on_same FirstAlone = refl
goes_on_same SecondAlone = refl

-- a line more changes no sector
line_more : (one two : Bool) (acts : List Act) (line : List ℕ) (sectors : Sectors) → SameSectors (sectors_told (if one && two then Some (acts ++ Said line ∷ []) else None) sectors) (sectors_told (if one && two then Some acts else None) sectors)
line_more true true acts line sectors s = bytes_after_all_push s zero_block acts (Said line)
line_more true false acts line sectors s = refl
line_more false two acts line sectors s = refl

said_more : (a b : State) (acts : List Act) (line : List ℕ) (r : Result (Unit {0}) SayFault) (sectors : Sectors) → SameSectors (sectors_told (told_by_both a.acts b.acts (acts_said acts line r)) sectors) (sectors_told (told_by_both a.acts b.acts acts) sectors)
said_more a b acts line (Ok done) sectors = line_more (is_some a.acts) (is_some b.acts) acts line sectors
said_more a b acts line (Err fault) sectors = λ s. refl

pub is_pair_said : (was : InUse) (a a' b : State) (missed : List Sector) (acts : List Act) (line : List ℕ) (r : Result (Unit {0}) SayFault) → IsPaired a b was missed acts → SameSectors a'.sectors a.sectors → SayOutcome a a' line r → IsPaired a' b was missed (acts_said acts line r)
is_pair_said was a a' b missed acts line r is same h =
    let p : Stays a a' = said_stays a a' line r same h in
    let stays : IsPaired a' b was missed acts = is_pair_stays was was a a' b b missed acts is (goes_on_same was) p (stays_same b b refl) in
    record {
      sectors = λ s. said_more a' b acts line r (sectors_used was a' b) s ∙ stays.sectors s;
      copies = stays.copies;
    }

pub sectors_said : (was : InUse) (a a' b : State) (missed : List Sector) (acts : List Act) (line : List ℕ) (r : Result (Unit {0}) SayFault) → IsPaired a b was missed acts → SameSectors a'.sectors a.sectors → SayOutcome a a' line r →
    SameSectors (sectors_told (told_by_both a'.acts b.acts (acts_said acts line r)) (sectors_used was a' b)) (sectors_told (told_by_both a.acts b.acts acts) (sectors_used was a b))
sectors_said was a a' b missed acts line r is same h s =
    said_more a' b acts line r (sectors_used was a' b) s
    ∙ sectors_stay was was a a' b b missed acts is (goes_on_same was) (said_stays a a' line r same h) (stays_same b b refl) s
