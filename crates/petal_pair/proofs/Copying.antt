-- In what two copies may differ after a put, and what a pair now keeps and means.
use Rattle.std.proofs.Common.{◌≡◌, ◌⊎◌, ◌≤◌, ◌<◌, inl, inr, ℕ, Bool, true, false, ◌==◌, ◌&&◌, if◌then◌else◌, List, [], ◌∷◌, ◌++◌, Option, Some, None, is_some, Result, Ok, Err, slice_index, refl, sym, ap, ◌∙◌}
use Rattle.frang_base.specs.declared.sector.Sector.{Sector}
use Rattle.frang_outside.proofs.Acts.{bytes_after_all_push}
use Rattle.frang_outside.specs.declared.act.Act.{Act}
use Rattle.frang_outside.specs.declared.act.Act.TheVariants.{Put as Acted}
use Rattle.frang_outside.specs.declared.act.Put.{Put}
use Rattle.frang_outside.specs.declared.act.Taken.{Taken}
use Rattle.frang_outside.specs.declared.act.Taken.TheVariants.{Written, Late}
use Rattle.frang_outside.specs.declared.outside.PutFault.{PutFault}
use Rattle.frang_outside.specs.declared.outside.PutFault.TheVariants.{Failed as PutFailed, NoMemory as PutNoMemory}
use Rattle.frang_outside.specs.Disk.{disk_after}
use Rattle.frang_outside.specs.Outside.{State, Accounts, NoneRose, PutOutcome, told_more}
use Rattle.petal_pair.specs.PairedCopies.{AreCopies, DifferAtMost, IsNoneOf, IsPaired, pair_over, sectors_told, sectors_used, told_by_both}
use Rattle.petal_pair.specs.PairedCalls.{CountsPut, PairPuts, Puts, SecondPuts, acts_put, missed_after, missed_with}
use Rattle.petal_pair.specs.declared.in_use.InUse.{InUse}
use Rattle.petal_pair.specs.declared.in_use.InUse.TheVariants.{Both, FirstAlone, SecondAlone}
use Rattle.petal_pair.proofs.Putting.{PutSectors, of_outcome, others_stay, tells_pair, used_failed, used_put}
use Rattle.sector_bytes.specs.Blocks.{zero_block}
use Rattle.sector_bytes.specs.Sectors.{Sectors, SameSectors}

-- none of these and not this one
none_of_push : (s : ℕ) (sectors : List Sector) (sector : Sector) → IsNoneOf s (sectors ++ sector ∷ []) → IsNoneOf s sectors × (s ≡ sector.0 → ⊥)
none_of_push s [] sector h = (tt, h.0)
none_of_push s (x ∷ sectors) sector h = ((h.0, (none_of_push s sectors sector h.1).0), (none_of_push s sectors sector h.1).1)

-- the copy that is out misses what the other is put
differ_after : (missed : List Sector) (out old new : Sectors) (put : Put) (r : Result Taken PutFault) → DifferAtMost missed out old → PutSectors old new put r → DifferAtMost (missed_with missed put.sector r) out new
differ_after missed out old new put (Ok Written) h k s none = h s (none_of_push s missed put.sector none).0 ∙ sym (others_stay old new put (Ok Written) k s (none_of_push s missed put.sector none).1)
differ_after missed out old new put (Ok Late) h k s none = h s none ∙ sym (k s)
differ_after missed out old new put (Err PutFailed) h k s none = h s (none_of_push s missed put.sector none).0 ∙ sym (others_stay old new put (Err PutFailed) k s (none_of_push s missed put.sector none).1)
differ_after missed out old new put (Err PutNoMemory) h k s none = h s none ∙ sym (k s)

-- two equal copies differ at most in the sector that each was put
differ_new : (missed : List Sector) (x y x' y' : Sectors) (put : Put) (r q : Result Taken PutFault) → SameSectors x y → PutSectors x x' put r → PutSectors y y' put q → DifferAtMost (missed ++ put.sector ∷ []) x' y'
differ_new missed x y x' y' put r q same h k s none =
    others_stay x x' put r h s (none_of_push s missed put.sector none).1 ∙ same s ∙ sym (others_stay y y' put q k s (none_of_push s missed put.sector none).1)

-- both stay in was
both_after : (a a' b b' : State) (put : Put) (r : Result Taken PutFault) → SameSectors b.sectors a.sectors → Puts a a' put r → SecondPuts b b' put r → SameSectors b'.sectors a'.sectors
both_after a a' b b' put (Ok Written) same h k s = k.outcome.1 s ∙ ap (λ bytes. if put.sector.0 == s then put.bytes else bytes) (same s) ∙ sym (h.outcome.1 s)
both_after a a' b b' put (Ok Late) same h (inl k) s = k.outcome.1 s ∙ same s ∙ sym (h.outcome.1 s)
both_after a a' b b' put (Ok Late) same h (inr k) s = k.outcome.0 s ∙ same s ∙ sym (h.outcome.1 s)
both_after a a' b b' put (Err PutFailed) same h k s = absurd k
both_after a a' b b' put (Err PutNoMemory) same h k s = ap (λ u. u.sectors s) k ∙ same s ∙ sym (h.outcome.0 s)

short_after : (b b' : State) (put : Put) → Puts b b' put (Err PutFailed) ⊎ Puts b b' put (Err PutNoMemory) → (s : ℕ) → (s ≡ put.sector.0 → ⊥) → b'.sectors s ≡ b.sectors s
short_after b b' put (inl h) s apart = h.outcome.1.others s apart
short_after b b' put (inr h) s apart = h.outcome.0 s

pub copies_put : (was now : InUse) (a a' b b' : State) (missed : List Sector) (put : Put) (r : Result Taken PutFault) → AreCopies was missed a.sectors b.sectors → PairPuts was now a a' b b' put r → AreCopies now (missed_after was now missed put.sector r) a'.sectors b'.sectors
copies_put Both Both a a' b b' missed put r same h = (both_after a a' b b' put r same.0 h.0 h.1, same.1)
copies_put Both FirstAlone a a' b b' missed put r same h = λ s none.
    short_after b b' put h.2 s (none_of_push s missed put.sector none).1
    ∙ same.0 s
    ∙ sym (others_stay a.sectors a'.sectors put (Ok Written) (of_outcome a a' put (Ok Written) h.1.outcome) s (none_of_push s missed put.sector none).1)
copies_put Both SecondAlone a a' b b' missed put r same h =
    differ_new missed a.sectors b.sectors a'.sectors b'.sectors put (Err PutFailed) r (λ s. sym (same.0 s)) (of_outcome a a' put (Err PutFailed) h.0.outcome) (of_outcome b b' put r h.1.outcome)
copies_put FirstAlone now a a' b b' missed put r same h =
    rw (h.0, h.2) (differ_after missed b.sectors a.sectors a'.sectors put r same (of_outcome a a' put r h.1.outcome))
copies_put SecondAlone now a a' b b' missed put r same h =
    rw (h.0, h.1) (differ_after missed a.sectors b.sectors b'.sectors put r same (of_outcome b b' put r h.2.outcome))

-- the pair's own record
abbrev pub told_put : Option (List Act) → Put → Result Taken PutFault → Option (List Act)
told_put told put (Ok taken) = told_more told (Acted put taken)
told_put told put (Err fault) = told

pub told_if : (b : Bool) (acts : List Act) (act : Act) → (if b then Some (acts ++ act ∷ []) else None) ≡ told_more (if b then Some acts else None) act
told_if true acts act = refl
told_if false acts act = refl

pub told_same : (x x' y y' : Option (List Act)) (acts : List Act) → is_some x' ≡ is_some x → is_some y' ≡ is_some y → told_by_both x' y' acts ≡ told_by_both x y acts
told_same x x' y y' acts e f = rw (e, f) refl

pub told_after : (x x' y y' : Option (List Act)) (acts : List Act) (put : Put) (r : Result Taken PutFault) → is_some x' ≡ is_some x → is_some y' ≡ is_some y → told_by_both x' y' (acts_put acts put r) ≡ told_put (told_by_both x y acts) put r
told_after x x' y y' acts put (Ok taken) e f = told_same x x' y y' (acts ++ Acted put taken ∷ []) e f ∙ told_if (is_some x && is_some y) acts (Acted put taken)
told_after x x' y y' acts put (Err fault) e f = told_same x x' y y' acts e f

-- where a record is told, a put that fails leaves all sectors
abbrev pub FailedStays : Option (List Act) → Sectors → Sectors → Result Taken PutFault → Type 0
FailedStays None old new r = Unit {0}
FailedStays (Some acts) old new (Ok taken) = Unit {0}
FailedStays (Some acts) old new (Err PutFailed) = SameSectors new old
FailedStays (Some acts) old new (Err PutNoMemory) = Unit {0}

-- the pair's sectors go on being those of the first copy in was
sectors_put_told : (acts : List Act) (old new : Sectors) (put : Put) (r : Result Taken PutFault) → SameSectors (disk_after acts) old → PutSectors old new put r → FailedStays (Some acts) old new r → SameSectors (sectors_told (told_put (Some acts) put r) new) new
sectors_put_told acts old new put (Ok Written) is h stays s =
    bytes_after_all_push s zero_block acts (Acted put Written) ∙ ap (λ bytes. if put.sector.0 == s then put.bytes else bytes) (is s) ∙ sym (h s)
sectors_put_told acts old new put (Ok Late) is h stays s = bytes_after_all_push s zero_block acts (Acted put Late) ∙ is s ∙ sym (h s)
sectors_put_told acts old new put (Err PutFailed) is h stays s = is s ∙ sym (stays s)
sectors_put_told acts old new put (Err PutNoMemory) is h stays s = is s ∙ sym (h s)

pub sectors_put : (told : Option (List Act)) (old new : Sectors) (put : Put) (r : Result Taken PutFault) → SameSectors (sectors_told told old) old → PutSectors old new put r → FailedStays told old new r → SameSectors (sectors_told (told_put told put r) new) new
sectors_put None old new put (Ok taken) is h stays = λ s. refl
sectors_put None old new put (Err fault) is h stays = λ s. refl
sectors_put (Some acts) old new put r is h stays = sectors_put_told acts old new put r is h stays

-- and are put to as these
pub pair_put : (told : Option (List Act)) (old new : Sectors) (put : Put) (r : Result Taken PutFault) → SameSectors (sectors_told told old) old → PutSectors old new put r → FailedStays told old new r → PutSectors (sectors_told told old) (sectors_told (told_put told put r) new) put r
pair_put None old new put (Ok taken) is h stays = h
pair_put None old new put (Err fault) is h stays = h
pair_put (Some acts) old new put (Ok Written) is h stays = λ s. bytes_after_all_push s zero_block acts (Acted put Written)
pair_put (Some acts) old new put (Ok Late) is h stays = λ s. bytes_after_all_push s zero_block acts (Acted put Late)
pair_put (Some acts) old new put (Err PutFailed) is h stays = record { own = inl refl; others = λ s apart. refl }
pair_put (Some acts) old new put (Err PutNoMemory) is h stays = λ s. refl

failed_stays_if : (one two : Bool) (acts : List Act) (old new : Sectors) (r : Result Taken PutFault) → (one ≡ true → two ≡ true → r ≡ Err PutFailed → SameSectors new old) → FailedStays (if one && two then Some acts else None) old new r
failed_stays_if true true acts old new (Ok taken) h = tt
failed_stays_if true true acts old new (Err PutFailed) h = h refl refl refl
failed_stays_if true true acts old new (Err PutNoMemory) h = tt
failed_stays_if true false acts old new r h = tt
failed_stays_if false two acts old new r h = tt

-- what holds of a pair before and after a put
pub record PutHolds (was now : InUse) (a a' b b' : State) (missed : List Sector) (acts : List Act) (put : Put) (r : Result Taken PutFault) : Type 0 where
  pub is : IsPaired a b was missed acts
  pub puts : PairPuts was now a a' b b' put r
  pub first_before : Accounts a
  pub first_after : Accounts a'
  pub second_before : Accounts b
  pub second_after : Accounts b'

stays_put : (was now : InUse) (a a' b b' : State) (missed : List Sector) (acts : List Act) (put : Put) (r : Result Taken PutFault) → PutHolds was now a a' b b' missed acts put r → FailedStays (told_by_both a.acts b.acts acts) (sectors_used was a b) (sectors_used now a' b') r
stays_put was now a a' b b' missed acts put r p =
    failed_stays_if (is_some a.acts) (is_some b.acts) acts (sectors_used was a b) (sectors_used now a' b') r
    (λ one two e. used_failed was now a a' b b' missed put p.first_before p.first_after p.second_before p.second_after p.is.copies (rw (← e) p.puts) one two)

pub is_pair_put : (was now : InUse) (a a' b b' : State) (missed : List Sector) (acts : List Act) (put : Put) (r : Result Taken PutFault) → PutHolds was now a a' b b' missed acts put r → IsPaired a' b' now (missed_after was now missed put.sector r) (acts_put acts put r)
is_pair_put was now a a' b b' missed acts put r p =
    let tells : (is_some a'.acts ≡ is_some a.acts) × (is_some b'.acts ≡ is_some b.acts) = tells_pair was now a a' b b' put r p.puts in
    record {
      sectors =
          rw (told_after a.acts a'.acts b.acts b'.acts acts put r tells.0 tells.1)
          (sectors_put (told_by_both a.acts b.acts acts) (sectors_used was a b) (sectors_used now a' b') put r p.is.sectors (used_put was now a a' b b' missed put r p.is.copies p.puts) (stays_put was now a a' b b' missed acts put r p));
      copies = copies_put was now a a' b b' missed put r p.is.copies p.puts;
    }

-- the time of an answered put
abbrev pub PutTime : Put → Result Taken PutFault → Type 0
PutTime put (Ok Written) = put.now ≤ put.stamp
PutTime put (Ok Late) = put.stamp < put.now
PutTime put (Err PutFailed) = put.now ≤ put.stamp
PutTime put (Err PutNoMemory) = Unit {0}

time_of : (s t : State) (put : Put) (r : Result Taken PutFault) → PutOutcome s t put r → PutTime put r
time_of s t put (Ok Written) h = h.0
time_of s t put (Ok Late) h = h.0
time_of s t put (Err PutFailed) h = h.0
time_of s t put (Err PutNoMemory) h = tt

time_put : (was now : InUse) (a a' b b' : State) (put : Put) (r : Result Taken PutFault) → PairPuts was now a a' b b' put r → PutTime put r
time_put Both Both a a' b b' put r h = time_of a a' put r h.0.outcome
time_put Both FirstAlone a a' b b' put r h = rw h.0 (time_of a a' put (Ok Written) h.1.outcome)
time_put Both SecondAlone a a' b b' put r h = time_of b b' put r h.1.outcome
time_put FirstAlone now a a' b b' put r h = time_of a a' put r h.1.outcome
time_put SecondAlone now a a' b b' put r h = time_of b b' put r h.2.outcome

none_rose : (a a' b b' : State) (was now : InUse) (acts acts' : List Act) (faults faults' : List ℕ) (says : ℕ) → faults' ≡ faults → NoneRose (pair_over a b was acts faults says) (pair_over a' b' now acts' faults' says)
none_rose a a' b b' was now acts acts' faults faults' says e = record { faults = λ party. ap (λ f. slice_index f party) e; says = refl }

outcome_of : (a a' b b' : State) (was now : InUse) (acts acts' : List Act) (faults faults' : List ℕ) (says : ℕ) (put : Put) (r : Result Taken PutFault) → PutTime put r →
    PutSectors (sectors_told (told_by_both a.acts b.acts acts) (sectors_used was a b)) (sectors_told (told_by_both a'.acts b'.acts acts') (sectors_used now a' b')) put r →
    told_by_both a'.acts b'.acts acts' ≡ told_put (told_by_both a.acts b.acts acts) put r → CountsPut faults faults' put.server.0 r →
    PutOutcome (pair_over a b was acts faults says) (pair_over a' b' now acts' faults' says) put r
outcome_of a a' b b' was now acts acts' faults faults' says put (Ok Written) time sectors told counts = (time, sectors, told, none_rose a a' b b' was now acts acts' faults faults' says counts)
outcome_of a a' b b' was now acts acts' faults faults' says put (Ok Late) time sectors told counts = (time, sectors, told, none_rose a a' b b' was now acts acts' faults faults' says counts)
outcome_of a a' b b' was now acts acts' faults faults' says put (Err PutFailed) time sectors told counts = (time, sectors, told, record { own = counts.0; others = counts.1; says = refl })
outcome_of a a' b b' was now acts acts' faults faults' says put (Err PutNoMemory) time sectors told counts = (sectors, told, none_rose a a' b b' was now acts acts' faults faults' says counts)

pub pair_outcome : (was now : InUse) (a a' b b' : State) (missed : List Sector) (acts : List Act) (faults faults' : List ℕ) (says : ℕ) (put : Put) (r : Result Taken PutFault) → PutHolds was now a a' b b' missed acts put r → CountsPut faults faults' put.server.0 r →
    PutOutcome (pair_over a b was acts faults says) (pair_over a' b' now (acts_put acts put r) faults' says) put r
pair_outcome was now a a' b b' missed acts faults faults' says put r p counts =
    let tells : (is_some a'.acts ≡ is_some a.acts) × (is_some b'.acts ≡ is_some b.acts) = tells_pair was now a a' b b' put r p.puts in
    let told : told_by_both a'.acts b'.acts (acts_put acts put r) ≡ told_put (told_by_both a.acts b.acts acts) put r = told_after a.acts a'.acts b.acts b'.acts acts put r tells.0 tells.1 in
    outcome_of a a' b b' was now acts (acts_put acts put r) faults faults' says put r (time_put was now a a' b b' put r p.puts)
    (rw told (pair_put (told_by_both a.acts b.acts acts) (sectors_used was a b) (sectors_used now a' b') put r p.is.sectors (used_put was now a a' b b' missed put r p.is.copies p.puts) (stays_put was now a a' b b' missed acts put r p)))
    told counts

-- the mark of the first copy stays
pub mark_put : (was now : InUse) (a a' b b' : State) (put : Put) (r : Result Taken PutFault) → PairPuts was now a a' b b' put r → a'.mark ≡ a.mark
mark_put Both Both a a' b b' put r h = h.0.counts.mark
mark_put Both FirstAlone a a' b b' put r h = h.1.counts.mark
mark_put Both SecondAlone a a' b b' put r h = h.0.counts.mark
mark_put FirstAlone now a a' b b' put r h = h.1.counts.mark
mark_put SecondAlone now a a' b b' put r h = ap (λ u. u.mark) h.1
