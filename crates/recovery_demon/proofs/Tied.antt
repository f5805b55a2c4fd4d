-- A recovery with a replay and one without, as they are seen.
use Rattle.std.proofs.Common.{◌≡◌, ◌<◌, ℕ, Bool, true, false, not, ◌&&◌, List, [], Option, Some, None, nat_lt, refl, sym, ap, ◌∙◌, subst}
use Rattle.std.proofs.lemmas.Bool.{and_parts, false≢true, ltb-true}
use Rattle.std.specs.Option.{IfSome}
use Rattle.std.specs.List.Sorted.{IsStrictlySortedBy}
use Rattle.sector_bytes.specs.SectorMaps.{Ascend, Spacious}
use Rattle.sector_bytes.specs.Blocks.{Block}
use Rattle.core_definitions.specs.Logs.{SlotsRead}
use Rattle.recovery_demon.specs.Inside.{AreTied, IsBegun, IsTied, flying_in, looked_in, recovering_of, written_in}
use Rattle.recovery_demon.specs.Recovering.{Recovering, behind_loads}
use Rattle.recovery_demon.specs.Replays.{Kept, Replaying}
use Rattle.log_slots.specs.Reading.{are_all_read}

pub tied_some : (dead segments : ℕ) (slots : SlotsRead) (o : Option Kept) (k : Kept) → AreTied dead segments slots o → o ≡ Some k → IsTied dead segments slots k.replay
tied_some dead segments slots o k tied is = subst (AreTied dead segments slots) is tied

pub seen_as : (dead segments : ℕ) (slots : Spacious Block) (o : Option Kept) (k : Kept) (value : Recovering) → o ≡ Some k → recovering_of dead segments slots o ≡ value → recovering_of dead segments slots (Some k) ≡ value
seen_as dead segments slots o k value is seen = ap (recovering_of dead segments slots) (sym is) ∙ seen

-- one whose log isn't read off yet: where it is fresh, not all slots are read
pub record IsYoung (value : Recovering) : Type 0 where
  pub unread : are_all_read value.recovery.slots ≡ false
  pub looked : value.recovery.looked ≡ []
  pub written : value.recovery.written ≡ []
  pub issued : value.issued ≡ []

opened_not : (b : Bool) → not b ≡ true → b ≡ false
opened_not true e = absurd (false≢true e)
opened_not false e = refl

pub young : (dead segments : ℕ) (slots : Spacious Block) (o : Option Kept) (value : Recovering) → o ≡ None → recovering_of dead segments slots o ≡ value → value.is_fresh ≡ true → IsYoung value
young dead segments slots o value is seen fresh =
    let same : recovering_of dead segments slots None ≡ value = ap (recovering_of dead segments slots) (sym is) ∙ seen in
    record {
      unread = ap (λ (d : Recovering). are_all_read d.recovery.slots) (sym same) ∙ opened_not (are_all_read slots.entries) (ap (λ (d : Recovering). d.is_fresh) same ∙ fresh);
      looked = ap (λ (d : Recovering). d.recovery.looked) (sym same);
      written = ap (λ (d : Recovering). d.recovery.written) (sym same);
      issued = ap (λ (d : Recovering). d.issued) (sym same);
    }

-- one that is ready is fresh
fresh_from : (b r : Bool) → (not b && r) ≡ true → not b ≡ true
fresh_from b r e = (and_parts (not b) r e).0

pub young_ready : (dead segments : ℕ) (slots : Spacious Block) (o : Option Kept) (value : Recovering) → o ≡ None → recovering_of dead segments slots o ≡ value → value.is_ready ≡ true → IsYoung value
young_ready dead segments slots o value is seen ready =
    let same : recovering_of dead segments slots None ≡ value = ap (recovering_of dead segments slots) (sym is) ∙ seen in
    let fresh : not (are_all_read slots.entries) ≡ true = fresh_from (are_all_read slots.entries) (nat_lt 0 slots.spare) (ap (λ (d : Recovering). d.is_ready) same ∙ ready) in
    young dead segments slots o value is seen (ap (λ (d : Recovering). d.is_fresh) (sym same) ∙ fresh)

-- one with a replay has read all slots
pub all_read_in : (dead segments : ℕ) (slots : Spacious Block) (o : Option Kept) (k : Kept) (value : Recovering) → AreTied dead segments slots.entries o → o ≡ Some k → recovering_of dead segments slots o ≡ value →
    are_all_read value.recovery.slots ≡ true
all_read_in dead segments slots o k value tied is seen = ap (λ (d : Recovering). are_all_read d.recovery.slots) (sym seen) ∙ (tied_some dead segments slots.entries o k tied is).read

-- what holds where there is a value holds of the one that is there
pub if_at : {X : Type 0} (P : X → Type 0) (o : Option X) (x : X) → o ≡ Some x → IfSome o P → P x
if_at {X} P o x e h = let Q : Option X → Type 0 = λ p. IfSome p P in subst Q e h

pub if_there : {X : Type 0} (P : X → Type 0) (o : Option X) (x : X) → o ≡ Some x → P x → IfSome o P
if_there {X} P o x e h = let Q : Option X → Type 0 = λ p. IfSome p P in subst Q (sym e) h

-- one that isn't opened has no write in flight
pub none_issued : (dead segments : ℕ) (slots : Spacious Block) (o : Option Kept) (value : Recovering) → o ≡ None → recovering_of dead segments slots o ≡ value → value.issued ≡ []
none_issued dead segments slots o value is seen = ap (λ (d : Recovering). d.issued) (sym (ap (recovering_of dead segments slots) (sym is) ∙ seen))

-- and nothing was looked at, which ascends
pub none_looked : (dead segments : ℕ) (slots : Spacious Block) (o : Option Kept) (value : Recovering) → o ≡ None → recovering_of dead segments slots o ≡ value → value.recovery.looked ≡ []
none_looked dead segments slots o value is seen = ap (λ (d : Recovering). d.recovery.looked) (sym (ap (recovering_of dead segments slots) (sym is) ∙ seen))

pub nothing_ascends : (looked : List (ℕ × Option Block)) → looked ≡ [] → Ascend looked
unfolding IsStrictlySortedBy
nothing_ascends looked none =
    let P : List (ℕ × Option Block) → Type 0 = λ xs. Ascend xs in
    let nothing : List (ℕ × Option Block) = [] in
    let empty : Ascend nothing = tt in
    subst P (sym none) empty

-- a replay at its beginning wants what is seen of a recovery without one
pub begun_as : (dead segments : ℕ) (slots : Spacious Block) (o : Option Kept) (value : Recovering) (r : Replaying) → recovering_of dead segments slots o ≡ value → value.recovery.looked ≡ [] → value.recovery.written ≡ [] →
    value.issued ≡ [] → IsBegun r →
    behind_loads segments (record { dead = dead; slots = slots.entries; looked = r.looked; written = r.written }) r.flying ≡ behind_loads value.segments value.recovery value.issued
begun_as dead segments slots o value r seen l w f begun =
    let looked : r.looked ≡ looked_in o = begun.looked ∙ sym (ap (λ (d : Recovering). d.recovery.looked) seen ∙ l) in
    let written : r.written ≡ written_in o = begun.written ∙ sym (ap (λ (d : Recovering). d.recovery.written) seen ∙ w) in
    let flying : r.flying ≡ flying_in o = begun.flying ∙ sym (ap (λ (d : Recovering). d.issued) seen ∙ f) in
    (λ i. behind_loads segments (record { dead = dead; slots = slots.entries; looked = looked i; written = written i }) (flying i)) ∙ ap (λ (d : Recovering). behind_loads d.segments d.recovery d.issued) seen

-- ---- room

pub ready_flying : (a b : Bool) (n : ℕ) (d : Bool) → (a && b && nat_lt 0 n && d) ≡ true → 0 < n
ready_flying a b n d e = ltb-true 0 n ((and_parts (a && b) (nat_lt 0 n) (and_parts (a && b && nat_lt 0 n) d e).0).1)

pub ready_waiting : (a : Bool) (n : ℕ) (c d : Bool) → (a && nat_lt 0 n && c && d) ≡ true → 0 < n
ready_waiting a n c d e = ltb-true 0 n ((and_parts a (nat_lt 0 n) (and_parts (a && nat_lt 0 n) c (and_parts (a && nat_lt 0 n && c) d e).0).0).1)
