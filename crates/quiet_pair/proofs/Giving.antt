-- What a pair is at first, and what it gives back.
use Rattle.std.proofs.Common.{◌≡◌, ◌⊎◌, inl, inr, ◌≤◌, ℕ, ◌-◌, Bool, true, false, if◌then◌else◌, ◌&&◌, List, [], ◌∷◌, ◌++◌, length, drop, Option, Some, None, is_some, option_map, refl, sym, ap, subst, ◌∙◌, arith}
use Rattle.std.specs.List.{list_all}
use Rattle.std.proofs.lemmas.List.{append-nil}
use Rattle.std.proofs.lemmas.List.Elements.{filter-append, filter_map-append}
use Rattle.std.proofs.Math.Seq.{drop-nil}
use Rattle.std.specs.Prelude.{slice_index}
use Rattle.frang_base.specs.declared.sector.ServerId.{ServerId}
use Rattle.frang_outside.specs.declared.act.Act.{Act}
use Rattle.frang_outside.specs.declared.act.Act.TheVariants.{Put as Acted, Said}
use Rattle.frang_outside.specs.Outside.{State, Rose}
use Rattle.petal_pair.specs.PairedCopies.{IsZero, pair_over, sectors_told, told_by_both}
use Rattle.petal_pair.specs.declared.in_use.InUse.{InUse}
use Rattle.petal_pair.specs.declared.in_use.InUse.TheVariants.{Both, FirstAlone, SecondAlone}
use Rattle.quiet_outside.specs.KeptLines.{GivesBack, NoneTold, Quieted, first_quiet, is_put, puts_of, quiet_state, text_of, texts_of, with_failed, woven}
use Rattle.quiet_pair.specs.FirstCopies.{AreLateFrom, HasPutsBefore, IsCountedIn, IsFirstCopy, is_late}
use Rattle.quiet_pair.specs.Ties.{FirstTies, GivesFirst, HasBegun, HasFirstOf, HasFullCount, IfTold, IsOut, IsTied, NoneRoseSince, TellsJust, says_of}
use Rattle.quiet_pair.proofs.Tying.{late_at}
use Rattle.sector_bytes.specs.Sectors.{Sectors}

-- ---- what acts put, and what they say

puts_alone : (acts : List Act) → puts_of (puts_of acts) ≡ puts_of acts
puts_alone [] = refl
puts_alone (Acted put taken ∷ acts) = ap (λ xs. Acted put taken ∷ xs) (puts_alone acts)
puts_alone (Said line ∷ acts) = puts_alone acts

says_put : (acts : List Act) → puts_of (says_of acts) ≡ []
says_put [] = refl
says_put (Acted put taken ∷ acts) = says_put acts
says_put (Said line ∷ acts) = says_put acts

says_text : (acts : List Act) → texts_of (says_of acts) ≡ texts_of acts
says_text [] = refl
says_text (Acted put taken ∷ acts) = says_text acts
says_text (Said line ∷ acts) = ap (λ xs. line ∷ xs) (says_text acts)

late_alone : (n : ℕ) (acts : List Act) → AreLateFrom n acts → AreLateFrom n (puts_of acts)
late_alone n acts late = subst (λ xs. list_all is_late (drop (n - 1) xs) ≡ true) (sym (puts_alone acts)) late

before_alone : (n : ℕ) (acts : List Act) → HasPutsBefore n acts → HasPutsBefore n (puts_of acts)
before_alone n acts few = subst (λ xs. n - 1 ≤ length xs) (sym (puts_alone acts)) few

-- ---- at first

nothing_put : (told : Option (List Act)) → NoneTold told → option_map (woven 0 [] []) told ≡ told
nothing_put None none = refl
nothing_put (Some acts) none = refl

first_told : (told : Option (List Act)) → NoneTold told → TellsJust told []
first_told None none = tt
first_told (Some acts) none = none acts refl

-- a first copy, of which nothing is counted
pub first_counted : (told : Option (List Act)) (fail_at : ℕ) → NoneTold told → IsCountedIn (option_map (woven 0 [] []) told) 0 fail_at None
first_counted None fail_at none = tt
first_counted (Some acts) fail_at none = rw (none acts refl) (record {
  counted = refl;
  waits = λ no. ap (list_all is_late) (drop-nil (fail_at - 1));
  came = λ server some. cc;
})

-- it is tied to the pair's empty record
pub first_ties : {O : Type 0} (state : O → State) (outset : State) (out : O) (fail_at : ℕ) → outset ≡ state out → NoneTold (state out).acts → FirstTies outset (quiet_state state (first_quiet out fail_at)) Both []
first_ties state outset out fail_at is none = (
  subst (λ told. TellsJust told []) (sym (nothing_put (state out).acts none)) (first_told (state out).acts none),
  λ party. ap (λ s. s.faults party) (sym is),
)

begun_told : (first : Option (List Act)) (b : Bool) → NoneTold first → b ≡ true → (if is_some first && b then Some [] else None) ≡ first
begun_told None b none e = refl
begun_told (Some acts) b none e = rw e (ap Some (sym (none acts refl)))

begun_sectors : (told : Option (List Act)) (sectors : Sectors) → told ≡ None ⊎ told ≡ Some [] → IsZero sectors → IsZero (sectors_told told sectors)
begun_sectors told sectors (inl e) zero = rw e zero
begun_sectors told sectors (inr e) zero = rw e (λ s. refl)

none_or_empty : (told : Option (List Act)) → NoneTold told → told ≡ None ⊎ told ≡ Some []
none_or_empty None none = inl refl
none_or_empty (Some acts) none = inr (ap Some (none acts refl))

pub begins : {O : Type 0} (state : O → State) (out : O) (second : State) (fail_at says : ℕ) (faults : List ℕ) → NoneTold (state out).acts → IsZero (state out).sectors → is_some second.acts ≡ true
    → ((party : ℕ) → slice_index faults party ≡ 0) → says ≡ 0 → HasBegun fail_at (state out) (pair_over (quiet_state state (first_quiet out fail_at)) second Both [] faults says)
begins state out second fail_at says faults none zero tells counts no_says =
    let first : option_map (woven 0 [] []) (state out).acts ≡ (state out).acts = nothing_put (state out).acts none in
    let told : told_by_both (option_map (woven 0 [] []) (state out).acts) second.acts [] ≡ (state out).acts =
    ap (λ t. told_by_both t second.acts []) first ∙ begun_told (state out).acts (is_some second.acts) none tells in
    record {
      sectors = subst (λ t. IsZero (sectors_told t (state out).sectors)) (sym told) (begun_sectors (state out).acts (state out).sectors (none_or_empty (state out).acts none) zero);
      acts = told;
      faults = counts;
      says = no_says;
      mark = refl;
    }

-- ---- at the end

module _ {O : Type 0} (state : O → State) (outset : State) (q : Quieted O) (lines : List (List ℕ)) (copy : IsFirstCopy outset (state q.out) (quiet_state state q).acts q.puts q.fail_at q.failed)
    (gives : GivesBack (quiet_state state q) (state q.out) lines) where
  -- a count that can't rise has risen
  not_full : NoneRoseSince outset (state q.out) → HasFullCount outset → ⊥
  not_full none full = none full.0 (over (outset.faults full.0) ((state q.out).faults full.0) full.1 (copy.follows.faults full.0))
    where
      over : (x y : ℕ) → Rose x x → x ≤ y → Rose x y
      over x y rose h = grind (arith, rose, h)

  late_of : (so : Type 0) (t : List Act) → (quiet_state state q).acts ≡ Some t → IfTold (quiet_state state q).acts so → so
  late_of so t e is = subst (λ told. IfTold told so) e is

  just : (t xs : List Act) → (quiet_state state q).acts ≡ Some t → TellsJust (quiet_state state q).acts xs → t ≡ xs
  just t xs e is = subst (λ told. TellsJust told xs) e is

  sure : (acts : List Act) → NoneRoseSince outset (state q.out) → AreLateFrom q.fail_at acts ⊎ HasFullCount outset → AreLateFrom q.fail_at acts
  sure acts none (inl late) = late
  sure acts none (inr full) = absurd (not_full none full)

  -- the first copy's record is the pair's
  whole : (in_use : InUse) (t acts : List Act) → (quiet_state state q).acts ≡ Some t → t ≡ acts → (NoneRoseSince outset (state q.out) → (in_use ≡ FirstAlone → ⊥) → AreLateFrom q.fail_at acts)
      → HasFirstOf q.fail_at outset (state q.out) in_use acts (puts_of t) lines
  whole in_use t acts e is late = record {
    left = [];
    parts = ap puts_of (sym is) ∙ sym (append-nil (puts_of t));
    all = λ out. refl;
    lines_are = gives.lines t e ∙ ap texts_of is;
    up_to = λ none used. (late_alone q.fail_at t (subst (AreLateFrom q.fail_at) (sym is) (late none used)), inl refl);
  }

  -- a count of the first copy rose, and none below: a put was made to fail
  came : (t : List Act) → (quiet_state state q).acts ≡ Some t → NoneRoseSince outset (state q.out) → (party : ℕ) → Rose (outset.faults party) ((quiet_state state q).faults party) → HasPutsBefore q.fail_at t
  came t e none party rose = go q.failed (subst (λ told. IsCountedIn told q.puts q.fail_at q.failed) e copy.puts_are).came refl
    where
      go : (failed : Option ServerId) → ((server : ServerId) → q.failed ≡ Some server → HasPutsBefore q.fail_at t) → q.failed ≡ failed → HasPutsBefore q.fail_at t
      go None came is_none = absurd (none party (subst (Rose (outset.faults party)) (ap (λ f. with_failed f party ((state q.out).faults party)) is_none) rose))
      go (Some server) came some = came server some

  -- the first copy is out
  part : (t acts : List Act) → (quiet_state state q).acts ≡ Some t → (is : IsOut outset (quiet_state state q) acts) → HasFirstOf q.fail_at outset (state q.out) SecondAlone acts (puts_of t) lines
  part t acts e is =
      let same : t ≡ is.front ++ says_of is.rest = just t (is.front ++ says_of is.rest) e is.told in
      let puts : puts_of t ≡ puts_of is.front =
      ap puts_of same ∙ filter-append is_put is.front (says_of is.rest) ∙ ap (λ xs. puts_of is.front ++ xs) (says_put is.rest) ∙ append-nil (puts_of is.front) in
      let texts : texts_of t ≡ texts_of acts =
      ap texts_of same ∙ filter_map-append text_of is.front (says_of is.rest) ∙ ap (λ xs. texts_of is.front ++ xs) (says_text is.rest) ∙ sym (filter_map-append text_of is.front is.rest) ∙ ap texts_of (sym is.parts) in
      record {
        left = puts_of is.rest;
        parts = ap puts_of is.parts ∙ filter-append is_put is.front is.rest ∙ ap (λ xs. xs ++ puts_of is.rest) (sym puts);
        all = λ out. absurd (out refl);
        lines_are = gives.lines t e ∙ texts;
        up_to = λ none used. (
          subst (AreLateFrom q.fail_at) (sym puts) (late_alone q.fail_at is.front (sure is.front none (late_of (AreLateFrom q.fail_at is.front ⊎ HasFullCount outset) t e is.late))),
          inr (before_alone q.fail_at t (came t e none is.rose.0 is.rose.1)),
        );
      }

  first_of : (in_use : InUse) (t acts : List Act) → (quiet_state state q).acts ≡ Some t → FirstTies outset (quiet_state state q) in_use acts → HasFirstOf q.fail_at outset (state q.out) in_use acts (puts_of t) lines
  first_of Both t acts e ties =
      whole Both t acts e (just t acts e ties.0)
      (λ none used. sure acts none (late_of (AreLateFrom q.fail_at acts ⊎ HasFullCount outset) t e (late_at state outset q acts copy ties)))
  first_of FirstAlone t acts e ties = whole FirstAlone t acts e (just t acts e ties) (λ none used. absurd (used refl))
  first_of SecondAlone t acts e ties = part t acts e ties

  module _ (second : State) (in_use : InUse) (acts : List Act) (faults : List ℕ) (says : ℕ) where
    told_is : (first : Option (List Act)) (b : Bool) (told : List Act) → (if is_some first && b then Some acts else None) ≡ Some told → ((t : List Act) × (first ≡ Some t)) × (told ≡ acts)
    told_is None b told e = cc
    told_is (Some t) true told e = ((t, refl), cc)
    told_is (Some t) false told e = cc

    pub gives_first : IsTied outset (quiet_state state q) second in_use acts faults says → GivesFirst q.fail_at outset (state q.out) in_use (pair_over (quiet_state state q) second in_use acts faults says) lines
    gives_first tied = record {
      puts = λ told e. puts_by told (told_is (quiet_state state q).acts (is_some second.acts) told e);
      follows = copy.follows;
      says = gives.say_faults;
      mark = gives.mark;
    }
      where
        puts_by : (told : List Act) → ((t : List Act) × ((quiet_state state q).acts ≡ Some t)) × (told ≡ acts)
            → (puts : List Act) × ((state q.out).acts ≡ Some puts) × HasFirstOf q.fail_at outset (state q.out) in_use told puts lines
        puts_by told is = (
          puts_of is.0.0,
          gives.acts ∙ ap (option_map puts_of) is.0.1,
          subst (λ xs. HasFirstOf q.fail_at outset (state q.out) in_use xs (puts_of is.0.0) lines) (sym is.1) (first_of in_use is.0.0 acts is.0.1 tied.ties),
        )
