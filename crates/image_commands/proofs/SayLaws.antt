-- One line more that was said, and what is said where one isn't.
use Rattle.std.proofs.Common.{◌≡◌, ℕ, zero, suc, ◌+◌, ◌<◌, ◌≤◌, Option, Some, None, List, [], ◌∷◌, ◌++◌, length, take, drop, refl, sym, ◌∙◌, ap, subst, arith, add-one, append_assoc, length-append}
use Rattle.std.specs.Prelude.{Result, Ok, Err, IfOk}
use Rattle.std.specs.List.{slice_get}
use Rattle.std.proofs.lemmas.List.{take_all, map-append, take-append-le}
use Rattle.std.proofs.lemmas.Option.{slice_get_within}
use Rattle.std.proofs.Math.Seq.{take-append_seam, drop-append_seam}
use Rattle.frang_base.specs.declared.fault.NoMemory.{NoMemory as Want}
use Rattle.frang_base.specs.declared.said.Said.{Said}
use Rattle.frang_base.specs.declared.said.Said.TheVariants as said
use Rattle.frang_outside.specs.declared.act.Act.{Act}
use Rattle.frang_outside.specs.declared.outside.SayFault.{SayFault}
use Rattle.frang_outside.specs.declared.outside.SayFault.TheVariants.{Failed, NoMemory as WantsMemory}
use Rattle.frang_outside.specs.Outside.{State, Rose, Follows, told_more}
use Rattle.disk_reading.specs.Lined.{Gives}
use Rattle.image_commands.specs.declared.end.ImageEnd.{ImageEnd}
use Rattle.image_commands.specs.declared.end.ImageEnd.TheVariants as end
use Rattle.image_commands.specs.Steps.{stopped_by, SaysNext}
use Rattle.image_commands.specs.Saying.{said_act, Says, SaysOne, SaysAll, SaysSome}

take_next : (xs : List Said) (j : ℕ) (x : Said) → slice_get xs j ≡ Some x → take (suc j) xs ≡ take j xs ++ x ∷ []
take_next [] j x e = absurd (cc)
take_next (y ∷ ys) zero x e = let q : y ≡ x = cc in ap (λ (z : Said). z ∷ []) q
take_next (y ∷ ys) (suc j) x e = ap (λ (l : List Said). y ∷ l) (take_next ys j x e)

says_with : (told after : Option (List Act)) (lines : List Said) (x : Said) → Says told lines → after ≡ told_more told (said_act x) → Says after (lines ++ x ∷ [])
says_with None after lines x before e acts is = cc
says_with (Some old) after lines x before e acts is =
    let now : acts ≡ old ++ said_act x ∷ [] = cc in
    now ∙ ap (λ o. o ++ said_act x ∷ []) (before old refl) ∙ sym (map-append said_act lines (x ∷ []))

pub says_more : (told after : Option (List Act)) (lines : List Said) (j : ℕ) (x : Said) → Says told (take j lines) → slice_get lines j ≡ Some x → after ≡ told_more told (said_act x) → Says after (take (j + 1) lines)
says_more told after lines j x before at is =
    let e : j + 1 ≡ suc j = omega arith in
    subst (Says after) (sym (ap (λ k. take k lines) e ∙ take_next lines j x at)) (says_with told after (take j lines) x before is)

stopped_mute : (old mid new : State) (act : Act) (lines : List Said) (i : ℕ) → i < length lines → Follows old mid → Says mid.acts (take i lines) → SaysOne mid new act (Err Failed) → SaysAll old new lines (end.Mute i)
stopped_mute old mid new act lines i l fell says is =
    let before : old.say_faults ≤ mid.say_faults = fell.says in
    let now : Rose mid.say_faults new.say_faults = is.1 in
    let rose : Rose old.say_faults new.say_faults = omega arith in
    (l, subst (λ told. Says told (take i lines)) (sym is.0) says, rose)

stopped_short : (old mid new : State) (act : Act) (lines : List Said) (i : ℕ) → i < length lines → Says mid.acts (take i lines) → SaysOne mid new act (Err WantsMemory) → SaysAll old new lines end.NoMemory
stopped_short old mid new act lines i l says is = record { count = i; few = omega arith; says = subst (λ told. Says told (take i lines)) (sym is) says }

pub stopped_so : (old mid new : State) (act : Act) (lines : List Said) (i : ℕ) (fault : SayFault) → i < length lines → Follows old mid → Says mid.acts (take i lines) → SaysOne mid new act (Err fault) → SaysAll old new lines (stopped_by i fault)
stopped_so old mid new act lines i Failed l fell says is = stopped_mute old mid new act lines i l fell says is
stopped_so old mid new act lines i WantsMemory l fell says is = stopped_short old mid new act lines i l says is

pub said_all : (told : Option (List Act)) (lines : List Said) (i : ℕ) → length lines ≤ i → Says told (take i lines) → Says told lines
said_all told lines i l says = subst (Says told) (take_all i lines l) says

-- ---- lines of which the rest is known

drop_get : {X : Type 0} (i : ℕ) (xs : List X) (x : X) (rest : List X) → drop i xs ≡ x ∷ rest → slice_get xs i ≡ Some x
drop_get zero xs x rest e = ap (λ ys. slice_get ys 0) e
drop_get (suc i) [] x rest e = absurd (cc)
drop_get (suc i) (y ∷ ys) x rest e = drop_get i ys x rest e

drop_next : {X : Type 0} (i : ℕ) (xs : List X) (x : X) (rest : List X) → drop i xs ≡ x ∷ rest → drop (suc i) xs ≡ rest
drop_next zero [] x rest e = absurd (cc)
drop_next zero (y ∷ ys) x rest e = cc
drop_next (suc i) [] x rest e = absurd (cc)
drop_next (suc i) (y ∷ ys) x rest e = drop_next i ys x rest e

drop_less : {X : Type 0} (i : ℕ) (xs : List X) (x : X) (rest : List X) → drop i xs ≡ x ∷ rest → i < length xs
drop_less i xs x rest e = slice_get_within xs i x (drop_get i xs x rest e)

drop_none : {X : Type 0} (i : ℕ) (xs : List X) → drop i xs ≡ [] → length xs ≤ i
drop_none zero [] e = omega arith
drop_none zero (y ∷ ys) e = absurd (cc)
drop_none (suc i) [] e = omega arith
drop_none (suc i) (y ∷ ys) e = let l = drop_none i ys e in omega arith

-- so many of all lines are said, and these are left before the end
pub record Reached (told : Option (List Act)) (all : List Said) (count : ℕ) (left : List Said) : Type 0 where
  pub few : count ≤ length all
  pub says : Says told (take count all)
  pub rest : drop count all ≡ left ++ said.End ∷ []

reached_from : (told : Option (List Act)) (before left : List Said) (count : ℕ) → count ≡ length before → Says told before → Reached told (before ++ (left ++ said.End ∷ [])) count left
reached_from told before left count counted says =
    let long : length (before ++ (left ++ said.End ∷ [])) ≡ length before + length (left ++ said.End ∷ []) = length-append before (left ++ said.End ∷ []) in
    record {
      few = omega arith;
      says = subst (Says told) (sym (ap (λ n. take n (before ++ (left ++ said.End ∷ []))) counted ∙ take-append_seam before (left ++ said.End ∷ []))) says;
      rest = ap (λ n. drop n (before ++ (left ++ said.End ∷ []))) counted ∙ drop-append_seam before (left ++ said.End ∷ []);
    }

pub reached_first : (told : Option (List Act)) (before left : List Said) (count : ℕ) → count ≡ length before → Says told before → Reached told (before ++ left ++ said.End ∷ []) count left
reached_first told before left count counted says = subst (λ all. Reached told all count left) (sym (append_assoc before left (said.End ∷ []))) (reached_from told before left count counted says)

pub reached_next : (told after : Option (List Act)) (all : List Said) (i : ℕ) (line : Said) (old left : List Said) → Reached told all i old → old ≡ line ∷ left → after ≡ told_more told (said_act line) → Reached after all (i + 1) left
reached_next told after all i line old left r is now =
    let rest : drop i all ≡ line ∷ (left ++ said.End ∷ []) = r.rest ∙ ap (λ ls. ls ++ said.End ∷ []) is in
    let less = drop_less i all line (left ++ said.End ∷ []) rest in
    record {
      few = omega arith;
      says = says_more told after all i line r.says (drop_get i all line (left ++ said.End ∷ []) rest) now;
      rest = ap (λ n. drop n all) (add-one i) ∙ drop_next i all line (left ++ said.End ∷ []) rest;
    }

pub reached_end : (told after : Option (List Act)) (all : List Said) (i : ℕ) (old : List Said) → Reached told all i old → old ≡ [] → after ≡ told_more told (said_act said.End) → Says after all
reached_end told after all i old r none now =
    let rest : drop i all ≡ said.End ∷ [] = r.rest ∙ ap (λ ls. ls ++ said.End ∷ []) none in
    let most = drop_none (suc i) all (drop_next i all said.End [] rest) in
    said_all after all (i + 1) (omega arith) (says_more told after all i said.End r.says (drop_get i all said.End [] rest) now)

more_left : (left : List Said) → (x : Said) × (more : List Said) × (left ++ said.End ∷ [] ≡ x ∷ more)
more_left [] = (said.End, [], refl)
more_left (x ∷ left) = (x, left ++ said.End ∷ [], refl)

pub reached_less : (told : Option (List Act)) (all : List Said) (i : ℕ) (left : List Said) → Reached told all i left → i < length all
reached_less told all i left r = let m = more_left left in drop_less i all m.0 m.1 (r.rest ∙ m.2)

pub reached_short : (told : Option (List Act)) (all : List Said) (i : ℕ) (left : List Said) → Reached told all i left → SaysSome told all
reached_short told all i left r = record { count = i; few = r.few; says = r.says }

-- a line that isn't said ends the command
pub next_stopped : (old new : State) (act : Act) (count : ℕ) (left rest : List Said) (fault : SayFault) → SaysOne old new act (Err fault) → SaysNext old new count left rest (Some (stopped_by count fault))
next_stopped old new act count left rest Failed is = (refl, is.0, is.1)
next_stopped old new act count left rest WantsMemory is = is

gives_so : (r : Result (Option Said) Want) (o : Option Said) (left rest : List Said) → r ≡ Ok o → IfOk r (Gives left rest) → Gives left rest o
gives_so r o left rest is g = subst (λ (x : Result (Option Said) Want). IfOk x (Gives left rest)) is g

pub first_next : (old new : State) (count : ℕ) (r : Result (Option Said) Want) (line : Said) (left rest : List Said) (e : Option ImageEnd)
    → r ≡ Ok (Some line) → IfOk r (Gives left rest) → SaysNext old new count (line ∷ rest) rest e → SaysNext old new count left rest e
first_next old new count r line left rest e is g s =
    let first : left ≡ line ∷ rest = gives_so r (Some line) left rest is g in
    subst (λ l. SaysNext old new count l rest e) (sym first) s

pub ends_next : (old new : State) (count : ℕ) (r : Result (Option Said) Want) (left rest : List Said) (e : ImageEnd)
    → r ≡ Ok None → IfOk r (Gives left rest) → SaysNext old new count [] [] (Some e) → SaysNext old new count left rest (Some e)
ends_next old new count r left rest e is g s =
    let none : (left ≡ []) × (rest ≡ []) = gives_so r None left rest is g in
    subst (λ l. SaysNext old new count l rest (Some e)) (sym none.0) (subst (λ t. SaysNext old new count [] t (Some e)) (sym none.1) s)

reached_mute : (old mid new : State) (all : List Said) (i : ℕ) → Follows old mid → i < length all → Says mid.acts (take i all) → new.acts ≡ mid.acts → Rose mid.say_faults new.say_faults → SaysAll old new all (end.Mute i)
reached_mute old mid new all i fell less says same now =
    let before : old.say_faults ≤ mid.say_faults = fell.says in
    let rose : Rose old.say_faults new.say_faults = omega arith in
    (less, subst (λ told. Says told (take i all)) (sym same) says, rose)

-- what was said where the command ends
pub reached_stop : (old mid new : State) (all : List Said) (i : ℕ) (left rest : List Said) (e : ImageEnd) → Follows old mid → Reached mid.acts all i left → SaysNext mid new i left rest (Some e) → SaysAll old new all e
reached_stop old mid new all i left rest end.Done fell r s = reached_end mid.acts new.acts all i left r s.0 s.1
reached_stop old mid new all i left rest end.NoMemory fell r s = subst (λ told. SaysSome told all) (sym s) (reached_short mid.acts all i left r)
reached_stop old mid new all i left rest (end.Mute at) fell r s = subst (λ n. SaysAll old new all (end.Mute n)) (sym s.0) (reached_mute old mid new all i fell (reached_less mid.acts all i left r) r.says s.1 s.2)
reached_stop old mid new all i left rest end.ReadFailed fell r s = absurd s
reached_stop old mid new all i left rest end.TooLong fell r s = absurd s
reached_stop old mid new all i left rest (end.BadImage at kind sector) fell r s = absurd s
reached_stop old mid new all i left rest end.WriteFailed fell r s = absurd s

-- one line more
pub reached_more : (old new : State) (all : List Said) (i : ℕ) (left rest : List Said) → Reached old.acts all i left → SaysNext old new i left rest None → Reached new.acts all (i + 1) rest
reached_more old new all i left rest r s = reached_next old.acts new.acts all i s.0 left rest r s.1 s.2

-- ---- what is said first, and more behind it

pub says_later : (old mid new : State) (lines : List Said) (e : ImageEnd) → Follows old mid → SaysAll mid new lines e → SaysAll old new lines e
says_later old mid new lines end.Done fell s = s
says_later old mid new lines end.NoMemory fell s = s
says_later old mid new lines (end.Mute said) fell s =
    let before : old.say_faults ≤ mid.say_faults = fell.says in
    let now : Rose mid.say_faults new.say_faults = s.2 in
    let rose : Rose old.say_faults new.say_faults = omega arith in
    (s.0, s.1, rose)
says_later old mid new lines end.ReadFailed fell s = absurd s
says_later old mid new lines end.TooLong fell s = absurd s
says_later old mid new lines (end.BadImage at kind sector) fell s = absurd s
says_later old mid new lines end.WriteFailed fell s = absurd s

some_more : (told : Option (List Act)) (before more : List Said) → SaysSome told before → SaysSome told (before ++ more)
some_more told before more s =
    let long : length (before ++ more) ≡ length before + length more = length-append before more in
    let few : s.count ≤ length before = s.few in
    record { count = s.count; few = omega arith; says = subst (Says told) (sym (take-append-le s.count before more s.few)) s.says }

pub unfinished : (old new : State) (before more : List Said) (e : ImageEnd) → (e ≡ end.Done → ⊥) → SaysAll old new before e → SaysAll old new (before ++ more) e
unfinished old new before more end.Done n s = absurd (n refl)
unfinished old new before more end.NoMemory n s = some_more new.acts before more s
unfinished old new before more (end.Mute said) n s =
    let long : length (before ++ more) ≡ length before + length more = length-append before more in
    let less : said < length before = s.0 in
    (omega arith, subst (Says new.acts) (sym (take-append-le said before more (omega arith))) s.1, s.2)
unfinished old new before more end.ReadFailed n s = absurd s
unfinished old new before more end.TooLong n s = absurd s
unfinished old new before more (end.BadImage at kind sector) n s = absurd s
unfinished old new before more end.WriteFailed n s = absurd s

-- nothing was said, where memory was short
pub nothing_said : (old new : State) (lines : List Said) → Says new.acts [] → SaysAll old new lines end.NoMemory
nothing_said old new lines says = record { count = 0; few = omega arith; says = says }
