-- The loops of the coder of records, a step at a time, and the end of a reading.
use Rattle.std.proofs.Common.{◌≡◌, ℕ, suc, ◌+◌, ◌<◌, ◌≤◌, true, ◌&&◌, ◌==◌, if◌then◌else◌, nat_le, Option, Some, None, List, [], ◌∷◌, ◌++◌, length, drop, get_or, refl, sym, ap, subst, ◌∙◌, append_assoc, append-nil, arith, length-append, Result, Ok, Err}
use Rattle.std.proofs.lemmas.Bool.{and_parts, and_from, le-leb}
use Rattle.std.proofs.lemmas.Bool.Decides.{nat_tests}
use Rattle.std.proofs.lemmas.List.{at_drop_all, at_drop_more}
use Rattle.std.specs.List.{AllByRecursion, flat_map, list_all}
use Rattle.std.specs.Option.{option_and_then, option_map}
use Rattle.std.specs.Result.{OnErr}
use Rattle.frang_base.specs.declared.change.Change.{Change}
use Rattle.sector_bytes.specs.Changes.{is_change}
use Rattle.sector_bytes.specs.Bytes.{AreBytes}
use Rattle.disk_definitions.specs.Records.{Read, all_read, record_bytes, record_fits, record_in, sectors_ascend, whole_record}
use Rattle.log_record.proofs.NumbersRead.{taken}
use Rattle.log_record.proofs.RecordBack.{is_record}
use Rattle.log_record.proofs.RecordRead.{changes_are, changes_read, record_in_is, record_read}

module _ {A : Type 0} (one : List ℕ → Read A) where
  -- what is read, behind what was read before
  abbrev pub read_behind : List A → ℕ → List ℕ → Read (List A)
  read_behind done n bytes = option_map (λ xs. taken (done ++ xs.0) xs.1) (all_read one n bytes)

  -- one more is read
  all_more : (n m : ℕ) (bytes : List ℕ) (x : A) (rest : List ℕ) → n ≡ suc m → one bytes ≡ Some (x, rest) → all_read one n bytes ≡ option_map (λ ys. (x ∷ ys.0, ys.1)) (all_read one m rest)
  all_more n m bytes x rest is e =
      ap (λ k. all_read one k bytes) is ∙ ap (option_and_then (λ (y : A × List ℕ). option_map (λ (ys : List A × List ℕ). (y.0 ∷ ys.0, ys.1)) (all_read one m y.1))) e

  pub read_more : (n m : ℕ) (done next : List A) (bytes : List ℕ) (x : A) (rest : List ℕ) (all : Read (List A)) (o : Option A) → n ≡ suc m → next ≡ done ++ x ∷ []
      → option_map (λ y. (y, rest)) o ≡ one bytes → o ≡ Some x → read_behind done n bytes ≡ all → read_behind next m rest ≡ all
  read_more n m done next bytes x rest all o is grown reads there h =
      let e : one bytes ≡ Some (x, rest) = sym reads ∙ ap (option_map (λ (y : A). taken y rest)) there in
      ap (λ xs. read_behind xs m rest) grown ∙ go (all_read one m rest) ∙ sym (ap (option_map (λ (xs : List A × List ℕ). taken (done ++ xs.0) xs.1)) (all_more n m bytes x rest is e)) ∙ h
    where
      go : (o : Read (List A)) → option_map (λ xs. taken ((done ++ x ∷ []) ++ xs.0) xs.1) o ≡ option_map (λ xs. taken (done ++ xs.0) xs.1) (option_map (λ ys. taken (x ∷ ys.0) ys.1) o)
      go None = refl
      go (Some xs) = ap (λ ys. Some (taken ys xs.1)) (append_assoc done (x ∷ []) xs.0)

  -- before the first is read, and after the last
  pub read_first : (n m : ℕ) (done : List A) (bytes : List ℕ) → n ≡ m → done ≡ [] → read_behind done n bytes ≡ all_read one m bytes
  read_first n m done bytes is none = ap (λ xs. read_behind xs n bytes) none ∙ go (all_read one n bytes) ∙ ap (λ k. all_read one k bytes) is
    where
      go : (o : Read (List A)) → option_map (λ xs. taken ([] ++ xs.0) xs.1) o ≡ o
      go None = refl
      go (Some xs) = refl

  pub read_last : (n : ℕ) (done : List A) (bytes : List ℕ) (all : Read (List A)) → n ≡ 0 → read_behind done n bytes ≡ all → Some (taken done bytes) ≡ all
  read_last n done bytes all none h = ap (λ xs. Some (taken xs bytes)) (sym (append-nil done)) ∙ sym (ap (λ k. read_behind done k bytes) none) ∙ h

  pub read_none : (n m : ℕ) (done : List A) (bytes rest : List ℕ) (all : Read (List A)) (o : Option A) → n ≡ suc m
      → option_map (λ y. (y, rest)) o ≡ one bytes → o ≡ None → read_behind done n bytes ≡ all → None ≡ all
  read_none n m done bytes rest all o is reads none h =
      let e : one bytes ≡ None = sym reads ∙ ap (option_map (λ (y : A). taken y rest)) none in
      let next = ap (λ k. all_read one k bytes) is ∙ ap (option_and_then (λ (y : A × List ℕ). option_map (λ (ys : List A × List ℕ). (y.0 ∷ ys.0, ys.1)) (all_read one m y.1))) e in
      sym (ap (option_map (λ (xs : List A × List ℕ). taken (done ++ xs.0) xs.1)) next) ∙ h

-- ---- what is written one behind the other

module _ {X : Type 0} where
  pub written_first : (f : X → List ℕ) (xs ys : List X) (before after head : List ℕ) → after ≡ before ++ head → ys ≡ xs → after ++ flat_map f ys ≡ before ++ (head ++ flat_map f xs)
  written_first f xs ys before after head grown same =
      ap (λ zs. zs ++ flat_map f ys) grown ∙ append_assoc before head (flat_map f ys) ∙ ap (λ zs. before ++ (head ++ flat_map f zs)) same

  pub written_more : (f : X → List ℕ) (xs : List X) (i : ℕ) (x : X) (before after all : List ℕ) → i < length xs → x ≡ get_or xs i x → after ≡ before ++ f x
      → before ++ flat_map f (drop i xs) ≡ all → after ++ flat_map f (drop (i + 1) xs) ≡ all
  written_more f xs i x before after all h is grown e =
      let rest = flat_map f (drop (i + 1) xs) in
      ap (λ ys. ys ++ rest) grown ∙ append_assoc before (f x) rest ∙ ap (λ y. before ++ (f y ++ rest)) is ∙ ap (λ ys. before ++ ys) (sym (at_drop_more (flat_map f) xs i x h)) ∙ e

  -- nothing that is written is longer than all of it
  pub fits_in : (f : X → List ℕ) (xs : List X) (i : ℕ) (x : X) (before old all : List ℕ) → i < length xs → x ≡ get_or xs i x → before ++ flat_map f (drop i xs) ≡ old ++ all
      → length before + length (f x) ≤ length old + length all
  fits_in f xs i x before old all h is e =
      let rest = flat_map f (drop (i + 1) xs) in
      let first : flat_map f (drop i xs) ≡ f x ++ rest = at_drop_more (flat_map f) xs i x h ∙ ap (λ y. f y ++ rest) (sym is) in
      let parts = ap (λ ys. length (before ++ ys)) (sym first) ∙ ap length e in
      omega (arith, parts, length-append before (f x ++ rest), length-append (f x) rest, length-append old all)

  pub others : (P : X → Type 0) (xs : List X) (i : ℕ) (x : X) → i < length xs → AllByRecursion P (drop i xs) → AllByRecursion P (drop (i + 1) xs)
  others P xs i x h all =
      let both = subst (AllByRecursion P) (at_drop_more (λ ys. ys) xs i x h) all in both.1

  -- the one at hand
  pub one_of : (P : X → Type 0) (xs : List X) (i : ℕ) (x : X) → i < length xs → x ≡ get_or xs i x → AllByRecursion P (drop i xs) → P x
  one_of P xs i x h is all =
      let both = subst (AllByRecursion P) (at_drop_more (λ ys. ys) xs i x h) all in
      subst P (sym is) both.0

  -- once all are written
  pub written_all : (f : X → List ℕ) (xs : List X) (i : ℕ) (written all : List ℕ) → length xs ≤ i → written ++ flat_map f (drop i xs) ≡ all → written ≡ all
  written_all f xs i written all h e = sym (append-nil written) ∙ ap (λ ys. written ++ ys) (sym (at_drop_all (flat_map f) xs i h)) ∙ e

-- what holds whatever an answer is holds of a refusal
pub whatever : {T E P : Type 0} (r : Result T E) → P → OnErr r P
whatever (Ok x) p = tt
whatever (Err e) p = p

-- ---- the end of a reading

-- nothing is read of more bytes than a record has
pub too_long : (bytes : List ℕ) → AreBytes bytes → 4096 < length bytes → record_in bytes ≡ None
too_long bytes f long = go (record_in bytes) refl
  where
    go : (o : Option (List Change)) → record_in bytes ≡ o → o ≡ None
    go None e = refl
    go (Some changes) e =
        let body = record_read bytes changes f e in
        let short = (is_record changes body.1).short in
        absurd (omega (arith, ap length body.0))

-- what was read, by what came of it
pub read_of : {V : Type 0} (items : V → List Change) (o : Option V) (v : V) (rest : List ℕ) (all : Read (List Change)) → option_map (λ w. taken (items w) rest) o ≡ all → o ≡ Some v
    → Some (taken (items v) rest) ≡ all
read_of items o v rest all e is = sym (ap (option_map (λ w. taken (items w) rest)) is) ∙ e

-- the test for a list without elements
pub empty_of : (bytes : List ℕ) → (length bytes == 0) ≡ true → bytes ≡ []
empty_of [] e = refl
empty_of (b ∷ bytes) e = absurd (grind (arith, nat_tests, e))

-- what is read whole, and may stand in a record, is one
pub read_whole : (bytes : List ℕ) (changes : List Change) (rest : List ℕ) → AreBytes bytes → length bytes ≤ 4096 → Some (taken changes rest) ≡ changes_read bytes → rest ≡ []
    → (nat_le 1 (length changes) && nat_le (length changes) 32 && (list_all is_change changes && sectors_ascend 0 changes)) ≡ true → record_in bytes ≡ Some changes
read_whole bytes changes rest f short e none fit =
    let read : changes_read bytes ≡ Some (taken changes []) = sym e ∙ ap (λ ys. Some (taken changes ys)) none in
    let body = changes_are bytes changes [] f read ∙ append-nil (record_bytes changes) in
    let count = nat_le 1 (length changes) && nat_le (length changes) 32 in
    let a = and_parts count (list_all is_change changes && sectors_ascend 0 changes) fit in
    let b = and_parts (list_all is_change changes) (sectors_ascend 0 changes) a.1 in
    let room = le-leb (length (record_bytes changes)) 4096 (omega (arith, ap length body)) in
    let fits : record_fits changes ≡ true = and_from _ _ (and_from _ _ (and_from _ _ a.0 b.0) b.1) room in
    record_in_is bytes ∙ ap (option_and_then whole_record) read ∙ ap (λ t. if t then Some changes else None) fits
