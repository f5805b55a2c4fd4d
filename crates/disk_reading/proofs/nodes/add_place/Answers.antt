-- A place without an entry adds nothing, and one with an entry what its name allows.
use Rattle.std.proofs.Common.{◌≡◌, Bool, true, false, if◌then◌else◌, Option, Some, None, refl, sym, ◌∙◌, ap}
use Rattle.std.specs.Option.{option_map}
use Rattle.tree_definitions.specs.Entries.{with_entry}
use Rattle.disk_definitions.specs.Directories.{name_in}
use Rattle.disk_definitions.specs.Store.{entered}
use Rattle.standing_laws.specs.ReadTree.{with_place}
use Rattle.standing_laws.specs.Soundness.{entry_agrees}
use Rattle.disk_reading.specs.Seen.{store_in}
use Rattle.disk_reading.proofs.nodes.add_place.Goals as goal

-- what is there only by a test tells of the test
none_by : {A : Type 0} (b : Bool) (x : A) (o : Option A) → o ≡ (if b then Some x else None) → o ≡ None → false ≡ b
none_by false x o e none = refl
none_by true x o e none = absurd (cc)

some_by : {A : Type 0} (b : Bool) (x y : A) (o : Option A) → o ≡ (if b then Some x else None) → o ≡ Some y → true ≡ b
some_by false x y o e some = absurd (cc)
some_by true x y o e some = refl

same_by : {A : Type 0} (b : Bool) (x y : A) (o : Option A) → o ≡ (if b then Some x else None) → o ≡ Some y → y ≡ x
same_by false x y o e some = absurd (cc)
same_by true x y o e some = cc

pub returns-in_default-clause-agrees : goal.returns-in_default-clause-agrees
returns-in_default-clause-agrees c = ap (λ o. entry_agrees (store_in c.args.segments c.args.disk.now) c.args.entries.now (option_map entered o)) (sym c.in_default.is)

pub returns-in_default-clause-added : goal.returns-in_default-clause-added
returns-in_default-clause-added c = λ _. ap (λ o. with_place c.args.entries.now (option_map entered o)) (sym c.in_default.is)

pub returns-in_default-agreed_name-clause-agrees : goal.returns-in_default-agreed_name-clause-agrees
returns-in_default-agreed_name-clause-agrees c =
    let s = store_in c.args.segments c.args.disk.now in
    let e = c.in-Some.entry in
    none_by (entry_agrees s c.args.entries.now (Some (entered e))) (name_in e) c.agreed_name.result c.agreed_name.ensures c.in_default-agreed_name.is
    ∙ ap (λ o. entry_agrees s c.args.entries.now (option_map entered o)) (sym c.in-Some.is)

pub returns-clause-agrees : goal.returns-clause-agrees
returns-clause-agrees c =
    let s = store_in c.args.segments c.args.disk.now in
    let e = c.in-Some.entry in
    some_by (entry_agrees s c.args.entries.now (Some (entered e))) (name_in e) c.in-Some-agreed_name.name c.agreed_name.result c.agreed_name.ensures c.in-Some-agreed_name.is
    ∙ ap (λ o. entry_agrees s c.args.entries.now (option_map entered o)) (sym c.in-Some.is)

pub returns-clause-added : goal.returns-clause-added
returns-clause-added c =
    let s = store_in c.args.segments c.args.disk.now in
    let es = c.args.entries.now in
    let e = c.in-Some.entry in
    let named = same_by (entry_agrees s es (Some (entered e))) (name_in e) c.in-Some-agreed_name.name c.agreed_name.result c.agreed_name.ensures c.in-Some-agreed_name.is in
    λ _. c.in_ok-insert.ensures.ok ∙ ap (λ n. with_entry es n c.from.result) named ∙ ap (with_entry es (name_in e)) c.from.ensures ∙ ap (λ o. with_place es (option_map entered o)) (sym c.in-Some.is)
