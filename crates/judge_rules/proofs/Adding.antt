-- What lines add to a history: entries, recoveries, or nothing.
use Rattle.std.proofs.Common.{◌≡◌, ℕ, ◌+◌, ◌<◌, Bool, true, false, ◌&&◌, Option, Some, None, IfSome, OnOk, List, [], ◌∷◌, ◌++◌, length, get_or, map, take, refl, sym, ◌∙◌, ap, subst, arith}
use Rattle.std.specs.Prelude.{Result, Ok, Err}
use Rattle.std.specs.List.{All, slice_get}
use Rattle.std.specs.Option.{option_map}
use Rattle.std.proofs.lemmas.List.{length-map, map-append, take_more}
use Rattle.std.proofs.lemmas.List.Elements.{All-get_or, All-push}
use Rattle.std.proofs.lemmas.Option.{slice_get-get_or, slice_get-map}
use Rattle.frang_base.specs.declared.fault.NoMemory.{NoMemory}
use Rattle.frang_base.specs.declared.said.Said.{Said}
use Rattle.frang_base.specs.declared.script.Line.{Line}
use Rattle.frang_base.specs.declared.sector.ServerId.{ServerId}
use Rattle.frang_base.specs.declared.sector.OpNo.{OpNo}
use Rattle.tree_definitions.specs.declared.history.Entry.{Entry}
use Rattle.tree_definitions.specs.declared.history.Item.{Item}
use Rattle.tree_definitions.specs.declared.history.Item.TheVariants.{Did, Recovered}
use Rattle.tree_definitions.specs.History.{Stays}
use Rattle.tree_definitions.specs.Removal.{keeps_known, recovered}
use Rattle.tree_definitions.specs.Live.{item_of}
use Rattle.tree_model.specs.Replayed.{item_within}
use Rattle.history_rules.specs.Settled.{SoFar, IsLegalStep}
use Rattle.judge_rules.specs.Judging.{AreItems, Takes, WithinAt}
use Rattle.judge_rules.specs.Scripts.{items_of}

and_true : (b : Bool) → b ≡ (b && true)
and_true true = refl
and_true false = refl

takes_entry : (old new : SoFar) (e : Entry) → new.opening ≡ old.opening → new.steps ≡ old.steps ++ Stays e ∷ [] → new.kept ≡ old.kept → IsLegalStep old new → Takes old (Did e ∷ []) new
takes_entry old new e opening steps kept legal = record { opening = opening; steps = steps; kept = kept ∙ and_true old.kept; goes = λ was all. legal.goes was; stays = legal.stays }

takes_recovery : (old new : SoFar) (server : ServerId) (keeps : OpNo) → new.opening ≡ old.opening → new.steps ≡ recovered old.opening server.0 keeps.0 old.steps
    → new.kept ≡ (old.kept && keeps_known server.0 keeps.0 false old.opening old.steps) → IsLegalStep old new → Takes old (Recovered server keeps ∷ []) new
takes_recovery old new server keeps opening steps kept legal = record {
  opening = opening;
  steps = steps;
  kept = kept ∙ ap (λ b. old.kept && b) (and_true (keeps_known server.0 keeps.0 false old.opening old.steps));
  goes = λ was all. legal.goes was;
  stays = legal.stays;
}

-- the same by what the code answers
pub entry_taken : (r : Result (Unit {0}) NoMemory) (old new : SoFar) (e : Entry) → OnOk r (new.opening ≡ old.opening) → OnOk r (new.steps ≡ old.steps ++ Stays e ∷ []) → OnOk r (new.kept ≡ old.kept)
    → OnOk r (IsLegalStep old new) → OnOk r (Takes old (Did e ∷ []) new)
entry_taken (Ok done) old new e opening steps kept legal = takes_entry old new e opening steps kept legal
entry_taken (Err fault) old new e opening steps kept legal = tt

pub recovery_taken : (r : Result (Unit {0}) NoMemory) (old new : SoFar) (server : ServerId) (keeps : OpNo) → OnOk r (new.opening ≡ old.opening) → OnOk r (new.steps ≡ recovered old.opening server.0 keeps.0 old.steps)
    → OnOk r (new.kept ≡ (old.kept && keeps_known server.0 keeps.0 false old.opening old.steps)) → OnOk r (IsLegalStep old new) → OnOk r (Takes old (Recovered server keeps ∷ []) new)
recovery_taken (Ok done) old new server keeps opening steps kept legal = takes_recovery old new server keeps opening steps kept legal
recovery_taken (Err fault) old new server keeps opening steps kept legal = tt

pub takes_nothing : (old : SoFar) → Takes old [] old
takes_nothing old = record { opening = refl; steps = refl; kept = and_true old.kept; goes = λ was all. was ∙ sym all; stays = λ was. was }

pub within_one : (i : Item) → WithinAt (Some i) → item_within i ≡ true
within_one i within = and_true (item_within i) ∙ within

-- ---- what each line adds

within_of : (item : Option Item) → IfSome item (λ i. item_within i ≡ true) → WithinAt item
within_of None within = refl
within_of (Some i) within = ap (λ b. b && true) within

pub items_turn : (script : List Line) (saids : List Said) (items : List (Option Item)) (i : ℕ) (item : Option Item) (x : Said) → i < length saids → x ≡ get_or saids i x
    → items_of item ≡ item_of script 1 x → IfSome item (λ i. item_within i ≡ true) → map items_of items ≡ map (item_of script 1) (take i saids) → All WithinAt items
    → (map items_of (items ++ item ∷ []) ≡ map (item_of script 1) (take (i + 1) saids)) × All WithinAt (items ++ item ∷ [])
items_turn script saids items i item x below is adds within are all = (
  map-append items_of items (item ∷ []) ∙ ap (λ ls. ls ++ items_of item ∷ []) are ∙ ap (λ l. map (item_of script 1) (take i saids) ++ l ∷ []) adds
      ∙ sym (map-append (item_of script 1) (take i saids) (x ∷ [])) ∙ ap (map (item_of script 1)) (ap (λ y. take i saids ++ y ∷ []) is ∙ sym (take_more saids i x below)),
  All-push WithinAt items item all (within_of item within),
)

-- there are as many items as lines, and each is its line's
pub items_count : (script : List Line) (saids : List Said) (items : List (Option Item)) → AreItems script saids items → length items ≡ length saids
items_count script saids items are = sym (length-map items items_of) ∙ ap length are.are ∙ length-map saids (item_of script 1)

pub item_at : (script : List Line) (saids : List Said) (items : List (Option Item)) (i : ℕ) (item : Option Item) (x : Said) → AreItems script saids items → i < length saids
    → item ≡ get_or items i item → x ≡ get_or saids i x → items_of item ≡ item_of script 1 x
item_at script saids items i item x are below is at =
    let count = items_count script saids items are in
    let here : slice_get items i ≡ Some item = slice_get-get_or items i item (omega (arith, count)) ∙ ap Some (sym is) in
    let said : slice_get saids i ≡ Some x = slice_get-get_or saids i x below ∙ ap Some (sym at) in
    let one : slice_get (map items_of items) i ≡ Some (items_of item) = slice_get-map items_of items i ∙ ap (option_map items_of) here in
    let two : slice_get (map items_of items) i ≡ Some (item_of script 1 x) = ap (λ ls. slice_get ls i) are.are ∙ slice_get-map (item_of script 1) saids i ∙ ap (option_map (item_of script 1)) said in
    cc

pub item_within_at : (items : List (Option Item)) (i : ℕ) (item : Option Item) → All WithinAt items → i < length items → item ≡ get_or items i item → WithinAt item
item_within_at items i item all below is = subst WithinAt (sym is) (All-get_or WithinAt items i item below all)
