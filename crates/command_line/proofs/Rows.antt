-- What stands in the rows of a parse: the values of each word and option, in order.
use Rattle.std.proofs.Common.{◌≡◌, ◌∙◌, Bool, true, false, List, [], ◌∷◌, ◌++◌, codes, map, Option, Some, None, option_map, unwrap_or, refl, sym, ap, subst}
use Rattle.std.specs.Borrow.{Bor}
use Rattle.std.specs.Str.{bytes_eq}
use Rattle.std.proofs.lemmas.Slice.Eq.{bytes_eq-Decides}
use Rattle.clap.specs.Matches.{matched_of, raw_values}
use Rattle.clap.specs.Walk.{Row, Text, rows_of, with_values}
use Rattle.clap.specs.declared.parser.matches.Found.{Found}
use Rattle.clap.proofs.WalkLemmas.{raw_values-rows}
use Rattle.clap.specs.declared.builder.value_parser.Reading.TheVariants.{AsWritten}
use Rattle.clap.specs.declared.parser.matches.ValueSource.TheVariants.{CommandLine}
use Rattle.command_words.specs.Given.{CommandOption, Segments, Image, Save, Order, Board, BoardTo, with_place, with_value}
use Rattle.command_line.specs.Line.{given_in, texts_in}
use Rattle.command_words.specs.Views.{texts_of}

-- the texts that were found of an id are those of its row
pub texts_found : (o : Option (Bor (List (Bor Text)))) (f : Found) (id : Text) → option_map (λ s. map (λ v. v.now) s.now) o ≡ option_map raw_values (matched_of f id)
    → texts_of o ≡ texts_in id (rows_of f)
texts_found None f id is = ap (λ (found : Option (List Text)). unwrap_or found []) (is ∙ raw_values-rows f id)
texts_found (Some texts) f id is = ap (λ (found : Option (List Text)). unwrap_or found []) (is ∙ raw_values-rows f id)

-- the rows with one value more of an id
abbrev pub more : Text → Text → List Row → List Row
more id value rows = with_values id AsWritten CommandLine (value ∷ []) rows

same : (id value : Text) (rows : List Row) → bytes_eq id id ≡ true → texts_in id (more id value rows) ≡ texts_in id rows ++ value ∷ []
same id value [] is = rw is refl
same id value (r ∷ rs) is = go (bytes_eq r.id id) refl (same id value rs is)
  where
    go : (b : Bool) → bytes_eq r.id id ≡ b → texts_in id (more id value rs) ≡ texts_in id rs ++ value ∷ [] → texts_in id (more id value (r ∷ rs)) ≡ texts_in id (r ∷ rs) ++ value ∷ []
    go true e rest = rw e (rw e refl)
    go false e rest = rw e (rw e rest)

other : (new id value : Text) (rows : List Row) → bytes_eq new id ≡ false → texts_in id (more new value rows) ≡ texts_in id rows
other new id value [] is = rw is refl
other new id value (r ∷ rs) is = go (bytes_eq r.id new) (bytes_eq r.id id) refl refl (other new id value rs is)
  where
    go : (a b : Bool) → bytes_eq r.id new ≡ a → bytes_eq r.id id ≡ b → texts_in id (more new value rs) ≡ texts_in id rs → texts_in id (more new value (r ∷ rs)) ≡ texts_in id (r ∷ rs)
    go true b e f rest = let no : bytes_eq r.id id ≡ false = subst (λ t. bytes_eq t id ≡ false) (sym ((bytes_eq-Decides r.id new).0 e)) is in rw e (rw no refl)
    go false true e f rest = rw e (rw f refl)
    go false false e f rest = rw e (rw f rest)

abbrev pub place_id : Text
place_id = codes "places"

abbrev pub id_of : CommandOption → Text
id_of Segments = codes "segments"
id_of Image = codes "image"
id_of Save = codes "save"
id_of Order = codes "order"
id_of Board = codes "board"
id_of BoardTo = codes "board-to"

pub more_place : (value : Text) (rows : List Row) → given_in (more place_id value rows) ≡ with_place value (given_in rows)
more_place value rows = λ i. record {
  places = same place_id value rows refl i;
  segments = other place_id (id_of Segments) value rows refl i;
  image = other place_id (id_of Image) value rows refl i;
  save = other place_id (id_of Save) value rows refl i;
  order = other place_id (id_of Order) value rows refl i;
  board = other place_id (id_of Board) value rows refl i;
  board_to = other place_id (id_of BoardTo) value rows refl i;
}

pub more_value : (o : CommandOption) (value : Text) (rows : List Row) → given_in (more (id_of o) value rows) ≡ with_value o value (given_in rows)
more_value Segments value rows = λ i. record {
  places = other (id_of Segments) place_id value rows refl i;
  segments = same (id_of Segments) value rows refl i;
  image = other (id_of Segments) (id_of Image) value rows refl i;
  save = other (id_of Segments) (id_of Save) value rows refl i;
  order = other (id_of Segments) (id_of Order) value rows refl i;
  board = other (id_of Segments) (id_of Board) value rows refl i;
  board_to = other (id_of Segments) (id_of BoardTo) value rows refl i;
}
more_value Image value rows = λ i. record {
  places = other (id_of Image) place_id value rows refl i;
  segments = other (id_of Image) (id_of Segments) value rows refl i;
  image = same (id_of Image) value rows refl i;
  save = other (id_of Image) (id_of Save) value rows refl i;
  order = other (id_of Image) (id_of Order) value rows refl i;
  board = other (id_of Image) (id_of Board) value rows refl i;
  board_to = other (id_of Image) (id_of BoardTo) value rows refl i;
}
more_value Save value rows = λ i. record {
  places = other (id_of Save) place_id value rows refl i;
  segments = other (id_of Save) (id_of Segments) value rows refl i;
  image = other (id_of Save) (id_of Image) value rows refl i;
  save = same (id_of Save) value rows refl i;
  order = other (id_of Save) (id_of Order) value rows refl i;
  board = other (id_of Save) (id_of Board) value rows refl i;
  board_to = other (id_of Save) (id_of BoardTo) value rows refl i;
}
more_value Order value rows = λ i. record {
  places = other (id_of Order) place_id value rows refl i;
  segments = other (id_of Order) (id_of Segments) value rows refl i;
  image = other (id_of Order) (id_of Image) value rows refl i;
  save = other (id_of Order) (id_of Save) value rows refl i;
  order = same (id_of Order) value rows refl i;
  board = other (id_of Order) (id_of Board) value rows refl i;
  board_to = other (id_of Order) (id_of BoardTo) value rows refl i;
}
more_value Board value rows = λ i. record {
  places = other (id_of Board) place_id value rows refl i;
  segments = other (id_of Board) (id_of Segments) value rows refl i;
  image = other (id_of Board) (id_of Image) value rows refl i;
  save = other (id_of Board) (id_of Save) value rows refl i;
  order = other (id_of Board) (id_of Order) value rows refl i;
  board = same (id_of Board) value rows refl i;
  board_to = other (id_of Board) (id_of BoardTo) value rows refl i;
}
more_value BoardTo value rows = λ i. record {
  places = other (id_of BoardTo) place_id value rows refl i;
  segments = other (id_of BoardTo) (id_of Segments) value rows refl i;
  image = other (id_of BoardTo) (id_of Image) value rows refl i;
  save = other (id_of BoardTo) (id_of Save) value rows refl i;
  order = other (id_of BoardTo) (id_of Order) value rows refl i;
  board = other (id_of BoardTo) (id_of Board) value rows refl i;
  board_to = same (id_of BoardTo) value rows refl i;
}
