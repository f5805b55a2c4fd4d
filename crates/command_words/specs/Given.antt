-- The words after a command's name, taken from the left: positional words and options, in any places. An option is `--name value` or
-- `--name=value`; `--` ends the options. A value or a positional word that begins with `-` and is longer than that stands only after `=` or
-- after `--`. How many words and values a command takes is seen to by the command.
use Rattle.std.specs.Prelude.{ℕ, Bool, true, false, not, ◌==◌, ◌||◌, if◌then◌else◌, Option, Some, None, List, [], ◌∷◌, ◌++◌, codes, option_and_then, option_map}
use Rattle.std.specs.Str.{bytes_eq}
use Rattle.std.specs.List.{after_first, before_first, list_any}

-- an option of a command, which has a value
pub data CommandOption : Type 0 where
  Segments : CommandOption
  Image : CommandOption
  Save : CommandOption
  Order : CommandOption
  Board : CommandOption
  BoardTo : CommandOption

-- what words give, each list in the words' order: the positional words, and the values of each option
pub record Given : Type 0 where
  pub places : List (List ℕ)
  pub segments : List (List ℕ)
  pub image : List (List ℕ)
  pub save : List (List ℕ)
  pub order : List (List ℕ)
  pub board : List (List ℕ)
  pub board_to : List (List ℕ)

-- words that were read: what they gave, the option whose value the next word has to be, and whether options have ended
pub record Reading : Type 0 where
  pub given : Given
  pub awaited : Option CommandOption
  pub ended : Bool

abbrev pub nothing_read : Reading
nothing_read = record { given = record { places = []; segments = []; image = []; save = []; order = []; board = []; board_to = [] }; awaited = None; ended = false }

-- a word that begins with `-` and is longer than that
abbrev pub is_dashed : List ℕ → Bool
is_dashed [] = false
is_dashed (first ∷ []) = false
is_dashed (first ∷ next ∷ rest) = first == 45

-- one positional word more
abbrev pub with_place : List ℕ → Given → Given
with_place word given = record given { places = given.places ++ word ∷ [] }

-- one value of an option more
abbrev pub with_value : CommandOption → List ℕ → Given → Given
with_value Segments value given = record given { segments = given.segments ++ value ∷ [] }
with_value Image value given = record given { image = given.image ++ value ∷ [] }
with_value Save value given = record given { save = given.save ++ value ∷ [] }
with_value Order value given = record given { order = given.order ++ value ∷ [] }
with_value Board value given = record given { board = given.board ++ value ∷ [] }
with_value BoardTo value given = record given { board_to = given.board_to ++ value ∷ [] }

-- the option that a text names
abbrev pub option_named : List ℕ → Option CommandOption
option_named name =
    if bytes_eq name (codes "segments") then Some Segments
    else (if bytes_eq name (codes "image") then Some Image
    else (if bytes_eq name (codes "save") then Some Save
    else (if bytes_eq name (codes "order") then Some Order
    else (if bytes_eq name (codes "board") then Some Board
    else (if bytes_eq name (codes "board-to") then Some BoardTo
    else None)))))

-- what stands before the first `=` of a text, and what stands after it, where there is one
abbrev pub is_equals : ℕ → Bool
is_equals b = b == 61

abbrev pub name_in : List ℕ → List ℕ
name_in text = before_first is_equals text

abbrev pub value_in : List ℕ → Option (List ℕ)
value_in text = if list_any is_equals text then Some (after_first is_equals text) else None

-- an option with its value behind `=` or in the next word
abbrev pub option_read : CommandOption → Option (List ℕ) → Reading → Reading
option_read option (Some value) reading = record reading { given = with_value option value reading.given }
option_read option None reading = record reading { awaited = Some option }

-- what stands behind two dashes: nothing, which ends the options, or an option
abbrev pub behind_dashes : List ℕ → Reading → Option Reading
behind_dashes [] reading = Some (record reading { ended = true })
behind_dashes (first ∷ rest) reading = option_map (λ option. option_read option (value_in (first ∷ rest)) reading) (option_named (name_in (first ∷ rest)))

-- a word that begins with `-` and is longer than that
abbrev pub dashed_read : List ℕ → Reading → Option Reading
dashed_read [] reading = None
dashed_read (first ∷ []) reading = None
dashed_read (first ∷ next ∷ rest) reading = if next == 45 then behind_dashes rest reading else None

-- a word that is no option's value
abbrev pub free_read : List ℕ → Reading → Option Reading
free_read word reading = if reading.ended || not (is_dashed word) then Some (record reading { given = with_place word reading.given }) else dashed_read word reading

-- the value of an option that was named before
abbrev pub value_read : CommandOption → List ℕ → Reading → Option Reading
value_read option word reading = if is_dashed word then None else Some (record reading { given = with_value option word reading.given; awaited = None })

-- one word more
abbrev pub word_read : Option CommandOption → List ℕ → Reading → Option Reading
word_read (Some option) word reading = value_read option word reading
word_read None word reading = free_read word reading

-- words after others, at the end of which no option lacks its value
abbrev pub if_closed : Option CommandOption → Given → Option Given
if_closed None given = Some given
if_closed (Some option) given = None

abbrev pub given_after : Reading → List (List ℕ) → Option Given
given_after reading [] = if_closed reading.awaited reading.given
given_after reading (word ∷ words) = option_and_then (λ next. given_after next words) (word_read reading.awaited word reading)

-- what words give
abbrev pub given_by : List (List ℕ) → Option Given
given_by words = given_after nothing_read words
