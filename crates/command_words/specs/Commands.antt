-- What the words of a command line ask.
use Rattle.std.specs.Prelude.{ℕ, ◌-◌, ◌^◌, Bool, true, not, ◌&&◌, if◌then◌else◌, Option, Some, None, is_none, List, [], ◌∷◌, codes, option_and_then, option_map}
use Rattle.std.specs.Str.{bytes_eq}
use Rattle.frang_base.specs.declared.limits.TheConstants.{SEGMENTS_DEFAULT, SEGMENTS_MAX}
use Rattle.script_definitions.specs.Numerals.{number_in}
use Rattle.command_words.specs.declared.boards.TheConstants.{READS_MAX}
use Rattle.command_words.specs.Given.{Given, given_by}

-- a fresh disk of so many segments, or that of an image, by its name
pub data AskedDisk : Type 0 where
  Fresh : (segments : ℕ) → AskedDisk
  Image : (image : List ℕ) → AskedDisk

-- to read a run's figures so often while it goes on, and to write them to a file
pub record BoardAsks : Type 0 where
  pub reads : ℕ
  pub file : List ℕ

-- to run a script, by its name, on a disk, and to save the disk where a name is given; where an order is given, in this order of events; and to read its figures where that is asked
pub record Asks : Type 0 where
  pub script : List ℕ
  pub disk : AskedDisk
  pub save : Option (List ℕ)
  pub order : Option ℕ
  pub board : Option BoardAsks

-- to recover an image, by its name, and to save it where a name is given; to tell its tree; to tell a log of it; to tell the report of its check
pub data ImageAsks : Type 0 where
  Recover : (image : List ℕ) (save : Option (List ℕ)) → ImageAsks
  Tree : (image : List ℕ) → ImageAsks
  Log : (image : List ℕ) (server : ℕ) → ImageAsks
  Fsck : (image : List ℕ) → ImageAsks

-- to run a script, to do a command on an image, or to run the script of a soak, by its number
pub data Asked : Type 0 where
  Run : (asks : Asks) → Asked
  OnImage : (asks : ImageAsks) → Asked
  Soak : (number : ℕ) → Asked

-- the text of a list of one
abbrev pub only : List (List ℕ) → Option (List ℕ)
only [] = None
only (text ∷ []) = Some text
only (text ∷ next ∷ rest) = None

-- an option's value, which it has at most once
abbrev pub at_most_one : List (List ℕ) → Option (Option (List ℕ))
at_most_one [] = Some None
at_most_one (text ∷ []) = Some (Some text)
at_most_one (text ∷ next ∷ rest) = None

-- the only two texts of a list
abbrev pub only_two : List (List ℕ) → Option (List ℕ × List ℕ)
only_two [] = None
only_two (text ∷ []) = None
only_two (text ∷ next ∷ []) = Some (text, next)
only_two (text ∷ next ∷ third ∷ rest) = None

-- a word, where an option isn't given
abbrev pub unless : List (List ℕ) → Option (List ℕ) → Option (List ℕ)
unless [] word = word
unless (text ∷ rest) word = None

-- the segments that are asked for, else the default
abbrev pub segments_in : Option (List ℕ) → Option ℕ
segments_in None = Some SEGMENTS_DEFAULT
segments_in (Some value) = number_in 1 SEGMENTS_MAX value

-- the disk of the image that is asked for, else a fresh one of the segments that are asked for; none where both are given
abbrev pub disk_in : Option (List ℕ) → Option (List ℕ) → Option AskedDisk
disk_in segments None = option_map (λ size. Fresh size) (segments_in segments)
disk_in None (Some image) = Some (Image image)
disk_in (Some segments) (Some image) = None

-- a number of 64 bits
abbrev pub wide_number : List ℕ → Option ℕ
wide_number word = number_in 0 (2 ^ 64 - 1) word

-- the order that is asked for, where one is
abbrev pub order_in : Option (List ℕ) → Option (Option ℕ)
order_in None = Some None
order_in (Some value) = option_map (λ order. Some order) (wide_number value)

abbrev pub disk_by : Given → Option AskedDisk
disk_by given = option_and_then (λ segments. option_and_then (λ image. disk_in segments image) (at_most_one given.image)) (at_most_one given.segments)

-- so many reads, into this file: neither without the other
abbrev pub board_in : Option (List ℕ) → Option (List ℕ) → Option (Option BoardAsks)
board_in None None = Some None
board_in (Some reads) (Some file) = option_map (λ n. Some (record { reads = n; file = file })) (number_in 1 READS_MAX reads)
board_in None (Some file) = None
board_in (Some reads) None = None

abbrev pub board_by : Given → Option (Option BoardAsks)
board_by given = option_and_then (λ reads. option_and_then (λ file. board_in reads file) (at_most_one given.board_to)) (at_most_one given.board)

-- another file than the one of the save
abbrev pub is_other_file : List ℕ → Option (List ℕ) → Bool
is_other_file file None = true
is_other_file file (Some save) = not (bytes_eq file save)

-- no figures are read where the events are ordered, and none are written to the file of the save
abbrev pub may_read : Option BoardAsks → Option (List ℕ) → Option ℕ → Bool
may_read None save order = true
may_read (Some board) save order = is_none order && is_other_file board.file save

abbrev pub if_fits : Asks → Option Asks
if_fits asks = if may_read asks.board asks.save asks.order then Some asks else None

-- run SCRIPT [--segments S | --image FILE] [--save FILE] [--order N | --board N --board-to FILE]
abbrev pub run_by : Given → Option Asks
run_by given =
    option_and_then
    (λ script. option_and_then
    (λ disk. option_and_then
    (λ save. option_and_then
    (λ order. option_and_then (λ board. if_fits (record { script = script; disk = disk; save = save; order = order; board = board })) (board_by given))
    (option_and_then order_in (at_most_one given.order)))
    (at_most_one given.save))
    (disk_by given))
    (only given.places)

-- recover IMAGE [--save FILE]
abbrev pub recover_by : Given → Option ImageAsks
recover_by given = option_and_then (λ image. option_map (λ save. Recover image save) (at_most_one given.save)) (unless given.board_to (unless given.board (unless given.order (unless given.image (unless given.segments (only given.places))))))

-- a word, where no option is given
abbrev pub bare : Given → Option (List ℕ) → Option (List ℕ)
bare given word = unless given.board_to (unless given.board (unless given.order (unless given.save (unless given.image (unless given.segments word)))))

-- tree IMAGE
abbrev pub tree_by : Given → Option ImageAsks
tree_by given = option_map (λ image. Tree image) (bare given (only given.places))

-- log IMAGE SERVER, a log of 0 to 255
abbrev pub log_by : Given → Option ImageAsks
log_by given =
    option_and_then (λ words. option_and_then (λ image. option_map (λ server. Log image server) (number_in 0 255 words.1)) (bare given (Some words.0)))
    (only_two given.places)

-- fsck IMAGE
abbrev pub fsck_by : Given → Option ImageAsks
fsck_by given = option_map (λ image. Fsck image) (bare given (only given.places))

-- soak N
abbrev pub soak_by : Given → Option ℕ
soak_by given = option_and_then wide_number (bare given (only given.places))

-- a command by its name
abbrev pub image_asked : List ℕ → Given → Option ImageAsks
image_asked name given =
    if bytes_eq name (codes "recover") then recover_by given
    else (if bytes_eq name (codes "tree") then tree_by given
    else (if bytes_eq name (codes "log") then log_by given
    else (if bytes_eq name (codes "fsck") then fsck_by given
    else None)))

abbrev pub asked_with : List ℕ → Given → Option Asked
asked_with name given =
    if bytes_eq name (codes "run") then option_map (λ asks. Run asks) (run_by given)
    else (if bytes_eq name (codes "soak") then option_map (λ number. Soak number) (soak_by given)
    else option_map (λ asks. OnImage asks) (image_asked name given))

-- what the words after the program's name ask, if they are a command
abbrev pub asked_by : List (List ℕ) → Option Asked
asked_by [] = None
asked_by (name ∷ words) = option_and_then (λ given. asked_with name given) (given_by words)
