-- The command line as the reader of words has it: a command's name, and below each name the same positional words and options.
use Rattle.std.specs.Prelude.{Some, true, List, Option, [], codes, option_and_then, unwrap_or}
use Rattle.clap.specs.Walk.{Row, Rule, Text, all_of}
use Rattle.clap.specs.Simple.{App, new_app, new_rule, new_shape, with_rule, with_subcommand}
use Rattle.clap.specs.declared.builder.action.ArgAction.TheVariants.{Append}
use Rattle.command_words.specs.Given.{Given}
use Rattle.command_words.specs.Commands.{Asked, asked_with}

-- words or values that are kept in order, as many as there are
abbrev pub many_rule : Text → Rule
many_rule id = record (new_rule id) { action = Some Append }

abbrev pub option_rule : Text → Rule
option_rule name = record (many_rule name) { long = Some name }

-- what may follow a command's name
abbrev pub words_app : Text → App
words_app name =
    with_rule
    (with_rule
    (with_rule (with_rule (with_rule (with_rule (with_rule (new_app name) (many_rule (codes "places"))) (option_rule (codes "segments"))) (option_rule (codes "image"))) (option_rule (codes "save")))
    (option_rule (codes "order")))
    (option_rule (codes "board")))
    (option_rule (codes "board-to"))

-- the line without its commands: there are no words but ours, so no help and no name of the program
abbrev pub bare_line : App
bare_line = record {
  top = record (new_shape (codes "frang")) {
    no_binary_name = true;
    disable_help_flag = true;
    disable_help_subcommand = true;
    subcommand_required = true;
  };
  subs = [];
}

abbrev pub with_command : App → Text → App
with_command line name = with_subcommand line (words_app name).top

abbrev pub line_app : App
line_app =
    with_command (with_command (with_command (with_command (with_command (with_command bare_line (codes "run")) (codes "recover")) (codes "tree")) (codes "log")) (codes "fsck"))
    (codes "soak")

-- what a command's matches give
abbrev pub texts_in : Text → List Row → List Text
texts_in id rows = unwrap_or (all_of id rows) []

abbrev pub given_in : List Row → Given
given_in rows = record {
  places = texts_in (codes "places") rows;
  segments = texts_in (codes "segments") rows;
  image = texts_in (codes "image") rows;
  save = texts_in (codes "save") rows;
  order = texts_in (codes "order") rows;
  board = texts_in (codes "board") rows;
  board_to = texts_in (codes "board-to") rows;
}

-- what a command that was met asks
abbrev pub asked_entered : Option (Text × List Row) → Option Asked
asked_entered entered = option_and_then (λ e. asked_with e.0 (given_in e.1)) entered
