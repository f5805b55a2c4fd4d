-- Words and commands of the code as the definitions have them.
use Rattle.std.specs.Prelude.{ℕ, ◌≤◌, IsTrue, Option, Some, None, List, [], map, option_map}
use Rattle.std.specs.Borrow.{Bor}
use Rattle.frang_base.specs.declared.limits.TheConstants.{SEGMENTS_MAX}
use Rattle.command_words.specs.declared.words.GivenWords.{GivenWords}
use Rattle.command_words.specs.declared.boards.BoardChoice.{BoardChoice}
use Rattle.command_words.specs.declared.commands.Command.{Command}
use Rattle.command_words.specs.declared.commands.Command.TheVariants as command
use Rattle.command_words.specs.declared.commands.DiskChoice.{DiskChoice}
use Rattle.command_words.specs.declared.commands.DiskChoice.TheVariants as choice
use Rattle.command_words.specs.declared.commands.ImageCommand.{ImageCommand}
use Rattle.command_words.specs.declared.commands.ImageCommand.TheVariants as image
use Rattle.command_words.specs.declared.commands.RunCommand.{RunCommand}
use Rattle.command_words.specs.Given.{Given}
use Rattle.command_words.specs.Commands.{Asked, AskedDisk, Asks, BoardAsks, Fresh, Fsck, Image, ImageAsks, Log, OnImage, Recover, Run, Soak, Tree, may_read}

-- the text of a word, if there is one
abbrev pub text_of : Option (Bor (List ℕ)) → Option (List ℕ)
text_of word = option_map (λ w. w.now) word

-- the texts of words, none where there are no words
abbrev pub texts_of : Option (Bor (List (Bor (List ℕ)))) → List (List ℕ)
texts_of None = []
texts_of (Some words) = map (λ w. w.now) words.now

abbrev pub pair_of : Option (Bor (List ℕ) × Bor (List ℕ)) → Option (List ℕ × List ℕ)
pair_of words = option_map (λ w. (w.0.now, w.1.now)) words

abbrev pub given_of : GivenWords → Given
given_of g = record { places = texts_of g.places; segments = texts_of g.segments; image = texts_of g.image; save = texts_of g.save; order = texts_of g.order; board = texts_of g.board; board_to = texts_of g.board_to }

abbrev pub disk_of : DiskChoice → AskedDisk
disk_of (choice.Fresh segments) = Fresh segments
disk_of (choice.Image name) = Image name.now

abbrev pub board_of : BoardChoice → BoardAsks
board_of board = record { reads = board.reads; file = board.file.now }

abbrev pub asks_of : RunCommand → Asks
asks_of run = record { script = run.script.now; disk = disk_of run.disk; save = text_of run.save; order = run.order; board = option_map board_of run.board }

abbrev pub image_asks_of : ImageCommand → ImageAsks
image_asks_of (image.Recover name save) = Recover name.now (text_of save)
image_asks_of (image.Tree name) = Tree name.now
image_asks_of (image.Log name server) = Log name.now server
image_asks_of (image.Fsck name) = Fsck name.now

abbrev pub asked_of : Command → Asked
asked_of (command.Run run) = Run (asks_of run)
asked_of (command.OnImage asks) = OnImage (image_asks_of asks)
asked_of (command.Soak number) = Soak number

-- a disk may have so many segments
abbrev pub HasSize : ℕ → Type 0
HasSize segments = (1 ≤ segments) × (segments ≤ SEGMENTS_MAX)

-- a fresh disk has as many segments as a disk may have
abbrev pub HasFreshSize : DiskChoice → Type 0
HasFreshSize (choice.Fresh segments) = HasSize segments
HasFreshSize (choice.Image name) = Unit {0}

-- the fresh disk of a run has so, and its figures may be read where they are
pub record MayRun (run : RunCommand) : Type 0 where
  pub size : HasFreshSize run.disk
  pub read : IsTrue (may_read (option_map board_of run.board) (text_of run.save) run.order)

-- what is asked for can be done: a run may be
abbrev pub MayDo : Command → Type 0
MayDo (command.Run run) = MayRun run
MayDo (command.OnImage asks) = Unit {0}
MayDo (command.Soak number) = Unit {0}
