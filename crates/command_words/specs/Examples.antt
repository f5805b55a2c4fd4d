-- What some words ask.
use Rattle.std.specs.Prelude.{◌≡◌, ◌-◌, ◌^◌, Some, None, [], ◌∷◌, codes, refl}
use Rattle.command_words.specs.Commands.{Fresh, Image, OnImage, Run, Soak, Recover, Tree, Log, Fsck, asked_by}

-- a name and its option, which may stand before it
with_a_save : asked_by (codes "recover" ∷ codes "--save" ∷ codes "new" ∷ codes "img" ∷ []) ≡ Some (OnImage (Recover (codes "img") (Some (codes "new"))))
with_a_save = refl

-- a value that begins with `-` stands after `=`
with_a_dash : asked_by (codes "recover" ∷ codes "img" ∷ codes "--save=-new" ∷ []) ≡ Some (OnImage (Recover (codes "img") (Some (codes "-new"))))
with_a_dash = refl

no_value : asked_by (codes "recover" ∷ codes "img" ∷ codes "--save" ∷ codes "-new" ∷ []) ≡ None
no_value = refl

-- a name that begins with `-` stands after `--`, and so does a name like an option's
after_the_options : asked_by (codes "tree" ∷ codes "--" ∷ codes "--save" ∷ []) ≡ Some (OnImage (Tree (codes "--save")))
after_the_options = refl

-- a lone `-` is a name
a_lone_dash : asked_by (codes "tree" ∷ codes "-" ∷ []) ≡ Some (OnImage (Tree (codes "-")))
a_lone_dash = refl

-- an option of another command, one that is given twice, one that nobody has
another_option : asked_by (codes "tree" ∷ codes "img" ∷ codes "--save" ∷ codes "new" ∷ []) ≡ None
another_option = refl

given_twice : asked_by (codes "run" ∷ codes "s" ∷ codes "--segments=2" ∷ codes "--segments=2" ∷ []) ≡ None
given_twice = refl

-- the last order, and one past it; an order has no sign and no leading zero, and is a run's
last_order : asked_by (codes "run" ∷ codes "--order" ∷ codes "18446744073709551615" ∷ codes "s" ∷ []) ≡ Some (Run (record { script = codes "s"; disk = Fresh 16; save = None; order = Some (2 ^ 64 - 1); board = None }))
last_order = refl

no_order : asked_by (codes "run" ∷ codes "s" ∷ codes "--order=18446744073709551616" ∷ []) ≡ None
no_order = refl

signed_order : asked_by (codes "run" ∷ codes "s" ∷ codes "--order=+1" ∷ []) ≡ None
signed_order = refl

padded_order : asked_by (codes "run" ∷ codes "s" ∷ codes "--order=01" ∷ []) ≡ None
padded_order = refl

ordered_twice : asked_by (codes "run" ∷ codes "s" ∷ codes "--order=1" ∷ codes "--order=1" ∷ []) ≡ None
ordered_twice = refl

an_ordered_tree : asked_by (codes "tree" ∷ codes "img" ∷ codes "--order=1" ∷ []) ≡ None
an_ordered_tree = refl

-- a run on an image, which has its own segments, and one that is saved; an image is one, and a run's
an_image : asked_by (codes "run" ∷ codes "--image" ∷ codes "img" ∷ codes "s" ∷ []) ≡ Some (Run (record { script = codes "s"; disk = Image (codes "img"); save = None; order = None; board = None }))
an_image = refl

an_image_with_segments : asked_by (codes "run" ∷ codes "s" ∷ codes "--segments=2" ∷ codes "--image=img" ∷ []) ≡ None
an_image_with_segments = refl

a_saved_run : asked_by (codes "run" ∷ codes "s" ∷ codes "--save" ∷ codes "new" ∷ codes "--segments=2" ∷ [])
    ≡ Some (Run (record { script = codes "s"; disk = Fresh 2; save = Some (codes "new"); order = None; board = None }))
a_saved_run = refl

a_saved_image : asked_by (codes "run" ∷ codes "--save=new" ∷ codes "s" ∷ codes "--order=7" ∷ codes "--image=img" ∷ [])
    ≡ Some (Run (record { script = codes "s"; disk = Image (codes "img"); save = Some (codes "new"); order = Some 7; board = None }))
a_saved_image = refl

image_twice : asked_by (codes "run" ∷ codes "s" ∷ codes "--image=img" ∷ codes "--image=img" ∷ []) ≡ None
image_twice = refl

saved_twice : asked_by (codes "run" ∷ codes "s" ∷ codes "--save=new" ∷ codes "--save=new" ∷ []) ≡ None
saved_twice = refl

an_image_recovered : asked_by (codes "recover" ∷ codes "--image=img" ∷ []) ≡ None
an_image_recovered = refl

another_image : asked_by (codes "recover" ∷ codes "img" ∷ codes "--image=img" ∷ []) ≡ None
another_image = refl

unknown : asked_by (codes "run" ∷ codes "--help" ∷ codes "s" ∷ []) ≡ None
unknown = refl

-- logs are 0 to 255, without a leading zero
last_log : asked_by (codes "log" ∷ codes "img" ∷ codes "255" ∷ []) ≡ Some (OnImage (Log (codes "img") 255))
last_log = refl

no_log : asked_by (codes "log" ∷ codes "img" ∷ codes "256" ∷ []) ≡ None
no_log = refl

leading_zero : asked_by (codes "log" ∷ codes "img" ∷ codes "00" ∷ []) ≡ None
leading_zero = refl

-- a check takes an image alone
a_check : asked_by (codes "fsck" ∷ codes "img" ∷ []) ≡ Some (OnImage (Fsck (codes "img")))
a_check = refl

a_saved_check : asked_by (codes "fsck" ∷ codes "img" ∷ codes "--save=new" ∷ []) ≡ None
a_saved_check = refl

-- a soak by its number, without an option; its numbers are those of an order
a_soak : asked_by (codes "soak" ∷ codes "7" ∷ []) ≡ Some (Soak 7)
a_soak = refl

last_soak : asked_by (codes "soak" ∷ codes "18446744073709551615" ∷ []) ≡ Some (Soak (2 ^ 64 - 1))
last_soak = refl

no_soak : asked_by (codes "soak" ∷ codes "18446744073709551616" ∷ []) ≡ None
no_soak = refl

a_padded_soak : asked_by (codes "soak" ∷ codes "07" ∷ []) ≡ None
a_padded_soak = refl

a_signed_soak : asked_by (codes "soak" ∷ codes "+7" ∷ []) ≡ None
a_signed_soak = refl

a_soak_without_number : asked_by (codes "soak" ∷ []) ≡ None
a_soak_without_number = refl

two_soaks : asked_by (codes "soak" ∷ codes "7" ∷ codes "8" ∷ []) ≡ None
two_soaks = refl

an_ordered_soak : asked_by (codes "soak" ∷ codes "7" ∷ codes "--order=1" ∷ []) ≡ None
an_ordered_soak = refl

a_soak_of_an_image : asked_by (codes "soak" ∷ codes "7" ∷ codes "--image=img" ∷ []) ≡ None
a_soak_of_an_image = refl

-- reads of a run's figures, 1 to 1,000, with a file for them, in any places; the file isn't the save's, and the events aren't ordered
a_board : asked_by (codes "run" ∷ codes "--board" ∷ codes "1000" ∷ codes "s" ∷ codes "--save=new" ∷ codes "--board-to=figures" ∷ [])
    ≡ Some (Run (record { script = codes "s"; disk = Fresh 16; save = Some (codes "new"); order = None; board = Some (record { reads = 1000; file = codes "figures" }) }))
a_board = refl

no_reads : asked_by (codes "run" ∷ codes "s" ∷ codes "--board=0" ∷ codes "--board-to=figures" ∷ []) ≡ None
no_reads = refl

too_many_reads : asked_by (codes "run" ∷ codes "s" ∷ codes "--board=1001" ∷ codes "--board-to=figures" ∷ []) ≡ None
too_many_reads = refl

a_board_without_file : asked_by (codes "run" ∷ codes "s" ∷ codes "--board=3" ∷ []) ≡ None
a_board_without_file = refl

a_file_without_board : asked_by (codes "run" ∷ codes "s" ∷ codes "--board-to=figures" ∷ []) ≡ None
a_file_without_board = refl

an_ordered_board : asked_by (codes "run" ∷ codes "s" ∷ codes "--board=3" ∷ codes "--board-to=figures" ∷ codes "--order=1" ∷ []) ≡ None
an_ordered_board = refl

one_file_for_both : asked_by (codes "run" ∷ codes "s" ∷ codes "--board=3" ∷ codes "--board-to=new" ∷ codes "--save=new" ∷ []) ≡ None
one_file_for_both = refl

boards_twice : asked_by (codes "run" ∷ codes "s" ∷ codes "--board=3" ∷ codes "--board=3" ∷ codes "--board-to=figures" ∷ []) ≡ None
boards_twice = refl

a_watched_soak : asked_by (codes "soak" ∷ codes "7" ∷ codes "--board=3" ∷ codes "--board-to=figures" ∷ []) ≡ None
a_watched_soak = refl

a_watched_image : asked_by (codes "recover" ∷ codes "img" ∷ codes "--board-to=figures" ∷ []) ≡ None
a_watched_image = refl
