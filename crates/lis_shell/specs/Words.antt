-- What the words of the command line request.
use Rattle.std.specs.Prelude.{ℕ, ◌*◌, nat_lt, not, ◌&&◌, if◌then◌else◌, Option, Some, None, List, [], ◌∷◌, IsTrue, codes, slice_index_or, ◌^◌, ⊤}
use Rattle.lis_words.specs.Words.{same_word, is_count, count_of, is_file_name}
use Rattle.lis_model.specs.declared.limits.Limits.{Limits}
use Rattle.lis_model.specs.Ranges.{is_files_limit, is_props_limit, is_blocks_limit, are_in_range}
use Rattle.lis_model.specs.Image.{image_blocks}
use Rattle.lis_shell.specs.declared.words.Task.{Task}
use Rattle.lis_shell.specs.declared.words.Task.TheVariants.{Try, Make, Upgrade, OnImage}
use Rattle.lis_shell.specs.declared.words.ImageTask.{ImageTask}
use Rattle.lis_shell.specs.declared.words.ImageTask.TheVariants.{Run, Load, Rooms, Dump, Grow, View, Put}
use Rattle.std.specs.Option.{option_map, option_and_then}
use Rattle.lis_limits.specs.declared.TheConstants.{BLOCK_LEN}

-- three counts that are limits in range, of the version
abbrev pub limits_of : ℕ → List ℕ → List ℕ → List ℕ → Option Limits
limits_of version files props blocks =
    if is_count files && is_files_limit version (count_of files) && (is_count props && is_props_limit version (count_of props))
    && (is_count blocks && is_blocks_limit version (count_of blocks))
    then Some (record { files = count_of files; props = count_of props; blocks = count_of blocks; version = version })
    else None

-- a count below 2^31, from which a session can be made
abbrev pub grow_number_of : List ℕ → Option ℕ
grow_number_of digits = if is_count digits && nat_lt (count_of digits) (2 ^ 31) then Some (count_of digits) else None

-- the version that a word after the limits says
abbrev pub version_of : List ℕ → Option ℕ
version_of word = if same_word word (codes "v2") then Some 2 else if same_word word (codes "v3") then Some 3 else None

-- three limits, with or without a version after them: what begins with them is of that version, or of version 1
abbrev pub limits_in : List (List ℕ) → Option Limits
limits_in [] = None
limits_in (files ∷ []) = None
limits_in (files ∷ props ∷ []) = None
limits_in (files ∷ props ∷ blocks ∷ []) = limits_of 1 files props blocks
limits_in (files ∷ props ∷ blocks ∷ last ∷ []) = option_and_then (λ version. limits_of version files props blocks) (version_of last)
limits_in (files ∷ props ∷ blocks ∷ last ∷ more ∷ words) = None

-- the words with nothing after their image
abbrev pub work_alone : List ℕ → Option ImageTask
work_alone word =
    if same_word word (codes "run") then Some Run
    else if same_word word (codes "load") then Some Load
    else if same_word word (codes "rooms") then Some Rooms
    else if same_word word (codes "dump") then Some Dump
    else None

-- a file name after the image, and any text after that
abbrev pub part_named : List ℕ → List ℕ → Option ImageTask
part_named word name =
    if not (is_file_name name) then None
    else if same_word word (codes "view") then Some View
    else if same_word word (codes "put") then Some Put
    else None

-- what is to be done on an existing image, by the first word and by those after the image
abbrev pub work_named : List ℕ → List (List ℕ) → Option ImageTask
work_named word [] = work_alone word
work_named word (number ∷ []) = if same_word word (codes "grow") then option_map Grow (grow_number_of number) else None
work_named word (name ∷ text ∷ []) = part_named word name
work_named word (name ∷ text ∷ more ∷ words) = None

abbrev pub upgrade_alone : List (List ℕ) → Option Task
upgrade_alone [] = Some Upgrade
upgrade_alone (word ∷ words) = None

-- the same, or to make an image or to upgrade one
abbrev pub task_with : List ℕ → List (List ℕ) → Option Task
task_with word words =
    if same_word word (codes "make") then option_map Make (limits_in words)
    else if same_word word (codes "upgrade") then upgrade_alone words
    else option_map OnImage (work_named word words)

-- `try` and three limits; or a word, an image, which is any text, and what the word requires after it
abbrev pub task_of : List (List ℕ) → Option Task
task_of [] = None
task_of (word ∷ []) = None
task_of (word ∷ second ∷ words) = if same_word word (codes "try") then option_map Try (limits_in (second ∷ words)) else task_with word words

-- the limits of an image to be made are in range
abbrev pub MakesInRange : Task → Type 0
MakesInRange (Try limits) = ⊤
MakesInRange (Make limits) = IsTrue (are_in_range limits)
MakesInRange Upgrade = ⊤
MakesInRange (OnImage work) = ⊤

-- how many bytes an image to be made takes
abbrev pub length_for : Option Task → Option ℕ
length_for None = None
length_for (Some (Try limits)) = None
length_for (Some (Make limits)) = Some (BLOCK_LEN * image_blocks limits)
length_for (Some Upgrade) = None
length_for (Some (OnImage work)) = None

-- the file name and the text of a formula, if the words have them after an image
abbrev pub name_in : List (List ℕ) → List ℕ
name_in words = slice_index_or words 2 []

abbrev pub text_in : List (List ℕ) → List ℕ
text_in words = slice_index_or words 3 []
