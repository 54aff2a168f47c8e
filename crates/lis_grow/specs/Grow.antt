-- A large session that is made from a number.
use Rattle.std.specs.Prelude.{ℕ, zero, suc, ◌+◌, ◌-◌, ◌*◌, ◌/◌, ◌%◌, ◌^◌, ◌==◌, if◌then◌else◌, List, [], ◌++◌, codes}
use Rattle.std.specs.List.{flat_map, range_with_len}
use Rattle.lis_model.specs.Replies.{line, two_digits}

abbrev pub four_digits : ℕ → List ℕ
four_digits n = two_digits (n / 10 ^ 2) ++ two_digits (n % 10 ^ 2)

-- the generator of the draws
abbrev pub multiplier : ℕ
multiplier = 1103515245

abbrev pub increment : ℕ
increment = 12345

-- the files of a session are made in years from this one on
abbrev pub first_year : ℕ
first_year = 2000

-- how many files a session makes
abbrev pub file_count : ℕ
file_count = 1000

-- The value of the generator after a draw. The draw gives a part of the value, without the lowest bits.
abbrev pub drawn : ℕ → ℕ
drawn x = (multiplier * x + increment) % 2 ^ 31

abbrev pub draw_of : ℕ → ℕ
draw_of x = x / 2 ^ 16

abbrev pub group : ℕ → List ℕ
group i = codes "g" ++ two_digits i

abbrev pub mkdir_line : ℕ → List ℕ
mkdir_line i = line (codes "mkdir " ++ group i)

abbrev pub axiom_line : ℕ → List ℕ
axiom_line i = line (codes "axiom " ++ group i ++ codes " " ++ group ((i - 1) / 2))

-- the words of a file, by a draw
abbrev pub file_words : ℕ → List ℕ
file_words v = group (v % 16) ++ codes " year:" ++ four_digits (first_year + (v / 16) % 20)

abbrev pub create_line : ℕ → ℕ → List ℕ
create_line i v = line (codes "create f" ++ four_digits i ++ codes ".txt " ++ file_words v)

-- the bytes of a source
abbrev pub source_of : ℕ → List ℕ
source_of i = line (codes "int h" ++ four_digits i ++ codes "(void) {") ++ line (codes "}")

abbrev pub add_lines : ℕ → ℕ → List ℕ
add_lines i v = line (codes "add f" ++ four_digits i ++ codes ".c 20 " ++ file_words v) ++ line (source_of i)

-- every tenth file is a source
abbrev pub file_lines : ℕ → ℕ → List ℕ
file_lines i v = if i % 10 == 0 then add_lines i v else create_line i v

-- this many files from number i on, if the generator has the value x
abbrev pub files_from : ℕ → ℕ → ℕ → List ℕ
files_from zero i x = []
files_from (suc count) i x = file_lines i (draw_of (drawn x)) ++ files_from count (i + 1) (drawn x)

-- one of five files is removed
abbrev pub rm_lines : ℕ → List ℕ
rm_lines i = if i % 5 == 3 then line (codes "rm f" ++ four_digits i ++ codes ".txt") else []

abbrev pub last_lines : List ℕ
last_lines =
    line (codes "unaxiom g15 g07") ++ line (codes "axiom g15 g06")
    ++ line (codes "ls") ++ line (codes "cd g01") ++ line (codes "ls") ++ line (codes "cd /year:") ++ line (codes "ls")
    ++ line (codes "cd /") ++ line (codes "stat")

-- the bytes of the session
unfoldable pub grow_bytes : ℕ → List ℕ
grow_bytes n =
    flat_map mkdir_line (range_with_len 0 16) ++ line (codes "mkdir year:")
    ++ flat_map axiom_line (range_with_len 1 15)
    ++ files_from file_count 0 n
    ++ flat_map rm_lines (range_with_len 0 file_count)
    ++ last_lines
