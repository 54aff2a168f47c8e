-- The forms of words of the command line.
use Rattle.std.proofs.Common.{◌≡◌, ℕ, ◌<◌, ◌&&◌, not, cond, if◌then◌else◌, Bool, true, false, List, [], ◌∷◌, length, Option, Some, None, IsTrue, IfSome, codes, if◌then◌else◌, nat_le, refl, ap, arith, subst, ◌∙◌}
use Rattle.std.specs.Option.{option_map, option_and_then}
use Rattle.std.proofs.lemmas.Bool.{and_parts, and_from}
use Rattle.lis_words.specs.Words.{same_word, is_count, count_of, is_file_name}
use Rattle.lis_model.specs.declared.limits.Limits.{Limits}
use Rattle.lis_model.specs.Ranges.{is_files_limit, is_props_limit, is_blocks_limit, is_version, are_in_range}
use Rattle.lis_shell.specs.declared.words.Task.{Task}
use Rattle.lis_shell.specs.declared.words.Task.TheVariants.{Try, Make, Upgrade, OnImage}
use Rattle.lis_shell.specs.declared.words.ImageTask.{ImageTask}
use Rattle.lis_shell.specs.declared.words.ImageTask.TheVariants.{Run, Load, Rooms, Dump, Grow, View, Put}
use Rattle.lis_shell.specs.Words.{limits_of, grow_number_of, version_of, limits_in, part_named, work_named, upgrade_alone, task_of, MakesInRange, name_in}

-- ---- limits are in range
held : (t : Bool) (all limits : Limits) → cond t (Some all) None ≡ Some limits → (t ≡ true) × (all ≡ limits)
held true all limits e = (refl, (cc))
held false all limits e = absurd (cc)

limits_in_range : (version : ℕ) (files props blocks : List ℕ) (limits : Limits) → IsTrue (is_version version) → limits_of version files props blocks ≡ Some limits → IsTrue (are_in_range limits)
limits_in_range version files props blocks limits versioned e =
    let all : Limits = record { files = count_of files; props = count_of props; blocks = count_of blocks; version = version } in
    let of_files : Bool = is_count files && is_files_limit version (count_of files) in
    let of_props : Bool = is_count props && is_props_limit version (count_of props) in
    let of_blocks : Bool = is_count blocks && is_blocks_limit version (count_of blocks) in
    let is = held (of_files && of_props && of_blocks) all limits e in
    let front = and_parts (of_files && of_props) of_blocks is.0 in
    let first = and_parts of_files of_props front.0 in
    let range : IsTrue (are_in_range all) = and_from _ (is_version version) (both (and_parts (is_count files) (is_files_limit version (count_of files)) first.0).1
    (and_parts (is_count props) (is_props_limit version (count_of props)) first.1).1
    (and_parts (is_count blocks) (is_blocks_limit version (count_of blocks)) front.1).1) versioned in
    subst (λ l. IsTrue (are_in_range l)) is.1 range
  where
    both : {a b c : Bool} → a ≡ true → b ≡ true → c ≡ true → IsTrue (a && b && c)
    both e f g = cc

-- ---- what is made is in range, and what is viewed or put back has a file name
abbrev NamesPart : List (List ℕ) → Type 0
NamesPart words = (3 < length words) × IsTrue (is_file_name (name_in words))

abbrev IsAskedOf : List (List ℕ) → Option ImageTask → Type 0
IsAskedOf words (Some View) = NamesPart words
IsAskedOf words (Some Put) = NamesPart words
IsAskedOf words work = Unit {0}

abbrev IsAsked : List (List ℕ) → Option Task → Type 0
IsAsked words (Some (Make limits)) = IsTrue (are_in_range limits)
IsAsked words (Some (OnImage work)) = IsAskedOf words (Some work)
IsAsked words task = Unit {0}

module _ {A : Type 0} (P : Option A → Type 0) where
  either : (t : Bool) (one other : Option A) → P one → P other → P (cond t one other)
  either true one other first second = first
  either false one other first second = second

  mapped : {B : Type 0} (task : B → A) → ((b : B) → P (Some (task b))) → P None → (found : Option B) → P (option_map task found)
  mapped task each none (Some b) = each b
  mapped task each none None = none

made : (words : List (List ℕ)) (found : Option Limits) → ((limits : Limits) → found ≡ Some limits → IsTrue (are_in_range limits)) → IsAsked words (option_map Make found)
made words (Some limits) range = range limits refl
made words None range = tt

-- limits of each version that a word after them says are in range
versions_are : (files props blocks last : List ℕ) (limits : Limits) → option_and_then (λ version. limits_of version files props blocks) (version_of last) ≡ Some limits
    → IsTrue (are_in_range limits)
versions_are files props blocks last limits e = two (same_word last (codes "v2")) e
  where
    three : (t : Bool) → option_and_then (λ version. limits_of version files props blocks) (cond t (Some 3) None) ≡ Some limits → IsTrue (are_in_range limits)
    three true e = limits_in_range 3 files props blocks limits refl e
    three false e = absurd (cc)

    two : (t : Bool) → option_and_then (λ version. limits_of version files props blocks) (cond t (Some 2) (cond (same_word last (codes "v3")) (Some 3) None)) ≡ Some limits
        → IsTrue (are_in_range limits)
    two true e = limits_in_range 2 files props blocks limits refl e
    two false e = three (same_word last (codes "v3")) e

limits_are : (words : List (List ℕ)) (limits : Limits) → limits_in words ≡ Some limits → IsTrue (are_in_range limits)
limits_are (files ∷ props ∷ blocks ∷ []) limits e = limits_in_range 1 files props blocks limits refl e
limits_are (files ∷ props ∷ blocks ∷ last ∷ []) limits e = versions_are files props blocks last limits e
limits_are words limits e = absurd (cc)

upgrades : (all words : List (List ℕ)) → IsAsked all (upgrade_alone words)
upgrades all [] = tt
upgrades all (word ∷ words) = tt

part_is : (word second name text : List ℕ) → IsAskedOf (word ∷ second ∷ name ∷ text ∷ []) (part_named word name)
part_is word second name text = by (is_file_name name) refl
  where
    all : List (List ℕ)
    all = word ∷ second ∷ name ∷ text ∷ []

    by : (t : Bool) → is_file_name name ≡ t → IsAskedOf all (cond (not t) None (cond (same_word word (codes "view")) (Some View) (cond (same_word word (codes "put")) (Some Put) None)))
    by true is =
        let named : NamesPart all = (omega arith, is) in
        either (IsAskedOf all) (same_word word (codes "view")) (Some View) _ named (either (IsAskedOf all) (same_word word (codes "put")) (Some Put) None named tt)
    by false is = tt

work_is : (word second : List ℕ) (words : List (List ℕ)) → IsAskedOf (word ∷ second ∷ words) (work_named word words)
work_is word second [] =
    let all : List (List ℕ) = word ∷ second ∷ [] in
    either (IsAskedOf all) (same_word word (codes "run")) (Some Run) _ tt
    (either (IsAskedOf all) (same_word word (codes "load")) (Some Load) _ tt
    (either (IsAskedOf all) (same_word word (codes "rooms")) (Some Rooms) _ tt (either (IsAskedOf all) (same_word word (codes "dump")) (Some Dump) None tt tt)))
work_is word second (number ∷ []) =
    let all : List (List ℕ) = word ∷ second ∷ number ∷ [] in
    either (IsAskedOf all) (same_word word (codes "grow")) _ None (mapped (IsAskedOf all) Grow (λ n. tt) tt (grow_number_of number)) tt
work_is word second (name ∷ text ∷ []) = part_is word second name text
work_is word second (name ∷ text ∷ more ∷ words) = tt

on_image : (words : List (List ℕ)) (work : Option ImageTask) → IsAskedOf words work → IsAsked words (option_map OnImage work)
on_image words (Some work) is = is
on_image words None is = tt

is_asked : (words : List (List ℕ)) → IsAsked words (task_of words)
is_asked [] = tt
is_asked (word ∷ []) = tt
is_asked (word ∷ second ∷ words) =
    let all : List (List ℕ) = word ∷ second ∷ words in
    either (IsAsked all) (same_word word (codes "try")) _ _ (mapped (IsAsked all) Try (λ limits. tt) tt (limits_in (second ∷ words)))
    (either (IsAsked all) (same_word word (codes "make")) _ _ (made all (limits_in words) (limits_are words))
    (either (IsAsked all) (same_word word (codes "upgrade")) _ _ (upgrades all words) (on_image all (work_named word words) (work_is word second words))))

pub makes_in_range : (words : List (List ℕ)) → IfSome (task_of words) MakesInRange
makes_in_range words = by (task_of words) (is_asked words)
  where
    by : (task : Option Task) → IsAsked words task → IfSome task MakesInRange
    by None is = tt
    by (Some (Try limits)) is = tt
    by (Some (Make limits)) is = is
    by (Some Upgrade) is = tt
    by (Some (OnImage work)) is = tt

-- what will be viewed or put back has a name and a text
pub view_named : (words : List (List ℕ)) → task_of words ≡ Some (OnImage View) → (3 < length words) × IsTrue (is_file_name (name_in words))
view_named words is = subst (IsAsked words) is (is_asked words)

pub put_named : (words : List (List ℕ)) → task_of words ≡ Some (OnImage Put) → (3 < length words) × IsTrue (is_file_name (name_in words))
put_named words is = subst (IsAsked words) is (is_asked words)
