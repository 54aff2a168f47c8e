-- What is seen of a state, by the entries of its files.
use Rattle.std.proofs.Common.{◌≡◌, ℕ, ◌||◌, Bool, List, [], ◌∷◌, ◌++◌, map, filter, refl, ap, sym, ◌∙◌}
use Rattle.std.specs.List.{list_any, flat_map}
use Rattle.std.proofs.lemmas.List.Folds.{list_any-append}
use Rattle.lis_words.specs.Words.{same_word, has_word}
use Rattle.lis_model.specs.Sets.{with_words}
use Rattle.lis_model.specs.State.{State, File, heads, description, file_words, known}
use Rattle.lis_model.specs.Table.{Table, Entry, entry_of, table}
use Rattle.lis_model.specs.Listing.{is_increment, is_local}
use Rattle.lis_model.specs.Replies.{listing_lines, ok_line}
use Rattle.lis_model.specs.Step.{is_side, is_had}
use Rattle.lis_table.specs.Tables.{known_of, table_with, table_of}

words_of_entries : (declared : List (List ℕ)) (axioms : List (List ℕ × List ℕ)) (files : List File)
    → flat_map (λ (e : Entry). e.words) (map (entry_of declared axioms) files) ≡ flat_map (file_words declared axioms) files
words_of_entries declared axioms [] = refl
words_of_entries declared axioms (file ∷ files) = ap (λ words. file_words declared axioms file ++ words) (words_of_entries declared axioms files)

pub known_made : (s : State) → known_of s.declared s.axioms (map (entry_of s.declared s.axioms) s.files) ≡ known s
known_made s =
    ap (λ words. with_words s.declared ((map (λ pair. pair.0) s.axioms ++ flat_map (λ pair. heads pair.0) s.axioms) ++ words)) (words_of_entries s.declared s.axioms s.files)

pub table_made : (s : State) → table_of s.limits s.declared s.axioms (map (entry_of s.declared s.axioms) s.files) ≡ table s
table_made s = ap (λ words. table_with s.limits s.declared s.axioms words (map (entry_of s.declared s.axioms) s.files)) (known_made s)

-- ---- uses of a word
any_map : {A : Type 0} (p : List ℕ → Bool) (f : A → List ℕ) (xs : List A) → list_any p (map f xs) ≡ list_any (λ x. p (f x)) xs
any_map p f [] = refl
any_map p f (x ∷ xs) = ap (λ b. p (f x) || b) (any_map p f xs)

any_flat_map : {A : Type 0} (f : A → List (List ℕ)) (word : List ℕ) (xs : List A) → has_word (flat_map f xs) word ≡ list_any (λ x. has_word (f x) word) xs
any_flat_map f word [] = refl
any_flat_map f word (x ∷ xs) = list_any-append (λ w. same_word w word) (f x) (flat_map f xs) ∙ ap (λ b. has_word (f x) word || b) (any_flat_map f word xs)

pub side_is : (s : State) (word : List ℕ) → (list_any (λ pair. same_word pair.0 word) s.axioms || list_any (λ pair. same_word pair.1 word) s.axioms) ≡ is_side s word
side_is s word =
    sym (list_any-append (λ w. same_word w word) (map (λ pair. pair.0) s.axioms) (map (λ pair. pair.1) s.axioms)
    ∙ ap (λ b. b || list_any (λ w. same_word w word) (map (λ pair. pair.1) s.axioms)) (any_map (λ w. same_word w word) (λ pair. pair.0) s.axioms)
    ∙ ap (λ b. list_any (λ pair. same_word pair.0 word) s.axioms || b) (any_map (λ w. same_word w word) (λ pair. pair.1) s.axioms))

pub had_is : (s : State) (word : List ℕ) → (list_any (λ pair. has_word (heads pair.0) word) s.axioms || list_any (λ file. has_word (description s file) word) s.files) ≡ is_had s word
had_is s word =
    sym (list_any-append (λ w. same_word w word) (flat_map (λ pair. heads pair.0) s.axioms) (flat_map (description s) s.files)
    ∙ ap (λ b. b || has_word (flat_map (description s) s.files) word) (any_flat_map (λ pair. heads pair.0) word s.axioms)
    ∙ ap (λ b. list_any (λ pair. has_word (heads pair.0) word) s.axioms || b) (any_flat_map (description s) word s.files))

-- ---- what a listing shows of the files of an extension
abbrev pub listing_of : Table → List Entry → List ℕ
listing_of t files = listing_lines (filter (is_increment t files) t.known) (filter (is_local files) files) ++ ok_line
