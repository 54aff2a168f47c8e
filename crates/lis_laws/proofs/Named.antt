-- Files by their names.
use Rattle.std.proofs.Common.{◌≡◌, ℕ, Bool, true, false, not, ◌||◌, cond, List, [], ◌∷◌, refl, sym, ap, ◌∙◌, inl, inr}
use Rattle.std.specs.declared.cmp.Ordering.{Ordering}
use Rattle.std.specs.declared.cmp.Ordering.TheVariants.{Less, Equal, Greater}
use Rattle.std.specs.Ordering.{match_ordering}
use Rattle.std.specs.BTreeSet.{insert_key}
use Rattle.std.proofs.lemmas.Bool.{not-true, both_ways, false_from_ne_true}
use Rattle.lis_graph.proofs.Members.{Among, among_from_any, any_from_among, among_filter, among_map}
use Rattle.lis_words.specs.Words.{same_word}
use Rattle.lis_model.specs.State.{State, File, file_cmp}
use Rattle.lis_model.specs.Changes.{has_name, file_of, file_added, file_removed}
use Rattle.lis_model.specs.Table.{Entry, table, entry_of}
use Rattle.lis_model.specs.Listing.{extension, holds_all}
use Rattle.lis_model.specs.Step.{Situation, is_here}
use Rattle.lis_laws.proofs.Members.{word_exact, same_word_decides}

module _ {K : Type 0} (cmp : K → K → Ordering) where
  -- what equals no member is inserted
  insert_key_there : (xs : List K) (k : K) → ((x : K) → Among xs x → cmp k x ≡ Equal → ⊥) → Among (insert_key cmp xs k) k
  insert_key_there [] k other = inl refl
  insert_key_there (y ∷ ys) k other = by (cmp k y) refl (insert_key_there ys k (λ x m. other x (inr m)))
    where
      by : (r : Ordering) → cmp k y ≡ r → Among (insert_key cmp ys k) k → Among (match_ordering r (k ∷ y ∷ ys) (y ∷ ys) (y ∷ insert_key cmp ys k)) k
      by Less e rest = inl refl
      by Equal e rest = absurd (other y (inl refl) e)
      by Greater e rest = inr rest

-- a file of that name is among them
pub named : (files : List File) (file : File) (name : List ℕ) → Among files file → file.name ≡ name → has_name files name ≡ true
named files file name m same = any_from_among (λ (f : File). same_word f.name name) files file m ((same_word_decides file.name name).1 same)

-- a file of a new name is inserted
pub file_there : (s : State) (file : File) → has_name s.files file.name ≡ false → Among (file_added s file).files file
file_there s file new = insert_key_there file_cmp s.files file apart
  where
    apart : (other : File) → Among s.files other → file_cmp file other ≡ Equal → ⊥
    apart other m e = both_ways (has_name s.files file.name) new (named s.files other file.name m (sym (word_exact file.name other.name e)))

-- ---- the file of a name
pub file_of_name : (files : List File) (name : List ℕ) → (file_of files name).name ≡ name
file_of_name [] name = refl
file_of_name (file ∷ files) name = by (same_word file.name name) refl (file_of_name files name)
  where
    by : (b : Bool) → same_word file.name name ≡ b → (file_of files name).name ≡ name → (cond b file (file_of files name)).name ≡ name
    by true e more = (same_word_decides file.name name).0 e
    by false e more = more

pub file_of_there : (files : List File) (name : List ℕ) → has_name files name ≡ true → Among files (file_of files name)
file_of_there [] name h = absurd cc
file_of_there (file ∷ files) name h = by (same_word file.name name) h (file_of_there files name)
  where
    by : (b : Bool) → (b || has_name files name) ≡ true → (has_name files name ≡ true → Among files (file_of files name)) → Among (file ∷ files) (cond b file (file_of files name))
    by true some more = inl refl
    by false some more = inr (more some)

-- a file that is here is one of the state
pub here_named : (now : Situation) (name : List ℕ) → is_here now name ≡ true → has_name now.state.files name ≡ true
here_named now name h = by (among_from_any (λ (e : Entry). same_word e.name name) (extension (table now.state) now.place) h)
  where
    file : (e : Entry) → same_word e.name name ≡ true → (f : File) × Among now.state.files f × (entry_of now.state.declared now.state.axioms f ≡ e) → has_name now.state.files name ≡ true
    file e same found =
        named now.state.files found.0 name found.1 (ap (λ (k : Entry). k.name) found.2 ∙ (same_word_decides e.name name).0 same)

    by : (e : Entry) × Among (extension (table now.state) now.place) e × (same_word e.name name ≡ true) → has_name now.state.files name ≡ true
    by found =
        file found.0 found.2 (among_map (entry_of now.state.declared now.state.axioms) now.state.files found.0 (among_filter (holds_all now.place) (table now.state).files found.0 found.1).0)

-- ---- a file removed
pub still_free : (s : State) (name other : List ℕ) → has_name s.files other ≡ false → has_name (file_removed s name).files other ≡ false
still_free s name other free = false_from_ne_true (has_name (file_removed s name).files other) taken
  where
    taken : has_name (file_removed s name).files other ≡ true → ⊥
    taken h =
        let found = among_from_any (λ (f : File). same_word f.name other) (file_removed s name).files h in
        both_ways (has_name s.files other) free
        (any_from_among (λ (f : File). same_word f.name other) s.files found.0 (among_filter (λ (f : File). not (same_word f.name name)) s.files found.0 found.1).0 found.2)

-- its name is free then
pub gone_free : (s : State) (name : List ℕ) → has_name (file_removed s name).files name ≡ false
gone_free s name = false_from_ne_true (has_name (file_removed s name).files name) taken
  where
    taken : has_name (file_removed s name).files name ≡ true → ⊥
    taken h =
        let found = among_from_any (λ (f : File). same_word f.name name) (file_removed s name).files h in
        both_ways (same_word found.0.name name) (not-true _ (among_filter (λ (f : File). not (same_word f.name name)) s.files found.0 found.1).1) found.2
