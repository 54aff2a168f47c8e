-- The lines of `add` make a file with its bytes and its first eight words, if the files before it are there.
use Rattle.std.proofs.Common.{◌≡◌, ◌⊎◌, ℕ, ◌+◌, ◌≤◌, nat_lt, nat_le, true, false, not, List, [], ◌∷◌, ◌++◌, length, refl, sym, ap, subst, ◌∙◌, inl, inr, length-append, arith}
use Rattle.std.specs.List.{list_any, list_all}
use Rattle.std.specs.declared.cmp.Ordering.TheVariants.{Less}
use Rattle.std.specs.Cmp.{tied_itself}
use Rattle.std.specs.BTreeSet.{insert_key}
use Rattle.std.proofs.lemmas.Bool.{false_from_ne_true, not_from_true, leb-true, ltb-true}
use Rattle.std.proofs.lemmas.List.{take-append-drop, length-take}
use Rattle.lis_graph.specs.Graph.{is_rising}
use Rattle.lis_graph.proofs.Members.{Among, among_from_any, among_left, among_right, among_take, among_insert_key}
use Rattle.lis_words.specs.Words.{word_cmp, same_word, is_built_in}
use Rattle.lis_model.specs.declared.command.Command.TheVariants.{Add}
use Rattle.lis_model.specs.State.{State, File, WellFormed, is_assignable, file_cmp, file_limit, blocks_taken, used_blocks}
use Rattle.lis_model.specs.Changes.{new_file, has_name}
use Rattle.lis_model.specs.Step.{Situation, Item, Payload, step, changed, exceeds_known, exceeds_words, is_head_or_test, exceeds_file, free_blocks, add_checks, add_with}
use Rattle.lis_model.specs.Step.Item.{Do}
use Rattle.lis_laws.proofs.Members.{word_order, same_word_decides}
use Rattle.lis_laws.proofs.Counts.{all_among, all_from}
use Rattle.lis_laws.proofs.Forms.{file_order}
use Rattle.lis_laws.proofs.Sources.{assigned_are}
use Rattle.lis_laws.proofs.Steps.{NoneStands}
use Rattle.lis_replay.specs.Dump.{first_words, other_words}
use Rattle.lis_replay.proofs.Rising.{rising_front, front_below, insert_behind, insert_all_next}
use Rattle.lis_replay.proofs.Led.{said_ok, not_refused}
use Rattle.lis_replay.proofs.Lower.{IsBarer, barer_itself, IsLower, room_known, room_words}
use Rattle.lis_replay.proofs.Mkdirs.{with_these, at_root}
use Rattle.lis_replay.proofs.Lists.{none_any, sum_at}
use Rattle.lis_replay.proofs.Given.{IsGiven, given_words}

-- a payload of these bytes
abbrev pub payload_with : List ℕ → Payload
payload_with bytes = record { size = length bytes; bytes = bytes }

abbrev pub add_item : File → Item
add_item file = Do (Add file.name (first_words file)) (payload_with file.bytes)

-- the file, with only its first words
abbrev pub begun : File → File
begun file = new_file file.name (first_words file) file.bytes

pub begun_barer : (file : File) → IsBarer (begun file) file
begun_barer file = record { name = refl; bytes = refl; words = among_take 8 file.assigned }

pub begun_rising : (file : File) → is_rising word_cmp file.assigned ≡ true → is_rising word_cmp (first_words file) ≡ true
begun_rising file h = rising_front word_cmp word_order (first_words file) (other_words file) (ap (is_rising word_cmp) (take-append-drop 8 file.assigned) ∙ h)

module _ (t : State) (formed : WellFormed t) where
  abbrev pub by_files : List File → State
  by_files files = with_these t t.declared [] files

  -- the next file and those before it are files of the state, with no more of them and of blocks than the state has
  pub record IsNext (front : List File) (file : File) : Type 0 where
    pub there : (f : File) → Among (file ∷ front) f → Among t.files f
    pub above : (f : File) → Among front f → file_cmp f file ≡ Less
    pub few : length front + 1 ≤ length t.files
    pub blocks : used_blocks (by_files front) + blocks_taken t.limits.version (length file.bytes) ≤ used_blocks t

  pub is_next : (front : List File) (file : File) (rest : List File) → t.files ≡ front ++ file ∷ rest → IsNext front file
  is_next front file rest is = record {
    there = λ f m. subst (λ fs. Among fs f) (sym is) (by f m);
    above = λ f m. front_below file_cmp file_order front (file ∷ rest) f file (ap (is_rising file_cmp) (sym is) ∙ formed.file_set) m (inl refl);
    few = omega (arith, ap length is, length-append front (file ∷ rest));
    blocks = omega (arith, sum_at (λ (f : File). blocks_taken t.limits.version (length f.bytes)) front file rest, ap (λ files. used_blocks (by_files files)) is);
  }
    where
      by : (f : File) → Among (file ∷ front) f → Among (front ++ file ∷ rest) f
      by f (inl same) = among_right front (file ∷ rest) f (inl same)
      by f (inr m) = among_left front (file ∷ rest) f m

  pub name_new : (front : List File) (file : File) → IsNext front file → has_name front file.name ≡ false
  name_new front file next = false_from_ne_true (has_name front file.name) taken
    where
      taken : has_name front file.name ≡ true → ⊥
      taken h =
          let found = among_from_any (λ (f : File). same_word f.name file.name) front h in
          let less = next.above found.0 found.1 in
          let same : found.0.name ≡ file.name = (same_word_decides found.0.name file.name).0 found.2 in
          let level = tied_itself word_order file.name in
          let below : word_cmp file.name file.name ≡ Less = ap (λ (n : List ℕ). word_cmp n file.name) (sym same) ∙ less in
          cc

  -- the next file, with all of its words or with fewer, goes after the others
  pub files_lower : (front : List File) (file some : File) → IsNext front file → IsBarer some file → (files : List File)
      → ((f : File) → Among files f → (some ≡ f) ⊎ Among front f) → IsLower (by_files files) t
  files_lower front file some next barer files among = record {
    limits = refl;
    declared = λ w m. m;
    axioms = λ e m. absurd m;
    files = λ f m. by f (among f m);
  }
    where
      by : (f : File) → (some ≡ f) ⊎ Among front f → (g : File) × Among t.files g × IsBarer f g
      by f (inl same) = subst (λ (k : File). (g : File) × Among t.files g × IsBarer k g) same (file, next.there file (inl refl), barer)
      by f (inr m) = (f, next.there f (inr m), barer_itself f)

  none_stands : (front : List File) (file : File) → IsNext front file
      → NoneStands (add_checks (at_root (by_files front)) (first_words file) (begun file) (by_files (insert_key file_cmp front (begun file))) (length file.bytes))
  none_stands front file next = (small, (new, (refl, (own, (fit, (assignable, (few, (room, (described, (known, (space, tt)))))))))))
    where
      made : State
      made = by_files (insert_key file_cmp front (begun file))

      member : Among t.files file
      member = next.there file (inl refl)

      given : (w : List ℕ) → Among (first_words file) w → IsGiven w
      given w m = given_words t formed file member w (among_take 8 file.assigned w m)

      new : has_name front file.name ≡ false
      new = name_new front file next

      small : exceeds_file (by_files front) (length file.bytes) ≡ false
      small = false_from_ne_true (exceeds_file (by_files front) (length file.bytes))
          (λ h. omega (arith, ltb-true _ _ h, leb-true _ _ (all_among (λ (f : File). nat_le (length f.bytes) (file_limit t.limits)) t.files file formed.files.short member)))

      own : list_any is_built_in (first_words file) ≡ false
      own = none_any is_built_in (first_words file) (λ w m. (given w m).not_built_in)

      fit : list_any is_head_or_test (first_words file) ≡ false
      fit = none_any is_head_or_test (first_words file) (λ w m. let g = given w m in rw (g.no_head, g.no_test) refl)

      assignable : not (list_all (is_assignable t.declared) (first_words file)) ≡ false
      assignable = not_from_true _ (all_from (is_assignable t.declared) (first_words file) (λ w m. assigned_are t formed file member w (among_take 8 file.assigned w m)))

      few : nat_lt 16 (length (first_words file)) ≡ false
      few = false_from_ne_true (nat_lt 16 (length (first_words file))) (λ h. omega (arith, ltb-true _ _ h, length-take 8 file.assigned))

      room : nat_le t.limits.files (length front) ≡ false
      room = false_from_ne_true (nat_le t.limits.files (length front)) (λ h. omega (arith, leb-true _ _ h, next.few, formed.few_files))

      lower : IsLower made t
      lower = files_lower front file (begun file) next (begun_barer file) (insert_key file_cmp front (begun file)) (among_insert_key file_cmp front (begun file))

      described : exceeds_words made ≡ false
      described = room_words made t formed lower

      known : exceeds_known made ≡ false
      known = room_known made t formed lower formed.declared_set

      space : nat_lt (free_blocks (by_files front)) (blocks_taken t.limits.version (length file.bytes)) ≡ false
      space = false_from_ne_true (nat_lt (free_blocks (by_files front)) (blocks_taken t.limits.version (length file.bytes))) (λ h. omega (arith, ltb-true _ _ h, next.blocks, formed.few_blocks))

  -- the file comes after the others
  pub add_steps : (front : List File) (file : File) → IsNext front file → step (at_root (by_files front)) (add_item file) ≡ said_ok (at_root (by_files (front ++ begun file ∷ [])))
  unfolding step
  add_steps front file next =
      ap (λ words. add_with now (first_words file) (new_file file.name words file.bytes) (length file.bytes)) (insert_all_next word_cmp word_order [] (first_words file) (begun_rising file rising))
      ∙ not_refused now (add_checks now (first_words file) (begun file) (by_files (insert_key file_cmp front (begun file))) (length file.bytes)) (changed now (by_files (insert_key file_cmp front (begun file))))
      (none_stands front file next)
      ∙ ap (λ files. said_ok (at_root (by_files files))) (insert_behind file_cmp file_order front (begun file) next.above)
    where
      now : Situation
      now = at_root (by_files front)

      rising : is_rising word_cmp file.assigned ≡ true
      rising = all_among (λ (f : File). is_rising word_cmp f.assigned) t.files file formed.files.assigned_sets (next.there file (inl refl))
