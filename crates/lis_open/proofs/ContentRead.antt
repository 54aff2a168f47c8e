-- What is read of a file's content.
use Rattle.std.proofs.Common.{◌-◌, take-append-drop, length-take-le}
use Rattle.std.specs.List.{flat_map, list_all}
use Rattle.lis_open.proofs.Common.{◌≡◌, ◌∙◌, inr, sym, ap, ap₂, subst, ℕ, zero, suc, ◌+◌, ◌*◌, ◌<◌, ◌≤◌, nat_lt, Bool, true, List, [], ◌∷◌, ◌++◌, length, take, drop, get_or, IsTrue, arith, and_parts, ltb-true, length-drop, Meaning, DiskFaultEnds, Held, Fits, FileRecord, is_record, Limits, data_start, list_all-append, blocks_needed, blocks_told, bytes_told, met_tests, all_among, are_in_range}
use Rattle.lis_ports.specs.Calls.{OnlyReads}
use Rattle.lis_ports.specs.Bytes.{part}
use Rattle.lis_journal.specs.Images.{look}
use Rattle.lis_journal.specs.Record.{homes_start, HomeBlock}
use Rattle.lis_journal.proofs.Fitting.{kept_whole}
use Rattle.lis_content.specs.Content.{are_within, content}
use Rattle.lis_content.proofs.Reading.{IsFilled}
use Rattle.lis_content.proofs.Places.{content_first, filled_front}
use Rattle.lis_open.proofs.BlocksRead.{slot_of_form}
use Rattle.lis_derive.specs.Fronts.{gives_all}
use Rattle.lis_derive.proofs.FrontLemmas.{fronts_give_all}
use Rattle.lis_model.specs.Derived.{derived_words}
use Rattle.lis_store.proofs.StoreSays.{length-whole}
use Rattle.lis_open.specs.declared.words.Words.{Words}
use Rattle.lis_open.specs.ReadWords.{declared_words}
use Rattle.lis_open.specs.ReadFiles.{found_words, HaveWordsOf}

-- the same words are found
pub same_words : (words : Words) {name others bytes : List ℕ} → HaveWordsOf name others bytes → found_words words name bytes ≡ found_words words name others
same_words words has = ap₂ (λ ws n. ws ++ met_tests (declared_words words) n) has.words has.sized

pub same_bytes : (name others bytes : List ℕ) → bytes ≡ others → HaveWordsOf name others bytes
same_bytes name others bytes is = record { sized = ap length is; words = ap (derived_words name) is }

-- The blocks before this one were read into their positions, and the disk was only read.
pub record IsReadTo (old now : Meaning) (journal : Held) (base : ℕ) (ns : List ℕ) (k size : ℕ) (buf : List ℕ) : Type 0 where
  pub reads : OnlyReads old now
  pub faults : now.disk_faults ≡ old.disk_faults
  pub first_fault : DiskFaultEnds old now
  pub fits : (kept : ℕ → List ℕ) → Fits journal old kept → Fits journal now kept
  pub sized : length buf ≡ size
  pub filled : (kept : ℕ → List ℕ) → Fits journal old kept → IsFilled (λ b. kept (base + b)) ns k size buf

-- one of the numbers
pub number_passes : (test : ℕ → Bool) (ns : List ℕ) (k : ℕ) → list_all test ns ≡ true → k < length ns → test (get_or ns k 0) ≡ true
number_passes test [] k all lt = absurd (omega arith)
number_passes test (n ∷ ns) zero all lt = (and_parts (test n) (list_all test ns) all).0
number_passes test (n ∷ ns) (suc k) all lt = number_passes test ns k (and_parts (test n) (list_all test ns) all).1 (omega (arith, lt))

module _ (journal : Held) {m : Meaning} {kept : ℕ → List ℕ} (fits : Fits journal m kept) (base : ℕ) (ns : List ℕ) (home : homes_start journal.layout ≤ base) (within : IsTrue (are_within base journal.layout.blocks ns)) where
  -- each block has 4,096 bytes
  pub whole_at : (k : ℕ) → k < length ns → length (kept (base + get_or ns k 0)) ≡ 4096
  whole_at k lt =
      kept_whole journal fits (base + get_or ns k 0) (inr (omega (arith, home))) (ltb-true _ _ (number_passes (λ b. nat_lt (base + b) journal.layout.blocks) ns k within lt))

  all_whole : length (flat_map (λ b. kept (base + b)) ns) ≡ 4096 * length ns
  all_whole =
      length-whole (λ b. kept (base + b)) ns (λ b m.
      kept_whole journal fits (base + b) (inr (omega (arith, home))) (ltb-true _ _ (all_among (λ b. nat_lt (base + b) journal.layout.blocks) ns b within m)))

  -- a prefix that gives all words gives those of the content
  pub front_has_words : (name buf : List ℕ) (k size seen : ℕ) → IsFilled (λ b. kept (base + b)) ns k size buf → length buf ≡ size → length ns ≡ blocks_needed size
      → gives_all name (take (4096 * k) buf) seen ≡ true → HaveWordsOf name (content base ns size kept) buf
  front_has_words name buf k size seen filled sized count gives =
      let told = content base ns size kept in
      let front = take (4096 * k) buf in
      let long : length told ≡ size = length-take-le size (flat_map (λ b. kept (base + b)) ns) (omega (arith, all_whole, count)) in
      let told_is : told ≡ front ++ drop (4096 * k) told =
      sym (take-append-drop (4096 * k) told) ∙ ap (λ f. f ++ drop (4096 * k) told) (filled_front (λ b. kept (base + b)) ns k size buf filled) in
      let rest : length (drop (4096 * k) buf) ≡ length (drop (4096 * k) told) = omega (arith, length-drop (4096 * k) buf, length-drop (4096 * k) told, long, sized) in
      record {
        sized = sized ∙ sym long;
        words =
            ap (derived_words name) (sym (take-append-drop (4096 * k) buf))
            ∙ (fronts_give_all name front (drop (4096 * k) buf) (drop (4096 * k) told) seen gives rest ∙ ap (derived_words name) (sym told_is));
      }

-- what was read, if nothing is staged
pub block_read : (staged : List HomeBlock) (kept : ℕ → List ℕ) (home long size at : ℕ) (bytes : List ℕ) → staged ≡ [] → long ≡ size → bytes ≡ take (long - at) (look staged home (kept home))
    → bytes ≡ take (size - at) (kept home)
block_read staged kept home long size at bytes none sized read =
    read ∙ (ap (λ es. take (long - at) (look es home (kept home))) none ∙ ap (λ n. take (n - at) (kept home)) sized)

-- the content of a record's file, by all its blocks
pub content_of_told : (limits : Limits) (rec : FileRecord) (kept : ℕ → List ℕ) (base count : ℕ) (blocks part : List ℕ) → base ≡ data_start limits → count ≡ blocks_needed rec.size
    → IsTrue (are_in_range limits) → IsTrue (is_record limits rec) → part ≡ take count blocks → blocks ≡ blocks_told limits kept rec → content base part rec.size kept ≡ bytes_told limits kept rec
content_of_told limits rec kept base count blocks part from needed range form is told =
    ap (λ b. content b part rec.size kept) from
    ∙ ap (λ ns. content (data_start limits) ns rec.size kept)
    (is
    ∙ (ap (λ n. take n blocks) needed
    ∙ (ap (take (blocks_needed rec.size)) told
    ∙ content_first limits.version (data_start limits) rec.blocks rec.size kept (slot_of_form limits rec range form))))

pub told_words : (limits : Limits) (rec : FileRecord) (kept : ℕ → List ℕ) (base size : ℕ) (part name bytes : List ℕ) → name ≡ rec.name → size ≡ rec.size
    → content base part rec.size kept ≡ bytes_told limits kept rec → HaveWordsOf name (content base part size kept) bytes → HaveWordsOf rec.name (bytes_told limits kept rec) bytes
told_words limits rec kept base size part name bytes named sized told has =
    subst (λ n. HaveWordsOf n (bytes_told limits kept rec) bytes) named
    (subst (λ others. HaveWordsOf name others bytes) (ap (λ n. content base part n kept) sized ∙ told) has)

-- what holds of all numbers holds of the first ones
pub first_pass : (test : ℕ → Bool) (n : ℕ) (ns : List ℕ) → list_all test ns ≡ true → list_all test (take n ns) ≡ true
first_pass test n ns all =
    (and_parts (list_all test (take n ns)) (list_all test (drop n ns))
    (sym (list_all-append test (take n ns) (drop n ns)) ∙ (ap (list_all test) (take-append-drop n ns) ∙ all))).0
