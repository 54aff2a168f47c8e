-- Index blocks that are read one by one.
use Rattle.std.proofs.Common.{◌≡◌, inl, inr, ℕ, ◌+◌, ◌*◌, ◌<◌, min, Bool, true, false, ◌&&◌, List, [], ◌++◌, length, refl, sym, ◌∙◌, ap, ap₂, subst, arith, length-append}
use Rattle.std.proofs.lemmas.Bool.{and_parts, cases_lt, false≢true}
use Rattle.lis_ports.specs.Meaning.{Meaning}
use Rattle.lis_ports.specs.Calls.{DiskFaultEnds, OnlyReads}
use Rattle.lis_ports.proofs.Ending.{ends_none, ends_then}
use Rattle.lis_ports.proofs.OnlyReading.{reads_none, reads_then}
use Rattle.lis_model.specs.State.{blocks_needed}
use Rattle.lis_journal.specs.Journal.{Held}
use Rattle.lis_journal.specs.Images.{Fits}
use Rattle.lis_journal.specs.Phases.{looked}
use Rattle.lis_content.specs.Large.{index_bytes, index_home, index_count, numbers_in, numbers_of}
use Rattle.lis_content.proofs.Indexes.{length-numbers_in, no_numbers, numbers_of_more}

-- an index block spells the numbers that are read from it
abbrev pub Spells : ℕ → ℕ → List ℕ → Type 0
Spells version count block = block ≡ index_bytes version (numbers_in version count block)

-- how many numbers the first index blocks have
abbrev pub so_many : ℕ → ℕ → ℕ
so_many size j = min (1024 * j) (blocks_needed size)

-- the numbers in the first j index blocks, and whether these blocks are well formed
pub record SoRead (old now : Meaning) (journal : Held) (version base : ℕ) (slot : List ℕ) (size j : ℕ) (formed : Bool) (numbers : List ℕ) : Type 0 where
  pub reads : OnlyReads old now
  pub faults : now.disk_faults ≡ old.disk_faults
  pub first_fault : DiskFaultEnds old now
  pub fits : (kept : ℕ → List ℕ) → Fits journal old kept → Fits journal now kept
  pub count : length numbers ≡ so_many size j
  pub numbers_are : (kept : ℕ → List ℕ) → Fits journal old kept → numbers ≡ numbers_of version base slot (so_many size j) (looked journal.staged kept)
  pub well : formed ≡ true → (kept : ℕ → List ℕ) → Fits journal old kept → (i : ℕ) → i < j → Spells version (index_count size i) (looked journal.staged kept (index_home base slot i))
  pub ill : formed ≡ false → (kept : ℕ → List ℕ) → Fits journal old kept → (i : ℕ) × (i < j) × (Spells version (index_count size i) (looked journal.staged kept (index_home base slot i)) → ⊥)

pub none_read : (m : Meaning) (journal : Held) (version base : ℕ) (slot : List ℕ) (size : ℕ) (numbers : List ℕ) → numbers ≡ [] → SoRead m m journal version base slot size 0 true numbers
none_read m journal version base slot size numbers none = record {
  reads = reads_none m;
  faults = refl;
  first_fault = ends_none m;
  fits = λ kept fits. fits;
  count = ap length none ∙ sym zero_many;
  numbers_are = λ kept fits.
      none ∙ sym (ap (λ n. numbers_of version base slot n (looked journal.staged kept)) zero_many ∙ no_numbers version base slot (looked journal.staged kept));
  well = λ is kept fits i lt. absurd (omega (arith, lt));
  ill = λ is. absurd (false≢true (sym is));
}
  where
    zero_many : so_many size 0 ≡ 0
    zero_many = omega arith

-- one more index block is read
pub one_read : (old mid new : Meaning) (journal : Held) (version base : ℕ) (slot : List ℕ) (size j : ℕ) (formed is_formed : Bool) (numbers more block : List ℕ)
    → SoRead old mid journal version base slot size j formed numbers → 1024 * j < blocks_needed size
    → OnlyReads mid new → new.disk_faults ≡ mid.disk_faults → DiskFaultEnds mid new → ((kept : ℕ → List ℕ) → Fits journal mid kept → Fits journal new kept)
    → ((kept : ℕ → List ℕ) → Fits journal mid kept → block ≡ looked journal.staged kept (index_home base slot j))
    → more ≡ numbers ++ numbers_in version (index_count size j) block
    → (is_formed ≡ true → Spells version (index_count size j) block) → (is_formed ≡ false → Spells version (index_count size j) block → ⊥)
    → SoRead old new journal version base slot size (j + 1) (formed && is_formed) more
one_read old mid new journal version base slot size j formed is_formed numbers more block was there reads faults first_fault fits_on is_block longer well_is ill_is = record {
  reads = reads_then was.reads reads;
  faults = faults ∙ was.faults;
  first_fault = ends_then was.first_fault was.faults first_fault;
  fits = λ kept fits. fits_on kept (was.fits kept fits);
  count = ap length longer ∙ (length-append numbers (numbers_in version c block) ∙ omega (arith, was.count, length-numbers_in version c block, before, after));
  numbers_are = λ kept fits.
      let at = looked journal.staged kept in
      longer
      ∙ (ap₂ (λ xs b. xs ++ numbers_in version c b) (was.numbers_are kept fits ∙ ap (λ n. numbers_of version base slot n at) before) (is_block kept (was.fits kept fits))
      ∙ (sym (numbers_of_more version base slot j c at (omega arith)) ∙ ap (λ n. numbers_of version base slot n at) (sym after)));
  well = λ all kept fits i lt.
      let both = and_parts formed is_formed all in
      elim (cases_lt i j) as (λ _. Spells version (index_count size i) (looked journal.staged kept (index_home base slot i))) [
        | inl earlier ↦ was.well both.0 kept fits i earlier
        | inr past ↦
            let same : j ≡ i = omega (arith, lt, past) in
            subst (λ k. Spells version (index_count size k) (looked journal.staged kept (index_home base slot k))) same
            (subst (Spells version c) (is_block kept (was.fits kept fits)) (well_is both.1))
      ];
  ill = λ none kept fits. by formed refl kept fits none;
}
  where
    c : ℕ
    c = index_count size j

    before : so_many size j ≡ 1024 * j
    before = omega (arith, there)

    after : so_many size (j + 1) ≡ 1024 * j + c
    after = omega (arith, there)

    Malformed : (ℕ → List ℕ) → Type 0
    Malformed kept = (i : ℕ) × (i < j + 1) × (Spells version (index_count size i) (looked journal.staged kept (index_home base slot i)) → ⊥)

    by : (b : Bool) → formed ≡ b → (kept : ℕ → List ℕ) → Fits journal old kept → (b && is_formed) ≡ false → Malformed kept
    by true is kept fits none =
        (j, omega arith, λ spells. ill_is none (subst (Spells version c) (sym (is_block kept (was.fits kept fits))) spells))
    by false is kept fits none = let found = was.ill is kept fits in (found.0, omega (arith, found.1), found.2)
