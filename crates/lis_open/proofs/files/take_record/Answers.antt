use Rattle.lis_open.proofs.Common.{rules, ◌≡◌, refl, sym, ap, subst, ◌∙◌, arith, length, false, true, are_free, are_distinct, are_below, bytes_told}
use Rattle.lis_open.specs.ReadFiles.{found_words, own_numbers, may_describe, HaveWordsOf, TakesNumbers}
use Rattle.lis_open.specs.ReadFiles.RecordFault.{NoBlocks, NotDescribed}
use Rattle.lis_open.proofs.FilesRead.{tags_below, free_below}
use Rattle.lis_open.proofs.Gathering.{described_rise, described_in}
use Rattle.lis_open.proofs.BlocksRead.{fits_after}
use Rattle.lis_open.proofs.ReadOn.{read_well, read_then, reads_disk}
use Rattle.lis_open.proofs.ContentRead.{same_words}
use Rattle.lis_open.proofs.files.take_record.Goals as goal

pub read_content-requires-clause-below : goal.read_content-requires-clause-below
read_content-requires-clause-below g c =
    let limits = c.args.known.limits.now in
    ap (are_below limits.blocks) c.as_slice-blocks.ensures.value ∙ free_below limits c.args.slots.now.map _ c.requires.map (rw c.if-not-branch.false at c.in_ok-free_blocks.ensures.usable).free

pub read_content-requires-clause-count : goal.read_content-requires-clause-count
read_content-requires-clause-count g c = omega (arith, ap length c.as_slice-blocks.ensures.value, rw c.if-not-branch.false at c.in_ok-free_blocks.ensures.count)

pub describe-requires-clause-below : goal.describe-requires-clause-below
describe-requires-clause-below g c =
    tags_below c.args.known.words.now c.args.rec c.args.known.axioms.now.taxonomy.props c.requires.are c.requires.props (search rules)

pub file-requires-clause-rise : goal.file-requires-clause-rise
file-requires-clause-rise g c =
    described_rise c.args.known.axioms.now.taxonomy (own_numbers c.args.known.words.now.dict c.args.rec.tags (found_words c.args.known.words.now c.args.rec.name c.bytes.result.now)) c.as_slice-in-Some.result.now
    (c.as_slice-in-Some.ensures.value ∙ c.in-Some.ensures.1)

pub file-requires-clause-in_range : goal.file-requires-clause-in_range
file-requires-clause-in_range g c =
    described_in c.args.known.axioms.now.taxonomy (own_numbers c.args.known.words.now.dict c.args.rec.tags (found_words c.args.known.words.now c.args.rec.name c.bytes.result.now)) c.as_slice-in-Some.result.now
    c.args.slots.now.ext.props (c.requires.ext ∙ sym c.requires.props) (c.as_slice-in-Some.ensures.value ∙ c.in-Some.ensures.1)

pub returns-then-not-branch-clause-refused : goal.returns-then-not-branch-clause-refused
returns-then-not-branch-clause-refused g c = (refl, λ kept fits. NoBlocks (rw c.if-not-branch.true at (c.in_ok-free_blocks.ensures.found kept fits)))

pub returns-in-None-clause-refused : goal.returns-in-None-clause-refused
returns-in-None-clause-refused g c =
    let limits = c.args.known.limits.now in
    let words = c.args.known.words.now in
    let rec = c.args.rec in (
      refl,
      λ kept fits.
          let found = rw c.if-not-branch.false at (c.in_ok-free_blocks.ensures.found kept fits) in
          let told = c.as_slice-blocks.ensures.value ∙ found.1 in
          let has = c.in_ok-read_content.ensures.words kept (fits_after c.args.known.journal.now kept c.in_ok-free_blocks.ensures.disk.reads fits) told in
          NotDescribed
          (subst (λ ws. may_describe words c.args.known.axioms.now.taxonomy rec ws ≡ false) (ap (found_words words rec.name) c.bytes.ensures.bytes ∙ same_words words has)
          c.in-None.ensures),
    )

pub returns-in-Some-clause-taken : goal.returns-in-Some-clause-taken
returns-in-Some-clause-taken g c =
    let limits = c.args.known.limits.now in
    let rec = c.args.rec in
    let slots = c.args.slots.now in
    let blocks = c.as_slice-blocks.result.now in
    let same = c.as_slice-blocks.ensures.value in
    let usable = rw c.if-not-branch.false at c.in_ok-free_blocks.ensures.usable in
    let numbers = c.as_slice-in-Some.ensures.value ∙ c.in-Some.ensures.1 in
    record {
      bytes = c.bytes.result.now;
      blocks = blocks;
      sized = ap length c.bytes.ensures.bytes ∙ c.in_ok-read_content.ensures.size;
      given = search rules;
      describes = c.in-Some.ensures.0;
      usable = record { own = usable.own; free = ap (are_free slots.map) same ∙ usable.free; distinct = ap are_distinct same ∙ usable.distinct };
      takes = subst (λ ns. TakesNumbers c.args.slot rec blocks ns slots c.file.new.slots) numbers c.file.ensures;
      told = λ kept fits.
          let found = rw c.if-not-branch.false at (c.in_ok-free_blocks.ensures.found kept fits) in
          let has = c.in_ok-read_content.ensures.words kept (fits_after c.args.known.journal.now kept c.in_ok-free_blocks.ensures.disk.reads fits) (same ∙ found.1) in
          record {
            has_words = subst (λ bs. HaveWordsOf rec.name (bytes_told limits kept rec) bs) (sym c.bytes.ensures.bytes) has;
            indexed = found.0;
            blocks_are = same ∙ found.1;
          };
    }

pub returns-in-None-clause-disk : goal.returns-in-None-clause-disk
returns-in-None-clause-disk g c = reads_disk false (read_then (read_well c.in_ok-free_blocks.ensures.disk) (read_well c.in_ok-read_content.ensures.disk))

pub returns-in-Some-clause-disk : goal.returns-in-Some-clause-disk
returns-in-Some-clause-disk g c = reads_disk true (read_then (read_well c.in_ok-free_blocks.ensures.disk) (read_well c.in_ok-read_content.ensures.disk))

pub file-requires-clause-distinct : goal.file-requires-clause-distinct
file-requires-clause-distinct g c = search rules

pub file-requires-clause-free : goal.file-requires-clause-free
file-requires-clause-free g c = search rules
