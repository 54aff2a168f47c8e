-- Records in sequence.
use Rattle.std.proofs.Common.{◌≡◌, ℕ, zero, suc, ◌+◌, ◌*◌, ◌<◌, ◌≤◌, ◌==◌, nat_le, Bool, true, false, cond, ◌&&◌, List, [], ◌∷◌, ◌++◌, length, take, drop, Some, None, IsTrue, refl, sym, ◌∙◌, ap, arith, append_assoc}
use Rattle.std.proofs.lemmas.Bool.{and_parts, leb-true}
use Rattle.std.proofs.lemmas.List.{append-nil, drop-drop}
use Rattle.std.proofs.Math.Seq.{take-add}
use Rattle.lis_ports.specs.Bytes.{part}
use Rattle.lis_ports.proofs.Parts.{length-part}
use Rattle.lis_journal.specs.declared.layout.Layout.{Layout}
use Rattle.lis_journal.specs.Record.{homes_start, header_blocks, record_len, count_at, header_at, block, HomeBlock, homes_of, count_of, rises, is_header, record_end, is_record, entries_from, recorded, behind, first_bad, all_recorded}
use Rattle.lis_journal.specs.Images.{look}
use Rattle.lis_journal.specs.Phases.{Spelled}
use Rattle.lis_journal.proofs.Entries.{Within, AtHome}
use Rattle.lis_journal.proofs.Places.{rise_parts}
use Rattle.lis_journal.proofs.Headers.{form_of, length-words, count-part, count-header}

-- ---- where n records end
pub behind_from : (b n : ℕ) (image : List ℕ) → b + n ≤ behind b n image
unfolding record_end
behind_from b zero image = omega arith
behind_from b (suc n) image = omega (arith, behind_from (record_end b image) n image)

pub end_above : (b : ℕ) (image : List ℕ) → b < record_end b image
unfolding record_end
end_above b image = omega arith

-- a record's contents, after its header
pub length-homes : (b : ℕ) (image : List ℕ) → b + header_blocks (count_at b image) + length (homes_of (header_at b image)) ≡ record_end b image
unfolding record_end
length-homes b image = omega (arith, length-words 1 (count_of (header_at b image)) (header_at b image), count-header b image)

pub record_parts : (layout : Layout) (b : ℕ) (image : List ℕ) → is_record layout b image ≡ true → IsTrue (is_header layout (header_at b image)) × (record_end b image ≤ homes_start layout)
unfolding is_record
record_parts layout b image form =
    let parts = and_parts (is_header layout (header_at b image)) (nat_le (record_end b image) (homes_start layout)) form in
    (parts.0, leb-true (record_end b image) (homes_start layout) parts.1)

-- the first of n + 1 records is well formed, and so are those after it
pub first_good : (layout : Layout) (b n : ℕ) (image : List ℕ) → first_bad layout b (suc n) image ≡ None → (is_record layout b image ≡ true) × (first_bad layout (record_end b image) n image ≡ None)
first_good layout b n image good = by (is_record layout b image) good
  where
    by : (f : Bool) → cond f (first_bad layout (record_end b image) n image) (Some b) ≡ None → (f ≡ true) × (first_bad layout (record_end b image) n image ≡ None)
    by true e = (refl, e)
    by false e = cc

pub behind_within : (layout : Layout) (b n : ℕ) (image : List ℕ) → b ≤ homes_start layout → first_bad layout b n image ≡ None → behind b n image ≤ homes_start layout
behind_within layout b zero image le good = le
behind_within layout b (suc n) image le good =
    let parts = first_good layout b n image good in
    behind_within layout (record_end b image) n image (record_parts layout b image parts.0).1 parts.1

-- ---- images that have the same blocks have the same records
entries-same : (k : ℕ) (hs old new : List ℕ) → ((j : ℕ) → k ≤ j → j < k + length hs → block j new ≡ block j old) → entries_from k hs new ≡ entries_from k hs old
entries-same k [] old new same = refl
entries-same k (h ∷ hs) old new same =
    let more : (j : ℕ) → k + 1 ≤ j → j < k + 1 + length hs → block j new ≡ block j old = λ j le lt. same j (omega (arith, le)) (omega (arith, lt)) in
    ap (λ bytes. record { home = h; bytes = bytes } ∷ entries_from (k + 1) hs new) (same k (omega arith) (omega arith))
    ∙ ap (λ es. record { home = h; bytes = block k old } ∷ es) (entries-same (k + 1) hs old new more)

pub record SameRecords (layout : Layout) (b n : ℕ) (old new : List ℕ) : Type 0 where
  pub bad : first_bad layout b n new ≡ first_bad layout b n old
  pub all : all_recorded b n new ≡ all_recorded b n old
  pub ends : behind b n new ≡ behind b n old

-- consecutive blocks, by each of them
parts_same : (b n : ℕ) (old new : List ℕ) → ((j : ℕ) → b ≤ j → j < b + n → block j new ≡ block j old) → part (4096 * b) (4096 * n) new ≡ part (4096 * b) (4096 * n) old
parts_same b zero old new same = refl
parts_same b (suc n) old new same =
    let rest = parts_same (b + 1) n old new (λ j le lt. same j (omega (arith, le)) (omega (arith, lt))) in
    split new ∙ (ap (λ front. front ++ part (4096 * (b + 1)) (4096 * n) new) (same b (omega arith) (omega arith)) ∙ (ap (λ rest. block b old ++ rest) rest ∙ sym (split old)))
  where
    split : (xs : List ℕ) → part (4096 * b) (4096 * suc n) xs ≡ block b xs ++ part (4096 * (b + 1)) (4096 * n) xs
    split xs =
        let more : 4096 * suc n ≡ 4096 + 4096 * n = omega arith in
        let next : 4096 * b + 4096 ≡ 4096 * (b + 1) = omega arith in
        ap (λ k. take k (drop (4096 * b) xs)) more
        ∙ (take-add 4096 (4096 * n) (drop (4096 * b) xs)
        ∙ ap (λ rest. block b xs ++ take (4096 * n) rest) (drop-drop 4096 (4096 * b) xs ∙ ap (λ k. drop k xs) next))

-- the same count and the same header
record SameHeader (b : ℕ) (old new : List ℕ) : Type 0 where
  pub count : count_at b new ≡ count_at b old
  pub header : header_at b new ≡ header_at b old
  pub ends : record_end b new ≡ record_end b old

header-same : (b : ℕ) (old new : List ℕ) → ((j : ℕ) → b ≤ j → j < record_end b old → block j new ≡ block j old) → SameHeader b old new
unfolding record_end
header-same b old new same =
    let count : count_at b new ≡ count_at b old = sym (count-part b 4096 new (omega arith)) ∙ (ap count_of (same b (omega arith) (omega arith)) ∙ count-part b 4096 old (omega arith)) in
    record {
      count = count;
      header = ap (λ c. part (4096 * b) (4096 * header_blocks c) new) count
          ∙ parts_same b (header_blocks (count_at b old)) old new (λ j le lt. same j le (omega (arith, lt)));
      ends = ap (λ c. b + record_len c) count;
    }

form-same : (layout : Layout) (b : ℕ) (old new : List ℕ) → SameHeader b old new → is_record layout b new ≡ is_record layout b old
unfolding is_record
form-same layout b old new same =
    ap (λ header. is_header layout header && nat_le (record_end b new) (homes_start layout)) same.header
    ∙ ap (λ end. is_header layout (header_at b old) && nat_le end (homes_start layout)) same.ends

recorded-same : (b : ℕ) (old new : List ℕ) → ((j : ℕ) → b ≤ j → j < record_end b old → block j new ≡ block j old) → recorded b new ≡ recorded b old
unfolding recorded
recorded-same b old new same =
    let len = length-homes b old in
    let top = header-same b old new same in
    ap (λ c. entries_from (b + header_blocks c) (homes_of (header_at b new)) new) top.count
    ∙ (ap (λ header. entries_from (b + header_blocks (count_at b old)) (homes_of header) new) top.header
    ∙ entries-same (b + header_blocks (count_at b old)) (homes_of (header_at b old)) old new (λ j le lt. same j (omega (arith, le)) (omega (arith, lt, len))))

pub records_same : (layout : Layout) (b n : ℕ) (old new : List ℕ) → ((j : ℕ) → b ≤ j → j < behind b n old → block j new ≡ block j old) → SameRecords layout b n old new
records_same layout b zero old new same = record { bad = refl; all = refl; ends = refl }
records_same layout b (suc n) old new same =
    let end = record_end b old in
    let low = end_above b old in
    let high = behind_from end n old in
    let here = header-same b old new (λ j le lt. same j le (omega (arith, lt, high))) in
    let rest = records_same layout end n old new (λ j le lt. same j (omega (arith, le, low)) lt) in
    let ends = here.ends in
    record {
      bad = ap (λ f. cond f (first_bad layout (record_end b new) n new) (Some b)) (form-same layout b old new here)
          ∙ ap (λ x. cond (is_record layout b old) x (Some b)) (ap (λ e. first_bad layout e n new) ends ∙ rest.bad);
      all = ap (λ es. es ++ all_recorded (record_end b new) n new) (recorded-same b old new (λ j le lt. same j le (omega (arith, lt, high))))
          ∙ ap (λ es. recorded b old ++ es) (ap (λ e. all_recorded e n new) ends ∙ rest.all);
      ends = ap (λ e. behind e n new) ends ∙ rest.ends;
    }

-- ---- one more record
pub behind-more : (b n : ℕ) (image : List ℕ) → behind b (suc n) image ≡ record_end (behind b n image) image
behind-more b zero image = refl
behind-more b (suc n) image = behind-more (record_end b image) n image

pub entries-more : (b n : ℕ) (image : List ℕ) → all_recorded b (suc n) image ≡ all_recorded b n image ++ recorded (behind b n image) image
entries-more b zero image = append-nil (recorded b image)
entries-more b (suc n) image =
    ap (λ es. recorded b image ++ es) (entries-more (record_end b image) n image)
    ∙ sym (append_assoc (recorded b image) (all_recorded (record_end b image) n image) (recorded (behind (record_end b image) n image) image))

pub form-more : (layout : Layout) (b n : ℕ) (image : List ℕ) → first_bad layout b n image ≡ None → is_record layout (behind b n image) image ≡ true → first_bad layout b (suc n) image ≡ None
form-more layout b zero image good form = ap (λ f. cond f None (Some b)) form
form-more layout b (suc n) image good form =
    let parts = first_good layout b n image good in
    ap (λ f. cond f (first_bad layout (record_end b image) (suc n) image) (Some b)) parts.0 ∙ form-more layout (record_end b image) n image parts.1 form

-- the first bad one after n good ones
pub form-bad : (layout : Layout) (b n m : ℕ) (image : List ℕ) → n < m → first_bad layout b n image ≡ None → is_record layout (behind b n image) image ≡ false → first_bad layout b m image ≡ Some (behind b n image)
form-bad layout b n zero image lt good bad = absurd (omega arith)
form-bad layout b zero (suc m) image lt good bad = ap (λ f. cond f (first_bad layout (record_end b image) m image) (Some b)) bad
form-bad layout b (suc n) (suc m) image lt good bad =
    let less : n < m = omega (arith, lt) in
    let parts = first_good layout b n image good in
    ap (λ f. cond f (first_bad layout (record_end b image) m image) (Some b)) parts.0 ∙ form-bad layout (record_end b image) n m image less parts.1 bad

-- ---- what the records hold
pub look-append : (es fs : List HomeBlock) (n : ℕ) (old : List ℕ) → look (es ++ fs) n old ≡ look fs n (look es n old)
look-append [] fs n old = refl
look-append (e ∷ es) fs n old = look-append es fs n (cond (n == e.home) e.bytes old)

-- entries that are home blocks within the image, with a block each
pub record Sound (layout : Layout) (es : List HomeBlock) : Type 0 where
  pub within : Within layout.blocks es
  pub home : AtHome (homes_start layout) es

sound_append : (layout : Layout) (es fs : List HomeBlock) → Sound layout es → Sound layout fs → Sound layout (es ++ fs)
sound_append layout [] fs one two = two
sound_append layout (e ∷ es) fs one two =
    let rest = sound_append layout es fs (record { within = one.within.2; home = one.home.1 }) two in
    record { within = (one.within.0, one.within.1, rest.within); home = (one.home.0, rest.home) }

entries_sound : (layout : Layout) (last k : ℕ) (hs image : List ℕ) → layout.records + 1 ≤ last → IsTrue (rises layout.blocks last hs) → 4096 * (k + length hs) ≤ length image → Sound layout (entries_from k hs image)
entries_sound layout last k [] image le rise long = record { within = tt; home = tt }
entries_sound layout last k (h ∷ hs) image le rise long =
    let parts = rise_parts layout.blocks last h hs rise in
    let rest = entries_sound layout h (k + 1) hs image (omega (arith, le, parts.0)) parts.2 (omega (arith, long)) in
    record {
      within = (parts.1, length-part (4096 * k) 4096 image (omega (arith, long)), rest.within);
      home = (omega (arith, le, parts.0), rest.home);
    }

recorded_sound : (layout : Layout) (b : ℕ) (image : List ℕ) → 4096 * homes_start layout ≤ length image → is_record layout b image ≡ true → Sound layout (recorded b image)
unfolding recorded
recorded_sound layout b image long form =
    let parts = record_parts layout b image form in
    entries_sound layout (layout.records + 1) (b + header_blocks (count_at b image)) (homes_of (header_at b image)) image (omega arith) (form_of layout (header_at b image) parts.0).rise (omega (arith, parts.1, length-homes b image, long))

pub all_sound : (layout : Layout) (b n : ℕ) (image : List ℕ) → 4096 * homes_start layout ≤ length image → first_bad layout b n image ≡ None → Sound layout (all_recorded b n image)
all_sound layout b zero image long good = record { within = tt; home = tt }
all_sound layout b (suc n) image long good =
    let parts = first_good layout b n image good in
    sound_append layout (recorded b image) (all_recorded (record_end b image) n image) (recorded_sound layout b image long parts.0) (all_sound layout (record_end b image) n image long parts.1)

-- a record whose blocks are the same is spelled the same
pub spelled_same : (layout : Layout) (b : ℕ) (es : List HomeBlock) (from image : List ℕ) → ((j : ℕ) → b ≤ j → j < record_end b from → block j image ≡ block j from) → Spelled layout b es from → Spelled layout b es image
spelled_same layout b es from image same spelled =
    let here = header-same b from image same in
    record {
      form = form-same layout b from image here ∙ spelled.form;
      holds = recorded-same b from image same ∙ spelled.holds;
      ends = here.ends ∙ spelled.ends;
    }
