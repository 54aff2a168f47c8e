-- Reading records into memory.
use Rattle.std.proofs.Common.{◌≡◌, ℕ, zero, suc, ◌+◌, ◌-◌, ◌*◌, ◌<◌, ◌≤◌, ◌==◌, Bool, true, false, cond, ◌&&◌, nat_le, List, [], ◌∷◌, ◌++◌, length, Some, None, IsTrue, refl, sym, ◌∙◌, ap, subst, arith}
use Rattle.lis_ports.specs.Meaning.{Meaning}
use Rattle.lis_ports.specs.Bytes.{part}
use Rattle.lis_ports.specs.Runs.{IsDiskRun}
use Rattle.lis_ports.specs.Calls.{DiskFaultEnds, Elapses, IsUnchanged}
use Rattle.lis_ports.proofs.Ending.{ends_then}
use Rattle.lis_ports.proofs.Moments.{run_then, leaves_call, leaves_then, leaves_weaken}
use Rattle.lis_journal.specs.declared.layout.Layout.{Layout}
use Rattle.lis_journal.specs.Record.{homes_start, header_blocks, record_len, count_at, header_at, block, word, words, count_of, homes_of, rises, is_header, record_end, is_record, entries_from, recorded, first_bad, all_recorded, behind}
use Rattle.lis_journal.specs.Images.{look}
use Rattle.lis_journal.specs.Staging.{Staging}
use Rattle.lis_journal.specs.Spreads.{IsQuiet}
use Rattle.lis_journal.specs.Phases.{Absorbs}
use Rattle.lis_journal.proofs.Headers.{words-snoc, IsForm, length-words}
use Rattle.lis_journal.proofs.Places.{rise_parts}
use Rattle.lis_journal.proofs.Series.{behind-more, entries-more, form-more, form-bad}
use Rattle.lis_journal.proofs.Absorbing.{absorbs_put, absorbs_then}

-- ---- reads in sequence
pub quiet_call : {a b : Meaning} → IsDiskRun a b → Elapses a b → IsUnchanged a b → IsQuiet a b
quiet_call {a} run time same = record {
  bytes = same.bytes;
  images = same.images.only;
  moments = leaves_call a.images run time same.images.only;
}

pub quiet_then : {a b c : Meaning} → IsQuiet a b → IsQuiet b c → IsQuiet a c
quiet_then {a} one two = record {
  bytes = two.bytes ∙ one.bytes;
  images = λ image is. one.images image (two.images image is);
  moments = leaves_then one.moments (leaves_weaken a.images two.moments one.images);
}

-- ---- the homes of a header, one by one
words-split : (m a b : ℕ) (h : List ℕ) → words m (a + suc b) h ≡ words m a h ++ word (m + a) h ∷ words (m + a + 1) b h
words-split m zero b h =
    let none : 0 + suc b ≡ suc b = omega arith in
    let same : m ≡ m + 0 = omega arith in
    ap (λ n. words m n h) none ∙ ap (λ j. word j h ∷ words (j + 1) b h) same
words-split m (suc a) b h =
    let more : suc a + suc b ≡ suc (a + suc b) = omega arith in
    let same : m + 1 + a ≡ m + suc a = omega arith in
    ap (λ n. words m n h) more
    ∙ ap (λ ws. word m h ∷ ws) (words-split (m + 1) a b h ∙ ap (λ j. words (m + 1) a h ++ word j h ∷ words (j + 1) b h) same)

last_rises : (blocks last home : ℕ) (hs rest : List ℕ) → IsTrue (rises blocks last (hs ++ home ∷ rest)) → (last < home) × (home < blocks)
last_rises blocks last home [] rest rise = let parts = rise_parts blocks last home rest rise in (parts.0, parts.1)
last_rises blocks last home (h ∷ hs) rest rise =
    let parts = rise_parts blocks last h (hs ++ home ∷ rest) rise in
    let more = last_rises blocks h home hs rest parts.2 in
    (omega (arith, parts.0, more.0), more.1)

-- each home of a well-formed header is a home block within the image
pub home_at : (layout : Layout) (k : ℕ) (h : List ℕ) → IsForm layout h → k < count_of h → (layout.records + 1 < word (k + 1) h) × (word (k + 1) h < layout.blocks)
home_at layout k h form lt =
    let split : count_of h ≡ k + suc (count_of h - k - 1) = omega arith in
    let at : 1 + k ≡ k + 1 = omega arith in
    let rest = words (1 + k + 1) (count_of h - k - 1) h in
    last_rises layout.blocks (layout.records + 1) (word (k + 1) h) (words 1 k h) rest
    (subst (λ hs. IsTrue (rises layout.blocks (layout.records + 1) hs))
    (ap (λ n. words 1 n h) split ∙ (words-split 1 k (count_of h - k - 1) h ∙ ap (λ j. words 1 k h ++ word j h ∷ rest) at)) form.rise)

entries-snoc : (m : ℕ) (hs : List ℕ) (home : ℕ) (a : List ℕ) → entries_from m (hs ++ home ∷ []) a ≡ entries_from m hs a ++ record { home = home; bytes = block (m + length hs) a } ∷ []
entries-snoc m [] home a = let same : m ≡ m + 0 = omega arith in ap (λ j. record { home = home; bytes = block j a } ∷ []) same
entries-snoc m (h ∷ hs) home a =
    let same : m + 1 + length hs ≡ m + suc (length hs) = omega arith in
    ap (λ es. record { home = h; bytes = block m a } ∷ es)
    (entries-snoc (m + 1) hs home a ∙ ap (λ j. entries_from (m + 1) hs a ++ record { home = home; bytes = block j a } ∷ []) same)

-- What was loaded of a record, whose contents begin at block m, by the k-th turn of the loop.
pub record Loaded (old now : Meaning) (before after : Staging) (h : List ℕ) (m k : ℕ) : Type 0 where
  pub run : IsDiskRun old now
  pub faults : now.disk_faults ≡ old.disk_faults
  pub first_fault : DiskFaultEnds old now
  pub quiet : IsTrue old.is_honest → IsQuiet old now
  pub layout_is : after.layout ≡ before.layout
  pub capacity_is : after.capacity ≡ before.capacity
  pub few : length after.entries ≤ length before.entries + k
  pub loaded : IsTrue old.is_honest → Absorbs before.entries (entries_from m (words 1 k h) old.bytes) after.entries

pub quiet_on : {old now next : Meaning} → IsDiskRun old now → (IsTrue old.is_honest → IsQuiet old now) → IsDiskRun now next → Elapses now next → (IsTrue now.is_honest → IsUnchanged now next) → IsTrue old.is_honest → IsQuiet old next
quiet_on run quiet run_next time unchanged honest =
    quiet_then (quiet honest) (quiet_call run_next time (unchanged (run.honest ∙ honest)))

pub load_on : {old now next : Meaning} (b k home : ℕ) (before s t : Staging) (h buf : List ℕ) → Loaded old now before s h b k → home ≡ word (k + 1) h → IsDiskRun now next → Elapses now next → next.disk_faults ≡ now.disk_faults → DiskFaultEnds now next → (IsTrue now.is_honest → IsUnchanged now next) → (IsTrue now.is_honest → buf ≡ part (4096 * (b + k)) 4096 now.bytes) → t.layout ≡ s.layout → t.capacity ≡ s.capacity → length t.entries ≤ length s.entries + 1 → ((m : ℕ) (old : List ℕ) → look t.entries m old ≡ cond (m == home) buf (look s.entries m old)) → Loaded old next before t h b (k + 1)
load_on {old} {now} {next} b k home before s t h buf so_far is_home run time faults ends unchanged read layout capacity few looks =
    let next_k : k + 1 ≡ suc k = omega arith in
    let one : 1 + k ≡ k + 1 = omega arith in
    let spelled : words 1 (k + 1) h ≡ words 1 k h ++ home ∷ [] =
    ap (λ n. words 1 n h) next_k ∙ (words-snoc h 1 k ∙ ap (λ w. words 1 k h ++ w ∷ []) (ap (λ j. word j h) one ∙ sym is_home)) in
    record {
      run = run_then so_far.run run;
      faults = faults ∙ so_far.faults;
      first_fault = ends_then so_far.first_fault so_far.faults ends;
      quiet = quiet_on so_far.run so_far.quiet run time unchanged;
      layout_is = layout ∙ so_far.layout_is;
      capacity_is = capacity ∙ so_far.capacity_is;
      few = omega (arith, few, so_far.few);
      loaded = λ honest m was.
          let count : b + length (words 1 k h) ≡ b + k = ap (λ n. b + n) (length-words 1 k h) in
          let content : buf ≡ block (b + length (words 1 k h)) old.bytes =
          read (so_far.run.honest ∙ honest)
          ∙ (ap (λ xs. part (4096 * (b + k)) 4096 xs) (so_far.quiet honest).bytes ∙ ap (λ j. block j old.bytes) (sym count)) in
          absorbs_put before.entries (entries_from b (words 1 k h) old.bytes) s.entries t.entries home buf (so_far.loaded honest) looks m was
          ∙ ap (λ fs. look fs m (look before.entries m was))
          (ap (λ bytes. entries_from b (words 1 k h) old.bytes ++ record { home = home; bytes = bytes } ∷ []) content
          ∙ (sym (entries-snoc b (words 1 k h) home old.bytes) ∙ ap (λ hs. entries_from b hs old.bytes) (sym spelled)));
    }

-- ---- a record by its count and its header
pub head_at : (b at count : ℕ) (bytes head : List ℕ) {n : ℕ} → at ≡ 4096 * b → n ≡ 4096 * header_blocks count → count ≡ count_at b bytes → head ≡ part at n bytes → head ≡ header_at b bytes
head_at b at count bytes head at_is n_is count_is read =
    read ∙ (ap (λ m. part at m bytes) n_is ∙ (ap (λ p. part p (4096 * header_blocks count) bytes) at_is ∙ ap (λ c. part (4096 * b) (4096 * header_blocks c) bytes) count_is))

pub header_read : (layout : Layout) (b : ℕ) (bytes head : List ℕ) → head ≡ header_at b bytes → is_header layout head ≡ false → is_record layout b bytes ≡ false
unfolding is_record
header_read layout b bytes head is bad =
    ap (λ f. f && nat_le (record_end b bytes) (homes_start layout)) (ap (is_header layout) (sym is) ∙ bad)

pub end_read : (b count : ℕ) (bytes : List ℕ) → count ≡ count_at b bytes → record_end b bytes ≡ b + record_len count
unfolding record_end
end_read b count bytes is = ap (λ c. b + record_len c) (sym is)

pub form_read : (layout : Layout) (b count : ℕ) (bytes head : List ℕ) → count ≡ count_at b bytes → head ≡ header_at b bytes → is_header layout head ≡ true → nat_le (b + record_len count) (homes_start layout) ≡ true → is_record layout b bytes ≡ true
unfolding is_record
form_read layout b count bytes head count_is is good le =
    ap (λ f. f && nat_le (record_end b bytes) (homes_start layout)) (ap (is_header layout) (sym is) ∙ good)
    ∙ (ap (λ end. nat_le end (homes_start layout)) (end_read b count bytes count_is) ∙ le)

pub long_read : (layout : Layout) (b count : ℕ) (bytes : List ℕ) → count ≡ count_at b bytes → nat_le (b + record_len count) (homes_start layout) ≡ false → is_record layout b bytes ≡ false
unfolding is_record
long_read layout b count bytes count_is gt =
    ap (λ f. is_header layout (header_at b bytes) && f) (ap (λ end. nat_le end (homes_start layout)) (end_read b count bytes count_is) ∙ gt) ∙ no_and (is_header layout (header_at b bytes))
  where
    no_and : (a : Bool) → (a && false) ≡ false
    no_and true = refl
    no_and false = refl

pub recorded_read : (b count : ℕ) (bytes head : List ℕ) → count ≡ count_at b bytes → head ≡ header_at b bytes → entries_from (b + header_blocks count) (homes_of head) bytes ≡ recorded b bytes
unfolding recorded
recorded_read b count bytes head count_is is =
    ap (λ c. entries_from (b + header_blocks c) (homes_of head) bytes) count_is ∙ ap (λ header. entries_from (b + header_blocks (count_at b bytes)) (homes_of header) bytes) is

-- ---- records in sequence
-- The first k records are well formed, and their latest contents are in memory.
pub record Through (old now : Meaning) (before after : Staging) (first k : ℕ) : Type 0 where
  pub run : IsDiskRun old now
  pub faults : now.disk_faults ≡ old.disk_faults
  pub first_fault : DiskFaultEnds old now
  pub quiet : IsTrue old.is_honest → IsQuiet old now
  pub layout_is : after.layout ≡ before.layout
  pub capacity_is : after.capacity ≡ before.capacity
  pub room : length after.entries + 2 ≤ first
  pub within : first ≤ homes_start before.layout
  pub form : IsTrue old.is_honest → first_bad before.layout 2 k old.bytes ≡ None
  pub ends : IsTrue old.is_honest → first ≡ behind 2 k old.bytes
  pub latest : IsTrue old.is_honest → Absorbs [] (all_recorded 2 k old.bytes) after.entries

pub through_on : {old now next : Meaning} (before s t : Staging) (first last k : ℕ) → Through old now before s first k → IsDiskRun now next → next.disk_faults ≡ now.disk_faults → DiskFaultEnds now next → (IsTrue now.is_honest → IsQuiet now next) → t.layout ≡ s.layout → t.capacity ≡ s.capacity → length t.entries + 2 ≤ last → last ≤ homes_start before.layout → (IsTrue now.is_honest → (is_record s.layout first now.bytes ≡ true) × (last ≡ record_end first now.bytes) × Absorbs s.entries (recorded first now.bytes) t.entries) → Through old next before t last (k + 1)
through_on {old} {now} {next} before s t first last k so_far run faults ends quiet layout capacity room within read =
    let one : suc k ≡ k + 1 = omega arith in
    record {
      run = run_then so_far.run run;
      faults = faults ∙ so_far.faults;
      first_fault = ends_then so_far.first_fault so_far.faults ends;
      quiet = λ honest. quiet_then (so_far.quiet honest) (quiet (so_far.run.honest ∙ honest));
      layout_is = layout ∙ so_far.layout_is;
      capacity_is = capacity ∙ so_far.capacity_is;
      room = room;
      within = within;
      form = λ honest.
          let found = read (so_far.run.honest ∙ honest) in
          let there = so_far.ends honest in
          ap (λ n. first_bad before.layout 2 n old.bytes) (sym one)
          ∙ form-more before.layout 2 k old.bytes (so_far.form honest)
          (ap (λ b. is_record before.layout b old.bytes) (sym there)
          ∙ (ap (λ bytes. is_record before.layout first bytes) (sym (so_far.quiet honest).bytes)
          ∙ (ap (λ (n : Layout). is_record n first now.bytes) (sym so_far.layout_is) ∙ found.0)));
      ends = λ honest.
          let found = read (so_far.run.honest ∙ honest) in
          found.1
          ∙ (ap (record_end first) (so_far.quiet honest).bytes
          ∙ (ap (λ b. record_end b old.bytes) (so_far.ends honest)
          ∙ (sym (behind-more 2 k old.bytes) ∙ ap (λ n. behind 2 n old.bytes) one)));
      latest = λ honest n was.
          let found = read (so_far.run.honest ∙ honest) in
          absorbs_then [] (all_recorded 2 k old.bytes) s.entries (recorded first now.bytes) t.entries (so_far.latest honest) found.2 n was
          ∙ ap (λ es. look es n was)
          (ap (λ bytes. all_recorded 2 k old.bytes ++ recorded first bytes) (so_far.quiet honest).bytes
          ∙ (ap (λ b. all_recorded 2 k old.bytes ++ recorded b old.bytes) (so_far.ends honest)
          ∙ (sym (entries-more 2 k old.bytes) ∙ ap (λ m. all_recorded 2 m old.bytes) one)));
    }

pub through_bad : {old now : Meaning} (before s : Staging) (first k count : ℕ) → Through old now before s first k → k < count → IsTrue old.is_honest → (IsTrue now.is_honest → is_record s.layout first now.bytes ≡ false) → Some first ≡ first_bad before.layout 2 count old.bytes
through_bad {old} {now} before s first k count so_far lt honest bad =
    let there = so_far.ends honest in
    let form : is_record before.layout (behind 2 k old.bytes) old.bytes ≡ false =
    ap (λ b. is_record before.layout b old.bytes) (sym there)
    ∙ (ap (λ bytes. is_record before.layout first bytes) (sym (so_far.quiet honest).bytes)
    ∙ (ap (λ (n : Layout). is_record n first now.bytes) (sym so_far.layout_is) ∙ bad (so_far.run.honest ∙ honest))) in
    ap Some there ∙ sym (form-bad before.layout 2 k count old.bytes lt (so_far.form honest) form)
