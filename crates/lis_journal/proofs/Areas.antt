-- The blocks of a record, as they are written and read.
use Rattle.std.proofs.Common.{◌≡◌, inl, inr, ℕ, ◌+◌, ◌-◌, ◌*◌, ◌<◌, ◌≤◌, ◌==◌, nat_le, List, [], ◌∷◌, length, take, drop, IsTrue, refl, sym, ◌∙◌, ap, subst, arith, length-drop}
use Rattle.std.proofs.lemmas.Bool.{cond-false, ne_eqb, and_from, le-leb}
use Rattle.std.proofs.lemmas.List.{take-take, drop-drop, take_all, length-map}
use Rattle.lis_ports.specs.Bytes.{part, put, Torn}
use Rattle.lis_ports.proofs.Parts.{part-put, length-put, torn-put}
use Rattle.lis_journal.specs.declared.layout.Layout.{Layout}
use Rattle.lis_journal.specs.Record.{homes_start, header_blocks, record_len, count_at, header_at, block, HomeBlock, homes, homes_of, count_of, is_header, record_end, is_record, recorded, entries_from, apply}
use Rattle.lis_journal.specs.Images.{look}
use Rattle.lis_journal.specs.Spreads.{IsClear, Touched}
use Rattle.lis_journal.specs.Phases.{Spelled, renumbered}
use Rattle.lis_journal.proofs.Entries.{Within, block-apply, touched_apply}
use Rattle.lis_journal.proofs.Headers.{length-words, count-part}
use Rattle.lis_journal.proofs.Spreading.{torn_trans}

-- a range within another
pub torn_within : (at n from m : ℕ) → from ≤ at → at + n ≤ from + m → (old new : List ℕ) → Torn at n old new → Torn from m old new
torn_within at n from m low high old new torn =
    let rest : at + n + (from + m - (at + n)) ≡ from + m = omega (arith, high) in
    record {
      len = torn.len;
      before = sym (take-take from at new low) ∙ (ap (take from) torn.before ∙ take-take from at old low);
      after = ap (λ k. drop k new) (sym rest)
          ∙ (sym (drop-drop (from + m - (at + n)) (at + n) new)
          ∙ (ap (drop (from + m - (at + n))) torn.after
          ∙ (drop-drop (from + m - (at + n)) (at + n) old ∙ ap (λ k. drop k old) rest)));
    }

clear_before : (m at n : ℕ) (es : List HomeBlock) → at + n ≤ 4096 * m → IsClear (renumbered m es) at n
clear_before m at n [] le = tt
clear_before m at n (e ∷ es) le = (inl (omega (arith, le)), clear_before (m + 1) at n es (omega (arith, le)))

clear_after : (m at n : ℕ) (es : List HomeBlock) → 4096 * (m + length es) ≤ at → IsClear (renumbered m es) at n
clear_after m at n [] le = tt
clear_after m at n (e ∷ es) le =
    let here : 4096 * m + 4096 ≤ at = omega (arith, le) in
    let more : 4096 * (m + 1 + length es) ≤ at = omega (arith, le) in
    (inr here, clear_after (m + 1) at n es more)

-- the blocks of a record, and its header's before them
touched_area : (m : ℕ) (es : List HomeBlock) (from image : List ℕ) → Touched (renumbered m es) from image → Torn (4096 * m) (4096 * length es) from image
touched_area m es from image touched =
    let end : 4096 * (m + length es) ≡ 4096 * m + 4096 * length es = omega arith in
    let rest = touched.clear (4096 * m + 4096 * length es) (length from) (clear_after m (4096 * m + 4096 * length es) (length from) es (omega arith)) in
    record {
      len = touched.len;
      before = touched.clear 0 (4096 * m) (clear_before m 0 (4096 * m) es (omega arith));
      after = sym (take_all (length from) (drop (4096 * m + 4096 * length es) image) (omega (arith, length-drop (4096 * m + 4096 * length es) image, touched.len)))
          ∙ (rest ∙ take_all (length from) (drop (4096 * m + 4096 * length es) from) (omega (arith, length-drop (4096 * m + 4096 * length es) from)));
    }

pub touched_record : (b : ℕ) (es : List HomeBlock) (from image : List ℕ) → Touched (renumbered (b + header_blocks (length es)) es) from image → Torn (4096 * b) (4096 * record_len (length es)) from image
touched_record b es from image touched =
    torn_within (4096 * (b + header_blocks (length es))) (4096 * length es) (4096 * b) (4096 * record_len (length es)) (omega arith) (omega arith) from image (touched_area (b + header_blocks (length es)) es from image touched)

pub header_torn : (b : ℕ) (es : List HomeBlock) (n : ℕ) → n ≡ 4096 * header_blocks (length es) → (from image : List ℕ) → Torn (4096 * b) n from image → Torn (4096 * b) (4096 * record_len (length es)) from image
header_torn b es n is from image torn =
    torn_within (4096 * b) n (4096 * b) (4096 * record_len (length es)) (omega arith) (omega (arith, is)) from image torn

-- a record that is written is torn, and nothing else is
pub torn_record : (top b : ℕ) (es : List HomeBlock) (old head : List ℕ) → b + record_len (length es) ≤ top → Within top (renumbered (b + header_blocks (length es)) es) → length head ≡ 4096 * header_blocks (length es) → 4096 * top ≤ length old → Torn (4096 * b) (4096 * record_len (length es)) old (apply (renumbered (b + header_blocks (length es)) es) (put old (4096 * b) head))
torn_record top b es old head room within len long =
    let fits : 4096 * b + length head ≤ length old = omega (arith, room, len, long) in
    let front = header_torn b es (length head) len old (put old (4096 * b) head) (torn-put old (4096 * b) head fits) in
    let longer : 4096 * top ≤ length (put old (4096 * b) head) = omega (arith, long, length-put old (4096 * b) head fits) in
    torn_trans (4096 * b) (4096 * record_len (length es)) old (put old (4096 * b) head) _ front
    (touched_record b es (put old (4096 * b) head) _ (touched_apply top (renumbered (b + header_blocks (length es)) es) (put old (4096 * b) head) within longer))

pub within_record : (top blocks m : ℕ) (es : List HomeBlock) → m + length es ≤ top → Within blocks es → Within top (renumbered m es)
within_record top blocks m [] le within = tt
within_record top blocks m (e ∷ es) le within =
    let here : m < top = omega (arith, le) in
    let more : m + 1 + length es ≤ top = omega (arith, le) in
    (here, within.1, within_record top blocks (m + 1) es more within.2)

look-below : (m n : ℕ) (es : List HomeBlock) (old : List ℕ) → n < m → look (renumbered m es) n old ≡ old
look-below m n [] old lt = refl
look-below m n (e ∷ es) old lt =
    let ne : n ≡ m → ⊥ = λ same. absurd (omega (arith, same, lt)) in
    ap (look (renumbered (m + 1) es) n) (cond-false (n == m) e.bytes old (ne_eqb n m ne)) ∙ look-below (m + 1) n es old (omega (arith, lt))

-- the contents that were written after the header are those of the entries
entries-written : (top k : ℕ) (es : List HomeBlock) (x : List ℕ) → k + length es ≤ top → Within top (renumbered k es) → 4096 * top ≤ length x → entries_from k (homes es) (apply (renumbered k es) x) ≡ es
entries-written top k [] x le within long = refl
entries-written top k (e ∷ es) x le within long =
    let here : k < top = omega (arith, le) in
    let more : k + 1 + length es ≤ top = omega (arith, le) in
    let y = put x (4096 * k) e.bytes in
    let fits : 4096 * k + length e.bytes ≤ length x = omega (arith, here, within.1, long) in
    let longer : 4096 * top ≤ length y = omega (arith, long, length-put x (4096 * k) e.bytes fits) in
    let all = apply (renumbered (k + 1) es) y in
    let first : block k all ≡ e.bytes =
    block-apply top (renumbered (k + 1) es) y k within.2 longer
    ∙ (look-below (k + 1) k es (block k y) (omega arith)
    ∙ (ap (λ m. part (4096 * k) m y) (sym within.1) ∙ part-put x (4096 * k) e.bytes fits)) in
    ap (λ bytes. record { home = e.home; bytes = bytes } ∷ entries_from (k + 1) (homes es) all) first
    ∙ ap (λ es. e ∷ es) (entries-written top (k + 1) es y more within.2 longer)

-- What was written is a well-formed record, of these entries.
pub spelled_written : (layout : Layout) (b : ℕ) (es : List HomeBlock) (old head : List ℕ) → b + record_len (length es) ≤ homes_start layout → Within (homes_start layout) (renumbered (b + header_blocks (length es)) es) → length head ≡ 4096 * header_blocks (length es) → 4096 * homes_start layout ≤ length old → IsTrue (is_header layout head) → homes_of head ≡ homes es → Spelled layout b es (apply (renumbered (b + header_blocks (length es)) es) (put old (4096 * b) head))
unfolding record_end is_record recorded
spelled_written layout b es old head room within len long form homes_are =
    let start = homes_start layout in
    let n = header_blocks (length es) in
    let written = put old (4096 * b) head in
    let fits : 4096 * b + length head ≤ length old = omega (arith, room, len, long) in
    let longer : 4096 * homes_start layout ≤ length (put old (4096 * b) head) = omega (arith, long, length-put old (4096 * b) head fits) in
    let all = apply (renumbered (b + header_blocks (length es)) es) (put old (4096 * b) head) in
    let touched = touched_apply start (renumbered (b + n) es) written within longer in
    let top : part (4096 * b) (4096 * header_blocks (length es)) all ≡ head =
    touched.clear (4096 * b) (4096 * n) (clear_before (b + n) (4096 * b) (4096 * n) es (omega arith))
    ∙ (ap (λ m. part (4096 * b) m written) (sym len) ∙ part-put old (4096 * b) head fits) in
    let length_is : count_of head ≡ length es =
    sym (length-words 1 (count_of head) head) ∙ (ap length homes_are ∙ length-map es (λ (e : HomeBlock). e.home)) in
    let count : count_at b all ≡ length es =
    sym (count-part b (4096 * header_blocks (length es)) all (omega arith)) ∙ (ap count_of top ∙ length_is) in
    let header : header_at b all ≡ head = ap (λ c. part (4096 * b) (4096 * header_blocks c) all) count ∙ top in
    let ends : b + record_len (count_at b all) ≡ b + record_len (length es) = ap (λ c. b + record_len c) count in
    let fit : IsTrue (nat_le (b + record_len (count_at b all)) (homes_start layout)) = le-leb (b + record_len (count_at b all)) (homes_start layout) (omega (arith, ends, room)) in
    record {
      form = and_from (is_header layout (header_at b all)) (nat_le (b + record_len (count_at b all)) (homes_start layout)) (subst (λ header. IsTrue (is_header layout header)) (sym header) form) fit;
      holds = ap (λ c. entries_from (b + header_blocks c) (homes_of (header_at b all)) all) count
          ∙ (ap (λ header. entries_from (b + header_blocks (length es)) (homes_of header) all) header
          ∙ (ap (λ hs. entries_from (b + header_blocks (length es)) hs all) homes_are
          ∙ entries-written start (b + header_blocks (length es)) es written (omega (arith, room)) within longer));
      ends = ends;
    }
