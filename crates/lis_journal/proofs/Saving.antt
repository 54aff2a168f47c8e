-- The phases over a disk: what each image represents at each moment, and what each phase leads to.
use Rattle.std.proofs.Common.{◌≡◌, inl, inr, ℕ, ◌+◌, ◌*◌, ◌<◌, ◌≤◌, List, [], ◌∷◌, length, replicate, true, IsTrue, ◌∙◌, ap, subst, arith, OnOk, Result, Ok, Err}
use Rattle.lis_ports.specs.Meaning.{Meaning}
use Rattle.lis_ports.specs.Bytes.{put, Torn}
use Rattle.lis_ports.specs.Runs.{Leaves, Always, IsSettled}
use Rattle.lis_ports.proofs.Always.{always_settled}
use Rattle.lis_ports.proofs.Moments.{leaves_weaken}
use Rattle.lis_ports.proofs.Parts.{part-torn}
use Rattle.lis_journal.specs.declared.layout.Layout.{Layout}
use Rattle.lis_journal.specs.Record.{homes_start, header_blocks, record_len, gates_closed, HomeBlock, homes, homes_of, is_header, apply}
use Rattle.lis_journal.specs.Journal.{records_of, no_records}
use Rattle.lis_journal.specs.Images.{StandsFor, StandsBut, StandsForAllOrNone, IsAtRest, FitsAt}
use Rattle.lis_journal.specs.Staging.{Staging, IsStaging}
use Rattle.lis_journal.specs.Spreads.{Spreads, IsClear, Touched, SamePast, SameAround}
use Rattle.lis_journal.specs.Phases.{Unsure, Homed, Shut, IsOpened, Absorbs, looked, renumbered}
use Rattle.lis_journal.proofs.Entries.{Within, AtHome, homes_clear, touched_apply}
use Rattle.lis_journal.proofs.Areas.{torn_record, within_record, spelled_written}
use Rattle.lis_journal.proofs.Spreading.{leaves_spread, spreads_weaken, spreads_then}
use Rattle.lis_journal.proofs.Writing.{within_from, home_from}
use Rattle.lis_journal.proofs.Phases.{full, torn_behind, rest_stands, opened_stands, touched_opened, homes_written, stands_for_but, closing_stands, gate_shut, torn_others, shut_stands, others_shut, torn_gate, unsure_stands, gate_opened, record_unsure}

pub on_ok : {T E P Q : Type 0} (r : Result T E) → (P → Q) → OnOk r P → OnOk r Q
on_ok (Ok x) step p = step p
on_ok (Err e) step p = p

pub on_both : {T E P Q R : Type 0} (r : Result T E) → (P → Q → R) → OnOk r P → OnOk r Q → OnOk r R
on_both (Ok x) step p q = step p q
on_both (Err e) step p q = p

-- what is known of the staged blocks
pub record Plan (layout : Layout) (es : List HomeBlock) : Type 0 where
  pub enough : homes_start layout < layout.blocks
  pub within : Within layout.blocks es
  pub home : AtHome (homes_start layout) es

pub plan_of : (s : Staging) → homes_start s.layout < s.layout.blocks → IsStaging s → Plan s.layout s.entries
plan_of s enough staging = record {
  enough = enough;
  within = within_from s.layout.blocks (s.layout.records + 1) s.entries staging.rise staging.whole;
  home = home_from s.layout.blocks (homes_start s.layout) (s.layout.records + 1) s.entries (omega arith) staging.rise;
}

-- ---- one more record
pub record_moments : {layout : Layout} {count next : ℕ} {latest : List HomeBlock} {placed : List ℕ} {kept : ℕ → List ℕ} {a b : Meaning} (es : List HomeBlock) → next + record_len (length es) ≤ homes_start layout → FitsAt layout (records_of count next latest) placed a kept → Spreads a b (Torn (4096 * next) (4096 * record_len (length es))) → Leaves a b (StandsForAllOrNone layout placed kept es)
record_moments {layout} {count} {next} {latest} {placed} {kept} es room fits spreads =
    leaves_weaken _ spreads.moments (λ image is.
    inl (rest_stands layout (records_of count next latest) placed kept image
    (torn_behind layout (records_of count next latest) placed kept (4096 * record_len (length es)) is.0 image (omega (arith, room)) (fits.leaves is.0 is.1) is.2)))

pub record_written : {layout : Layout} {count next : ℕ} {latest : List HomeBlock} {placed : List ℕ} {kept : ℕ → List ℕ} {a b : Meaning} (es : List HomeBlock) (head : List ℕ) → Plan layout es → count < 64 → next + record_len (length es) ≤ homes_start layout → length head ≡ 4096 * header_blocks (length es) → IsTrue (is_header layout head) → homes_of head ≡ homes es → FitsAt layout (records_of count next latest) placed a kept → IsSettled b (apply (renumbered (next + header_blocks (length es)) es) (put a.bytes (4096 * next) head)) → Always b (Unsure layout (records_of count next latest) kept es)
record_written {layout} {count} {next} {latest} {placed} {kept} {a} {b} es head plan few room len form homes_are fits settled =
    let records = records_of count next latest in
    let long = full fits.reads.holds in
    let within = within_record (homes_start layout) layout.blocks (next + header_blocks (length es)) es (omega (arith, room)) plan.within in
    let bytes = apply (renumbered (next + header_blocks (length es)) es) (put a.bytes (4096 * next) head) in
    always_settled (Unsure layout records kept es) bytes settled
    (record_unsure layout records kept es bytes few
    (torn_behind layout records [] kept (4096 * record_len (length es)) a.bytes bytes (omega (arith, room)) fits.reads (torn_record (homes_start layout) next es a.bytes head room within len long))
    (spelled_written layout next es a.bytes head room within len long form homes_are))

pub opening_moments : {layout : Layout} {count next : ℕ} {latest : List HomeBlock} {kept : ℕ → List ℕ} {a b : Meaning} (es : List HomeBlock) (placed : List ℕ) → Always a (Unsure layout (records_of count next latest) kept es) → Spreads a b (Torn (4096 + count) 1) → Leaves a b (StandsForAllOrNone layout placed kept es)
opening_moments {layout} {count} {next} {latest} {kept} es placed all spreads =
    leaves_spread (Torn (4096 + count) 1) (StandsForAllOrNone layout placed kept es) all spreads
    (λ from image u t. unsure_stands layout (records_of count next latest) placed kept es image (torn_gate layout (records_of count next latest) kept es from image u t))

pub appended : {layout : Layout} {count next : ℕ} {latest : List HomeBlock} {kept : ℕ → List ℕ} {a b : Meaning} (es later : List HomeBlock) → IsTrue b.is_honest → Absorbs latest es later → Always a (Unsure layout (records_of count next latest) kept es) → IsSettled b (put a.bytes (4096 + count) (1 ∷ [])) → FitsAt layout (records_of (count + 1) (next + record_len (length es)) later) [] b (looked es kept)
appended {layout} {count} {next} {latest} {kept} {a} {b} es later honest absorbs all settled =
    let rest = always_settled (IsAtRest layout (records_of (count + 1) (next + record_len (length es)) later) [] (looked es kept)) (put a.bytes (4096 + count) (1 ∷ [])) settled (gate_opened layout (records_of count next latest) kept es later a.bytes absorbs all.reads) in
    record { honest = honest; reads = rest.reads; leaves = rest.leaves }

-- ---- a checkpoint
module _ {layout : Layout} {count next : ℕ} {es : List HomeBlock} (plan : Plan layout es) {placed : List ℕ} {kept : ℕ → List ℕ} {a : Meaning} (opened : IsOpened layout (records_of count next es) placed a kept) where
  pub homes_moments : {b : Meaning} → Spreads a b (Touched es) → Leaves a b (StandsBut layout placed kept)
  homes_moments spreads = leaves_weaken _ spreads.moments (λ image is.
      opened_stands layout (records_of count next es) placed kept image
      (touched_opened layout (records_of count next es) placed kept is.0 image plan.home (opened.leaves is.0 is.1) is.2))

  pub homes_homed : {b : Meaning} → IsSettled b (apply es a.bytes) → Always b (Homed layout (records_of count next es) kept)
  homes_homed settled =
      let long = opened.reads.holds.long in
      let now = touched_opened layout (records_of count next es) [] kept a.bytes (apply es a.bytes) plan.home opened.reads (touched_apply layout.blocks es a.bytes plan.within long) in
      always_settled (Homed layout (records_of count next es) kept) (apply es a.bytes) settled (homes_written layout (records_of count next es) kept a.bytes plan.within opened.reads now)

  pub closing_moments : {b c : Meaning} → Always b (Homed layout (records_of count next es) kept) → Spreads b c (Torn 4096 1) → Leaves b c (StandsBut layout placed kept)
  closing_moments all spreads = leaves_spread (Torn 4096 1) (StandsBut layout placed kept) all spreads
      (λ from image h t. stands_for_but layout placed kept image (closing_stands layout (records_of count next es) kept from image opened.some h t))

  pub first_shut : {b c : Meaning} → Always b (Homed layout (records_of count next es) kept) → IsSettled c (put b.bytes 4096 (0 ∷ [])) → Always c (Shut layout kept)
  first_shut {b} all settled = always_settled (Shut layout kept) (put b.bytes 4096 (0 ∷ [])) settled (gate_shut layout (records_of count next es) kept b.bytes all.reads)

pub others_stand : {layout : Layout} {kept : ℕ → List ℕ} {a b : Meaning} → Always a (Shut layout kept) → Spreads a b (Torn 4097 63) → Leaves a b (StandsFor layout kept)
others_stand {layout} {kept} all spreads = leaves_spread (Torn 4097 63) (StandsFor layout kept) all spreads
    (λ from image s t. shut_stands layout kept image (torn_others layout kept from image s t))

pub others_fit : {layout : Layout} {kept : ℕ → List ℕ} {a b : Meaning} → IsTrue b.is_honest → Always a (Shut layout kept) → IsSettled b (put a.bytes 4097 (replicate 63 0)) → FitsAt layout no_records [] b kept
others_fit {layout} {kept} {a} {b} honest all settled =
    let rest = always_settled (IsAtRest layout no_records [] kept) (put a.bytes 4097 (replicate 63 0)) settled (others_shut layout kept a.bytes all.reads) in
    record { honest = honest; reads = rest.reads; leaves = rest.leaves }

pub others_moments : {layout : Layout} {kept : ℕ → List ℕ} {a b : Meaning} (placed : List ℕ) → Always a (Shut layout kept) → Spreads a b (Torn 4097 63) → Leaves a b (StandsBut layout placed kept)
others_moments {layout} {kept} placed all spreads =
    leaves_weaken (StandsBut layout placed kept) (others_stand all spreads) (λ image s. stands_for_but layout placed kept image s)

-- gate 0 and then the others
pub all_closed_settled : {c : Meaning} (bytes homes gate : List ℕ) → homes ≡ bytes → gate ≡ put homes 4096 (0 ∷ []) → IsSettled c (put gate 4097 (replicate 63 0)) → IsSettled c (gates_closed true bytes)
unfolding gates_closed
all_closed_settled {c} bytes homes gate homes_are gate_is settled =
    subst (λ image. IsSettled c (put image 4097 (replicate 63 0))) (gate_is ∙ ap (λ image. put image 4096 (0 ∷ [])) homes_are) settled

-- ---- what stays
past_trans : (blocks : ℕ) (x y z : List ℕ) → SamePast blocks x y → SamePast blocks y z → SamePast blocks x z
past_trans blocks x y z xy yz n le = yz n le ∙ xy n le

around_trans : (layout : Layout) (x y z : List ℕ) → SameAround layout x y → SameAround layout y z → SameAround layout x z
around_trans layout x y z xy yz = record { past = past_trans layout.blocks x y z xy.past yz.past; rest = yz.rest ∙ xy.rest }

past_torn : (layout : Layout) (at n : ℕ) → homes_start layout < layout.blocks → at + n ≤ 4096 * homes_start layout → (from image : List ℕ) → Torn at n from image → SamePast layout.blocks from image
past_torn layout at n enough high from image torn = λ k le. part-torn at n from image torn (4096 * k) 4096 (inr (omega (arith, enough, high, le)))

around_torn : (layout : Layout) (at n : ℕ) → homes_start layout < layout.blocks → at + n ≤ 4160 → (from image : List ℕ) → Torn at n from image → SameAround layout from image
around_torn layout at n enough high from image torn = record {
  past = past_torn layout at n enough (omega (arith, high)) from image torn;
  rest = part-torn at n from image torn 4160 (4096 * layout.records + 4032) (inr high);
}

clear_past : (blocks : ℕ) (es : List HomeBlock) (n : ℕ) → Within blocks es → blocks ≤ n → IsClear es (4096 * n) 4096
clear_past blocks [] n within le = tt
clear_past blocks (e ∷ es) n within le = (inr (omega (arith, within.0, le)), clear_past blocks es n within.2 le)

around_touched : (layout : Layout) (es : List HomeBlock) → Plan layout es → (from image : List ℕ) → Touched es from image → SameAround layout from image
around_touched layout es plan from image touched = record {
  past = λ n le. touched.clear (4096 * n) 4096 (clear_past layout.blocks es n plan.within le);
  rest = touched.clear 4160 (4096 * layout.records + 4032) (homes_clear (homes_start layout) es 4160 (4096 * layout.records + 4032) (omega arith) plan.home);
}

pub homes_around : {a b : Meaning} {layout : Layout} {es : List HomeBlock} → Plan layout es → Spreads a b (Touched es) → Spreads a b (SameAround layout)
homes_around {layout = layout} {es = es} plan spreads = spreads_weaken _ spreads (around_touched layout es plan)

pub gate_around : {a b c : Meaning} (layout : Layout) → homes_start layout < layout.blocks → (at n : ℕ) → at + n ≤ 4160 → Spreads a b (SameAround layout) → Spreads b c (Torn at n) → Spreads a c (SameAround layout)
gate_around layout enough at n high before spreads =
    spreads_then _ (around_trans layout) before (spreads_weaken _ spreads (around_torn layout at n enough high))

pub gates_around : {a b : Meaning} (layout : Layout) → homes_start layout < layout.blocks → (at n : ℕ) → at + n ≤ 4160 → Spreads a b (Torn at n) → Spreads a b (SameAround layout)
gates_around layout enough at n high spreads = spreads_weaken _ spreads (around_torn layout at n enough high)

pub around_past : {a b : Meaning} {layout : Layout} → Spreads a b (SameAround layout) → Spreads a b (SamePast layout.blocks)
around_past spreads = spreads_weaken _ spreads (λ from image same. same.past)

pub torn_past : {a b : Meaning} (layout : Layout) (at n : ℕ) → homes_start layout < layout.blocks → at + n ≤ 4096 * homes_start layout → Spreads a b (Torn at n) → Spreads a b (SamePast layout.blocks)
torn_past layout at n enough high spreads = spreads_weaken _ spreads (past_torn layout at n enough high)

pub then_past : {a b c : Meaning} {blocks : ℕ} → Spreads a b (SamePast blocks) → Spreads b c (SamePast blocks) → Spreads a c (SamePast blocks)
then_past {blocks = blocks} one two = spreads_then _ (past_trans blocks) one two
