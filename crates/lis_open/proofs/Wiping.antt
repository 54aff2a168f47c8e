-- All of an empty image except its first byte, and the image with it.
use Rattle.std.proofs.Common.{slice_index, OnErr, take-take, take-add}
use Rattle.lis_open.proofs.Common.{rules, ◌≡◌, ℕ, ◌+◌, ◌-◌, ◌≤◌, List, take, drop, sym, ◌∙◌, ap, arith, ◌*◌, ◌<◌, length, replicate, IsTrue, refl, ◌⊎◌, [], ◌∷◌, inl, inr, ◌==◌, ◌++◌, ap₂, subst, length-drop, OnOk, Result, Ok, Err, drop-drop, ⊎_elim, Torn, Meaning, DiskFaultEnds, block, Spreads, cases_eq, part, Always, IsSettled, part-put, Leaves, part-torn, SpellsSuper, Limits, data_start, image_blocks, are_in_range, put, always_settled, leaves_weaken, Stands, ⊎_map}
use Rattle.std.proofs.lemmas.Bool.{eqb-false}
use Rattle.lis_ports.specs.Runs.{IsDiskRun}
use Rattle.lis_ports.specs.Calls.{Elapses, IsTorn, IsWritten}
use Rattle.lis_journal.proofs.Entries.{block-put}
use Rattle.lis_journal.proofs.Spreading.{spreads_torn, spreads_then, torn_trans, leaves_spread, leaves_both, spreads_weaken, always_spread}
use Rattle.lis_fields.specs.Layouts.{version_gate, super_with, super_bytes, zeros}
use Rattle.lis_fields.proofs.Widths.{length_zeros}
use Rattle.lis_open.specs.Makes.{AreZeros, first_byte, IsNameless, IsSpared, rest_of_super, IsWiped, IsWiping, IsMaking, IsSpare, KeepsSpare, InMaking, IsMade, IsSettledAt}
use Rattle.lis_ports.proofs.Parts.{length-part, part-part, torn-put, length-put}
use Rattle.lis_fields.proofs.Supers.{length_super, super_spells}
use Rattle.lis_model.specs.State.{empty_state}
use Rattle.lis_store.specs.Stored.{empty_stored}
use Rattle.lis_store.proofs.Empty.{zeros-part, empty_sound, tells_empty, written_empty, no_state}
use Rattle.lis_store.proofs.Standing.{change_stands}
use Rattle.lis_open.proofs.Shut.{shut_stands}
use Rattle.lis_kept.specs.Image.{image_layout}
use Rattle.lis_model.specs.Image.{properties_start}

-- a range within another
pub torn_wider : (at n low most : ℕ) (from image : List ℕ) → low ≤ at → at + n ≤ low + most → Torn at n from image → Torn low most from image
torn_wider at n low most from image below above torn =
    let rest : at + n + (low + most - (at + n)) ≡ low + most = omega arith in
    record {
      len = torn.len;
      before = sym (take-take low at image below) ∙ (ap (take low) torn.before ∙ take-take low at from below);
      after = ap (λ k. drop k image) (sym rest)
          ∙ (sym (drop-drop (low + most - (at + n)) (at + n) image)
          ∙ (ap (drop (low + most - (at + n))) torn.after
          ∙ (drop-drop (low + most - (at + n)) (at + n) from ∙ ap (λ k. drop k from) rest)));
    }

-- ---- filling blocks with zeros, one disk call after another
-- the blocks from `first` up to `k` are done
pub record HasCleared (old now : Meaning) (first end k : ℕ) : Type 0 where
  pub run : IsDiskRun old now
  pub faults : now.disk_faults ≡ old.disk_faults
  pub first_fault : DiskFaultEnds old now
  pub spreads : IsTrue old.is_honest → Spreads old now (Torn (4096 * first) (4096 * (end - first)))
  pub torn : IsTrue old.is_honest → Torn (4096 * first) (4096 * (end - first)) old.bytes now.bytes
  pub cleared : IsTrue old.is_honest → AreZeros first k now.bytes

pub zeros_are : (n : ℕ) → replicate n 0 ≡ zeros n
unfolding zeros
zeros_are n = refl

block_within : (first end k at n : ℕ) (from image : List ℕ) → first ≤ k → k < end → at ≡ 4096 * k → n ≡ 4096 → Torn at n from image → Torn (4096 * first) (4096 * (end - first)) from image
block_within first end k at n from image low high is_at is_n torn = torn_wider at n (4096 * first) (4096 * (end - first)) from image (omega arith) (omega arith) torn

pub clearing_spreads : {old now next : Meaning} (first end k at n : ℕ) → first ≤ k → k < end → at ≡ 4096 * k → n ≡ 4096 → HasCleared old now first end k
    → IsDiskRun now next → Elapses now next → (IsTrue now.is_honest → IsTorn at n now next) → IsTrue old.is_honest → Spreads old next (Torn (4096 * first) (4096 * (end - first)))
clearing_spreads first end k at n low high is_at is_n far run time torn honest =
    spreads_then _ (torn_trans (4096 * first) (4096 * (end - first))) (far.spreads honest)
    (spreads_torn _ at n run time (torn (far.run.honest ∙ honest)) (λ from image t. block_within first end k at n from image low high is_at is_n t))

pub clearing_torn : {old now next : Meaning} (first end k at : ℕ) (bytes : List ℕ) → first ≤ k → k < end → at ≡ 4096 * k → bytes ≡ zeros 4096 → HasCleared old now first end k
    → (IsTrue now.is_honest → IsTorn at (length bytes) now next) → IsTrue old.is_honest → Torn (4096 * first) (4096 * (end - first)) old.bytes next.bytes
clearing_torn {old} {now} {next} first end k at bytes low high is_at is_zeros far torn honest =
    torn_trans (4096 * first) (4096 * (end - first)) old.bytes now.bytes next.bytes (far.torn honest)
    (block_within first end k at (length bytes) now.bytes next.bytes low high is_at (ap length is_zeros ∙ length_zeros 4096) (torn (far.run.honest ∙ honest)).bytes)

pub clearing_zeros : {old now next : Meaning} (first end k at : ℕ) (bytes : List ℕ) → first ≤ k → k < end → at ≡ 4096 * k → bytes ≡ zeros 4096 → HasCleared old now first end k
    → (IsTrue old.is_honest → length old.bytes ≡ old.len) → 4096 * end ≤ old.len → (IsTrue now.is_honest → IsWritten at bytes now next) → IsTrue old.is_honest → AreZeros first (k + 1) next.bytes
clearing_zeros {old} {now} {next} first end k at bytes low high is_at is_zeros far has_len long written honest n above below =
    search (rules, length_zeros, block-put, eqb-false)

-- ---- the first byte of an image, and what holds while it is written
one_byte : (xs : List ℕ) (b : ℕ) → length xs ≡ 1 → slice_index xs 0 ≡ b → xs ≡ b ∷ []
one_byte [] b len is = absurd (omega arith)
one_byte (x ∷ []) b len is = ap (λ y. y ∷ []) is
one_byte (x ∷ y ∷ xs) b len is = absurd (omega arith)

pub first_is : (image : List ℕ) (b : ℕ) → 1 ≤ length image → first_byte image ≡ b → part 0 1 image ≡ b ∷ []
first_is image b some is = one_byte (part 0 1 image) b (length-part 0 1 image (omega arith)) is

pub first-put : (image : List ℕ) (b : ℕ) → 1 ≤ length image → first_byte (put image 0 (b ∷ [])) ≡ b
first-put image b some = ap (λ xs. slice_index xs 0) (part-put image 0 (b ∷ []) (omega arith))

pub nameless_zero : (bytes : List ℕ) {m : Meaning} → 1 ≤ length bytes → IsSettled m (put bytes 0 (0 ∷ [])) → Always m IsNameless
nameless_zero bytes some settled =
    always_settled IsNameless (put bytes 0 (0 ∷ [])) settled (λ is. let zero_is : ◌≡◌ {A = ℕ} 0 76 = sym (first-put bytes 0 some) ∙ is in absurd (omega arith))

-- ---- all of an empty image except its first byte, and the image with it
pub rest_is : (limits : Limits) (bytes rest : List ℕ) → bytes ≡ super_bytes limits → rest ≡ drop 1 bytes → rest ≡ rest_of_super limits
unfolding rest_of_super
rest_is limits bytes rest is_super is_rest = is_rest ∙ ap (λ xs. drop 1 xs) is_super

pub length-rest : (limits : Limits) → length (rest_of_super limits) ≡ 4095
unfolding rest_of_super
length-rest limits =
    let whole : length (super_bytes limits) ≡ 4096 = length_super (version_gate limits.version) limits in
    length-drop 1 (super_bytes limits) ∙ ap (λ n. n - 1) whole

-- what the writes of all but the first byte give, one after another
pub wiped : (limits : Limits) (first end : ℕ) (start rest gate homes : List ℕ) → first ≡ properties_start limits → end ≡ data_start limits → 4096 * image_blocks limits ≤ length start
    → rest ≡ put start 1 (rest_of_super limits) → Torn 4096 4096 rest gate → AreZeros 1 2 gate → Torn (4096 * first) (4096 * (end - first)) gate homes → AreZeros first end homes → IsWiped limits homes
wiped limits first end start rest gate homes is_first is_end long is_rest torn_gate zero_gate torn_homes zero_homes =
    let few : 1 + length (rest_of_super limits) ≤ length start = omega (arith, length-rest limits, long) in
    let size : length rest ≡ length start = ap length is_rest ∙ length-put start 1 (rest_of_super limits) few in
    let spelled : part 1 4095 rest ≡ rest_of_super limits =
    ap (part 1 4095) is_rest ∙ (ap (λ n. part 1 n (put start 1 (rest_of_super limits))) (sym (length-rest limits)) ∙ part-put start 1 (rest_of_super limits) few) in
    let zero : part 0 64 (block 1 gate) ≡ zeros 64 = ap (part 0 64) (zero_gate 1 (omega arith) (omega arith)) ∙ zeros-part 0 64 4096 (omega arith) in
    let low : 8192 ≤ 4096 * first = omega (arith, is_first) in
    record {
      rest = part-torn (4096 * first) (4096 * (end - first)) gate homes torn_homes 1 4095 (inl (omega (arith, low)))
          ∙ (part-torn 4096 4096 rest gate torn_gate 1 4095 (inl (omega arith)) ∙ spelled);
      blank = record {
        long = omega (arith, torn_homes.len, torn_gate.len, size, long);
        gates = part-torn (4096 * first) (4096 * (end - first)) gate homes torn_homes 4096 64 (inl (omega (arith, low)))
            ∙ (sym (part-part 0 64 4096 4096 gate (omega arith)) ∙ (zero ∙ sym (zeros_are 64)));
        homes = λ n above below. zero_homes n (omega (arith, above, is_first)) (omega (arith, below, is_end));
      };
      zero = part-torn (4096 * first) (4096 * (end - first)) gate homes torn_homes 4096 4096 (inl (omega (arith, low))) ∙ zero_gate 1 (omega arith) (omega arith);
    }

-- the first byte does not matter
pub wiped_torn : (limits : Limits) (from image : List ℕ) → IsWiped limits from → Torn 0 1 from image → IsWiped limits image
wiped_torn limits from image is torn = record {
  rest = part-torn 0 1 from image torn 1 4095 (inr (omega arith)) ∙ is.rest;
  blank = record {
    long = omega (arith, torn.len, is.blank.long);
    gates = part-torn 0 1 from image torn 4096 64 (inr (omega arith)) ∙ is.blank.gates;
    homes = λ n above below. part-torn 0 1 from image torn (4096 * n) 4096 (inr (omega arith)) ∙ is.blank.homes n above below;
  };
  zero = part-torn 0 1 from image torn 4096 4096 (inr (omega arith)) ∙ is.zero;
}

whole_super : (limits : Limits) → (76 ∷ []) ++ rest_of_super limits ≡ super_bytes limits
unfolding rest_of_super super_with
whole_super limits = refl

pub wiped_super : (limits : Limits) (image : List ℕ) → IsWiped limits image → first_byte image ≡ 76 → block 0 image ≡ super_bytes limits
wiped_super limits image is first =
    let some : 1 ≤ length image = omega (arith, is.blank.long) in
    take-add 1 4095 (drop 0 image) ∙ (ap₂ (λ xs ys. xs ++ ys) (first_is image 76 some first) is.rest ∙ whole_super limits)

pub wiped_stands : (limits : Limits) (image : List ℕ) → IsTrue (are_in_range limits) → IsWiped limits image → first_byte image ≡ 76 → Stands image (empty_state limits)
wiped_stands limits image range is first =
    let blocks = data_start limits in
    let room : blocks ≤ blocks = omega arith in
    let sound = empty_sound limits blocks range room in
    let super : SpellsSuper limits (block 0 image) =
    subst (λ bytes. SpellsSuper limits bytes) (sym (wiped_super limits image is first)) (super_spells limits range) in
    change_stands (empty_stored limits blocks) (image_layout limits) (λ n. block n image) (empty_state limits) sound.metadata sound.free sound.pairs
    (tells_empty limits blocks image range is.blank super) (written_empty limits blocks image range is.blank) refl image
    (shut_stands (image_layout limits) image (ap (λ gate. slice_index gate 0 == 1) is.blank.gates) is.blank.long)

-- ---- the moments of each part
pub spared_moments : {old new : Meaning} (limits : Limits) (bytes : List ℕ) → Leaves old new (IsSpared bytes) → Leaves old new (IsMaking limits bytes)
spared_moments limits bytes moments = leaves_weaken (IsMaking limits bytes) moments (λ image. ⊎_map (λ same. same) (λ none. inr (λ s. no_state image s none)))

pub wiping_moments : {old new : Meaning} (limits : Limits) (bytes : List ℕ) → Always old IsNameless → Spreads old new (IsWiping limits) → Leaves old new (IsMaking limits bytes)
wiping_moments limits bytes all spreads =
    leaves_spread (IsWiping limits) (IsMaking limits bytes) all spreads (λ from image none wiping. inr (inr (λ s. no_state image s (λ is. none (ap (λ xs. slice_index xs 0) (sym wiping.first) ∙ is)))))

pub naming_moments : {old new : Meaning} (limits : Limits) (bytes : List ℕ) → IsTrue (are_in_range limits) → Always old (IsWiped limits) → Spreads old new (Torn 0 1) → Leaves old new (IsMaking limits bytes)
naming_moments limits bytes range all spreads =
    leaves_spread (Torn 0 1) (IsMaking limits bytes) all spreads (λ from image is torn.
    inr (⊎_map (wiped_stands limits image range (wiped_torn limits from image is torn)) (λ none s. no_state image s none) (cases_eq (first_byte image) 76)))

-- with the first byte it is complete
pub wiped_named : (limits : Limits) (bytes : List ℕ) → IsWiped limits bytes → IsWiped limits (put bytes 0 (76 ∷ [])) × (first_byte (put bytes 0 (76 ∷ [])) ≡ 76)
wiped_named limits bytes is =
    let some : 1 ≤ length bytes = omega (arith, is.blank.long) in
    (wiped_torn limits bytes (put bytes 0 (76 ∷ [])) is (torn-put bytes 0 (76 ∷ []) some), first-put bytes 76 some)

pub named_stands : {old new : Meaning} (limits : Limits) → IsTrue (are_in_range limits) → Always old (IsWiped limits) → IsSettled new (put old.bytes 0 (76 ∷ [])) → Always new (λ image. Stands image (empty_state limits))
named_stands {old} limits range all settled =
    let named = wiped_named limits old.bytes all.reads in
    always_settled (λ image. Stands image (empty_state limits)) (put old.bytes 0 (76 ∷ [])) settled
    (wiped_stands limits (put old.bytes 0 (76 ∷ [])) range named.0 named.1)

-- ---- what making leaves of each block, and the blocks that it leaves alone
-- ---- the blocks that are left alone
pub spare_trans : (limits : Limits) (x y z : List ℕ) → KeepsSpare limits x y → KeepsSpare limits y z → KeepsSpare limits x z
spare_trans limits x y z xy yz n is = yz n is ∙ xy n is

spare_torn : (limits : Limits) (at n : ℕ) (from image : List ℕ) → (at + n ≤ 8192) ⊎ ((4096 * properties_start limits ≤ at) × (at + n ≤ 4096 * data_start limits)) → Torn at n from image → KeepsSpare limits from image
spare_torn limits at n from image within torn k is = part-torn at n from image torn (4096 * k) 4096 (grind (arith, within, is))

-- the first byte is in the super block
pub first_spare : (limits : Limits) (from image : List ℕ) → Torn 0 1 from image → KeepsSpare limits from image
first_spare limits from image torn = spare_torn limits 0 1 from image (inl (omega arith)) torn

pub wiping_refl : (limits : Limits) (image : List ℕ) → IsWiping limits image image
wiping_refl limits image = record { first = refl; spare = λ n is. refl }

pub wiping_trans : (limits : Limits) (x y z : List ℕ) → IsWiping limits x y → IsWiping limits y z → IsWiping limits x z
wiping_trans limits x y z xy yz = record { first = yz.first ∙ xy.first; spare = spare_trans limits x y z xy.spare yz.spare }

-- a range of the super block and the gate block without the first byte, or one of the home blocks before the data blocks
pub spreads_wiping : {old new : Meaning} (limits : Limits) (at n : ℕ) → 1 ≤ at → (at + n ≤ 8192) ⊎ ((4096 * properties_start limits ≤ at) × (at + n ≤ 4096 * data_start limits)) → Spreads old new (Torn at n) → Spreads old new (IsWiping limits)
spreads_wiping limits at n some within spreads = spreads_weaken (IsWiping limits) spreads (λ from image torn. record {
  first = part-torn at n from image torn 0 1 (inl (omega (arith, some)));
  spare = spare_torn limits at n from image within torn;
})

-- ---- the runs of wiping: the rest of the super block, the gate block, and the home blocks before the data blocks
pub rest_spreads : {a b : Meaning} (limits : Limits) → Spreads a b (Torn 1 4095) → Spreads a b (IsWiping limits)
rest_spreads limits = spreads_wiping limits 1 4095 (omega arith) (inl (omega arith))

pub gate_spreads : {a b c : Meaning} (limits : Limits) → Spreads a b (Torn 1 4095) → Spreads b c (Torn 4096 4096) → Spreads a c (IsWiping limits)
gate_spreads limits rest gate = spreads_then (IsWiping limits) (wiping_trans limits) (rest_spreads limits rest) (spreads_wiping limits 4096 4096 (omega arith) (inl (omega arith)) gate)

pub homes_spreads : {a b c d : Meaning} (limits : Limits) (first end : ℕ) → first ≡ properties_start limits → end ≡ data_start limits → Spreads a b (Torn 1 4095) → Spreads b c (Torn 4096 4096)
    → Spreads c d (Torn (4096 * first) (4096 * (end - first))) → Spreads a d (IsWiping limits)
homes_spreads limits first end is_first is_end rest gate homes =
    spreads_then (IsWiping limits) (wiping_trans limits) (gate_spreads limits rest gate)
    (spreads_wiping limits (4096 * first) (4096 * (end - first)) (omega (arith, is_first)) (inr (omega (arith, is_first), omega (arith, is_first, is_end))) homes)

-- ---- the runs of making
pub named_spreads : {old new : Meaning} (limits : Limits) → Spreads old new (Torn 0 1) → Spreads old new (KeepsSpare limits)
named_spreads limits spreads = spreads_weaken (KeepsSpare limits) spreads (first_spare limits)

pub wiped_spreads : {old mid new : Meaning} (limits : Limits) → Spreads old mid (Torn 0 1) → Spreads mid new (IsWiping limits) → Spreads old new (KeepsSpare limits)
wiped_spreads limits first second =
    spreads_then (KeepsSpare limits) (spare_trans limits) (named_spreads limits first) (spreads_weaken (KeepsSpare limits) second (λ from image is. is.spare))

pub made_spreads : {old mid next new : Meaning} (limits : Limits) → Spreads old mid (Torn 0 1) → Spreads mid next (IsWiping limits) → Spreads next new (Torn 0 1) → Spreads old new (KeepsSpare limits)
made_spreads limits first second third =
    spreads_then (KeepsSpare limits) (spare_trans limits) (wiped_spreads limits first second) (named_spreads limits third)

-- each moment of making
pub moments_spare : {old new : Meaning} (limits : Limits) → IsSettled old old.bytes → Leaves old new (IsMaking limits old.bytes) → Spreads old new (KeepsSpare limits) → Leaves old new (InMaking limits old.bytes)
moments_spare {old} limits settled moments spreads = search (rules, leaves_weaken, leaves_both)

-- a block that is left alone, if making failed
pub spare_spreads : {old new : Meaning} (limits : Limits) (n : ℕ) → Spreads old new (KeepsSpare limits) → IsSpare limits n → IsSettledAt old n → block n new.bytes ≡ block n old.bytes
spare_spreads {old} limits n spreads is settled =
    let from = spreads.reads.0 in
    spreads.reads.2 n is ∙ ⊎_elim (settled from) (ap (block n)) spreads.reads.1

-- ---- what is made
made_image : (limits : Limits) (bytes image : List ℕ) → KeepsSpare limits bytes image → IsWiped limits image → first_byte image ≡ 76 → IsMade limits bytes image
made_image limits bytes image spare is first = record { super = wiped_super limits image is first; gate = is.zero; homes = is.blank.homes; spare = spare }

pub made_all : {old mid new : Meaning} (limits : Limits) (bytes : List ℕ) → Always old (Torn 0 1 bytes) → Spreads old mid (IsWiping limits) → Always mid (IsWiped limits) → IsSettled new (put mid.bytes 0 (76 ∷ [])) → Spreads mid new (Torn 0 1)
    → Always new (IsMade limits bytes)
made_all {old} {mid} {new} limits bytes torn wiping wiped settled naming =
    let before : Always mid (KeepsSpare limits bytes) = always_spread (IsWiping limits) (KeepsSpare limits bytes) torn wiping
    (λ from image t is. spare_trans limits bytes from image (first_spare limits bytes from t) is.spare) in
    let after : Always new (KeepsSpare limits bytes) = always_spread (Torn 0 1) (KeepsSpare limits bytes) before naming
    (λ from image spare t. spare_trans limits bytes from image spare (first_spare limits from image t)) in
    let named = wiped_named limits mid.bytes wiped.reads in
    always_settled (IsMade limits bytes) (put mid.bytes 0 (76 ∷ [])) settled
    (made_image limits bytes (put mid.bytes 0 (76 ∷ [])) (subst (KeepsSpare limits bytes) settled.reads after.reads) named.0 named.1)

-- a block that is left alone is as it was, if a crash at the start left it as it read or nothing failed
pub spare_either : {old new : Meaning} {T E : Type 0} (limits : Limits) (n : ℕ) (r : Result T E) → OnOk r (Always new (IsMade limits old.bytes)) → Spreads old new (KeepsSpare limits) → IsSpare limits n → OnErr r (IsSettledAt old n)
    → block n new.bytes ≡ block n old.bytes
spare_either limits n (Ok x) made spreads is settled = made.reads.spare n is
spare_either limits n (Err e) made spreads is settled = spare_spreads limits n spreads is settled
