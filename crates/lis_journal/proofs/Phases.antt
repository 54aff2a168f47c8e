-- The phases, each as a fact about one image: what keeps it, what the image represents, and where it leads.
use Rattle.std.proofs.Common.{◌≡◌, ◌≢◌, ◌⊎◌, inl, inr, ℕ, zero, suc, ◌+◌, ◌*◌, ◌<◌, ◌≤◌, ◌==◌, nat_lt, Bool, true, false, cond, List, [], ◌∷◌, ◌++◌, length, replicate, Option, Some, None, is_some, IsSomeAnd, slice_index, refl, sym, ◌∙◌, ap, subst, arith}
use Rattle.std.proofs.lemmas.Bool.{lt-ltb, le-ltb, cases_eq, cases_order}
use Rattle.lis_ports.specs.Bytes.{put, Torn}
use Rattle.lis_ports.proofs.Parts.{Apart, part-torn, torn-put}
use Rattle.lis_journal.specs.declared.layout.Layout.{Layout}
use Rattle.lis_journal.specs.Record.{homes_start, record_len, block, is_open, open_count, HomeBlock, record_end, is_record, recorded, first_bad, all_recorded, behind, apply, bad_record, replayed}
use Rattle.lis_journal.specs.Journal.{OpenRecords, records_of, no_records}
use Rattle.lis_journal.specs.Images.{IsOutside, Keeps, KeepsBut, StandsFor, StandsBut, StandsForAllOrNone, look, is_among, Holds, IsAtRest}
use Rattle.lis_journal.specs.Spreads.{Touched}
use Rattle.lis_journal.specs.Phases.{Spelled, Unsure, Opened, Homed, Shut, looked, Absorbs}
use Rattle.lis_journal.proofs.Entries.{Within, AtHome, block-apply, length-apply, home_or_clear, homes_clear}
use Rattle.lis_journal.proofs.Gates.{gate-torn, other_gate-torn, gate-put, others-put, open_count-same, open_count-gates, open_count-shut, open_before}
use Rattle.lis_journal.proofs.Series.{behind_from, behind_within, records_same, behind-more, entries-more, form-more, look-append, all_sound, spelled_same}

-- ---- what an image represents
pub replayed-good : (layout : Layout) (m : ℕ) (image : List ℕ) → open_count image ≡ m → first_bad layout 2 m image ≡ None → replayed layout image ≡ Some (apply (all_recorded 2 m image) image)
unfolding replayed bad_record
replayed-good layout m image counted form =
    ap (λ n. cond (is_some (first_bad layout 2 n image)) None (Some (apply (all_recorded 2 n image) image))) counted
    ∙ ap (λ bad. cond (is_some bad) None (Some (apply (all_recorded 2 m image) image))) form

pub replayed-bad : (layout : Layout) (b : ℕ) (image : List ℕ) → bad_record layout image ≡ Some b → replayed layout image ≡ None
unfolding replayed
replayed-bad layout b image bad =
    ap (λ bad. cond (is_some bad) None (Some (apply (all_recorded 2 (open_count image) image) image))) bad

-- with gate 0 closed the replayed image is the image itself
pub replayed-closed : (layout : Layout) (image : List ℕ) → 4160 ≤ length image → is_open 0 image ≡ false → replayed layout image ≡ Some image
replayed-closed layout image long closed = replayed-good layout 0 image (open_count-shut image long closed) refl

pub some_and : (P : List ℕ → Type 0) {r : List ℕ} (o : Option (List ℕ)) → o ≡ Some r → P r → IsSomeAnd o P
some_and P o is p = subst (λ o. IsSomeAnd o P) (sym is) p

pub stands : (layout : Layout) (kept : ℕ → List ℕ) (image r : List ℕ) → 4096 * layout.blocks ≤ length image → replayed layout image ≡ Some r → Keeps layout kept r → StandsFor layout kept image
unfolding StandsFor
stands layout kept image r long is keeps = (long, some_and (Keeps layout kept) (replayed layout image) is keeps)

pub stands_but : (layout : Layout) (placed : List ℕ) (kept : ℕ → List ℕ) (image r : List ℕ) → 4096 * layout.blocks ≤ length image → replayed layout image ≡ Some r → KeepsBut layout placed kept r → StandsBut layout placed kept image
unfolding StandsBut
stands_but layout placed kept image r long is keeps = (long, some_and (KeepsBut layout placed kept) (replayed layout image) is keeps)

-- with nothing placed the image represents all of them
pub stands_full : (layout : Layout) (kept : ℕ → List ℕ) (image : List ℕ) → StandsBut layout [] kept image → StandsFor layout kept image
unfolding StandsFor StandsBut
stands_full layout kept image all = (all.0, by (replayed layout image) all.1)
  where
    by : (o : Option (List ℕ)) → IsSomeAnd o (KeepsBut layout [] kept) → IsSomeAnd o (Keeps layout kept)
    by None h = h
    by (Some r) h = record { long = h.long; same = λ n out. h.same n out refl }

-- fewer blocks must be right
pub stands_less : (layout : Layout) (placed more : List ℕ) (kept : ℕ → List ℕ) (image : List ℕ) → ((n : ℕ) → is_among more n ≡ false → is_among placed n ≡ false) → StandsBut layout placed kept image → StandsBut layout more kept image
unfolding StandsBut
stands_less layout placed more kept image less all = (all.0, by (replayed layout image) all.1)
  where
    by : (o : Option (List ℕ)) → IsSomeAnd o (KeepsBut layout placed kept) → IsSomeAnd o (KeepsBut layout more kept)
    by None h = h
    by (Some r) h = record { long = h.long; same = λ n out not_in. h.same n out (less n not_in) }

pub stands_for_but : (layout : Layout) (placed : List ℕ) (kept : ℕ → List ℕ) (image : List ℕ) → StandsFor layout kept image → StandsBut layout placed kept image
unfolding StandsFor StandsBut
stands_for_but layout placed kept image all = (all.0, by (replayed layout image) all.1)
  where
    by : (o : Option (List ℕ)) → IsSomeAnd o (Keeps layout kept) → IsSomeAnd o (KeepsBut layout placed kept)
    by None h = h
    by (Some r) h = record { long = h.long; same = λ n out not_in. h.same n out }

-- ---- the lengths that all phases have
module _ {layout : Layout} {records : OpenRecords} {placed : List ℕ} {kept : ℕ → List ℕ} {image : List ℕ} (holds : Holds layout records placed kept image) where
  pub full : 4096 * homes_start layout ≤ length image
  full = omega (arith, holds.enough, holds.long)

  pub gates_long : 4160 ≤ length image
  gates_long = omega (arith, holds.enough, holds.long)

  pub next_low : records.count + 2 ≤ records.next
  next_low = omega (arith, behind_from 2 records.count image, holds.ends)

  pub next_high : records.next ≤ homes_start layout
  next_high = omega (arith, behind_within layout 2 records.count image (omega arith) holds.form, holds.ends)

-- What has the same blocks of records holds the same records.
pub holds_from : {layout : Layout} {records : OpenRecords} {placed : List ℕ} {kept : ℕ → List ℕ} {from : List ℕ} (others : List ℕ) (now : ℕ → List ℕ) (image : List ℕ) → Holds layout records placed kept from → length image ≡ length from → ((j : ℕ) → 2 ≤ j → j < records.next → block j image ≡ block j from) → ((n : ℕ) → IsOutside layout n → is_among others n ≡ false → look records.latest n (block n image) ≡ now n) → Holds layout records others now image
holds_from {layout} {records} {placed} {kept} {from} others now image holds len same looks =
    let rest = records_same layout 2 records.count from image (λ j le lt. same j le (omega (arith, lt, holds.ends))) in
    record {
      enough = holds.enough;
      long = omega (arith, holds.long, len);
      form = rest.bad ∙ holds.form;
      ends = rest.ends ∙ holds.ends;
      latest = λ n old. ap (λ es. look es n old) rest.all ∙ holds.latest n old;
      same = looks;
    }

apart-journal : (layout : Layout) (at n : ℕ) → 4096 ≤ at → at + n ≤ 4096 * homes_start layout → (k : ℕ) → IsOutside layout k → Apart at n (4096 * k) 4096
apart-journal layout at n low high k (inl none) = inl (omega (arith, none, low))
apart-journal layout at n low high k (inr le) = inr (omega (arith, le, high))

-- a range of the journal that has no block of the records may be torn
holds_torn : {layout : Layout} {records : OpenRecords} {placed : List ℕ} {kept : ℕ → List ℕ} {from : List ℕ} (at n : ℕ) (image : List ℕ) → 4096 ≤ at → at + n ≤ 4096 * homes_start layout → ((j : ℕ) → 2 ≤ j → j < records.next → Apart at n (4096 * j) 4096) → Holds layout records placed kept from → Torn at n from image → Holds layout records placed kept image
holds_torn {layout = layout} {records = records} {placed = placed} {kept = kept} {from = from} at n image low high apart holds torn =
    holds_from placed kept image holds torn.len
    (λ j le lt. part-torn at n from image torn (4096 * j) 4096 (apart j le lt))
    (λ k out not_in. ap (look records.latest k) (part-torn at n from image torn (4096 * k) 4096 (apart-journal layout at n low high k out)) ∙ holds.same k out not_in)

-- ---- at rest
pub rest_opened : {layout : Layout} {records : OpenRecords} {placed : List ℕ} {kept : ℕ → List ℕ} {image : List ℕ} → IsAtRest layout records placed kept image → Opened layout records placed kept image
rest_opened {records = records} {image = image} rest = record {
  holds = rest.holds;
  counted = open_count-gates image records.count (gates_long rest.holds) rest.few rest.gates;
}

pub torn_behind : (layout : Layout) (records : OpenRecords) (placed : List ℕ) (kept : ℕ → List ℕ) (n : ℕ) (from image : List ℕ) → 4096 * records.next + n ≤ 4096 * homes_start layout → IsAtRest layout records placed kept from → Torn (4096 * records.next) n from image → IsAtRest layout records placed kept image
torn_behind layout records placed kept n from image room rest torn =
    let low = next_low rest.holds in
    record {
      few = rest.few;
      holds = holds_torn (4096 * records.next) n image (omega (arith, low)) room (λ j le lt. inl (omega (arith, lt))) rest.holds torn;
      gates = λ k lt. gate-torn (4096 * records.next) n from image torn k lt (inl (omega (arith, low, lt))) ∙ rest.gates k lt;
    }

-- ---- opened
pub opened_stands : (layout : Layout) (records : OpenRecords) (placed : List ℕ) (kept : ℕ → List ℕ) (image : List ℕ) → Opened layout records placed kept image → StandsBut layout placed kept image
opened_stands layout records placed kept image o =
    let holds = o.holds in
    let es = all_recorded 2 records.count image in
    let sound = all_sound layout 2 records.count image (full holds) holds.form in
    stands_but layout placed kept image (apply es image) holds.long
    (replayed-good layout records.count image o.counted holds.form)
    (record {
      long = omega (arith, holds.long, length-apply layout.blocks es image sound.within holds.long);
      same = λ n out not_in.
          block-apply layout.blocks es image n sound.within holds.long
          ∙ (holds.latest n (block n image) ∙ holds.same n out not_in);
    })

pub rest_stands : (layout : Layout) (records : OpenRecords) (placed : List ℕ) (kept : ℕ → List ℕ) (image : List ℕ) → IsAtRest layout records placed kept image → StandsBut layout placed kept image
rest_stands layout records placed kept image rest = opened_stands layout records placed kept image (rest_opened rest)

-- the homes of the latest contents may be touched
pub touched_opened : (layout : Layout) (records : OpenRecords) (placed : List ℕ) (kept : ℕ → List ℕ) (from image : List ℕ) → AtHome (homes_start layout) records.latest → Opened layout records placed kept from → Touched records.latest from image → Opened layout records placed kept image
touched_opened layout records placed kept from image home o touched =
    let holds = o.holds in
    let es = records.latest in
    let high = next_high holds in
    let new = holds_from placed kept image holds touched.len
    (λ j le lt. touched.clear (4096 * j) 4096 (homes_clear (homes_start layout) es (4096 * j) 4096 (omega (arith, lt, high)) home))
    (λ n out not_in. elim (home_or_clear es n) as (λ _. look es n (block n image) ≡ kept n) [
      | inl held ↦ held (block n image) (block n from) ∙ holds.same n out not_in
      | inr clear ↦ ap (look es n) (touched.clear (4096 * n) 4096 clear.1) ∙ holds.same n out not_in
    ]) in
    record {
      holds = new;
      counted = open_count-same from image (gates_long holds) (gates_long new)
          (λ k lt. ap (λ xs. gate_of k xs) (touched.clear 4096 64 (homes_clear (homes_start layout) es 4096 64 (omega arith) home))) ∙ o.counted;
    }
  where
    gate_of : ℕ → List ℕ → Bool
    gate_of k gates_are = slice_index gates_are k == 1

-- all homes are written
pub homes_written : (layout : Layout) (records : OpenRecords) (kept : ℕ → List ℕ) (bytes : List ℕ) → Within layout.blocks records.latest → Opened layout records [] kept bytes → Opened layout records [] kept (apply records.latest bytes) → Homed layout records kept (apply records.latest bytes)
homes_written layout records kept bytes within before now = record {
  opened = now;
  homes = λ n out. block-apply layout.blocks records.latest bytes n within before.holds.long ∙ before.holds.same n out refl;
}

-- ---- gate 0 is closed over homes that are written
keeps_torn : (layout : Layout) (kept : ℕ → List ℕ) (at n : ℕ) (from image : List ℕ) → 4096 ≤ at → at + n ≤ 4096 * homes_start layout → 4096 * layout.blocks ≤ length from → ((k : ℕ) → IsOutside layout k → block k from ≡ kept k) → Torn at n from image → Keeps layout kept image
keeps_torn layout kept at n from image low high long same torn = record {
  long = omega (arith, long, torn.len);
  same = λ k out. part-torn at n from image torn (4096 * k) 4096 (apart-journal layout at n low high k out) ∙ same k out;
}

pub shut_stands : (layout : Layout) (kept : ℕ → List ℕ) (image : List ℕ) → Shut layout kept image → StandsFor layout kept image
shut_stands layout kept image shut =
    stands layout kept image image shut.keeps.long (replayed-closed layout image (omega (arith, shut.enough, shut.keeps.long)) shut.closed) shut.keeps

homed_shut : (layout : Layout) (records : OpenRecords) (kept : ℕ → List ℕ) (from image : List ℕ) → Homed layout records kept from → Torn 4096 1 from image → is_open 0 image ≡ false → Shut layout kept image
homed_shut layout records kept from image homed torn closed = record {
  enough = homed.opened.holds.enough;
  closed = closed;
  keeps = keeps_torn layout kept 4096 1 from image (omega arith) (omega arith) homed.opened.holds.long homed.homes torn;
}

pub closing_stands : (layout : Layout) (records : OpenRecords) (kept : ℕ → List ℕ) (from image : List ℕ) → 0 < records.count → Homed layout records kept from → Torn 4096 1 from image → StandsFor layout kept image
closing_stands layout records kept from image some homed torn = by (is_open 0 image) refl
  where
    holds : Holds layout records [] kept from
    holds = homed.opened.holds

    stays : Holds layout records [] kept image
    stays = holds_torn 4096 1 image (omega arith) (omega arith) (λ j le lt. inr (omega (arith, le))) holds torn

    each : is_open 0 image ≡ true → (k : ℕ) → k < 64 → is_open k image ≡ is_open k from
    each opened k lt = elim (first_or_not k) as (λ _. is_open k image ≡ is_open k from) [
      | inl first ↦ subst (λ k. is_open k image ≡ is_open k from) (sym first) (opened ∙ sym (open_before from 0 (omega (arith, some, homed.opened.counted))))
      | inr other ↦ other_gate-torn 0 from image torn k lt other
    ]
      where
        first_or_not : (k : ℕ) → (k ≡ 0) ⊎ (k ≢ 0)
        first_or_not zero = inl refl
        first_or_not (suc k) = inr (λ e. absurd (omega (arith, e)))

    by : (b : Bool) → is_open 0 image ≡ b → StandsFor layout kept image
    by true is =
        stands_full layout kept image (opened_stands layout records [] kept image (record {
          holds = stays;
          counted = open_count-same from image (gates_long holds) (gates_long stays) (each is) ∙ homed.opened.counted;
        }))
    by false is = shut_stands layout kept image (homed_shut layout records kept from image homed torn is)

pub gate_shut : (layout : Layout) (records : OpenRecords) (kept : ℕ → List ℕ) (bytes : List ℕ) → Homed layout records kept bytes → Shut layout kept (put bytes 4096 (0 ∷ []))
gate_shut layout records kept bytes homed =
    let long = gates_long homed.opened.holds in
    homed_shut layout records kept bytes (put bytes 4096 (0 ∷ [])) homed
    (torn-put bytes 4096 (0 ∷ []) (omega (arith, long))) (gate-put 0 0 bytes (omega arith) long)

-- the other gates are closed
pub torn_others : (layout : Layout) (kept : ℕ → List ℕ) (from image : List ℕ) → Shut layout kept from → Torn 4097 63 from image → Shut layout kept image
torn_others layout kept from image shut torn = record {
  enough = shut.enough;
  closed = gate-torn 4097 63 from image torn 0 (omega arith) (inl (omega arith)) ∙ shut.closed;
  keeps = keeps_torn layout kept 4097 63 from image (omega arith) (omega arith) shut.keeps.long shut.keeps.same torn;
}

-- with all gates closed, the image is at rest with no record
pub shut_rest : (layout : Layout) (kept : ℕ → List ℕ) (image : List ℕ) → homes_start layout < layout.blocks → Keeps layout kept image → ((k : ℕ) → k < 64 → is_open k image ≡ false) → IsAtRest layout no_records [] kept image
shut_rest layout kept image enough keeps closed = record {
  few = omega arith;
  holds = record {
    enough = enough;
    long = keeps.long;
    form = refl;
    ends = refl;
    latest = λ n old. refl;
    same = λ n out not_in. keeps.same n out;
  };
  gates = λ k lt. closed k lt ∙ sym (le-ltb k 0 (omega arith));
}

pub others_shut : (layout : Layout) (kept : ℕ → List ℕ) (bytes : List ℕ) → Shut layout kept bytes → IsAtRest layout no_records [] kept (put bytes 4097 (replicate 63 0))
others_shut layout kept bytes shut =
    let long : 4160 ≤ length bytes = omega (arith, shut.enough, shut.keeps.long) in
    let now = torn_others layout kept bytes (put bytes 4097 (replicate 63 0)) shut (torn-put bytes 4097 (replicate 63 0) (omega (arith, long))) in
    shut_rest layout kept (put bytes 4097 (replicate 63 0)) shut.enough now.keeps (λ k lt. by k lt now.closed long)
  where
    by : (k : ℕ) → k < 64 → is_open 0 (put bytes 4097 (replicate 63 0)) ≡ false → 4160 ≤ length bytes → is_open k (put bytes 4097 (replicate 63 0)) ≡ false
    by zero lt first long = first
    by (suc k) lt first long = others-put bytes long (suc k) (omega arith) lt

-- ---- one more record
-- the gate of a complete record may be torn
pub torn_gate : (layout : Layout) (records : OpenRecords) (kept : ℕ → List ℕ) (es : List HomeBlock) (from image : List ℕ) → Unsure layout records kept es from → Torn (4096 + records.count) 1 from image → Unsure layout records kept es image
torn_gate layout records kept es from image unsure torn =
    let apart : (j : ℕ) → 2 ≤ j → Apart (4096 + records.count) 1 (4096 * j) 4096 = λ j le. inr (omega (arith, le, unsure.few)) in
    let stays : (j : ℕ) → records.next ≤ j → block j image ≡ block j from = λ j le. part-torn (4096 + records.count) 1 from image torn (4096 * j) 4096 (apart j (omega (arith, le, next_low unsure.holds))) in
    record {
      few = unsure.few;
      holds = holds_torn (4096 + records.count) 1 image (omega arith) (omega (arith, unsure.few)) (λ j le lt. apart j le) unsure.holds torn;
      spelled = spelled_same layout records.next es from image (λ j le lt. stays j le) unsure.spelled;
      gates = λ k lt ne. other_gate-torn records.count from image torn k lt ne ∙ unsure.gates k lt ne;
    }

pub holds_more : (layout : Layout) (records : OpenRecords) (kept : ℕ → List ℕ) (es later : List HomeBlock) (image : List ℕ) → Absorbs records.latest es later → Holds layout records [] kept image → Spelled layout records.next es image → Holds layout (records_of (records.count + 1) (records.next + record_len (length es)) later) [] (looked es kept) image
holds_more layout records kept es later image absorbs holds spelled =
    let one : suc records.count ≡ records.count + 1 = omega arith in
    let there = holds.ends in
    record {
      enough = holds.enough;
      long = holds.long;
      form = ap (λ n. first_bad layout 2 n image) (sym one)
          ∙ form-more layout 2 records.count image holds.form (subst (λ b. is_record layout b image ≡ true) (sym there) spelled.form);
      ends = ap (λ n. behind 2 n image) (sym one)
          ∙ (behind-more 2 records.count image ∙ (ap (λ b. record_end b image) there ∙ spelled.ends));
      latest = λ n old.
          ap (λ m. look (all_recorded 2 m image) n old) (sym one)
          ∙ (ap (λ es. look es n old) (entries-more 2 records.count image ∙ ap (λ b. all_recorded 2 records.count image ++ recorded b image) there)
          ∙ (ap (λ fs. look (all_recorded 2 records.count image ++ fs) n old) spelled.holds
          ∙ (look-append (all_recorded 2 records.count image) es n old
          ∙ (ap (look es n) (holds.latest n old) ∙ sym (absorbs n old)))));
      same = λ n out not_in. absorbs n (block n image) ∙ ap (look es n) (holds.same n out not_in);
    }

more_gates : (layout : Layout) (records : OpenRecords) (kept : ℕ → List ℕ) (es : List HomeBlock) (image : List ℕ) → Unsure layout records kept es image → is_open records.count image ≡ true → (k : ℕ) → k < 64 → is_open k image ≡ nat_lt k (records.count + 1)
more_gates layout records kept es image unsure opened k lt = by (cases_order k records.count)
  where
    by : (k ≡ records.count) ⊎ ((k < records.count) ⊎ (records.count < k)) → is_open k image ≡ nat_lt k (records.count + 1)
    by (inr (inl low)) =
        unsure.gates k lt (λ e. absurd (omega (arith, e, low)))
        ∙ (lt-ltb k records.count low ∙ sym (lt-ltb k (records.count + 1) (omega (arith, low))))
    by (inl here) =
        subst (λ k. is_open k image ≡ nat_lt k (records.count + 1)) (sym here) (opened ∙ sym (lt-ltb records.count (records.count + 1) (omega arith)))
    by (inr (inr high)) =
        unsure.gates k lt (λ e. absurd (omega (arith, e, high)))
        ∙ (le-ltb k records.count (omega (arith, high)) ∙ sym (le-ltb k (records.count + 1) (omega (arith, high))))

gates_as_before : (layout : Layout) (records : OpenRecords) (kept : ℕ → List ℕ) (es : List HomeBlock) (image : List ℕ) → Unsure layout records kept es image → is_open records.count image ≡ false → (k : ℕ) → k < 64 → is_open k image ≡ nat_lt k records.count
gates_as_before layout records kept es image unsure closed k lt = elim (cases_eq k records.count) as (λ _. is_open k image ≡ nat_lt k records.count) [
  | inl here ↦ subst (λ k. is_open k image ≡ nat_lt k records.count) (sym here) (closed ∙ sym (le-ltb records.count records.count (omega arith)))
  | inr other ↦ unsure.gates k lt other
]

pub rest_more : (layout : Layout) (records : OpenRecords) (kept : ℕ → List ℕ) (es later : List HomeBlock) (image : List ℕ) → Absorbs records.latest es later → Unsure layout records kept es image → is_open records.count image ≡ true → IsAtRest layout (records_of (records.count + 1) (records.next + record_len (length es)) later) [] (looked es kept) image
rest_more layout records kept es later image absorbs unsure opened = record {
  few = omega (arith, unsure.few);
  holds = holds_more layout records kept es later image absorbs unsure.holds unsure.spelled;
  gates = more_gates layout records kept es image unsure opened;
}

pub unsure_stands : (layout : Layout) (records : OpenRecords) (placed : List ℕ) (kept : ℕ → List ℕ) (es : List HomeBlock) (image : List ℕ) → Unsure layout records kept es image → StandsForAllOrNone layout placed kept es image
unsure_stands layout records placed kept es image unsure = by (is_open records.count image) refl
  where
    by : (b : Bool) → is_open records.count image ≡ b → StandsForAllOrNone layout placed kept es image
    by true is = inr (stands_full layout (looked es kept) image (rest_stands layout _ [] (looked es kept) image
        (rest_more layout records kept es (records.latest ++ es) image (look-append records.latest es) unsure is)))
    by false is = inl (stands_for_but layout placed kept image (stands_full layout kept image (rest_stands layout records [] kept image (record {
      few = omega (arith, unsure.few);
      holds = unsure.holds;
      gates = gates_as_before layout records kept es image unsure is;
    }))))

-- the gate is written open
pub gate_opened : (layout : Layout) (records : OpenRecords) (kept : ℕ → List ℕ) (es later : List HomeBlock) (bytes : List ℕ) → Absorbs records.latest es later → Unsure layout records kept es bytes → IsAtRest layout (records_of (records.count + 1) (records.next + record_len (length es)) later) [] (looked es kept) (put bytes (4096 + records.count) (1 ∷ []))
gate_opened layout records kept es later bytes absorbs unsure =
    let long = gates_long unsure.holds in
    let fits : 4096 + records.count + 1 ≤ length bytes = omega (arith, long, unsure.few) in
    let new = put bytes (4096 + records.count) (1 ∷ []) in
    rest_more layout records kept es later new absorbs
    (torn_gate layout records kept es bytes new unsure (torn-put bytes (4096 + records.count) (1 ∷ []) fits))
    (gate-put records.count 1 bytes unsure.few long)

-- the record is written
pub record_unsure : (layout : Layout) (records : OpenRecords) (kept : ℕ → List ℕ) (es : List HomeBlock) (image : List ℕ) → records.count < 64 → IsAtRest layout records [] kept image → Spelled layout records.next es image → Unsure layout records kept es image
record_unsure layout records kept es image few rest spelled = record {
  few = few;
  holds = rest.holds;
  spelled = spelled;
  gates = λ k lt ne. rest.gates k lt;
}

-- ---- placed blocks
pub rest_placed : {layout : Layout} {records : OpenRecords} {kept : ℕ → List ℕ} {image : List ℕ} (placed : List ℕ) → IsAtRest layout records [] kept image → IsAtRest layout records placed kept image
rest_placed placed rest = record {
  few = rest.few;
  holds = record {
    enough = rest.holds.enough;
    long = rest.holds.long;
    form = rest.holds.form;
    ends = rest.holds.ends;
    latest = rest.holds.latest;
    same = λ n out not_in. rest.holds.same n out refl;
  };
  gates = rest.gates;
}
