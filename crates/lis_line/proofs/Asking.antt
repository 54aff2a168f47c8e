-- Segments taken one after another, up to the first one that requests something.
use Rattle.std.proofs.Common.{◌≡◌, ℕ, ◌<◌, true, false, cond, List, [], ◌∷◌, ◌++◌, length, Option, Some, None, Result, Ok, Err, ap, sym, subst, ◌∙◌, refl, arith, append_assoc, append-nil, length-append}
use Rattle.std.specs.Option.{option_map, option_to_list}
use Rattle.lis_ports.specs.declared.disk.Failed.{Failed}
use Rattle.lis_model.specs.Script.{FirstOf, Cut}
use Rattle.lis_model.proofs.Lines.{CutsBy}
use Rattle.lis_line.specs.declared.input.Segment.{Segment}
use Rattle.lis_line.specs.declared.input.Segment.TheVariants.{Whole, Last, PastLimit}
use Rattle.lis_line.specs.declared.stock.LineEnd.TheVariants.{Feed, Last as LastLine, Spent}
use Rattle.lis_line.specs.Stock.{Stocked, ReadsLine}
use Rattle.lis_line.specs.Reading.{IsWhole, Gave, GaveWhole, GaveLast, GaveEnd, Overran, GaveRest, GivesSegment}
use Rattle.lis_line.specs.Segments.{TakesSegment}
use Rattle.lis_line.proofs.Bytes.{gave_then, gave_line}
use Rattle.lis_line.proofs.Kept.{ByLines}
use Rattle.lis_line.proofs.Segments.{segment_behind}

-- ---- what a segment gives, by the first segment of its bytes
module _ {I : Type 0} {cut : Cut I} {first : List ℕ → FirstOf I} (cuts : CutsBy cut first) (lines : ByLines first) where
  whole_some : (bytes : List ℕ) (item : Option I) → ((more : List ℕ) → first (bytes ++ more) ≡ record { item = item; rest = more; is_whole = true })
      → 0 < length bytes
  whole_some [] item is =
      let no : false ≡ true = ap (λ (f : FirstOf I). f.is_whole) (sym lines.none ∙ is []) in
      absurd (cc)
  whole_some (b ∷ bytes) item is = omega arith

  last_some : (bytes : List ℕ) (item : I) → first bytes ≡ record { item = Some item; rest = []; is_whole = false } → 0 < length bytes
  last_some [] item is =
      let none : None ≡ Some item = ap (λ (f : FirstOf I). f.item) (sym lines.none ∙ is) in
      absurd (cc)
  last_some (b ∷ bytes) item is = omega arith

  last_items : (bytes : List ℕ) (item : Option I) → first bytes ≡ record { item = item; rest = []; is_whole = false } → cut.all bytes ≡ option_to_list item
  last_items [] item is = cuts.all_none ∙ ap option_to_list (ap (λ (f : FirstOf I). f.item) (sym lines.none ∙ is))
  last_items (b ∷ bytes) item is =
      cuts.all (b ∷ bytes) _ (omega arith) is ∙ ap (λ items. option_to_list item ++ items) cuts.all_none ∙ append-nil (option_to_list item)

  pub not_whole_items : (bytes : List ℕ) → (first bytes).is_whole ≡ false → cut.whole bytes ≡ []
  not_whole_items [] none = cuts.whole_none
  not_whole_items (b ∷ bytes) none =
      cuts.whole (b ∷ bytes) (first (b ∷ bytes)) (omega arith) refl
      ∙ ap (λ whole. cond whole (option_to_list (first (b ∷ bytes)).item ++ cut.whole (first (b ∷ bytes)).rest) []) none

  -- a segment that is whole, whatever follows
  pub whole_is : (bytes : List ℕ) (item : Option I) → ((more : List ℕ) → first (bytes ++ more) ≡ record { item = item; rest = more; is_whole = true })
      → IsWhole cut bytes (option_to_list item)
  whole_is bytes item is =
      let some = whole_some bytes item is in
      record {
        all = λ more. cuts.all (bytes ++ more) _ (omega (arith, some, length-append bytes more)) (is more);
        whole = λ more. cuts.whole (bytes ++ more) _ (omega (arith, some, length-append bytes more)) (is more);
      }

  pub segment_given : {R E : Type 0} (asks : R → I) (old new : Stocked) (left_before left : Option (List ℕ)) (result : Result (Segment R) E)
      → TakesSegment first asks old new left_before left result → GivesSegment cut asks old new left_before left result
  segment_given asks old new left_before left (Ok (Whole asked)) segment = record {
    bytes = segment.bytes;
    gave = segment.gave;
    some = whole_some segment.bytes (option_map asks asked) segment.is;
    within = segment.within;
    is = whole_is segment.bytes (option_map asks asked) segment.is;
  }
  segment_given asks old new left_before left (Ok (Last (Some asked))) segment = record {
    bytes = segment.bytes;
    gave = segment.gave;
    some = last_some segment.bytes (asks asked) segment.is;
    within = segment.within;
    is = record {
      all = last_items segment.bytes (Some (asks asked)) segment.is;
      whole = not_whole_items segment.bytes (ap (λ (f : FirstOf I). f.is_whole) segment.is);
    };
    nothing_ahead = segment.nothing_ahead;
    at_end = segment.at_end;
  }
  segment_given asks old new left_before left (Ok (Last None)) segment = record {
    bytes = segment.bytes;
    gave = segment.gave;
    within = segment.within;
    none_left = last_items segment.bytes None segment.is;
    nothing_ahead = segment.nothing_ahead;
    at_end = segment.at_end;
  }
  segment_given asks old new left_before left (Ok PastLimit) segment = record {
    bytes = segment.bytes;
    byte = segment.byte;
    gave = segment.gave;
    spent = segment.spent;
    none_whole = not_whole_items segment.bytes segment.not_whole;
  }
  segment_given asks old new left_before left (Err failed) segment = record {
    bytes = segment.bytes;
    gave = segment.gave;
    within = segment.within;
    none_whole = not_whole_items segment.bytes segment.not_whole;
    nothing_ahead = segment.nothing_ahead;
  }

  -- ---- by the line that was read, of which `kept` was kept
  pub feed_given : {R : Type 0} {old now : Stocked} {left_before left : Option (List ℕ)} {line kept : List ℕ} (asks : R → I) (next : Stocked) (left_after : Option (List ℕ)) (result : Result (Segment R) Failed)
      → ReadsLine {E = Failed} old now left_before left kept (Ok Feed) → line ≡ kept
      → TakesSegment (λ more. first (line ++ 10 ∷ more)) asks now next left left_after result → GivesSegment cut asks old next left_before left_after result
  feed_given {R} {old} {now} {left_before} {left} {line} {kept} asks next left_after result reads is takes =
      let text = reads.0 in
      segment_given asks old next left_before left_after result
      (segment_behind first (λ more. first (line ++ 10 ∷ more)) asks old now next left_before left left_after (text ++ 10 ∷ []) result
      (gave_line old now left_before left kept text (text ++ 10 ∷ []) reads.1)
      (λ more. ap first (append_assoc text (10 ∷ []) more) ∙ lines.kept text more reads.1.one_line ∙ ap (λ xs. first (xs ++ 10 ∷ more)) (sym (is ∙ reads.1.kept))) takes)

  -- the last line, without a line feed
  pub last_given : {R : Type 0} {old new : Stocked} {left_before left : Option (List ℕ)} {line kept : List ℕ} (asks : R → I) (asked : Option R)
      → ReadsLine {E = Failed} old new left_before left kept (Ok LastLine) → line ≡ kept → option_map asks asked ≡ (first line).item
      → GivesSegment {E = Failed} cut asks old new left_before left (Ok (Last asked))
  last_given {R} {old} {new} {left_before} {left} {line} {kept} asks asked reads is tells =
      segment_given {E = Failed} asks old new left_before left (Ok (Last asked)) (record {
        bytes = reads.0;
        gave = gave_line old new left_before left kept reads.0 reads.0 reads.1;
        within = reads.2;
        is = lines.last reads.0 reads.1.one_line ∙ ap (λ item. record { item = item; rest = []; is_whole = false }) (sym (tells ∙ ap (λ xs. (first xs).item) (is ∙ reads.1.kept)));
        nothing_ahead = reads.3;
        at_end = reads.4;
      })

  -- the byte past the limit, or a fault, inside a line
  pub past_given : {old new : Stocked} {left_before left : Option (List ℕ)} {kept : List ℕ} → ReadsLine {E = Failed} old new left_before left kept (Ok Spent) → Overran cut old new left_before left
  past_given {old} {new} {left_before} {left} {kept} reads = record {
    bytes = reads.0;
    byte = reads.1;
    gave = gave_line old new left_before left kept reads.0 (reads.0 ++ reads.1 ∷ []) reads.2;
    spent = reads.3;
    none_whole = not_whole_items reads.0 (ap (λ (f : FirstOf I). f.is_whole) (lines.last reads.0 reads.2.one_line));
  }

  pub failed_given : {old new : Stocked} {left_before left : Option (List ℕ)} {kept : List ℕ} (failed : Failed) → ReadsLine old new left_before left kept (Err failed) → GaveRest cut old new left_before left
  failed_given {old} {new} {left_before} {left} {kept} failed reads = record {
    bytes = reads.0;
    gave = gave_line old new left_before left kept reads.0 reads.0 reads.1;
    within = reads.2;
    none_whole = not_whole_items reads.0 (ap (λ (f : FirstOf I). f.is_whole) (lines.last reads.0 reads.1.one_line));
    nothing_ahead = reads.3;
  }

-- ---- after segments that request nothing
pub whole_then : {I : Type 0} {cut : Cut I} {bytes more : List ℕ} {items others : List I} → IsWhole cut bytes items → IsWhole cut more others
    → IsWhole cut (bytes ++ more) (items ++ others)
whole_then {cut = cut} {bytes} {more} {items} {others} are then = record {
  all = λ rest. ap cut.all (append_assoc bytes more rest) ∙ are.all (more ++ rest) ∙ ap (λ xs. items ++ xs) (then.all rest) ∙ sym (append_assoc items others (cut.all rest));
  whole = λ rest. ap cut.whole (append_assoc bytes more rest) ∙ are.whole (more ++ rest) ∙ ap (λ xs. items ++ xs) (then.whole rest) ∙ sym (append_assoc items others (cut.whole rest));
}

pub record Skipping {I : Type 0} (cut : Cut I) (old now : Stocked) (left_before left : Option (List ℕ)) : Type 0 where
  pub bytes : List ℕ
  pub gave : Gave old now left_before left bytes
  pub blank : IsWhole cut bytes []
  pub some : 0 < now.rest

module _ {I : Type 0} {cut : Cut I} {old now next : Stocked} {left_before left left_after : Option (List ℕ)} (skipping : Skipping cut old now left_before left) where
  then_gave : (bytes : List ℕ) → Gave now next left left_after bytes → Gave old next left_before left_after (skipping.bytes ++ bytes)
  then_gave bytes gave = gave_then old now next left_before left left_after skipping.bytes bytes skipping.gave gave

  pub skip_more : GaveWhole cut now next left left_after [] → Skipping cut old next left_before left_after
  skip_more segment = record {
    bytes = skipping.bytes ++ segment.bytes;
    gave = then_gave segment.bytes segment.gave;
    blank = whole_then skipping.blank segment.is;
    some = segment.within;
  }

  pub skip_whole : (item : I) → GaveWhole cut now next left left_after (item ∷ []) → GaveWhole cut old next left_before left_after (item ∷ [])
  skip_whole item segment = record {
    bytes = skipping.bytes ++ segment.bytes;
    gave = then_gave segment.bytes segment.gave;
    some = omega (arith, segment.some, length-append skipping.bytes segment.bytes);
    within = segment.within;
    is = whole_then skipping.blank segment.is;
  }

  pub skip_last : (item : I) → GaveLast cut now next left left_after item → GaveLast cut old next left_before left_after item
  skip_last item segment = record {
    bytes = skipping.bytes ++ segment.bytes;
    gave = then_gave segment.bytes segment.gave;
    some = omega (arith, segment.some, length-append skipping.bytes segment.bytes);
    within = segment.within;
    is = record { all = skipping.blank.all segment.bytes ∙ segment.is.all; whole = skipping.blank.whole segment.bytes ∙ segment.is.whole };
    nothing_ahead = segment.nothing_ahead;
    at_end = segment.at_end;
  }

  pub skip_end : GaveEnd cut now next left left_after → GaveEnd cut old next left_before left_after
  skip_end segment = record {
    bytes = skipping.bytes ++ segment.bytes;
    gave = then_gave segment.bytes segment.gave;
    within = segment.within;
    none_left = skipping.blank.all segment.bytes ∙ segment.none_left;
    nothing_ahead = segment.nothing_ahead;
    at_end = segment.at_end;
  }

  pub skip_past : Overran cut now next left left_after → Overran cut old next left_before left_after
  skip_past segment = record {
    bytes = skipping.bytes ++ segment.bytes;
    byte = segment.byte;
    gave = subst (λ xs. Gave old next left_before left_after xs) (sym (append_assoc skipping.bytes segment.bytes (segment.byte ∷ []))) (then_gave (segment.bytes ++ segment.byte ∷ []) segment.gave);
    spent = segment.spent;
    none_whole = skipping.blank.whole segment.bytes ∙ segment.none_whole;
  }

  pub skip_rest : GaveRest cut now next left left_after → GaveRest cut old next left_before left_after
  skip_rest segment = record {
    bytes = skipping.bytes ++ segment.bytes;
    gave = then_gave segment.bytes segment.gave;
    within = segment.within;
    none_whole = skipping.blank.whole segment.bytes ∙ segment.none_whole;
    nothing_ahead = segment.nothing_ahead;
  }
