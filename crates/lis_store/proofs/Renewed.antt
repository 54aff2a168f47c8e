-- Bytes that are put into blocks instead of others, and what the disk keeps meanwhile.
use Rattle.std.proofs.Common.{rules}
use Rattle.std.proofs.Common.{OnErr}
use Rattle.lis_store.proofs.Common.{◌≡◌, refl, sym, ap, ◌∙◌, subst, ℕ, ◌+◌, ◌<◌, ◌≤◌, ◌||◌, ◌++◌, true, false, Bool, List, [], length, count_by, Some, None, Result, Ok, Err, IsTrue, arith, both_ways, false_from_ne_true, ArrayVec, Meaning, Leaves, Held, block, looked, Fits, KeepsPast, are_free, has_home, is_large, Asks, homes_of, stays_marked, among_homes, FileRecord, data_start, Metadata, is_marked, marked_count, has_number, among_from_number, number_from_among, AreSound, blocks_told, Puts, leaves_weaken, leaves_then, is_among, given, marked, GivesBack}
use Rattle.lis_journal.specs.Images.{StandsBut}
use Rattle.lis_journal.proofs.Fitting.{fits_but}
use Rattle.lis_journal.proofs.Phases.{stands_less}
use Rattle.lis_kept.specs.Areas.{bitmap_home}
use Rattle.lis_kept.specs.Changes.{Marks, Takes, bitmap_homes}
use Rattle.lis_store.specs.declared.change_fault.ChangeFault.{ChangeFault}
use Rattle.lis_store.specs.declared.change_fault.ChangeFault.TheVariants.{Refused, Disk}
use Rattle.lis_store.specs.Contents.{ContentTorn, IsRenewed, Renews, ContentPut, ContentGiven, ContentRenewed}
use Rattle.lis_store.specs.Contents.Trades.{First, Last}
use Rattle.lis_journal.specs.declared.layout.Layout.{Layout}
use Rattle.lis_kept.proofs.Image.{same_layout}
use Rattle.lis_model.specs.Image.{bitmap_blocks}
use Rattle.lis_store.proofs.Housed.{free_number}
use Rattle.lis_store.proofs.Marks.{taken_after}
use Rattle.lis_kept.proofs.BitmapMarks.{home_among, marked_both, few_in_bitmap}

-- ---- images
-- what is kept in placed blocks does not count
pub stands_same : (layout : Layout) (placed : List ℕ) (kept was : ℕ → List ℕ) (image : List ℕ) → ((n : ℕ) → is_among placed n ≡ false → kept n ≡ was n)
    → StandsBut layout placed kept image → StandsBut layout placed was image
unfolding StandsBut
stands_same layout placed kept was image same but = search (rules)

-- blocks that are placed among the homes of these
pub stands_homes : (layout : Layout) (base : ℕ) (placed some : List ℕ) (kept : ℕ → List ℕ) (image : List ℕ) → ((n : ℕ) → is_among placed n ≡ true → has_home base some n ≡ true)
    → StandsBut layout placed kept image → StandsBut layout (homes_of base some) kept image
stands_homes layout base placed some kept image homes but = search (rules, stands_less, false_from_ne_true, both_ways, among_homes)

-- if nothing is placed, an image represents what is kept
unplaced_stands : (journal : Held) {m : Meaning} {kept : ℕ → List ℕ} (more : List ℕ) → journal.placed ≡ [] → Fits journal m kept → (image : List ℕ) → m.images image → StandsBut journal.layout more kept image
unplaced_stands journal {m} {kept} more none fits image is =
    stands_less journal.layout journal.placed more kept image (λ n absent. ap (λ ns. is_among ns n) none) (fits_but journal fits image is)

-- ---- blocks are taken, once or twice
-- the block of the bitmap that has the bit of a taken block is marked
marked_bitmap : (p q : Metadata) → AreSound p → (bs : List ℕ) (ts : List Bool) → Takes bs ts p q → IsTrue (are_free p.taken bs) → (n : ℕ) → has_number bs n ≡ true → is_marked q (bitmap_home p.limits n) ≡ true
marked_bitmap p q sound bs ts takes free n has =
    let below : n < p.limits.blocks = omega (arith, (free_number p.taken bs n free has).0, sound.blocks) in
    let homes = bitmap_homes p.limits bs in
    let home = bitmap_home p.limits n in
    let among = home_among p.limits bs n (among_from_number bs n has) below in
    ap (λ (x : Metadata). is_marked x home) takes.metadata
    ∙ (taken_after p.marks homes home (omega (arith, sound.marks, below))
    ∙ ap (λ b. b || is_marked p home) (number_from_among homes home among))

module _ (p mid q : Metadata) (sound : AreSound p) (bs cs : List ℕ) (ts us : List Bool) (one : Takes bs ts p mid) (two : Takes cs us mid q) where
  pub twice_metadata : q ≡ record p { taken = q.taken; marks = q.marks }
  twice_metadata = search (rules)

  -- no more than the bitmap is marked
  twice_few : marked_count q ≤ marked_count p + bitmap_blocks p.limits
  twice_few =
      let C : List Bool → ℕ = λ marks. count_by (λ (b : Bool). b) marks in
      let are : q.marks ≡ marked p.marks (bitmap_homes p.limits (bs ++ cs)) =
      ap (λ (x : Metadata). x.marks) two.metadata
      ∙ (ap (λ (x : Metadata). marked x.marks (bitmap_homes x.limits cs)) one.metadata ∙ marked_both p.limits p.marks bs cs) in
      omega (arith, ap C are, few_in_bitmap p.limits p.marks (bs ++ cs))

  pub twice_marks : Marks (bitmap_blocks p.limits) p q
  twice_marks = record { saved = λ at saved. two.marks.saved at (one.marks.saved at saved); few = twice_few }

  pub twice_bitmap : IsTrue (are_free p.taken bs) → (n : ℕ) → has_number bs n ≡ true → is_marked q (bitmap_home p.limits n) ≡ true
  twice_bitmap free n has =
      ap (λ (x : Metadata). is_marked x (bitmap_home p.limits n)) two.metadata
      ∙ stays_marked mid.marks (bitmap_homes mid.limits cs) (bitmap_home p.limits n) (marked_bitmap p mid sound bs ts one free n has)

-- ---- no blocks are freed
pub renews_alone : (p q : Metadata) (bytes numbers : List ℕ) (old new : Held) (before after : Meaning) → AreSound p → Puts bytes numbers p q old new before after → Renews bytes numbers None p q old new before after
renews_alone p q bytes numbers old new before after sound puts = record {
  metadata = subst (λ (x : Metadata). x ≡ record p { taken = x.taken; marks = x.marks }) (sym puts.takes.metadata) refl;
  marks = puts.takes.marks;
  in_form = puts.in_form;
  below = puts.below;
  image = puts.image;
  broken = puts.broken;
  few_staged = puts.few_staged;
  unplaced = puts.unplaced;
  spare = puts.blocks;
  were_free = puts.fills.were_free;
  placed = puts.placed;
  bitmap = marked_bitmap p q sound puts.blocks (marked p.taken puts.blocks) puts.takes puts.fills.were_free;
  moments = puts.moments;
  past = puts.fills.past;
  blocks = puts.blocks;
  distinct = puts.fills.distinct;
  renewed = λ kept fits. record { lands = puts.lands kept fits; stays = puts.stays kept fits; trades = Last puts.fills.were_free (ap (λ (x : Metadata). x.taken) puts.takes.metadata) };
}

pub put_alone : (p q : Metadata) (bytes : List ℕ) (old new : Held) (before after : Meaning) (result : Result (ArrayVec ℕ) ChangeFault) → AreSound p → ContentPut bytes p q old new before after result
    → ContentRenewed bytes None p q old new before after result
put_alone p q bytes old new before after result sound puts = search (rules, renews_alone)

-- ---- the blocks of the other file are freed first
module _ (p q : Metadata) (ts ms : List Bool) (rec : FileRecord) (bytes numbers : List ℕ) (old new : Held) (before asked after : Meaning) (sound : AreSound p) (unplaced : old.placed ≡ []) (small : is_large (length bytes) ≡ false)
    (gives : GivesBack rec p (record p { taken = ts; marks = ms }) old before) (asks : Asks old before asked) (puts : Puts bytes numbers (record p { taken = ts; marks = ms }) q old new asked after) where
  abbrev freed : Metadata
  freed = record p { taken = ts; marks = ms }

  none_placed : new.placed ≡ []
  none_placed = puts.unplaced small

  pub first_moments : (kept : ℕ → List ℕ) → Fits old before kept → Leaves before after (StandsBut old.layout new.placed kept)
  first_moments kept fits =
      leaves_then (leaves_weaken (StandsBut old.layout new.placed kept) (asks.reads.moments fits.honest) (unplaced_stands old new.placed unplaced fits)) (puts.moments kept (asks.fits kept fits))

  pub first_past : (kept : ℕ → List ℕ) → Fits old before kept → KeepsPast old.layout.blocks before after
  first_past kept fits n le = puts.fills.past kept (asks.fits kept fits) n le ∙ ap (block n) (asks.reads.same fits.honest).bytes

  first_renewed : (kept : ℕ → List ℕ) → Fits old before kept → IsRenewed bytes numbers puts.blocks (Some rec) p q kept old new after
  first_renewed kept fits =
      let asked_fits = asks.fits kept fits in
      record {
        lands = puts.lands kept asked_fits;
        stays = puts.stays kept asked_fits;
        trades =
            let gave = ap (given p.taken) (gives.told kept fits) in
            let freed_are : ts ≡ given p.taken (blocks_told p.limits (looked old.staged kept) rec) = ap (λ (x : Metadata). x.taken) gives.takes.metadata ∙ gave in
            First (subst (λ xs. IsTrue (are_free xs puts.blocks)) freed_are puts.fills.were_free) (ap (λ (x : Metadata). x.taken) puts.takes.metadata ∙ ap (λ xs. marked xs puts.blocks) freed_are);
      }

  pub renews_first : Renews bytes numbers (Some rec) p q old new before after
  renews_first = record {
    metadata = twice_metadata p freed q sound gives.blocks puts.blocks (given p.taken gives.blocks) (marked ts puts.blocks) gives.takes puts.takes;
    marks = twice_marks p freed q sound gives.blocks puts.blocks (given p.taken gives.blocks) (marked ts puts.blocks) gives.takes puts.takes;
    in_form = puts.in_form;
    below = puts.below;
    image = puts.image;
    broken = puts.broken;
    few_staged = puts.few_staged;
    unplaced = puts.unplaced;
    spare = [];
    were_free = refl;
    placed = λ n among. absurd (both_ways (is_among new.placed n) (ap (λ ns. is_among ns n) none_placed) among);
    bitmap = λ n has. absurd (both_ways (has_number [] n) refl has);
    moments = first_moments;
    past = first_past;
    blocks = puts.blocks;
    distinct = puts.fills.distinct;
    renewed = first_renewed;
  }

-- ---- and last
module _ (p : Metadata) (ts ms : List Bool) (bytes numbers : List ℕ) (old new : Held) (before placed after : Meaning) (sound : AreSound p)
    (puts : Puts bytes numbers p (record p { taken = ts; marks = ms }) old new before placed) (asks : Asks new placed after) where
  abbrev put : Metadata
  put = record p { taken = ts; marks = ms }

  -- what is read leaves the images as they are then
  asked_stands : (kept : ℕ → List ℕ) → Fits old before kept → (image : List ℕ) → placed.images image → StandsBut old.layout new.placed kept image
  asked_stands kept fits image is =
      let lands = puts.lands kept fits in
      stands_same old.layout new.placed lands.kept kept image (puts.stays kept fits)
      (subst (λ l. StandsBut l new.placed lands.kept image) (same_layout puts.image) (fits_but new lands.fits image is))

  last_moments : (kept : ℕ → List ℕ) → Fits old before kept → Leaves before after (StandsBut old.layout new.placed kept)
  last_moments kept fits =
      leaves_then (puts.moments kept fits) (leaves_weaken (StandsBut old.layout new.placed kept) (asks.reads.moments (puts.lands kept fits).fits.honest) (asked_stands kept fits))

  last_past : (kept : ℕ → List ℕ) → Fits old before kept → KeepsPast old.layout.blocks before after
  last_past kept fits n le = ap (block n) (asks.reads.same (puts.lands kept fits).fits.honest).bytes ∙ puts.fills.past kept fits n le

  -- the blocks are then not freed
  pub torn_last : ContentTorn bytes p put old new before after
  torn_last = by (is_large (length bytes)) refl
    where
      torn : (spare : List ℕ) → are_free p.taken spare ≡ true → (is_large (length bytes) ≡ false → spare ≡ []) → ((n : ℕ) → is_among new.placed n ≡ true → has_home (data_start p.limits) spare n ≡ true)
          → ContentTorn bytes p put old new before after
      torn spare free small homes = record {
        metadata = refl;
        image = puts.image;
        spare = spare;
        were_free = free;
        small = small;
        moments = λ kept fits.
            leaves_weaken (StandsBut old.layout (homes_of (data_start p.limits) spare) kept) (last_moments kept fits) (λ image but.
            stands_homes old.layout (data_start p.limits) new.placed spare kept image homes but);
        past = last_past;
      }

      by : (b : Bool) → is_large (length bytes) ≡ b → ContentTorn bytes p put old new before after
      by true large = torn puts.blocks puts.fills.were_free (λ small. absurd (both_ways (is_large (length bytes)) small large)) puts.placed
      by false small = torn [] refl (λ _. refl) (λ n among. absurd (both_ways (is_among new.placed n) (ap (λ ns. is_among ns n) (puts.unplaced small)) among))

  module _ (q : Metadata) (rec : FileRecord) (gives : GivesBack rec put q new placed) where
    last_renewed : (kept : ℕ → List ℕ) → Fits old before kept → IsRenewed bytes numbers puts.blocks (Some rec) p q kept old new after
    last_renewed kept fits =
        let landed = puts.lands kept fits in
        record {
          lands = record { kept = landed.kept; fits = asks.fits landed.kept landed.fits; same = landed.same; holds = landed.holds };
          stays = puts.stays kept fits;
          trades =
              Last puts.fills.were_free
              (ap (λ (x : Metadata). x.taken) gives.takes.metadata
              ∙ (ap (given ts) (gives.told landed.kept landed.fits)
              ∙ ap (λ xs. given xs (blocks_told p.limits (looked new.staged landed.kept) rec)) (ap (λ (x : Metadata). x.taken) puts.takes.metadata)));
        }

    pub renews_last : Renews bytes numbers (Some rec) p q old new before after
    renews_last =
        let freed = given ts gives.blocks in
        record {
          metadata = twice_metadata p put q sound puts.blocks gives.blocks (marked p.taken puts.blocks) freed puts.takes gives.takes;
          marks = twice_marks p put q sound puts.blocks gives.blocks (marked p.taken puts.blocks) freed puts.takes gives.takes;
          in_form = puts.in_form;
          below = puts.below;
          image = puts.image;
          broken = puts.broken;
          few_staged = puts.few_staged;
          unplaced = puts.unplaced;
          spare = puts.blocks;
          were_free = puts.fills.were_free;
          placed = puts.placed;
          bitmap = twice_bitmap p put q sound puts.blocks gives.blocks (marked p.taken puts.blocks) freed puts.takes gives.takes puts.fills.were_free;
          moments = last_moments;
          past = last_past;
          blocks = puts.blocks;
          distinct = puts.fills.distinct;
          renewed = last_renewed;
        }

-- ---- the blocks are not freed at all
pub torn_first : (bytes : List ℕ) (p : Metadata) (old : Held) (before after : Meaning) → old.placed ≡ [] → Asks old before after → ContentTorn bytes p p old old before after
torn_first bytes p old before after unplaced asks = search (rules, leaves_weaken, unplaced_stands)

-- ---- the same, over what memory keeps in between
pub renews_given : (p mid q : Metadata) (rec : FileRecord) (bytes numbers : List ℕ) (old new : Held) (before asked after : Meaning) → AreSound p → old.placed ≡ [] → is_large (length bytes) ≡ false
    → GivesBack rec p mid old before → Asks old before asked → Puts bytes numbers mid q old new asked after → Renews bytes numbers (Some rec) p q old new before after
renews_given p mid q rec bytes numbers old new before asked after sound unplaced small gives asks puts =
    let P : Metadata → Type 0 = λ x. GivesBack rec p x old before → Puts bytes numbers x q old new asked after → Renews bytes numbers (Some rec) p q old new before after in
    subst P (sym gives.takes.metadata)
    (λ gave put. renews_first p q (given p.taken gives.blocks) (marked p.marks (bitmap_homes p.limits gives.blocks)) rec bytes numbers old new before asked after sound unplaced small gave asks put) gives puts

pub renews_placed : (p mid q : Metadata) (rec : FileRecord) (bytes numbers : List ℕ) (old new : Held) (before placed after : Meaning) → AreSound p
    → Puts bytes numbers p mid old new before placed → GivesBack rec mid q new placed → Asks new placed after → Renews bytes numbers (Some rec) p q old new before after
renews_placed p mid q rec bytes numbers old new before placed after sound puts gives asks =
    let P : Metadata → Type 0 = λ x. Puts bytes numbers p x old new before placed → GivesBack rec x q new placed → Renews bytes numbers (Some rec) p q old new before after in
    subst P (sym puts.takes.metadata)
    (λ put gave. renews_last p (marked p.taken puts.blocks) (marked p.marks (bitmap_homes p.limits puts.blocks)) bytes numbers old new before placed after sound put asks q rec gave) puts gives

pub torn_placed : (p mid q : Metadata) (bytes numbers : List ℕ) (old new : Held) (before placed after : Meaning) → AreSound p
    → Puts bytes numbers p mid old new before placed → q ≡ mid → Asks new placed after → ContentTorn bytes p q old new before after
torn_placed p mid q bytes numbers old new before placed after sound puts same asks =
    let P : Metadata → Type 0 = λ x. Puts bytes numbers p x old new before placed → ContentTorn bytes p x old new before after in
    let T : Metadata → Type 0 = λ x. ContentTorn bytes p x old new before after in
    subst T (sym same) (subst P (sym puts.takes.metadata) (λ put. torn_last p (marked p.taken puts.blocks) (marked p.marks (bitmap_homes p.limits puts.blocks)) bytes numbers old new before placed after sound put asks) puts)

-- ---- how it ends
pub lost_last : (T : Type 0) (p mid q : Metadata) (rec : FileRecord) (bytes numbers : List ℕ) (old new : Held) (before placed after : Meaning) (change : ChangeFault) (result : Result (ArrayVec ℕ) ChangeFault) → AreSound p
    → Puts bytes numbers p mid old new before placed → ContentGiven {T = T} rec mid q new placed after (Err change) → result ≡ Err change → ContentRenewed bytes (Some rec) p q old new before after result
lost_last T p mid q rec bytes numbers old new before placed after change result sound puts gave ends =
    subst (λ r. ContentRenewed bytes (Some rec) p q old new before after r) (sym ends) (by change gave)
  where
    by : (x : ChangeFault) → ContentGiven {T = T} rec mid q new placed after (Err x) → ContentRenewed bytes (Some rec) p q old new before after (Err x)
    by (Refused refusal) never = never
    by Disk lost = torn_placed p mid q bytes numbers old new before placed after sound puts lost.0 lost.1

pub lost_first : (T : Type 0) (p q : Metadata) (rec : FileRecord) (bytes : List ℕ) (old : Held) (before after : Meaning) (change : ChangeFault) (result : Result (ArrayVec ℕ) ChangeFault) → old.placed ≡ []
    → ContentGiven {T = T} rec p q old before after (Err change) → result ≡ Err change → ContentRenewed bytes (Some rec) p q old old before after result
lost_first T p q rec bytes old before after change result unplaced gave ends = search (rules, torn_first)

-- a put of a content that is not large never fails
pub put_last : (p mid q : Metadata) (rec : FileRecord) (bytes : List ℕ) (old new : Held) (before asked after : Meaning) (result : Result (ArrayVec ℕ) ChangeFault) → AreSound p → old.placed ≡ [] → is_large (length bytes) ≡ false
    → GivesBack rec p mid old before → Asks old before asked → ContentPut bytes mid q old new asked after result → OnErr result (is_large (length bytes) ≡ true) → ContentRenewed bytes (Some rec) p q old new before after result
put_last p mid q rec bytes old new before asked after result sound unplaced small gives asks put torn = by result put torn
  where
    by : (r : Result (ArrayVec ℕ) ChangeFault) → ContentPut bytes mid q old new asked after r → OnErr r (is_large (length bytes) ≡ true) → ContentRenewed bytes (Some rec) p q old new before after r
    by (Ok numbers) puts none = renews_given p mid q rec bytes numbers.items old new before asked after sound unplaced small gives asks puts
    by (Err (Refused refusal)) never none = never
    by (Err Disk) lost large = absurd (both_ways (is_large (length bytes)) small large)
