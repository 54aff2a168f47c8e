-- The blocks of a file that replaces another.
use Rattle.std.proofs.Common.{rules}
use Rattle.lis_store.proofs.Common.{None, Some, ◌≡◌, refl, sym, ap, ◌∙◌, ℕ, ◌+◌, ◌<◌, nat_lt, not, ◌&&◌, ◌||◌, Bool, true, false, List, [], length, IsTrue, arith, and_parts, ltb-true, not-true, Among, contains_from_among, is_taken, are_free, has_home, Filed, Limits, data_start, State, Metadata, AreSound, bytes_told, blocks_told, Tells, both_ways, false_from_ne_true, given, marked, are_distinct, has_number, all_among, among_from_number, number_from_among, and-true, common_steps}
use Rattle.lis_content.specs.Placing.{HasFile}
use Rattle.lis_content.proofs.Laying.{home_new}
use Rattle.lis_content.proofs.Numbers.{length-given}
use Rattle.lis_kept.proofs.Contents.{same_file}
use Rattle.lis_store.specs.Contents.{Trades}
use Rattle.lis_store.specs.Contents.Trades.{First, Last}
use Rattle.lis_store.proofs.Elsewhere.{numbers_counted}
use Rattle.lis_store.proofs.Given.{given_taken}
use Rattle.lis_store.proofs.Marks.{taken_after}

-- They were free or the other file's, and hold the bytes, as the numbers show; all other blocks hold what they held. Afterwards they are
-- taken, and so is what was taken for files that stay.
pub record IsHoused (limits : Limits) (taken now : List Bool) (old blocks bytes numbers : List ℕ) (at there : ℕ → List ℕ) : Type 0 where
  pub below : (n : ℕ) → has_number blocks n ≡ true → n < limits.blocks
  pub vacant : (n : ℕ) → has_number blocks n ≡ true → is_taken taken n ≡ true → has_number old n ≡ true
  pub distinct : IsTrue (are_distinct blocks)
  pub holds : HasFile limits.version (data_start limits) bytes numbers blocks there
  pub same : (n : ℕ) → has_home (data_start limits) blocks n ≡ false → there n ≡ at n
  pub marks : (n : ℕ) → n < limits.blocks → is_taken now n ≡ (has_number blocks n || (is_taken taken n && not (has_number old n)))

-- free blocks are blocks that are not taken
pub free_number : (taken : List Bool) (blocks : List ℕ) (n : ℕ) → are_free taken blocks ≡ true → has_number blocks n ≡ true → (n < length taken) × (is_taken taken n ≡ false)
free_number taken blocks n free has =
    let one = and_parts (nat_lt n (length taken)) (not (is_taken taken n))
    (all_among (λ i. nat_lt i (length taken) && not (is_taken taken i)) blocks n free (among_from_number blocks n has)) in
    (ltb-true n (length taken) one.0, not-true (is_taken taken n) one.1)

-- the same after the blocks of the other file are freed
pub housed_given : {limits : Limits} {taken now : List Bool} {old blocks bytes numbers : List ℕ} {at there : ℕ → List ℕ} → IsHoused limits taken now old blocks bytes numbers at there
    → IsHoused limits (given taken old) now [] blocks bytes numbers at there
housed_given {limits} {taken} {now} {old} {blocks} housed = grind (arith, common_steps, and_parts, given_taken, both_ways, and-true)

-- ---- bytes that are put into other blocks
module _ (limits : Limits) (taken mid now : List Bool) (old blocks bytes numbers : List ℕ) (at there : ℕ → List ℕ) (len : length taken ≡ limits.blocks) (distinct : are_distinct blocks ≡ true)
    (holds : HasFile limits.version (data_start limits) bytes numbers blocks there) (same : (n : ℕ) → has_home (data_start limits) blocks n ≡ false → there n ≡ at n) where
  -- if the blocks of the other file are freed first
  pub given_first : mid ≡ given taken old → are_free mid blocks ≡ true → now ≡ marked mid blocks → IsHoused limits taken now old blocks bytes numbers at there
  given_first gave free marks = record {
    below = λ n has. omega (arith, (free_number mid blocks n free has).0, mid_len, len);
    vacant = λ n has was. by (has_number old n) (sym (not_given n was) ∙ (free_number mid blocks n free has).1);
    distinct = distinct;
    holds = holds;
    same = same;
    marks = λ n lt.
        ap (λ ts. is_taken ts n) marks
        ∙ (taken_after mid blocks n (omega (arith, lt, mid_len, len))
        ∙ ap (λ t. has_number blocks n || t) (ap (λ ts. is_taken ts n) gave ∙ given_taken taken old n));
  }
    where
      mid_len : length mid ≡ length taken
      mid_len = ap length gave ∙ length-given taken old

      -- what was taken, and is not the other file's, still is
      not_given : (n : ℕ) → is_taken taken n ≡ true → is_taken mid n ≡ not (has_number old n)
      not_given n was = ap (λ ts. is_taken ts n) gave ∙ (given_taken taken old n ∙ ap (λ t. t && not (has_number old n)) was)

      by : (b : Bool) → not b ≡ false → b ≡ true
      by true is = refl
      by false is = absurd (both_ways true is refl)

  -- if they are freed last
  pub given_last : are_free taken blocks ≡ true → ((n : ℕ) → has_number old n ≡ true → is_taken taken n ≡ true) → mid ≡ marked taken blocks → now ≡ given mid old
      → IsHoused limits taken now old blocks bytes numbers at there
  given_last free held marked_then gave = record {
    below = λ n has. omega (arith, (free_number taken blocks n free has).0, len);
    vacant = λ n has was. absurd (both_ways (is_taken taken n) (free_number taken blocks n free has).1 was);
    distinct = distinct;
    holds = holds;
    same = same;
    marks = λ n lt.
        ap (λ ts. is_taken ts n) gave
        ∙ (given_taken mid old n
        ∙ (ap (λ t. t && not (has_number old n)) (ap (λ ts. is_taken ts n) marked_then ∙ taken_after taken blocks n (omega (arith, lt, len)))
        ∙ by (has_number blocks n) (is_taken taken n) (has_number old n) (none_old n)));
  }
    where
      none_old : (n : ℕ) → has_number blocks n ≡ true → has_number old n ≡ false
      none_old n has = false_from_ne_true (has_number old n) (λ here. both_ways (is_taken taken n) (free_number taken blocks n free has).1 (held n here))

      by : (b t o : Bool) → (b ≡ true → o ≡ false) → ((b || t) && not o) ≡ (b || (t && not o))
      by true t true none = absurd (both_ways true (none refl) refl)
      by true t false none = refl
      by false t o none = refl

-- ---- bytes that stay
module _ (k : Metadata) (at : ℕ → List ℕ) (s : State) (tells : Tells k at s) (f : Filed) (m : Among k.catalog.entries f) (bytes : List ℕ) (size : f.rec.size ≡ length bytes) (told : bytes_told k.limits at f.rec ≡ bytes) where
  abbrev base : ℕ
  base = data_start k.limits

  abbrev held : List ℕ
  held = blocks_told k.limits at f.rec

  given_here : (n : ℕ) → has_number held n ≡ true → (n < k.limits.blocks) × (is_taken k.taken n ≡ true)
  given_here = tells.given f (contains_from_among k.catalog.entries f m)

  pub stay_housed : IsHoused k.limits k.taken k.taken held held bytes f.rec.blocks at at
  stay_housed = search (rules, given_here, contains_from_among, both_ways)

-- ---- blocks that are freed and taken
module _ (k : Metadata) (sound : AreSound k) (at there : ℕ → List ℕ) (s : State) (tells : Tells k at s) (f : Filed) (m : Among k.catalog.entries f) (now : List Bool) (blocks bytes numbers : List ℕ) (distinct : are_distinct blocks ≡ true)
    (holds : HasFile k.limits.version (data_start k.limits) bytes numbers blocks there) (same : (n : ℕ) → has_home (data_start k.limits) blocks n ≡ false → there n ≡ at n) where
  abbrev old : List ℕ
  old = blocks_told k.limits at f.rec

  old_taken : (n : ℕ) → has_number old n ≡ true → is_taken k.taken n ≡ true
  old_taken n has = (tells.given f (contains_from_among k.catalog.entries f m) n has).1

  -- if the new blocks were free, the blocks of the file are what they were
  old_stays : are_free k.taken blocks ≡ true → blocks_told k.limits there f.rec ≡ old
  old_stays free =
      (same_file k.limits f.rec at there (numbers_counted k sound f m) (λ b among.
      same (data_start k.limits + b)
      (home_new (data_start k.limits) blocks b
      (false_from_ne_true (has_number blocks b) (λ has. both_ways (is_taken k.taken b) (free_number k.taken blocks b free has).1 (old_taken b (number_from_among old b among))))))).1

  pub trades_housed : Trades k.limits (Some f.rec) k.taken now blocks at there → IsHoused k.limits k.taken now old blocks bytes numbers at there
  trades_housed (First free marks) = given_first k.limits k.taken (given k.taken old) now old blocks bytes numbers at there sound.blocks distinct holds same refl free marks
  trades_housed (Last free gave) =
      given_last k.limits k.taken (marked k.taken blocks) now old blocks bytes numbers at there sound.blocks distinct holds same free old_taken refl (gave ∙ ap (given (marked k.taken blocks)) (old_stays free))

-- and if no file is replaced
pub alone_housed : (limits : Limits) (taken now : List Bool) (blocks bytes numbers : List ℕ) (at there : ℕ → List ℕ) → length taken ≡ limits.blocks → are_distinct blocks ≡ true
    → HasFile limits.version (data_start limits) bytes numbers blocks there → ((n : ℕ) → has_home (data_start limits) blocks n ≡ false → there n ≡ at n)
    → Trades limits None taken now blocks at there → IsHoused limits taken now [] blocks bytes numbers at there
alone_housed limits taken now blocks bytes numbers at there len distinct holds same (First free marks) = given_first limits taken taken now [] blocks bytes numbers at there len distinct holds same refl free marks
alone_housed limits taken now blocks bytes numbers at there len distinct holds same (Last free gave) =
    given_last limits taken (marked taken blocks) now [] blocks bytes numbers at there len distinct holds same free (λ n none. absurd (both_ways (has_number [] n) refl none)) refl gave
