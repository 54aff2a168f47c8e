-- The layout of the versions 1 and 2, with 576 blocks of records: there each word is what it was when a header had one block and at
-- most 575 homes.
use Rattle.std.proofs.Common.{◌≡◌, ◌⊎◌, inl, inr, ℕ, zero, suc, ◌+◌, ◌*◌, ◌<◌, ◌≤◌, ◌==◌, nat_lt, nat_le, Bool, true, false, cond, ◌&&◌, List, [], ◌++◌, drop, Option, Some, None, is_some, refl, sym, ◌∙◌, ap, arith}
use Rattle.std.specs.List.{list_all}
use Rattle.std.proofs.lemmas.Bool.{le-leb, lt-leb, cases_lt}
use Rattle.lis_ports.specs.Bytes.{part}
use Rattle.lis_journal.specs.declared.layout.Layout.{Layout}
use Rattle.lis_journal.specs.Record.{block, has_open, open_count, HomeBlock, count_of, homes_of, rises, is_header, header_blocks, record_len, count_at, header_at, record_end, is_record, entries_from, recorded, first_bad, all_recorded, apply, bad_record, replayed, recovered_as, recovered}
use Rattle.lis_journal.proofs.Headers.{count-part}
use Rattle.lis_journal.proofs.Series.{first_good}

-- ---- as it was
abbrev pub was_header : ℕ → List ℕ → Bool
was_header blocks header =
    nat_lt 0 (count_of header) && nat_le (count_of header) 575 && rises blocks 577 (homes_of header) && list_all (λ b. b == 0) (drop (4 * (count_of header + 1)) header)

abbrev pub was_end : ℕ → List ℕ → ℕ
was_end b image = b + count_of (block b image) + 1

abbrev pub was_record : ℕ → ℕ → List ℕ → Bool
was_record blocks b image = was_header blocks (block b image) && nat_le (was_end b image) 578

abbrev pub was_recorded : ℕ → List ℕ → List HomeBlock
was_recorded b image = entries_from (b + 1) (homes_of (block b image)) image

abbrev pub was_bad : ℕ → ℕ → ℕ → List ℕ → Option ℕ
was_bad blocks b zero image = None
was_bad blocks b (suc n) image = cond (was_record blocks b image) (was_bad blocks (was_end b image) n image) (Some b)

abbrev pub was_all : ℕ → ℕ → List ℕ → List HomeBlock
was_all b zero image = []
was_all b (suc n) image = was_recorded b image ++ was_all (was_end b image) n image

abbrev pub was_replayed : ℕ → List ℕ → Option (List ℕ)
was_replayed blocks image =
    cond (is_some (was_bad blocks 2 (open_count image) image)) None (Some (apply (was_all 2 (open_count image) image) image))

abbrev pub was_recovered : ℕ → List ℕ → List ℕ
was_recovered blocks image = cond (has_open image) (recovered_as image (was_replayed blocks image)) image

-- ---- as it is
abbrev pub of_576 : ℕ → Layout
of_576 blocks = record { records = 576; blocks = blocks }

count-was : (b : ℕ) (image : List ℕ) → count_at b image ≡ count_of (block b image)
count-was b image = sym (count-part b 4096 image (omega arith))

one_block : (c : ℕ) → c ≤ 575 → header_blocks c ≡ 1
one_block c le = omega (arith, le)

header-was : (b : ℕ) (image : List ℕ) → count_at b image ≤ 575 → header_at b image ≡ block b image
header-was b image le = ap (λ n. part (4096 * b) (4096 * n) image) (one_block (count_at b image) le)

end-was : (b : ℕ) (image : List ℕ) → count_at b image ≤ 575 → record_end b image ≡ was_end b image
unfolding record_end
end-was b image le = omega (arith, le, count-was b image)

recorded-was : (b : ℕ) (image : List ℕ) → count_at b image ≤ 575 → recorded b image ≡ was_recorded b image
unfolding recorded
recorded-was b image le =
    ap (λ n. entries_from (b + n) (homes_of (header_at b image)) image) (one_block (count_at b image) le)
    ∙ ap (λ header. entries_from (b + 1) (homes_of header) image) (header-was b image le)

and_true : (a : Bool) → (a && true) ≡ a
and_true true = refl
and_true false = refl

and_false : (a : Bool) → (a && false) ≡ false
and_false true = refl
and_false false = refl

record-was : (blocks b : ℕ) (image : List ℕ) → 2 ≤ b → is_record (of_576 blocks) b image ≡ was_record blocks b image
unfolding is_record record_end
record-was blocks b image low = by (cases_lt 575 (count_at b image))
  where
    h : List ℕ
    h = block b image

    rest : Bool
    rest = rises blocks 577 (homes_of h)

    zeros : Bool
    zeros = list_all (λ b. b == 0) (drop (4 * (count_of h + 1)) h)

    by : (575 < count_at b image) ⊎ (count_at b image ≤ 575) → is_record (of_576 blocks) b image ≡ was_record blocks b image
    by (inr le) =
        let few : nat_le (count_of h) 575 ≡ true = le-leb (count_of h) 575 (omega (arith, le, count-was b image)) in
        let end : b + record_len (count_at b image) ≡ was_end b image = omega (arith, le, count-was b image) in
        ap (λ header. is_header (of_576 blocks) header && nat_le (b + record_len (count_at b image)) 578) (header-was b image le)
        ∙ (ap (λ end. is_header (of_576 blocks) h && nat_le end 578) end
        ∙ ap (λ some. some && rest && zeros && nat_le (was_end b image) 578) (sym (and_true (nat_lt 0 (count_of h))) ∙ ap (λ few. nat_lt 0 (count_of h) && few) (sym few)))
    by (inl lt) =
        let many : nat_le (count_of h) 575 ≡ false = lt-leb (count_of h) 575 (omega (arith, lt, count-was b image)) in
        let far : nat_le (b + record_len (count_at b image)) 578 ≡ false = lt-leb (b + record_len (count_at b image)) 578 (omega (arith, lt, low)) in
        ap (λ f. is_header (of_576 blocks) (header_at b image) && f) far
        ∙ (and_false (is_header (of_576 blocks) (header_at b image))
        ∙ ap (λ f. f && rest && zeros && nat_le (was_end b image) 578) (sym (and_false (nat_lt 0 (count_of h))) ∙ ap (λ few. nat_lt 0 (count_of h) && few) (sym many)))

-- a well-formed record has at most 575 homes
few_homes : (blocks b : ℕ) (image : List ℕ) → 2 ≤ b → is_record (of_576 blocks) b image ≡ true → count_at b image ≤ 575
unfolding is_record record_end
few_homes blocks b image low form = elim (cases_lt 575 (count_at b image)) as (λ _. count_at b image ≤ 575) [
  | inr le ↦ le
  | inl lt ↦
      let far : nat_le (b + record_len (count_at b image)) 578 ≡ false = lt-leb (b + record_len (count_at b image)) 578 (omega (arith, lt, low)) in
      let not : false ≡ true = sym (and_false (is_header (of_576 blocks) (header_at b image))) ∙ (ap (λ f. is_header (of_576 blocks) (header_at b image) && f) (sym far) ∙ form) in
      cc
]

pub bad-was : (blocks b n : ℕ) (image : List ℕ) → 2 ≤ b → first_bad (of_576 blocks) b n image ≡ was_bad blocks b n image
bad-was blocks b zero image low = refl
bad-was blocks b (suc n) image low = by (is_record (of_576 blocks) b image) refl (λ more. bad-was blocks (was_end b image) n image more)
  where
    by : (f : Bool) → is_record (of_576 blocks) b image ≡ f → (2 ≤ was_end b image → first_bad (of_576 blocks) (was_end b image) n image ≡ was_bad blocks (was_end b image) n image) → first_bad (of_576 blocks) b (suc n) image ≡ was_bad blocks b (suc n) image
    by true is rest =
        let le = few_homes blocks b image low is in
        let end = end-was b image le in
        ap (λ f. cond f (first_bad (of_576 blocks) (record_end b image) n image) (Some b)) is
        ∙ (ap (λ e. first_bad (of_576 blocks) e n image) end
        ∙ (rest (omega (arith, low))
        ∙ ap (λ f. cond f (was_bad blocks (was_end b image) n image) (Some b)) (sym is ∙ record-was blocks b image low)))
    by false is rest =
        ap (λ f. cond f (first_bad (of_576 blocks) (record_end b image) n image) (Some b)) is
        ∙ ap (λ f. cond f (was_bad blocks (was_end b image) n image) (Some b)) (sym is ∙ record-was blocks b image low)

pub all-was : (blocks b n : ℕ) (image : List ℕ) → 2 ≤ b → first_bad (of_576 blocks) b n image ≡ None → all_recorded b n image ≡ was_all b n image
all-was blocks b zero image low good = refl
all-was blocks b (suc n) image low good =
    let parts = first_good (of_576 blocks) b n image good in
    let le = few_homes blocks b image low parts.0 in
    let end = end-was b image le in
    let more : 2 ≤ record_end b image = omega (arith, low, end) in
    ap (λ es. es ++ all_recorded (record_end b image) n image) (recorded-was b image le)
    ∙ ap (λ es. was_recorded b image ++ es) (all-was blocks (record_end b image) n image more parts.1 ∙ ap (λ e. was_all e n image) end)

pub replayed-was : (blocks : ℕ) (image : List ℕ) → replayed (of_576 blocks) image ≡ was_replayed blocks image
unfolding replayed bad_record
replayed-was blocks image = by (first_bad (of_576 blocks) 2 m image) refl
  where
    m : ℕ
    m = open_count image

    by : (bad : Option ℕ) → first_bad (of_576 blocks) 2 m image ≡ bad → cond (is_some (first_bad (of_576 blocks) 2 m image)) None (Some (apply (all_recorded 2 m image) image)) ≡ was_replayed blocks image
    by None is =
        ap (λ bad. cond (is_some bad) None (Some (apply (all_recorded 2 m image) image))) (bad-was blocks 2 m image (omega arith))
        ∙ ap (λ es. cond (is_some (was_bad blocks 2 m image)) None (Some (apply es image))) (all-was blocks 2 m image (omega arith) is)
    by (Some b) is =
        ap (λ bad. cond (is_some bad) None (Some (apply (all_recorded 2 m image) image))) is
        ∙ ap (λ bad. cond (is_some bad) None (Some (apply (was_all 2 m image) image))) (sym is ∙ bad-was blocks 2 m image (omega arith))

pub recovered-was : (blocks : ℕ) (image : List ℕ) → recovered (of_576 blocks) image ≡ was_recovered blocks image
unfolding recovered
recovered-was blocks image = ap (λ replay. cond (has_open image) (recovered_as image replay) image) (replayed-was blocks image)
