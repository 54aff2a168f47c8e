-- What entries put into an image, block by block.
use Rattle.std.proofs.Common.{◌++◌, take, ◌≡◌, ◌⊎◌, ℕ, ◌+◌, ◌*◌, ◌<◌, ◌≤◌, Bool, true, false, cond, List, [], ◌∷◌, length, refl, sym, ◌∙◌, ap, subst, inl, inr, arith, eqb, get_or, zero, suc, nat_lt, ◌||◌, ◌==◌}
use Rattle.std.proofs.lemmas.Bool.{eqb-true, eqb-false, ne_eqb, cond-false, false≢true, cases_lt}
use Rattle.std.proofs.lemmas.List.{take_all}
use Rattle.std.proofs.Math.Seq.{take-add}
use Rattle.lis_ports.specs.Bytes.{part, put, Torn}
use Rattle.lis_ports.proofs.Parts.{Apart, length-put, part-put, part-put_other, part-torn, torn-put}
use Rattle.lis_journal.specs.Record.{block, HomeBlock, apply}
use Rattle.lis_journal.specs.Images.{look}
use Rattle.lis_journal.specs.Spreads.{IsClear, Touched}
use Rattle.lis_journal.specs.Staging.{with_entry, has_entry}

-- each entry is a block below this number
abbrev pub Within : ℕ → List HomeBlock → Type 0
Within blocks [] = Unit {0}
Within blocks (e ∷ es) = (e.home < blocks) × (length e.bytes ≡ 4096) × Within blocks es

-- different blocks have no byte in common
pub blocks-apart : (n h : ℕ) → eqb n h ≡ false → Apart (4096 * h) 4096 (4096 * n) 4096
blocks-apart n h differ = cases (cases_lt n h)
  where
    ne : n ≡ h → ⊥
    ne = eqb-false n h differ

    cases : (n < h) ⊎ (h ≤ n) → Apart (4096 * h) 4096 (4096 * n) 4096
    cases (inl lt) = inl (omega arith)
    cases (inr le) = inr (omega (arith, ne))

pub block-put : (n h : ℕ) (bytes image : List ℕ) → length bytes ≡ 4096 → 4096 * h + 4096 ≤ length image → block n (put image (4096 * h) bytes) ≡ cond (eqb n h) bytes (block n image)
block-put n h bytes image len fits = by (eqb n h) refl
  where
    fit : 4096 * h + length bytes ≤ length image
    fit = omega (arith, len, fits)

    by : (same : Bool) → eqb n h ≡ same → block n (put image (4096 * h) bytes) ≡ cond same bytes (block n image)
    by true is =
        let e : n ≡ h = eqb-true n h is in
        ap (λ k. part (4096 * k) 4096 (put image (4096 * h) bytes)) e
        ∙ (ap (λ m. part (4096 * h) m (put image (4096 * h) bytes)) (sym len) ∙ part-put image (4096 * h) bytes fit)
    by false is =
        part-put_other image (4096 * h) bytes fit (4096 * n) 4096
        (subst (λ m. Apart (4096 * h) m (4096 * n) 4096) (sym len) (blocks-apart n h is))

pub length-apply : (blocks : ℕ) (es : List HomeBlock) (image : List ℕ) → Within blocks es → 4096 * blocks ≤ length image → length (apply es image) ≡ length image
length-apply blocks [] image within long = refl
length-apply blocks (e ∷ es) image within long =
    let same = length-put image (4096 * e.home) e.bytes (omega (arith, within.0, within.1, long)) in
    length-apply blocks es (put image (4096 * e.home) e.bytes) within.2 (omega (arith, long, same)) ∙ same

-- a block of the image with the entries in their homes
pub block-apply : (blocks : ℕ) (es : List HomeBlock) (image : List ℕ) (n : ℕ) → Within blocks es → 4096 * blocks ≤ length image → block n (apply es image) ≡ look es n (block n image)
block-apply blocks [] image n within long = refl
block-apply blocks (e ∷ es) image n within long =
    let fits : 4096 * e.home + 4096 ≤ length image = omega (arith, within.0, long) in
    let same = length-put image (4096 * e.home) e.bytes (omega (arith, within.0, within.1, long)) in
    block-apply blocks es (put image (4096 * e.home) e.bytes) n within.2 (omega (arith, long, same))
    ∙ ap (look es n) (block-put n e.home e.bytes image within.1 fits)

-- Either an entry says what a block has, or the block is clear of all.
pub home_or_clear : (es : List HomeBlock) (n : ℕ) → ((old other : List ℕ) → look es n old ≡ look es n other) ⊎ (((old : List ℕ) → look es n old ≡ old) × IsClear es (4096 * n) 4096)
home_or_clear [] n = inr (λ old. refl, tt)
home_or_clear (e ∷ es) n = by (eqb n e.home) refl (home_or_clear es n)
  where
    by : (same : Bool) → eqb n e.home ≡ same → ((old other : List ℕ) → look es n old ≡ look es n other) ⊎ (((old : List ℕ) → look es n old ≡ old) × IsClear es (4096 * n) 4096)
        → ((old other : List ℕ) → look es n (cond same e.bytes old) ≡ look es n (cond same e.bytes other)) ⊎ (((old : List ℕ) → look es n (cond same e.bytes old) ≡ old) × IsClear (e ∷ es) (4096 * n) 4096)
    by same is (inl held) = inl (λ old other. held (cond same e.bytes old) (cond same e.bytes other))
    by true is (inr clear) = inl (λ old other. refl)
    by false is (inr clear) = inr (clear.0, (blocks-apart n e.home is, clear.1))

-- each entry has a home block, and those begin at this one
abbrev pub AtHome : ℕ → List HomeBlock → Type 0
AtHome start [] = Unit {0}
AtHome start (e ∷ es) = (start ≤ e.home) × AtHome start es

-- what ends before the home blocks is clear of all of them
pub homes_clear : (start : ℕ) (es : List HomeBlock) (at n : ℕ) → at + n ≤ 4096 * start → AtHome start es → IsClear es at n
homes_clear start [] at n le home = tt
homes_clear start (e ∷ es) at n le home = (inl (omega (arith, le, home.0)), homes_clear start es at n le home.1)

pub clear_at : (es : List HomeBlock) (k : ℕ) (d : HomeBlock) (at n : ℕ) → k < length es → IsClear es at n → Apart (4096 * (get_or es k d).home) 4096 at n
clear_at [] k d at n lt clear = absurd (omega arith)
clear_at (e ∷ es) zero d at n lt clear = clear.0
clear_at (e ∷ es) (suc k) d at n lt clear = let less : k < length es = omega (arith, lt) in clear_at es k d at n less clear.1

pub touched_refl : (es : List HomeBlock) (image : List ℕ) → Touched es image image
touched_refl es image = record { len = refl; clear = λ at n clear. refl }

pub touched_trans : (es : List HomeBlock) (x y z : List ℕ) → Touched es x y → Touched es y z → Touched es x z
touched_trans es x y z xy yz = record {
  len = yz.len ∙ xy.len;
  clear = λ at n clear. yz.clear at n clear ∙ xy.clear at n clear;
}

-- a torn block of an entry touches only the entries' blocks
pub touched_torn : (es : List HomeBlock) (k : ℕ) (d : HomeBlock) → k < length es → (from image : List ℕ) → Torn (4096 * (get_or es k d).home) 4096 from image → Touched es from image
touched_torn es k d lt from image torn = record {
  len = torn.len;
  clear = λ at n clear. part-torn (4096 * (get_or es k d).home) 4096 from image torn at n (clear_at es k d at n lt clear);
}

-- lists of one length with the same blocks are one
by_blocks : (xs ys : List ℕ) → length xs ≡ length ys → ((n : ℕ) → block n xs ≡ block n ys) → xs ≡ ys
by_blocks xs ys len same =
    sym (take_all (4096 * length xs) xs (omega arith)) ∙ (fronts (length xs) ∙ take_all (4096 * length xs) ys (omega (arith, len)))
  where
    fronts : (k : ℕ) → take (4096 * k) xs ≡ take (4096 * k) ys
    fronts zero = refl
    fronts (suc k) =
        let more : 4096 * suc k ≡ 4096 * k + 4096 = omega arith in
        ap (λ n. take n xs) more
        ∙ (take-add (4096 * k) 4096 xs
        ∙ (ap (λ front. front ++ block k xs) (fronts k)
        ∙ (ap (λ b. take (4096 * k) ys ++ b) (same k)
        ∙ (sym (take-add (4096 * k) 4096 ys) ∙ ap (λ n. take n ys) (sym more)))))

-- entries that look alike write the same image
pub apply_alike : (blocks : ℕ) (es fs : List HomeBlock) (image : List ℕ) → Within blocks es → Within blocks fs → 4096 * blocks ≤ length image → ((n : ℕ) (old : List ℕ) → look es n old ≡ look fs n old) → apply es image ≡ apply fs image
apply_alike blocks es fs image within_es within_fs long alike =
    by_blocks (apply es image) (apply fs image)
    (length-apply blocks es image within_es long ∙ sym (length-apply blocks fs image within_fs long))
    (λ n. block-apply blocks es image n within_es long ∙ (alike n (block n image) ∙ sym (block-apply blocks fs image n within_fs long)))

clear_rest : (e : HomeBlock) (es : List HomeBlock) (x y : List ℕ) → Touched es x y → Touched (e ∷ es) x y
clear_rest e es x y touched = record { len = touched.len; clear = λ at n clear. touched.clear at n clear.1 }

-- the entries in their homes touch only the entries' blocks
pub touched_apply : (blocks : ℕ) (es : List HomeBlock) (image : List ℕ) → Within blocks es → 4096 * blocks ≤ length image → Touched es image (apply es image)
touched_apply blocks [] image within long = touched_refl [] image
touched_apply blocks (e ∷ es) image within long =
    let next = put image (4096 * e.home) e.bytes in
    let fits : 4096 * e.home + length e.bytes ≤ length image = omega (arith, within.0, within.1, long) in
    let torn : Torn (4096 * e.home) 4096 image next = subst (λ n. Torn (4096 * e.home) n image next) within.1 (torn-put image (4096 * e.home) e.bytes fits) in
    touched_trans (e ∷ es) image next (apply es next)
    (touched_torn (e ∷ es) 0 e (omega arith) image next torn)
    (clear_rest e es next (apply es next) (touched_apply blocks es next within.2 (omega (arith, long, torn.len))))

pub length-look : (blocks : ℕ) (es : List HomeBlock) (n : ℕ) (old : List ℕ) → Within blocks es → length old ≡ 4096 → length (look es n old) ≡ 4096
length-look blocks [] n old within len = len
length-look blocks (e ∷ es) n old within len = length-look blocks es n (cond (n == e.home) e.bytes old) within.2 (by (n == e.home) within.1)
  where
    by : (same : Bool) → length e.bytes ≡ 4096 → length (cond same e.bytes old) ≡ 4096
    by true whole = whole
    by false whole = len

pub look-past : (blocks n : ℕ) (es : List HomeBlock) (old : List ℕ) → Within blocks es → blocks ≤ n → look es n old ≡ old
look-past blocks n [] old within le = refl
look-past blocks n (e ∷ es) old within le =
    let ne : n ≡ e.home → ⊥ = λ same. absurd (omega (arith, same, within.0, le)) in
    ap (look es n) (cond-false (n == e.home) e.bytes old (ne_eqb n e.home ne)) ∙ look-past blocks n es old within.2 le

-- of two tests that fail together, each fails
pub neither : (a b : Bool) → (a || b) ≡ false → (a ≡ false) × (b ≡ false)
neither true b e = absurd (false≢true (sym e))
neither false b e = (refl, e)

-- a block that is not staged has what was there
pub look-absent : (es : List HomeBlock) (n : ℕ) (old : List ℕ) → has_entry es n ≡ false → look es n old ≡ old
look-absent [] n old absent = refl
look-absent (e ∷ es) n old absent =
    let parts = neither (e.home == n) (has_entry es n) absent in
    let ne : n ≡ e.home → ⊥ = λ same. eqb-false e.home n parts.0 (sym same) in
    ap (look es n) (cond-false (n == e.home) e.bytes old (ne_eqb n e.home ne)) ∙ look-absent es n old parts.1

pub length-with_entry : (es : List HomeBlock) (n : ℕ) (bytes : List ℕ) → length (with_entry es n bytes) ≤ length es + 1
length-with_entry [] n bytes = omega arith
length-with_entry (e ∷ es) n bytes = by (nat_lt e.home n) (e.home == n) (length-with_entry es n bytes)
  where
    by : (lower same : Bool) → length (with_entry es n bytes) ≤ length es + 1 → length (cond lower (e ∷ with_entry es n bytes) (cond same (record { home = n; bytes = bytes } ∷ es) (record { home = n; bytes = bytes } ∷ e ∷ es))) ≤ suc (length es) + 1
    by true same more = omega (arith, more)
    by false true more = omega arith
    by false false more = omega arith
