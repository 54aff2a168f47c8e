-- Words and tests as the machine reads them: it takes every prefix of one, and its bytes are no sign of a formula.
use Rattle.std.proofs.Common.{◌≡◌, ℕ, ◌+◌, ◌<◌, ◌≤◌, Bool, true, false, not, cond, ◌&&◌, ◌||◌, ◌==◌, ◌⊎◌, inl, inr, Option, Some, None, List, [], ◌∷◌, ◌++◌, length, refl, ap, sym, ◌∙◌, arith, append_assoc, append-nil, length-append, nat_lt, nat_le, codes}
use Rattle.std.specs.Char.{is_ascii_digit}
use Rattle.std.specs.List.{list_all, list_any}
use Rattle.std.proofs.lemmas.Bool.{or_left, or_right, or_cases, and_from, and_parts, eqb-true, leb-true, le-leb, lt-ltb, false≢true, cond-true}
use Rattle.std.proofs.lemmas.List.Folds.{list_all-append}
use Rattle.lis_words.specs.Words.{is_plain_byte, begins_with_stop, is_plain_word, stem, value, has_stem, is_head, is_valued, is_word, is_count, count_of}
use Rattle.lis_grammar.specs.Formula.{Formula}
use Rattle.lis_grammar.specs.Formula.Formula.{Has, SizeAtLeast, SizeBelow}
use Rattle.lis_grammar.specs.Machine.{Pending, after_sign, counted, operand, is_test_front, is_operand_front, is_joint, run}
use Rattle.lis_grammar.specs.Machine.Machine.{Wants, Within}
use Rattle.lis_grammar.specs.Grammar.{Neg}
use Rattle.lis_grammar.specs.Grammar.Neg.{word, at_least, below}
use Rattle.lis_words.specs.Bytes.{is_colon}
use Rattle.std.specs.Option.{option_or}

-- the two sides of the first colon

stem_colon : (a b : List ℕ) → list_any is_colon a ≡ true → stem (a ++ b) ≡ stem a
stem_colon [] b h = absurd (false≢true h)
stem_colon (c ∷ a) b h = by (is_colon c) h (stem_colon a b)
  where
    by : (t : Bool) → (t || list_any is_colon a) ≡ true → (list_any is_colon a ≡ true → stem (a ++ b) ≡ stem a)
        → cond t [] (c ∷ stem (a ++ b)) ≡ cond t [] (c ∷ stem a)
    by true h more = refl
    by false h more = ap (λ xs. c ∷ xs) (more h)

value_colon : (a b : List ℕ) → list_any is_colon a ≡ true → value (a ++ b) ≡ value a ++ b
value_colon [] b h = absurd (false≢true h)
value_colon (c ∷ a) b h = by (is_colon c) h (value_colon a b)
  where
    by : (t : Bool) → (t || list_any is_colon a) ≡ true → (list_any is_colon a ≡ true → value (a ++ b) ≡ value a ++ b)
        → cond t (a ++ b) (value (a ++ b)) ≡ cond t a (value a) ++ b
    by true h more = refl
    by false h more = more h

stem_no_colon : (a b : List ℕ) → list_any is_colon a ≡ false → stem (a ++ b) ≡ a ++ stem b
stem_no_colon [] b h = refl
stem_no_colon (c ∷ a) b h = by (is_colon c) h (stem_no_colon a b)
  where
    by : (t : Bool) → (t || list_any is_colon a) ≡ false → (list_any is_colon a ≡ false → stem (a ++ b) ≡ a ++ stem b)
        → cond t [] (c ∷ stem (a ++ b)) ≡ c ∷ (a ++ stem b)
    by true h more = absurd (cc)
    by false h more = ap (λ xs. c ∷ xs) (more h)

pub split_at_colon : (text : List ℕ) → list_any is_colon text ≡ true → text ≡ stem text ++ 58 ∷ value text
split_at_colon [] h = absurd (false≢true h)
split_at_colon (c ∷ text) h = by (is_colon c) refl h (split_at_colon text)
  where
    by : (t : Bool) → is_colon c ≡ t → (t || list_any is_colon text) ≡ true → (list_any is_colon text ≡ true → text ≡ stem text ++ 58 ∷ value text)
        → c ∷ text ≡ cond t [] (c ∷ stem text) ++ 58 ∷ cond t text (value text)
    by true e h more = ap (λ b. b ∷ text) (eqb-true c 58 e)
    by false e h more = ap (λ xs. c ∷ xs) (more h)

-- a head or a valued word: a plain word, a colon and plain bytes
record HasColon (text : List ℕ) : Type 0 where
  short : length text ≤ 60
  colon : list_any is_colon text ≡ true
  plain : is_plain_word (stem text) ≡ true
  behind : list_all is_plain_byte (value text) ≡ true

colon_parts : (text : List ℕ) → has_stem text ≡ true → list_all is_plain_byte (value text) ≡ true → HasColon text
colon_parts text stems behind =
    let both = and_parts _ _ stems in
    let front = and_parts _ _ both.0 in
    record { short = leb-true _ _ front.0; colon = front.1; plain = both.1; behind = behind }

none_plain : (text : List ℕ) → (length text == 0) ≡ true → list_all is_plain_byte text ≡ true
none_plain [] h = refl
none_plain (b ∷ text) h = absurd (omega (arith, eqb-true _ _ h))

head_parts : (text : List ℕ) → is_head text ≡ true → HasColon text
head_parts text h = let both = and_parts _ _ h in colon_parts text both.0 (none_plain (value text) both.1)

valued_parts : (text : List ℕ) → is_valued text ≡ true → HasColon text
valued_parts text h = let both = and_parts _ _ h in colon_parts text (and_parts _ _ both.0).0 both.1

word_parts : (text : List ℕ) → is_word text ≡ true → (is_plain_word text ≡ true) ⊎ HasColon text
word_parts text h = elim (or_cases _ _ h) [
  | inl both ↦ elim (or_cases _ _ both) [ inl plain ↦ inl plain | inr head ↦ inr (head_parts text head) ]
  | inr valued ↦ inr (valued_parts text valued)
]

by_value : (text rest : List ℕ) → rest ≡ value text → has_stem text ≡ true → list_all is_plain_byte rest ≡ true → (is_head text || is_valued text) ≡ true
by_value text [] e stems behind = or_left _ _ (and_from _ _ stems (ap (λ (xs : List ℕ). length xs == 0) (sym e)))
by_value text (b ∷ rest) e stems behind =
    let some : nat_lt 0 (length (value text)) ≡ true = ap (λ (xs : List ℕ). nat_lt 0 (length xs)) (sym e) ∙ lt-ltb _ _ (omega arith) in
    or_right _ _ (and_from _ _ (and_from _ _ stems some) (ap (λ xs. list_all is_plain_byte xs) (sym e) ∙ behind))

word_from_colon : (text : List ℕ) → HasColon text → is_word text ≡ true
word_from_colon text has =
    let stems : has_stem text ≡ true = and_from _ _ (and_from _ _ (le-leb _ _ has.short) has.colon) has.plain in
    elim (or_cases (is_head text) (is_valued text) (by_value text (value text) refl stems has.behind)) [
      | inl head ↦ or_left (is_plain_word text || is_head text) _ (or_right (is_plain_word text) _ head)
      | inr valued ↦ or_right (is_plain_word text || is_head text) _ valued
    ]

-- every prefix of a word except the empty one is a word

plain_parts : (text : List ℕ) → is_plain_word text ≡ true → (length text ≤ 60) × (begins_with_stop text ≡ false) × (list_all is_plain_byte text ≡ true)
plain_parts text h =
    let all = and_parts _ _ h in
    let first = and_parts _ _ all.0 in
    let counts = and_parts _ _ first.0 in
    (leb-true _ _ counts.1, negated (begins_with_stop text) first.1, all.1)
  where
    negated : (t : Bool) → not t ≡ true → t ≡ false
    negated true e = sym e
    negated false e = refl

plain_closed : (c : ℕ) (a b : List ℕ) → is_plain_word ((c ∷ a) ++ b) ≡ true → is_plain_word (c ∷ a) ≡ true
plain_closed c a b h =
    let parts = plain_parts ((c ∷ a) ++ b) h in
    let some : nat_lt 0 (length (c ∷ a)) ≡ true = lt-ltb _ _ (omega arith) in
    let short : nat_le (length (c ∷ a)) 60 ≡ true = le-leb _ _ (omega (arith, parts.0, length-append (c ∷ a) b)) in
    let first : not (begins_with_stop (c ∷ a)) ≡ true = ap not parts.1 in
    let all = and_parts _ _ (sym (list_all-append is_plain_byte (c ∷ a) b) ∙ parts.2) in
    and_from _ _ (and_from _ _ (and_from _ _ some short) first) all.0

colon_closed : (c : ℕ) (a b : List ℕ) → HasColon ((c ∷ a) ++ b) → is_word (c ∷ a) ≡ true
colon_closed c a b has = by (list_any is_colon (c ∷ a)) refl
  where
    by : (t : Bool) → list_any is_colon (c ∷ a) ≡ t → is_word (c ∷ a) ≡ true
    by true e = word_from_colon (c ∷ a) (record {
      short = omega (arith, has.short, length-append (c ∷ a) b);
      colon = e;
      plain = ap (λ xs. is_plain_word xs) (sym (stem_colon (c ∷ a) b e)) ∙ has.plain;
      behind = (and_parts _ _ (sym (list_all-append is_plain_byte (value (c ∷ a)) b) ∙ (ap (λ xs. list_all is_plain_byte xs) (sym (value_colon (c ∷ a) b e)) ∙ has.behind))).0;
    })
    by false e = or_left _ _ (or_left _ _ (plain_closed c a (stem b) (ap (λ xs. is_plain_word xs) (sym (stem_no_colon (c ∷ a) b e)) ∙ has.plain)))

pub word_closed : (c : ℕ) (a b : List ℕ) → is_word ((c ∷ a) ++ b) ≡ true → is_word (c ∷ a) ≡ true
word_closed c a b h = elim (word_parts ((c ∷ a) ++ b) h) [
  | inl plain ↦ or_left _ _ (or_left _ _ (plain_closed c a b plain))
  | inr has ↦ colon_closed c a b has
]

-- the same of a test

test_closed : (sign a b : List ℕ) → is_test_front sign (a ++ b) ≡ true → is_test_front sign a ≡ true
test_closed [] a b h =
    let both = and_parts (nat_le (length (a ++ b)) 12) (list_all is_ascii_digit (a ++ b)) h in
    let short : length a ≤ 12 = omega (arith, leb-true _ _ both.0, length-append a b) in
    and_from _ _ (le-leb _ _ short) (and_parts _ _ (sym (list_all-append is_ascii_digit a b) ∙ both.1)).0
test_closed (c ∷ sign) [] b h = refl
test_closed (c ∷ sign) (d ∷ a) b h =
    let both = and_parts _ _ h in
    and_from _ _ both.0 (test_closed sign a b both.1)

front_cases : (text : List ℕ) → is_operand_front text ≡ true
    → (is_word text ≡ true) ⊎ ((is_test_front (codes "size>=") text ≡ true) ⊎ (is_test_front (codes "size<") text ≡ true))
front_cases text h = elim (or_cases _ _ h) [
  | inl both ↦ elim (or_cases _ _ both) [ inl a ↦ inl a | inr b ↦ inr (inl b) ]
  | inr c ↦ inr (inr c)
]

front_at_least : (text : List ℕ) → is_test_front (codes "size>=") text ≡ true → is_operand_front text ≡ true
front_at_least text h = or_left _ _ (or_right _ _ h)

front_below : (text : List ℕ) → is_test_front (codes "size<") text ≡ true → is_operand_front text ≡ true
front_below text h = or_right _ _ h

pub front_closed : (a b : List ℕ) → is_operand_front (a ++ b) ≡ true → is_operand_front a ≡ true
front_closed [] b h = refl
front_closed (c ∷ a) b h = elim (front_cases ((c ∷ a) ++ b) h) [
  | inl words ↦ or_left _ _ (or_left _ _ (word_closed c a b words))
  | inr tests ↦ elim tests [
    | inl test ↦ front_at_least (c ∷ a) (test_closed (codes "size>=") (c ∷ a) b test)
    | inr test ↦ front_below (c ∷ a) (test_closed (codes "size<") (c ∷ a) b test)
  ]
]

-- the bytes of words, and those of words and tests

abbrev is_word_byte : ℕ → Bool
is_word_byte b = is_plain_byte b || (b == 58)

abbrev is_letter : ℕ → Bool
is_letter b = is_plain_byte b || (b == 58) || (b == 60) || (b == 61) || (b == 62)

all_weaker : (p q : ℕ → Bool) → ((b : ℕ) → p b ≡ true → q b ≡ true) → (text : List ℕ) → list_all p text ≡ true → list_all q text ≡ true
all_weaker p q w [] h = refl
all_weaker p q w (b ∷ text) h = let both = and_parts _ _ h in and_from _ _ (w b both.0) (all_weaker p q w text both.1)

plain_is_word_byte : (b : ℕ) → is_plain_byte b ≡ true → is_word_byte b ≡ true
plain_is_word_byte b h = or_left _ _ h

word_bytes : (text : List ℕ) → is_word text ≡ true → list_all is_word_byte text ≡ true
word_bytes text h = elim (word_parts text h) [
  | inl plain ↦ all_weaker is_plain_byte is_word_byte plain_is_word_byte text (plain_parts text plain).2
  | inr has ↦
      let front = all_weaker is_plain_byte is_word_byte plain_is_word_byte (stem text) (plain_parts (stem text) has.plain).2 in
      let behind = all_weaker is_plain_byte is_word_byte plain_is_word_byte (value text) has.behind in
      ap (λ xs. list_all is_word_byte xs) (split_at_colon text has.colon) ∙ (list_all-append is_word_byte (stem text) (58 ∷ value text) ∙ and_from _ _ front behind)
]

word_byte_is_letter : (b : ℕ) → is_word_byte b ≡ true → is_letter b ≡ true
word_byte_is_letter b h = or_left _ _ (or_left _ _ (or_left _ _ h))

digit_is_letter : (b : ℕ) → is_ascii_digit b ≡ true → is_letter b ≡ true
digit_is_letter b h =
    word_byte_is_letter b (plain_is_word_byte b (or_left _ _ (or_left _ _ (or_left _ _ (or_left _ _ (or_left _ _ (or_left _ _ (or_left _ _ h))))))))

test_letters : (sign text : List ℕ) → list_all is_letter sign ≡ true → is_test_front sign text ≡ true → list_all is_letter text ≡ true
test_letters [] text s h = all_weaker is_ascii_digit is_letter digit_is_letter text (and_parts _ _ h).1
test_letters (c ∷ sign) [] s h = refl
test_letters (c ∷ sign) (b ∷ text) s h =
    let both = and_parts _ _ h in
    let signs = and_parts _ _ s in
    and_from _ _ (ap is_letter (eqb-true b c both.0) ∙ signs.0) (test_letters sign text signs.1 both.1)

front_letters : (text : List ℕ) → is_operand_front text ≡ true → list_all is_letter text ≡ true
front_letters text h = elim (front_cases text h) [
  | inl words ↦ all_weaker is_word_byte is_letter word_byte_is_letter text (word_bytes text words)
  | inr tests ↦ elim tests [
    | inl test ↦ test_letters (codes "size>=") text refl test
    | inr test ↦ test_letters (codes "size<") text refl test
  ]
]

no_letter : (b k : ℕ) → is_letter k ≡ false → is_letter b ≡ true → (b == k) ≡ false
no_letter b k other h = by (b == k) refl
  where
    by : (t : Bool) → (b == k) ≡ t → t ≡ false
    by true e = absurd (false≢true (sym other ∙ (ap is_letter (sym (eqb-true b k e)) ∙ h)))
    by false e = refl

no_joint : (b : ℕ) → is_letter b ≡ true → is_joint b ≡ false
no_joint b h = rw (no_letter b 124 refl h, no_letter b 47 refl h, no_letter b 41 refl h) refl

-- how the machine takes them

last_letter : (a : List ℕ) (b : ℕ) (more : List ℕ) → is_operand_front (a ++ b ∷ more) ≡ true → is_letter b ≡ true
last_letter a b more h =
    let all = and_parts _ _ (sym (list_all-append is_letter a (b ∷ more)) ∙ front_letters (a ++ b ∷ more) h) in
    (and_parts _ _ all.1).0

pub within_runs : (ops : List Pending) (steps : List Formula) (text more : List ℕ) → is_operand_front (text ++ more) ≡ true
    → run (Within ops steps text) more ≡ Some (Within ops steps (text ++ more))
within_runs ops steps text [] h = ap (λ xs. Some (Within ops steps xs)) (sym (append-nil text))
within_runs ops steps text (b ∷ more) h =
    let again : is_operand_front ((text ++ b ∷ []) ++ more) ≡ true = ap is_operand_front (append_assoc text (b ∷ []) more) ∙ h in
    rw (no_joint b (last_letter text b more h), front_closed (text ++ b ∷ []) more again)
    (within_runs ops steps (text ++ b ∷ []) more again ∙ ap (λ xs. Some (Within ops steps xs)) (append_assoc text (b ∷ []) more))

pub front_runs : (ops : List Pending) (steps : List Formula) (b : ℕ) (text : List ℕ) → is_operand_front (b ∷ text) ≡ true
    → run (Wants ops steps) (b ∷ text) ≡ Some (Within ops steps (b ∷ text))
front_runs ops steps b text h =
    let letter = last_letter [] b text h in
    rw (no_letter b 33 refl letter, no_letter b 40 refl letter, front_closed (b ∷ []) text h)
    (within_runs ops steps (b ∷ []) text h)

-- what an operand reads as

pub operand_word : (text : List ℕ) → is_word text ≡ true → operand text ≡ Some (Has text)
operand_word text h = cond-true (is_word text) _ _ h

no_word : (text : List ℕ) → list_all is_word_byte text ≡ false → is_word text ≡ false
no_word text other = by (is_word text) refl
  where
    by : (t : Bool) → is_word text ≡ t → t ≡ false
    by true e = absurd (false≢true (sym other ∙ word_bytes text e))
    by false e = refl

pub operand_at_least : (digits : List ℕ) → is_count digits ≡ true → operand (codes "size>=" ++ digits) ≡ Some (SizeAtLeast (count_of digits))
operand_at_least digits h = rw (no_word (codes "size>=" ++ digits) refl, h) refl

pub operand_below : (digits : List ℕ) → is_count digits ≡ true → operand (codes "size<" ++ digits) ≡ Some (SizeBelow (count_of digits))
operand_below digits h = rw (no_word (codes "size<" ++ digits) refl, h) refl

sign_split : (sign text digits : List ℕ) → after_sign sign text ≡ Some digits → text ≡ sign ++ digits
sign_split [] text digits h = cc
sign_split (c ∷ sign) [] digits h = absurd (cc)
sign_split (c ∷ sign) (b ∷ text) digits h = by (b == c) refl h (sign_split sign text digits)
  where
    by : (t : Bool) → (b == c) ≡ t → cond t (after_sign sign text) None ≡ Some digits → (after_sign sign text ≡ Some digits → text ≡ sign ++ digits)
        → b ∷ text ≡ c ∷ (sign ++ digits)
    by true e h more = let same = eqb-true b c e in let rest = more h in cc
    by false e h more = absurd (cc)

-- what a test that reads has
record IsTest (test : ℕ → Formula) (sign text : List ℕ) (f : Formula) : Type 0 where
  digits : List ℕ
  whole : text ≡ sign ++ digits
  count : is_count digits ≡ true
  tree : f ≡ test (count_of digits)

counted_is : (test : ℕ → Formula) (sign text : List ℕ) (found : Option (List ℕ)) (f : Formula) → after_sign sign text ≡ found → counted test found ≡ Some f → IsTest test sign text f
counted_is test sign text None f e h = absurd (cc)
counted_is test sign text (Some digits) f e h = by (is_count digits) refl h
  where
    by : (t : Bool) → is_count digits ≡ t → cond t (Some (test (count_of digits))) None ≡ Some f → IsTest test sign text f
    by true c h = record { digits = digits; whole = sign_split sign text digits e; count = c; tree = cc }
    by false c h = absurd (cc)

or_else_cases : (a b : Option Formula) (f : Formula) → option_or a b ≡ Some f → (a ≡ Some f) ⊎ (b ≡ Some f)
or_else_cases None b f h = inr h
or_else_cases (Some x) b f h = inl h

neg_at_least : (text : List ℕ) (f : Formula) → IsTest SizeAtLeast (codes "size>=") text f → Neg text f
neg_at_least text f test = rw (test.whole, test.tree) (at_least test.digits test.count)

neg_below : (text : List ℕ) (f : Formula) → IsTest SizeBelow (codes "size<") text f → Neg text f
neg_below text f test = rw (test.whole, test.tree) (below test.digits test.count)

neg_word : (text : List ℕ) (f : Formula) → is_word text ≡ true → Has text ≡ f → Neg text f
neg_word text f h e = rw (sym e) (word text h)

pub operand_neg : (text : List ℕ) (f : Formula) → operand text ≡ Some f → Neg text f
operand_neg text f h = by (is_word text) refl h
  where
    tests : option_or (counted SizeAtLeast (after_sign (codes "size>=") text)) (counted SizeBelow (after_sign (codes "size<") text)) ≡ Some f → Neg text f
    tests h = elim (or_else_cases _ _ f h) [
      | inl a ↦ neg_at_least text f (counted_is SizeAtLeast (codes "size>=") text _ f refl a)
      | inr b ↦ neg_below text f (counted_is SizeBelow (codes "size<") text _ f refl b)
    ]

    by : (t : Bool) → is_word text ≡ t
        → cond t (Some (Has text)) (option_or (counted SizeAtLeast (after_sign (codes "size>=") text)) (counted SizeBelow (after_sign (codes "size<") text))) ≡ Some f
        → Neg text f
    by true e h = neg_word text f e (cc)
    by false e h = tests h

count_front : (digits : List ℕ) → is_count digits ≡ true → is_test_front [] digits ≡ true
count_front digits h =
    let short = nat_le (length digits) 12 in
    let both = and_parts (nat_lt 0 (length digits) && short) (list_all is_ascii_digit digits) h in
    and_from short _ (and_parts (nat_lt 0 (length digits)) short both.0).1 both.1

-- an operand is a prefix of itself
pub word_front : (text : List ℕ) → is_word text ≡ true → is_operand_front text ≡ true
word_front text h = or_left _ _ (or_left _ _ h)

pub at_least_front : (digits : List ℕ) → is_count digits ≡ true → is_operand_front (codes "size>=" ++ digits) ≡ true
at_least_front digits h = front_at_least (codes "size>=" ++ digits) (count_front digits h)

pub below_front : (digits : List ℕ) → is_count digits ≡ true → is_operand_front (codes "size<" ++ digits) ≡ true
below_front digits h = front_below (codes "size<" ++ digits) (count_front digits h)

-- a word or a test has at most 60 bytes

test_short : (sign text : List ℕ) → is_test_front sign text ≡ true → length text ≤ length sign + 12
test_short [] text h =
    let short = leb-true (length text) 12 (and_parts (nat_le (length text) 12) (list_all is_ascii_digit text) h).0 in
    omega (arith, short)
test_short (c ∷ sign) [] h = omega arith
test_short (c ∷ sign) (b ∷ text) h = omega (arith, test_short sign text (and_parts (b == c) (is_test_front sign text) h).1)

pub front_short : (text : List ℕ) → is_operand_front text ≡ true → length text ≤ 60
front_short text h = elim (front_cases text h) [
  | inl words ↦ elim (word_parts text words) [ inl plain ↦ (plain_parts text plain).0 | inr has ↦ has.short ]
  | inr tests ↦ elim tests [
    | inl test ↦ let short = test_short (codes "size>=") text test in omega (arith, short)
    | inr test ↦ let short = test_short (codes "size<") text test in omega (arith, short)
  ]
]

pub too_long : (text : List ℕ) → 60 < length text → is_operand_front text ≡ false
too_long text long = by (is_operand_front text) refl
  where
    by : (t : Bool) → is_operand_front text ≡ t → t ≡ false
    by true e = absurd (omega (arith, front_short text e))
    by false e = refl
