-- At which byte a text breaks off: the machine reads exactly what some formula text begins with.
use Rattle.std.proofs.Common.{◌≡◌, ℕ, ◌≤◌, suc, zero, Bool, true, false, cond, ◌&&◌, ◌||◌, ◌==◌, inl, inr, Option, Some, None, List, [], ◌∷◌, ◌++◌, length, take, refl, ap, sym, ◌∙◌, arith, append_assoc, append-nil, codes, nat_lt, nat_le}
use Rattle.std.specs.Char.{is_ascii_digit}
use Rattle.std.specs.List.{list_all}
use Rattle.std.proofs.lemmas.Bool.{eqb-true, false≢true, or_cases, and_parts, and_from, lt-ltb}
use Rattle.std.proofs.lemmas.List.{length-take-le}
use Rattle.lis_words.specs.Words.{is_word, is_count, count_of}
use Rattle.lis_grammar.specs.Formula.{Formula}
use Rattle.lis_grammar.specs.Formula.Formula.{Has, SizeAtLeast, SizeBelow, Negation, Either}
use Rattle.lis_grammar.specs.Grammar.{conjunction, Path, Alt, Neg, Reads, IsFront, IsBrokenAt}
use Rattle.lis_grammar.specs.Grammar.Path.{alt, slash}
use Rattle.lis_grammar.specs.Grammar.Alt.{neg, bar}
use Rattle.lis_grammar.specs.Grammar.Neg.{bang, parens, word, at_least, below}
use Rattle.lis_grammar.specs.Grammar.Reads.{root, from_here, from_root}
use Rattle.lis_grammar.specs.Machine.{Pending, Machine, and_then, is_test_front, is_operand_front, step, run, closed, ended, path_steps, lived, lived_on, broken_at}
use Rattle.lis_grammar.specs.Machine.Pending.{Bang, Open, BarAfter, SlashAfter}
use Rattle.lis_grammar.specs.Machine.Done.{done}
use Rattle.lis_grammar.specs.Machine.Machine.{Wants, Within, Complete}
use Rattle.lis_grammar.proofs.Forth.{run-append, path_complete}
use Rattle.lis_grammar.proofs.Back.{takes_alt, takes_path, Wanted, Stands, regroup, run_back, start_stands}

-- some path begins with the text
pub record BeginsPath (text : List ℕ) : Type 0 where
  pub rest : List ℕ
  pub fs : List Formula
  pub path : Path (text ++ rest) fs

-- whatever is pending, an operand can be followed so that a path is complete
record CanClose (ops : List Pending) (text : List ℕ) : Type 0 where
  behind_neg : (last : List ℕ) (f : Formula) → Neg last f → BeginsPath (text ++ last)
  behind_alt : takes_alt ops ≡ true → (last : List ℕ) (f : Formula) → Alt last f → BeginsPath (text ++ last)
  behind_path : takes_path ops ≡ true → (last : List ℕ) (fs : List Formula) → Path last fs → BeginsPath (text ++ last)

at_start : (steps : List Formula) (text last : List ℕ) (f : Formula) → Wanted [] steps text → Alt last f → BeginsPath (text ++ last)
at_start steps text last f w a = elim w [
  | inl none ↦ rw none.1 (record { rest = []; fs = f ∷ []; path = rw (append-nil last) (alt last f a) })
  | inr some ↦
      rw some.1 (record {
        rest = [];
        fs = steps ++ f ∷ [];
        path = rw (append-nil ((some.0 ++ 47 ∷ []) ++ last), append_assoc some.0 (47 ∷ []) last) (slash some.0 last steps f some.2 a);
      })
]

one_sign : (front last : List ℕ) (b : ℕ) → (front ++ b ∷ []) ++ last ≡ front ++ b ∷ last
one_sign front last b = append_assoc front (b ∷ []) last

moved : (a b : List ℕ) → a ≡ b → BeginsPath b → BeginsPath a
moved a b e p = rw e p

-- what is in parentheses can be closed by the next byte
in_parens : (front last : List ℕ) → BeginsPath (front ++ (40 ∷ (last ++ 41 ∷ []))) → BeginsPath ((front ++ 40 ∷ []) ++ last)
in_parens front last p = record { rest = 41 ∷ p.rest; fs = p.fs; path = rw (same front last p.rest) p.path }
  where
    same : (front last rest : List ℕ) → ((front ++ 40 ∷ []) ++ last) ++ 41 ∷ rest ≡ (front ++ (40 ∷ (last ++ 41 ∷ []))) ++ rest
    same front last rest = simp append_assoc

can_close : (ops : List Pending) (steps : List Formula) (text : List ℕ) → Wanted ops steps text → CanClose ops text
can_close [] steps text w = record {
  behind_neg = λ last f n. at_start steps text last f w (neg last f n);
  behind_alt = λ _ last f a. at_start steps text last f w a;
  behind_path = λ t last fs p. absurd (false≢true t);
}
can_close (Bang ∷ ops) steps text w =
    let more = can_close ops steps w.0 w.2 in
    record {
      behind_neg = λ last f n. moved (text ++ last) (w.0 ++ 33 ∷ last) (ap (λ xs. xs ++ last) w.1 ∙ one_sign w.0 last 33) (more.behind_neg (33 ∷ last) (Negation f) (bang last f n));
      behind_alt = λ t last f a. absurd (false≢true t);
      behind_path = λ t last fs p. absurd (false≢true t);
    }
can_close (Open ∷ ops) steps text w =
    let more = can_close ops steps w.0 w.2 in
    let behind : (last : List ℕ) (fs : List Formula) → Path last fs → BeginsPath (text ++ last) =
    λ last fs p. moved (text ++ last) ((w.0 ++ 40 ∷ []) ++ last) (ap (λ xs. xs ++ last) w.1)
    (in_parens w.0 last (more.behind_neg (40 ∷ (last ++ 41 ∷ [])) (conjunction fs) (parens last fs p))) in
    record {
      behind_neg = λ last f n. behind last (f ∷ []) (alt last f (neg last f n));
      behind_alt = λ _ last f a. behind last (f ∷ []) (alt last f a);
      behind_path = λ _ last fs p. behind last fs p;
    }
can_close (BarAfter g ∷ ops) steps text w =
    let more = can_close ops steps w.0 w.5 in
    record {
      behind_neg = λ last f n. moved (text ++ last) (w.0 ++ (w.1 ++ 124 ∷ last)) (ap (λ xs. xs ++ last) w.2 ∙ regroup w.0 w.1 last 124)
          (more.behind_alt w.4 (w.1 ++ 124 ∷ last) (Either g f) (bar w.1 last g f w.3 n));
      behind_alt = λ t last f a. absurd (false≢true t);
      behind_path = λ t last fs p. absurd (false≢true t);
    }
can_close (SlashAfter g ∷ ops) steps text w =
    let more = can_close ops steps w.0 w.7 in
    let behind : (last : List ℕ) (f : Formula) → Alt last f → BeginsPath (text ++ last) =
    λ last f a. moved (text ++ last) (w.0 ++ (w.1 ++ 47 ∷ last)) (ap (λ xs. xs ++ last) w.3 ∙ regroup w.0 w.1 last 47)
    (more.behind_path w.6 (w.1 ++ 47 ∷ last) (w.2 ++ f ∷ []) (slash w.1 last w.2 f w.4 a)) in
    record {
      behind_neg = λ last f n. behind last f (neg last f n);
      behind_alt = λ _ last f a. behind last f a;
      behind_path = λ t last fs p. absurd (false≢true t);
    }

-- a prefix of a word or a test can be completed

record EndsTest (sign inside : List ℕ) : Type 0 where
  more : List ℕ
  digits : List ℕ
  whole : inside ++ more ≡ sign ++ digits
  count : is_count digits ≡ true

test_ends : (sign inside : List ℕ) → is_test_front sign inside ≡ true → EndsTest sign inside
test_ends [] [] h = record { more = 48 ∷ []; digits = 48 ∷ []; whole = refl; count = refl }
test_ends [] (b ∷ inside) h =
    let both = and_parts (nat_le (length (b ∷ inside)) 12) (list_all is_ascii_digit (b ∷ inside)) h in
    let some : nat_lt 0 (length (b ∷ inside)) ≡ true = lt-ltb _ _ (omega arith) in
    record {
      more = [];
      digits = b ∷ inside;
      whole = append-nil (b ∷ inside);
      count = and_from (nat_lt 0 (length (b ∷ inside)) && nat_le (length (b ∷ inside)) 12) _ (and_from _ _ some both.0) both.1;
    }
test_ends (c ∷ sign) [] h = record { more = (c ∷ sign) ++ 48 ∷ []; digits = 48 ∷ []; whole = refl; count = refl }
test_ends (c ∷ sign) (b ∷ inside) h =
    let both = and_parts (b == c) (is_test_front sign inside) h in
    let e = test_ends sign inside both.1 in
    let same = eqb-true b c both.0 in
    let whole = e.whole in
    record { more = e.more; digits = e.digits; whole = cc; count = e.count }

record EndsOperand (inside : List ℕ) : Type 0 where
  more : List ℕ
  f : Formula
  reads : Neg (inside ++ more) f

operand_ends : (inside : List ℕ) → is_operand_front inside ≡ true → EndsOperand inside
operand_ends inside h = elim (or_cases (is_word inside || is_test_front (codes "size>=") inside) (is_test_front (codes "size<") inside) h) [
  | inl both ↦ elim (or_cases (is_word inside) (is_test_front (codes "size>=") inside) both) [
    | inl w ↦ record { more = []; f = Has inside; reads = rw (append-nil inside) (word inside w) }
    | inr t ↦
        let e = test_ends (codes "size>=") inside t in
        record { more = e.more; f = SizeAtLeast (count_of e.digits); reads = rw e.whole (at_least e.digits e.count) }
  ]
  | inr t ↦
      let e = test_ends (codes "size<") inside t in
      record { more = e.more; f = SizeBelow (count_of e.digits); reads = rw e.whole (below e.digits e.count) }
]

longer : (text more : List ℕ) → BeginsPath (text ++ more) → BeginsPath text
longer text more p = record { rest = more ++ p.rest; fs = p.fs; path = rw (sym (append_assoc text more p.rest)) p.path }

-- in each state of the machine the text can be completed
stands_ends : (s : Machine) (text : List ℕ) → Stands s text → BeginsPath text
stands_ends (Wants ops steps) text st =
    longer text (codes "a") ((can_close ops steps text st).behind_neg (codes "a") (Has (codes "a")) (word (codes "a") refl))
stands_ends (Within ops steps inside) text st =
    let e = operand_ends inside st.3 in
    let can = can_close ops steps st.0 st.2 in
    longer text e.more (moved (text ++ e.more) (st.0 ++ (inside ++ e.more)) (ap (λ xs. xs ++ e.more) st.1 ∙ append_assoc st.0 inside e.more)
    (can.behind_neg (inside ++ e.more) e.f e.reads))
stands_ends (Complete (done ops steps f)) text st =
    moved text (st.before ++ st.last) st.whole ((can_close ops steps st.before st.wanted).behind_neg st.last f st.reads)

-- what the machine takes begins some path, and it takes what begins a path

run_begins : (text : List ℕ) (s : Machine) → run (Wants [] []) text ≡ Some s → BeginsPath text
run_begins text s h = stands_ends s text (run_back (Wants [] []) [] text s start_stands h)

record Runs (s : Machine) (text : List ℕ) : Type 0 where
  t : Machine
  runs : run s text ≡ Some t

begins_runs : (text rest : List ℕ) (fs : List Formula) → Path (text ++ rest) fs → Runs (Wants [] []) text
begins_runs text rest fs p = by (run (Wants [] []) text) refl (run-append (Wants [] []) text rest) (path_complete (text ++ rest) fs p)
  where
    none : (o : Option Machine) → o ≡ None → and_then (and_then o closed) ended ≡ Some fs → ⊥
    none None e h = cc
    none (Some s) e h = cc

    by : (o : Option Machine) → run (Wants [] []) text ≡ o → run (Wants [] []) (text ++ rest) ≡ and_then o (λ t. run t rest) → path_steps (text ++ rest) ≡ Some fs
        → Runs (Wants [] []) text
    by None e whole h = absurd (none _ whole h)
    by (Some t) e whole h = record { t = t; runs = e }

-- the number of bytes that the machine takes

lived_short : (s : Machine) (text : List ℕ) → lived s text ≤ length text
lived_short s [] = omega arith
lived_short s (b ∷ text) = by (step s b) (λ t. lived_short t text)
  where
    by : (o : Option Machine) → ((t : Machine) → lived t text ≤ length text) → lived_on o (λ t. lived t text) ≤ length (b ∷ text)
    by None more = omega arith
    by (Some t) more = omega (arith, more t)

lives : (s : Machine) (text : List ℕ) → Runs s (take (lived s text) text)
lives s [] = record { t = s; runs = refl }
lives s (b ∷ text) = by (step s b) refl (λ t. lives t text)
  where
    by : (o : Option Machine) → step s b ≡ o → ((t : Machine) → Runs t (take (lived t text) text)) → Runs s (take (lived_on o (λ t. lived t text)) (b ∷ text))
    by None e more = record { t = s; runs = refl }
    by (Some t) e more = let r = more t in record { t = r.t; runs = rw e r.runs }

dies : (s : Machine) (text : List ℕ) (j : ℕ) → j ≤ length text → Runs s (take j text) → j ≤ lived s text
dies s text zero short r = omega arith
dies s [] (suc j) short r = absurd (omega arith)
dies s (b ∷ text) (suc j) short r = by (step s b) r.runs (λ t. dies t text j (omega arith))
  where
    by : (o : Option Machine) → and_then o (λ t. run t (take j text)) ≡ Some r.t → ((t : Machine) → Runs t (take j text) → j ≤ lived t text)
        → suc j ≤ lived_on o (λ t. lived t text)
    by None h more = absurd (cc)
    by (Some t) h more = omega (arith, more t (record { t = r.t; runs = h }))

pub record BreaksPath (text : List ℕ) (k : ℕ) : Type 0 where
  pub inside : k ≤ length text
  pub front : BeginsPath (take k text)
  pub longest : (j : ℕ) (rest : List ℕ) (fs : List Formula) → j ≤ length text → Path (take j text ++ rest) fs → j ≤ k

pub path_breaks : (text : List ℕ) → BreaksPath text (lived (Wants [] []) text)
path_breaks text =
    let live = lives (Wants [] []) text in
    record {
      inside = lived_short (Wants [] []) text;
      front = run_begins (take (lived (Wants [] []) text) text) live.t live.runs;
      longest = λ j rest fs short p. dies (Wants [] []) text j short (begins_runs (take j text) rest fs p);
    }

-- whole texts

-- the three forms of a formula text
data Form (text : List ℕ) (fs : List Formula) : Type 0 where
  is_root : text ≡ 47 ∷ [] → Form text fs
  is_here : Path text fs → Form text fs
  is_rooted : (path : List ℕ) → text ≡ 47 ∷ path → Path path fs → Form text fs

form_of : (text : List ℕ) (rooted : Bool) (fs : List Formula) → Reads text rooted fs → Form text fs
form_of _ _ _ root = is_root refl
form_of _ _ _ (from_here text fs p) = is_here p
form_of _ _ _ (from_root text fs p) = is_rooted text refl p

no_path_at_slash : (text : List ℕ) (fs : List Formula) → Path (47 ∷ text) fs → ⊥
no_path_at_slash text fs p = none (path_complete (47 ∷ text) fs p)
  where
    none : None ≡ Some fs → ⊥
    none h = cc

nil_of_append : (xs ys : List ℕ) → xs ++ ys ≡ [] → xs ≡ []
nil_of_append [] ys h = refl
nil_of_append (x ∷ xs) ys h = absurd (cc)

taken : (j : ℕ) (text rest : List ℕ) → j ≤ length text → take j text ++ rest ≡ [] → j ≡ 0
taken j text rest short h = let none = nil_of_append (take j text) rest h in omega (arith, ap length none, length-take-le j text short)

pub tail_of : (b c : ℕ) (xs ys : List ℕ) → b ∷ xs ≡ c ∷ ys → (b ≡ c) × (xs ≡ ys)
tail_of b c xs ys h = (cc, cc)

rooted_longest : (text : List ℕ) (k : ℕ) → BreaksPath text k → (j : ℕ) → suc j ≤ suc (length text) → IsFront (47 ∷ take j text) → suc j ≤ suc k
rooted_longest text k broken j short front = elim (form_of (47 ∷ (take j text ++ front.0)) front.1 front.2 front.3) [
  | is_root e ↦ omega (arith, taken j text front.0 (omega arith) (tail_of 47 47 _ [] e).1)
  | is_here p ↦ absurd (no_path_at_slash _ front.2 p)
  | is_rooted path e p ↦
      let same = (tail_of 47 47 _ path e).1 in
      let q : Path (take j text ++ front.0) front.2 = rw same p in
      omega (arith, broken.longest j front.0 front.2 (omega arith) q)
]

breaks_rooted : (text : List ℕ) (k : ℕ) → BreaksPath text k → IsBrokenAt (47 ∷ text) (suc k)
breaks_rooted text k broken =
    let begins = broken.front in
    record {
      inside = omega (arith, broken.inside);
      front = (begins.rest, true, begins.fs, from_root (take k text ++ begins.rest) begins.fs begins.path);
      longest = longest;
    }
  where
    longest : (j : ℕ) → j ≤ length (47 ∷ text) → IsFront (take j (47 ∷ text)) → j ≤ suc k
    longest zero short front = omega arith
    longest (suc j) short front = rooted_longest text k broken j short front

here_longest : (b : ℕ) (text : List ℕ) (k : ℕ) → (b == 47) ≡ false → BreaksPath (b ∷ text) k → (j : ℕ) → suc j ≤ length (b ∷ text) → IsFront (b ∷ take j text) → suc j ≤ k
here_longest b text k other broken j short front = elim (form_of (b ∷ (take j text ++ front.0)) front.1 front.2 front.3) [
  | is_root e ↦ absurd (at_slash b other (tail_of b 47 _ [] e).0)
  | is_here p ↦ broken.longest (suc j) front.0 front.2 short p
  | is_rooted path e p ↦ absurd (at_slash b other (tail_of b 47 _ path e).0)
]
  where
    at_slash : (b : ℕ) → (b == 47) ≡ false → b ≡ 47 → ⊥
    at_slash b h e = absurd (false≢true (sym h ∙ ap (λ c. c == 47) e))

breaks_here : (b : ℕ) (text : List ℕ) (k : ℕ) → (b == 47) ≡ false → BreaksPath (b ∷ text) k → IsBrokenAt (b ∷ text) k
breaks_here b text k other broken =
    let begins = broken.front in
    record {
      inside = broken.inside;
      front = (begins.rest, false, begins.fs, from_here (take k (b ∷ text) ++ begins.rest) begins.fs begins.path);
      longest = longest;
    }
  where
    longest : (j : ℕ) → j ≤ length (b ∷ text) → IsFront (take j (b ∷ text)) → j ≤ k
    longest zero short front = omega arith
    longest (suc j) short front = here_longest b text k other broken j short front

-- the text breaks off where `broken_at` says
pub breaks : (text : List ℕ) → IsBrokenAt text (broken_at text)
unfolding broken_at
breaks [] = record {
  inside = omega arith;
  front = (codes "a", false, Has (codes "a") ∷ [], from_here (codes "a") (Has (codes "a") ∷ []) (alt (codes "a") (Has (codes "a")) (neg (codes "a") (Has (codes "a")) (word (codes "a") refl))));
  longest = λ j short front. short;
}
breaks (b ∷ text) = by (b == 47) refl
  where
    by : (t : Bool) → (b == 47) ≡ t → IsBrokenAt (b ∷ text) (cond t (suc (lived (Wants [] []) text)) (lived (Wants [] []) (b ∷ text)))
    by true e = rw (eqb-true b 47 e) (breaks_rooted text (lived (Wants [] []) text) (path_breaks text))
    by false e = breaks_here b text (lived (Wants [] []) (b ∷ text)) e (path_breaks (b ∷ text))
