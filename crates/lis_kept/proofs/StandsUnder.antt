-- A word that is declared under others.
use Rattle.std.proofs.Common.{arith, append-nil, eq-eqb}
use Rattle.lis_kept.proofs.Common.{common_steps, rules, ◌≡◌, ℕ, zero, suc, ◌+◌, ◌==◌, ◌||◌, true, false, List, [], ◌∷◌, ◌++◌, length, Some, refl, sym, ap, ◌∙◌, subst, ◌<◌, ◌≤◌, if◌then◌else◌, ◌&&◌, not, Bool, cond, Option, None, get_or, set, take, count_by, slice_get, ap₂, fold, Chain, Among, Dict, word_of, has_word, is_plain_word, is_test, up, with_word, with_axiom, among_from_has_word, and_parts, not-true, ne_eqb, slice_get_within, get_or_from_slice_get, are_distinct, number_of, AxiomSlot, FreeAxiom, Pair, same_word, head_bytes, is_declarable, declarable_not_valued, all_among, same_word_decides, both_ways, false_from_ne_true, or_right, and_from, or_left, any_from_among, neither}
use Rattle.lis_graph.proofs.Members.{among_at, among_take}
use Rattle.lis_words.proofs.Tests.{test_not_plain}
use Rattle.lis_model.specs.State.{State, links}
use Rattle.lis_model.specs.Changes.{declared_under, axiom_added}
use Rattle.lis_laws.proofs.Chains.{entails_from_up}
use Rattle.lis_laws.proofs.Leads.{chain_last, right_leads}
use Rattle.lis_kept.specs.Metadata.{Metadata}
use Rattle.lis_kept.specs.Areas.{IsSaved, marked_count}
use Rattle.lis_kept.specs.Sound.{AreSound}
use Rattle.lis_kept.specs.Links.{is_linked, is_pair, has_pair, is_own_link}
use Rattle.lis_kept.specs.Linking.{Links, is_filled, MayLink}
use Rattle.lis_kept.specs.Under.{LinksEach, is_plain_by, MayStandUnder}
use Rattle.lis_kept.specs.Changes.{Marks, Declares}
use Rattle.lis_kept.specs.Telling.{declared_of, axioms_of, state_of, is_head_by, is_used, AreUsed}
use Rattle.lis_kept.proofs.Known.{one_number, among_axiom}
use Rattle.lis_kept.proofs.Entailed.{link_numbered, chain_has_number}
use Rattle.std.proofs.lemmas.List.{length-take-le}
use Rattle.std.proofs.lemmas.List.Sums.{sum_by-set}
use Rattle.lis_dict.proofs.Laws.{word_of-with_entry, number_of-with_entry}
use Rattle.lis_kept.proofs.Filing.{among_from_number, number_from_among}
use Rattle.lis_kept.proofs.OwnLinks.{among_slot, own_to, unnamed_to, unnamed_from}
use Rattle.lis_kept.proofs.OneWord.{new_no_head}
use Rattle.lis_kept.proofs.AxiomSlots.{InSlot}
use Rattle.lis_kept.proofs.AxiomsApart.{apart_linked}
use Rattle.lis_kept.proofs.AxiomsTold.{slot_free}
use Rattle.lis_model.specs.Sets.{has_number}

-- ---- states
under_step : (word : List ℕ) (axioms : List (List ℕ × List ℕ)) (ws : List (List ℕ)) (w : List ℕ)
    → with_axiom (fold (λ xs q. with_axiom xs (word, q)) axioms ws) (word, w) ≡ fold (λ xs q. with_axiom xs (word, q)) axioms (ws ++ w ∷ [])
under_step word axioms [] w = refl
under_step word axioms (v ∷ ws) w = under_step word (with_axiom axioms (word, v)) ws w

-- one more word
pub under_more : (s : State) (word : List ℕ) (ws : List (List ℕ)) (w : List ℕ) → axiom_added (declared_under s word ws) (word, w) ≡ declared_under s word (ws ++ w ∷ [])
under_more s word ws w = ap (λ (axioms : List (List ℕ × List ℕ)). record s { declared = with_word s.declared word; axioms = axioms }) (under_step word s.axioms ws w)

-- ---- axioms in sequence
pub each_more : (left : ℕ) (rights : List ℕ) (right : ℕ) (p q r : Metadata) → LinksEach left rights p q → Links left right q r → LinksEach left (rights ++ right ∷ []) p r
each_more left [] right p q r is last = (r, subst (λ (k : Metadata). Links left right k r) is last, refl)
each_more left (first ∷ rights) right p q r each last = (each.0, each.1, each_more left rights right each.0 q r each.2 last)

-- all but the axioms and the marks
pub each_metadata : (left : ℕ) (rights : List ℕ) (p q : Metadata) → LinksEach left rights p q → q ≡ record p { axioms = q.axioms; marks = q.marks }
each_metadata left [] p q is = subst (λ (k : Metadata). k ≡ record p { axioms = k.axioms; marks = k.marks }) (sym is) refl
each_metadata left (right ∷ rights) p q each = each_metadata left rights each.0 q each.2 ∙ ap (λ (k : Metadata). record k { axioms = q.axioms; marks = q.marks }) each.1.metadata

pub each_dict : (left : ℕ) (rights : List ℕ) (p q : Metadata) → LinksEach left rights p q → q.dict ≡ p.dict
each_dict left rights p q each = ap (λ (k : Metadata). k.dict) (each_metadata left rights p q each)

pub each_marks : (left : ℕ) (rights : List ℕ) (p q : Metadata) → LinksEach left rights p q → Marks (length rights) p q
each_marks left [] p q is = record { saved = λ at saved. subst (λ (k : Metadata). IsSaved k at) (sym is) saved; few = omega (arith, ap marked_count is) }
each_marks left (right ∷ rights) p q each =
    let one = each.1.marks in
    let rest = each_marks left rights each.0 q each.2 in
    record { saved = λ at saved. rest.saved at (one.saved at saved); few = omega (arith, one.few, rest.few) }

-- the words of these numbers
abbrev pub AreWordsOf : Dict → List ℕ → List (List ℕ) → Type 0
AreWordsOf d [] ws = ws ≡ []
AreWordsOf d (n ∷ ns) ws = (w : List ℕ) × (rest : List (List ℕ)) × (word_of d n ≡ Some w) × (ws ≡ w ∷ rest) × AreWordsOf d ns rest

each_state : (left : ℕ) (rights : List ℕ) (p q : Metadata) (word : List ℕ) (axioms_before : List (List ℕ)) (ws : List (List ℕ)) (at : ℕ → List ℕ) (s : State)
    → LinksEach left rights p q → word_of p.dict left ≡ Some word → AreWordsOf p.dict rights ws → state_of p at ≡ declared_under s word axioms_before
    → state_of q at ≡ declared_under s word (axioms_before ++ ws)
each_state left [] p q word before ws at s is named none told = ap (λ (k : Metadata). state_of k at) is ∙ (told ∙ ap (declared_under s word) (sym (ap (λ vs. before ++ vs) none ∙ append-nil before)))
each_state left (right ∷ rights) p q word before ws at s each named words told =
    grind (arith, common_steps, under_more, each_state left rights each.0 q word (before ++ words.0 ∷ []) words.1)

-- a word that is declared, and then linked to others, is declared under them
pub declared_then_linked : (word : List ℕ) (p mid q : Metadata) (declares : Declares word p mid) (rights : List ℕ) (ws : List (List ℕ)) → LinksEach declares.number rights mid q
    → word_of mid.dict declares.number ≡ Some word → AreWordsOf mid.dict rights ws → (at : ℕ → List ℕ) → state_of q at ≡ declared_under (state_of p at) word ws
declared_then_linked word p mid q declares rights ws each named words at =
    each_state declares.number rights mid q word [] ws at (state_of p at) each named words (declares.state at)

pub declared_then_marked : (word : List ℕ) (p mid q : Metadata) (declares : Declares word p mid) (rights : List ℕ) → LinksEach declares.number rights mid q → Marks (1 + length rights) p q
declared_then_marked word p mid q declares rights each =
    let rest = each_marks declares.number rights mid q each in
    record { saved = λ at saved. rest.saved at (declares.marks.saved at saved); few = omega (arith, declares.marks.few, rest.few) }

-- ---- a word to which nothing leads is entailed by itself alone
module _ (k : Metadata) (sound : AreSound k) (number : ℕ) (word : List ℕ) (named : word_of k.dict number ≡ Some word) (nothing : (x : ℕ) → is_linked k x number ≡ false) where
  pub not_entailed : (n : ℕ) (p : List ℕ) → word_of k.dict n ≡ Some p → (n ≡ number → ⊥) → has_word (up (declared_of k) (axioms_of k) p) word ≡ false
  not_entailed n p is differ =
      false_from_ne_true (has_word (up (declared_of k) (axioms_of k) p) word)
      (λ has. let chain = entails_from_up (declared_of k) (axioms_of k) p word (among_from_has_word (up (declared_of k) (axioms_of k) p) word has) in by chain.0 chain.1)
    where
      by : (len : ℕ) → Chain (links (declared_of k)) (axioms_of k) len p word → ⊥
      by zero same = differ (one_number k sound n number word (is ∙ ap Some same) named)
      by (suc len) c =
          let last = chain_last (declared_of k) (axioms_of k) len p word c in
          let from = chain_has_number k sound len n p last.0 is last.1 in
          let link = link_numbered k sound from.0 last.0 word from.1 last.2 in
          let same = one_number k sound link.number number word link.named named in
          both_ways (is_linked k from.0 number) (nothing from.0) (subst (λ m. is_linked k from.0 m ≡ true) same link.linked)

-- a plain word entails no test
pub plain_no_test : (k : Metadata) (sound : AreSound k) (p word : List ℕ) → is_plain_word p ≡ true → is_test word ≡ true → has_word (up (declared_of k) (axioms_of k) p) word ≡ false
plain_no_test k sound p word plain test =
    false_from_ne_true (has_word (up (declared_of k) (axioms_of k) p) word)
    (λ has. let chain = entails_from_up (declared_of k) (axioms_of k) p word (among_from_has_word (up (declared_of k) (axioms_of k) p) word has) in
    both_ways (is_plain_word word) (test_not_plain word test) (right_leads is_plain_word (λ w h. h) (axioms_of k) rights (declared_of k) chain.0 p word plain chain.1))
  where
    rights : (e : List ℕ × List ℕ) → Among (axioms_of k) e → is_plain_word e.1 ≡ true
    rights e m = let found = among_axiom k sound e m in (sound.axioms found.0 found.1 found.2 found.3).plain e.1 found.5

-- ---- what stays
-- what is in use
pub each_used : (left : ℕ) (rights : List ℕ) (p q : Metadata) → LinksEach left rights p q → (n : ℕ) → is_used p n ≡ true → is_used q n ≡ true
each_used left [] p q is n used = ap (λ (k : Metadata). is_used k n) is ∙ used
each_used left (right ∷ rights) p q each n used =
    each_used left rights each.0 q each.2 n (each.1.used n ∙ or_right ((left == n) || is_head_by (word_of p.dict left) (word_of p.dict n)) (is_used p n) used)

-- a word that is declared under others leaves no number unused
pub under_used : (word : List ℕ) (p mid q : Metadata) (declares : Declares word p mid) (rights : List ℕ) → LinksEach declares.number rights mid q → AreUsed p → AreUsed q
under_used word p mid q declares rights each used n some = search (rules, each_used, each_dict)

-- ---- a new word is declared under others, axiom by axiom
-- ---- lists
-- what is at an index is none of those before it, if none occurs twice
not_before : (ns : List ℕ) (i : ℕ) → are_distinct ns ≡ true → i < length ns → has_number (take i ns) (get_or ns i 0) ≡ false
not_before [] i distinct lt = absurd (omega (arith, lt))
not_before (n ∷ ns) zero distinct lt = refl
not_before (n ∷ ns) (suc i) distinct lt =
    let parts = and_parts (not (has_number ns n)) (are_distinct ns) distinct in
    let inside : i < length ns = omega (arith, lt) in
    ap₂ (λ a b. a || b)
    (ne_eqb n (get_or ns i 0) (λ same. both_ways (has_number ns n) (not-true (has_number ns n) parts.0) (number_from_among ns n (subst (λ m. Among ns m) (sym same) (among_at ns i 0 inside)))))
    (not_before ns i parts.1 inside)

plain_word : (o : Option (List ℕ)) → is_plain_by o ≡ true → (w : List ℕ) × (o ≡ Some w) × (is_plain_word w ≡ true)
plain_word o plain = search (rules, both_ways)

-- ---- axioms in sequence
none_in : (b c : Bool) → c ≡ ((b && false) || c)
none_in b c = grind arith

in_none : (b : Bool) → ((b && false) || false) ≡ false
in_none b = grind arith

-- x: the left side is the same; a: the first right side is; b: one of the others is; c: it was there
pairs_in_order : (x a b c : Bool) → ((x && b) || ((x && a) || c)) ≡ ((x && (a || b)) || c)
pairs_in_order x a b c = grind arith

pub each_pairs : (left : ℕ) (rights : List ℕ) (p q : Metadata) → LinksEach left rights p q → (x y : ℕ) → has_pair q.axioms x y ≡ (((left == x) && has_number rights y) || has_pair p.axioms x y)
each_pairs left [] p q is x y = ap (λ (k : Metadata). has_pair k.axioms x y) is ∙ none_in (left == x) (has_pair p.axioms x y)
each_pairs left (right ∷ rights) p q each x y =
    each_pairs left rights each.0 q each.2 x y
    ∙ (ap (λ b. ((left == x) && has_number rights y) || b) (each.1.pairs x y)
    ∙ pairs_in_order (left == x) (right == y) (has_number rights y) (has_pair p.axioms x y))

pub each_count : (left : ℕ) (rights : List ℕ) (p q : Metadata) → LinksEach left rights p q → count_by is_filled q.axioms ≡ count_by is_filled p.axioms + length rights
each_count left [] p q is = omega (arith, ap (λ (k : Metadata). count_by is_filled k.axioms) is)
each_count left (right ∷ rights) p q each =
    let rest = each_count left rights each.0 q each.2 in
    let one = one_more each.1.slot each.1.free (ap (λ (k : Metadata). k.axioms) each.1.metadata) in
    omega (arith, rest, one)
  where
    one_more : (slot : ℕ) → slice_get p.axioms slot ≡ Some FreeAxiom → each.0.axioms ≡ set p.axioms slot (Pair left right) → count_by is_filled each.0.axioms ≡ count_by is_filled p.axioms + 1
    one_more slot free is =
        let was : cond (is_filled (get_or p.axioms slot FreeAxiom)) 1 0 ≡ 0 = ap (λ a. cond (is_filled a) 1 0) (get_or_from_slice_get p.axioms slot FreeAxiom FreeAxiom free) in
        let more = sum_by-set (λ (a : AxiomSlot). cond (is_filled a) 1 0) p.axioms slot (Pair left right) FreeAxiom (slice_get_within p.axioms slot FreeAxiom free) in
        ap (count_by is_filled) is ∙ sums (count_by is_filled (set p.axioms slot (Pair left right))) (count_by is_filled p.axioms) (cond (is_filled (get_or p.axioms slot FreeAxiom)) 1 0) more was
      where
        sums : (now before gone : ℕ) → now + gone ≡ before + 1 → gone ≡ 0 → now ≡ before + 1
        sums now before gone e none = omega (arith, e, none)

-- ---- the next axiom of a new word
-- the number that the word has then
pub number_declared : (p mid : Metadata) (word : List ℕ) → number_of p.dict word ≡ None → (declares : Declares word p mid) → number_of mid.dict word ≡ Some declares.number
number_declared p mid word new declares = search (rules, number_of-with_entry, same_word_decides)

module _ (p mid now : Metadata) (sound : AreSound p) (after : AreSound now) (word : List ℕ) (form : is_declarable word ≡ true) (new : number_of p.dict word ≡ None) (declares : Declares word p mid)
    (rights : List ℕ) (may : MayStandUnder rights p) where
  abbrev number : ℕ
  number = declares.number

  module _ (i : ℕ) (lt : i < length rights) (each : LinksEach number (take i rights) mid now) where
    abbrev right : ℕ
    right = get_or rights i 0

    abbrev before : List ℕ
    before = take i rights

    word_now : (n : ℕ) → word_of now.dict n ≡ (if number == n then Some word else word_of p.dict n)
    word_now n =
        ap (λ (d : Dict). word_of d n) (each_dict number before mid now each ∙ ap (λ (k : Metadata). k.dict) declares.metadata)
        ∙ word_of-with_entry p.dict word number new declares.free n

    named : word_of now.dict number ≡ Some word
    named = word_now number ∙ ap (λ b. if b then Some word else word_of p.dict number) (eq-eqb number number refl)

    -- the word of each of the numbers is known, so none is the new one
    plain_at : (n : ℕ) → Among rights n → is_plain_by (word_of p.dict n) ≡ true
    plain_at n m = all_among (λ j. is_plain_by (word_of p.dict j)) rights n may.plain m

    other : (n : ℕ) → Among rights n → n ≡ number → ⊥
    other n m same = both_ways (is_plain_by (word_of p.dict n)) (ap is_plain_by (ap (word_of p.dict) same ∙ declares.free)) (plain_at n m)

    to : (w : List ℕ) × (word_of p.dict right ≡ Some w) × (is_plain_word w ≡ true)
    to = plain_word (word_of p.dict right) (plain_at right (among_at rights i 0 lt))

    named_right : word_of now.dict right ≡ Some to.0
    named_right =
        word_now right
        ∙ (ap (λ b. if b then Some word else word_of p.dict right) (ne_eqb number right (λ same. other right (among_at rights i 0 lt) (sym same))) ∙ to.1)

    -- ---- it is new
    no_pair : has_pair now.axioms number right ≡ false
    no_pair =
        each_pairs number before mid now each number right
        ∙ (ap₂ (λ a b. ((number == number) && a) || b) (not_before rights i may.apart lt)
        (ap (λ (k : Metadata). has_pair k.axioms number right) declares.metadata ∙ (neither _ (has_pair p.axioms number right) (unnamed_from p sound number declares.free right)).1)
        ∙ in_none (number == number))

    -- ---- nothing leads to the new word
    not_one : has_number before number ≡ false
    not_one = false_from_ne_true (has_number before number) (λ has. other number (among_take i rights number (among_from_number before number has)) refl)

    no_pair_to : (x : ℕ) → has_pair now.axioms x number ≡ false
    no_pair_to x =
        each_pairs number before mid now each x number
        ∙ (ap₂ (λ a b. ((number == x) && a) || b) not_one
        (ap (λ (k : Metadata). has_pair k.axioms x number) declares.metadata ∙ (neither _ (has_pair p.axioms x number) (unnamed_to p sound number declares.free x)).1)
        ∙ in_none (number == x))

    no_head : (x : ℕ) → is_head_by (word_of now.dict x) (word_of now.dict number) ≡ false
    no_head x = ap₂ is_head_by (word_now x) named ∙ by (number == x)
      where
        by : (b : Bool) → is_head_by (if b then Some word else word_of p.dict x) (Some word) ≡ false
        by true = ap (λ b. b && same_word (head_bytes word) word) (declarable_not_valued word form)
        by false = new_no_head p sound word new x

    -- if it is no test
    nothing : is_test word ≡ false → (x : ℕ) → is_linked now x number ≡ false
    nothing tested x =
        ap₂ (λ a b. a || b)
        (ap (is_own_link (declared_of now) (word_of now.dict x)) named
        ∙ (own_to (declared_of now) (word_of now.dict x) word tested ∙ (sym (ap (is_head_by (word_of now.dict x)) named) ∙ no_head x)))
        (no_pair_to x)

    no_circle : (b : Bool) → is_test word ≡ b → has_word (up (declared_of now) (axioms_of now) to.0) word ≡ false
    no_circle false e = not_entailed now after number word named (nothing e) right to.0 named_right (other right (among_at rights i 0 lt))
    no_circle true e = plain_no_test now after to.0 word to.2 e

    -- ---- a slot is free
    enough : count_by is_filled now.axioms < now.limits.props
    enough =
        omega (
          arith,
          lt,
          may.room,
          each_count number before mid now each,
          length-take-le i rights (omega (arith, lt)),
          ap (λ (k : Metadata). count_by is_filled k.axioms) declares.metadata,
          ap (λ (k : Metadata). k.limits.props) (each_metadata number before mid now each),
          ap (λ (k : Metadata). k.limits.props) declares.metadata,
        )

    many : now.limits.props ≤ length now.axioms
    many = search (rules)

    pub may_link_next : MayLink number right now
    may_link_next =
        let slot = slot_free now.axioms now.limits.props many enough in
        record {
          from = word;
          to = to.0;
          is_left = named;
          is_right = named_right;
          plain = to.2;
          new = no_pair;
          no_circle = no_circle (is_test word) refl;
          slot = slot.0;
          below = slot.1;
          free = slot.2;
        }

-- ---- no two slots have the same axiom
abbrev pub AreApart : List AxiomSlot → Type 0
AreApart axioms = (slot other x y : ℕ) → slice_get axioms slot ≡ Some (Pair x y) → slice_get axioms other ≡ Some (Pair x y) → slot ≡ other

pub each_apart : (left : ℕ) (rights : List ℕ) (p q : Metadata) → LinksEach left rights p q → are_distinct rights ≡ true → ((y : ℕ) → has_number rights y ≡ true → has_pair p.axioms left y ≡ false)
    → AreApart p.axioms → AreApart q.axioms
each_apart left [] p q is distinct none apart = subst (λ (k : Metadata). AreApart k.axioms) (sym is) apart
each_apart left (right ∷ rights) p q each distinct none apart =
    each_apart left rights each.0 q each.2 parts.1 onward
    (apart_linked left right p each.0 each.1 (λ there. both_ways (has_pair p.axioms left right) (none right (or_left (right == right) (has_number rights right) (eq-eqb right right refl))) (in_slot there)) apart)
  where
    parts : (not (has_number rights right) ≡ true) × (are_distinct rights ≡ true)
    parts = and_parts (not (has_number rights right)) (are_distinct rights) distinct

    in_slot : InSlot p.axioms left right → has_pair p.axioms left right ≡ true
    in_slot there =
        any_from_among (is_pair left right) p.axioms (Pair left right) (among_slot p.axioms there.0 (Pair left right) there.1)
        (and_from (left == left) (right == right) (eq-eqb left left refl) (eq-eqb right right refl))

    onward : (y : ℕ) → has_number rights y ≡ true → has_pair each.0.axioms left y ≡ false
    onward y has =
        each.1.pairs left y
        ∙ (ap₂ (λ a b. ((left == left) && a) || b)
        (ne_eqb right y (λ same. both_ways (has_number rights right) (not-true (has_number rights right) parts.0) (subst (λ n. has_number rights n ≡ true) (sym same) has)))
        (none y (or_right (right == y) (has_number rights y) has))
        ∙ in_none (left == left))

pub under_apart : (p mid q : Metadata) → AreSound p → (word : List ℕ) (declares : Declares word p mid) (rights : List ℕ) → are_distinct rights ≡ true → LinksEach declares.number rights mid q
    → AreApart p.axioms → AreApart q.axioms
under_apart p mid q sound word declares rights distinct each apart =
    each_apart declares.number rights mid q each distinct
    (λ y has. ap (λ (k : Metadata). has_pair k.axioms declares.number y) declares.metadata ∙ (neither _ (has_pair p.axioms declares.number y) (unnamed_from p sound declares.number declares.free y)).1)
    (subst (λ (k : Metadata). AreApart k.axioms) (sym declares.metadata) apart)
