-- What memory represents with other words.
use Rattle.lis_store.proofs.Common.{◌≡◌, sym, ◌∙◌, ℕ, ◌+◌, ◌≤◌, List, [], ◌∷◌, length, map, ap, subst, inl, inr, arith, Equal, tied_itself, word_exact, word_order, Among, among_from_contains, Dict, word_of, Filed, numbers_at, SpellsSuper, Limits, State, description, WellFormed, word_cmp, with_word, with_words, flat_all, Metadata, state_of, AreUsed, Tells, set_of, words_told, file_told, insert_key_le}
use Rattle.std.specs.Option.{option_to_list}
use Rattle.lis_laws.proofs.Counts.{le_insert_key}
use Rattle.lis_store.proofs.Points.{length-insert_key}

-- if two functions give the same list, they give the same for each element
pub same_map : {X Y : Type 0} (f g : X → Y) (xs : List X) → map f xs ≡ map g xs → (x : X) → Among xs x → f x ≡ g x
same_map f g [] e x m = absurd m
same_map f g (y ∷ ys) e x (inl same) = let first : f y ≡ g y = cc in subst (λ z. f z ≡ g z) same first
same_map f g (y ∷ ys) e x (inr m) = let rest : map f ys ≡ map g ys = cc in same_map f g ys rest x m

-- numbers whose words are the same in both dictionaries
pub words_same : (d e : Dict) (ns : List ℕ) → ((n : ℕ) → Among ns n → word_of e n ≡ word_of d n) → words_told e ns ≡ words_told d ns
words_same d e ns same = ap set_of (flat_all (λ n. option_to_list (word_of e n)) (λ n. option_to_list (word_of d n)) ns (λ n m. ap option_to_list (same n m)))

-- a new word makes a set one longer
pub length-with_word : (words : List (List ℕ)) (word : List ℕ) → ((w : List ℕ) → Among words w → word_cmp word w ≡ Equal → ⊥) → length (with_word words word) ≡ length words + 1
length-with_word words word new = length-insert_key word_cmp word_exact words word (λ m. new word m (tied_itself word_order word))

pub few_with : (some more : List (List ℕ)) → length (with_words some more) ≤ length some + length more
few_with some [] = omega arith
few_with some (word ∷ more) = omega (arith, few_with (with_word some word) more, insert_key_le word_cmp some word)

-- a list with more words is no shorter
pub words_grow : (some more : List (List ℕ)) → length some ≤ length (with_words some more)
words_grow some [] = omega arith
words_grow some (word ∷ more) = omega (arith, le_insert_key word_cmp some word, words_grow (with_word some word) more)

-- ---- words, axioms and descriptions change, and the files and their blocks stay
module _ (p q : Metadata) (same : q ≡ record p { dict = q.dict; declared = q.declared; axioms = q.axioms; ext = q.ext; marks = q.marks })
    (stays : (f : Filed) → Among p.catalog.entries f → (n : ℕ) → Among f.rec.tags n → word_of q.dict n ≡ word_of p.dict n) (at : ℕ → List ℕ) where
  -- a file keeps its assigned words
  pub file_same : (f : Filed) → Among p.catalog.entries f → file_told q.limits q.dict at f ≡ file_told p.limits p.dict at f
  file_same f m =
      ap (λ (k : Metadata). file_told k.limits q.dict at f) same
      ∙ ap (λ (ws : List (List ℕ)). record (file_told p.limits p.dict at f) { assigned = ws }) (words_same p.dict q.dict f.rec.tags (stays f m))

  pub retold : (s t : State) → Tells p at s → t.limits ≡ s.limits → state_of q at ≡ t → WellFormed t → AreUsed q
      → ((f : Filed) → Among p.catalog.entries f → words_told q.dict (numbers_at q.ext f.slot) ≡ description t (file_told p.limits p.dict at f)) → Tells q at t
  retold s t tells limits state formed used described = subst (λ (k : Metadata). Tells k at t) (sym same) (record {
    super = subst (λ (l : Limits). SpellsSuper l (at 0)) (sym limits) tells.super;
    state = subst (λ (k : Metadata). state_of k at ≡ t) same state;
    formed = formed;
    used = subst (λ (k : Metadata). AreUsed k) same used;
    described = λ f m. let among = among_from_contains p.catalog.entries f m in
        subst (λ (k : Metadata). words_told k.dict (numbers_at k.ext f.slot) ≡ description t (file_told k.limits k.dict at f)) same (described f among ∙ ap (description t) (sym (file_same f among)));
    taken = λ n lt is. let b = tells.taken n lt is in record { file = b.file; kept = b.kept; has = b.has };
    given = tells.given;
    indexed = tells.indexed;
    apart = tells.apart;
    one_use = tells.one_use;
  })
