-- The links between the words that have numbers.
use Rattle.std.specs.Prelude.{◌≡◌, ℕ, Bool, true, false, ◌&&◌, ◌||◌, ◌==◌, Option, Some, None, List}
use Rattle.std.specs.List.{list_any}
use Rattle.lis_dict.specs.Dict.{word_of}
use Rattle.lis_taxonomy.specs.Taxonomy.{Taxonomy, has_edge, Entails}
use Rattle.lis_fields.specs.declared.slots.AxiomSlot.{AxiomSlot}
use Rattle.lis_fields.specs.declared.slots.AxiomSlot.TheVariants.{Free as FreeAxiom, Pair}
use Rattle.lis_words.specs.Words.{has_word}
use Rattle.lis_model.specs.State.{links}
use Rattle.lis_kept.specs.Metadata.{Metadata}
use Rattle.lis_kept.specs.Telling.{declared_of, is_head_by}
use Rattle.lis_kept.specs.Sound.{AreSound}
use Rattle.lis_kept.specs.TestEdges.{is_next_test}

abbrev pub is_pair : ℕ → ℕ → AxiomSlot → Bool
is_pair p q FreeAxiom = false
is_pair p q (Pair left right) = (left == p) && (right == q)

-- the numbers are the sides of an axiom
abbrev pub has_pair : List AxiomSlot → ℕ → ℕ → Bool
has_pair axioms p q = list_any (is_pair p q) axioms

abbrev pub is_own_link : List (List ℕ) → Option (List ℕ) → Option (List ℕ) → Bool
is_own_link declared None q = false
is_own_link declared (Some p) None = false
is_own_link declared (Some p) (Some q) = has_word (links declared p) q

-- a link leads from the word of the one number to the word of the other: to its head, to a weaker test, or by an axiom
abbrev pub is_linked : Metadata → ℕ → ℕ → Bool
is_linked k p q = is_own_link (declared_of k) (word_of k.dict p) (word_of k.dict q) || has_pair k.axioms p q

-- an edge leads from the one number to the other: to the head of its word, to the next weaker test, or by an axiom
abbrev pub is_edge : Metadata → ℕ → ℕ → Bool
is_edge k p q = is_head_by (word_of k.dict p) (word_of k.dict q) || is_next_test k.dict k.declared p q || has_pair k.axioms p q

-- The edges of the taxonomy are those.
pub record HasEdges (k : Metadata) (t : Taxonomy) : Type 0 where
  pub props : t.props ≡ k.limits.props
  pub edges : (p q : ℕ) → has_edge t p q ≡ is_edge k p q

-- Edges are links between the words that have numbers, and each such link is a chain of edges, so both entail the same. A link to a head
-- and that of an axiom are edges themselves.
pub record TellsLinks (k : Metadata) (t : Taxonomy) : Type 0 where
  pub props : t.props ≡ k.limits.props
  pub linked : (p q : ℕ) → has_edge t p q ≡ true → is_linked k p q ≡ true
  pub leads : (p q : ℕ) → is_linked k p q ≡ true → Entails t p q
  pub heads : (p q : ℕ) → is_head_by (word_of k.dict p) (word_of k.dict q) ≡ true → has_edge t p q ≡ true
  pub pairs : (p q : ℕ) → has_pair k.axioms p q ≡ true → has_edge t p q ≡ true

-- what memory keeps, with the taxonomy that it derives from it
pub record AreHeld (k : Metadata) (t : Taxonomy) : Type 0 where
  pub sound : AreSound k
  pub links : HasEdges k t
