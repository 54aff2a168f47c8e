-- The edges between tests: one leads from each declared test to the next weaker one.
use Rattle.std.specs.Prelude.{◌≡◌, ℕ, ◌==◌, Bool, true, false, not, ◌&&◌, ◌||◌, if◌then◌else◌, Option, Some, None, is_some, List, IfSome}
use Rattle.std.specs.List.{list_any, range_with_len}
use Rattle.lis_blockmap.specs.Bitmap.{is_taken}
use Rattle.lis_dict.specs.Dict.{Dict, word_of}
use Rattle.lis_taxonomy.specs.Taxonomy.{Taxonomy, has_edge}
use Rattle.lis_words.specs.declared.test.Test.{Test}
use Rattle.lis_words.specs.Words.{test_of}
use Rattle.lis_model.specs.Tests.{are_weaker}
use Rattle.lis_kept.specs.Edges.{is_at}
use Rattle.lis_kept.specs.declared.test_edges.Side.{Side}
use Rattle.lis_kept.specs.declared.test_edges.Side.TheVariants.{Weaker, Stronger}

-- the test that a word is
abbrev pub test_by : Option (List ℕ) → Option Test
test_by None = None
test_by (Some word) = test_of word

-- the test that the word of a number is, if the word is declared
abbrev pub declared_test : Dict → List Bool → ℕ → Option Test
declared_test dict declared n = if is_taken declared n then test_by (word_of dict n) else None

-- the words of both numbers are declared tests, and the second one is weaker
abbrev pub is_test_link : Dict → List Bool → ℕ → ℕ → Bool
is_test_link dict declared p q = are_weaker (declared_test dict declared q) (declared_test dict declared p)

-- some declared test is weaker than the first one and stronger than the second one
abbrev pub is_between : Dict → List Bool → ℕ → ℕ → Bool
is_between dict declared p q = list_any (λ r. is_test_link dict declared p r && is_test_link dict declared r q) (range_with_len 0 dict.props)

-- the second one is the next weaker test
unfoldable pub is_next_test : Dict → List Bool → ℕ → ℕ → Bool
is_next_test dict declared p q = is_test_link dict declared p q && not (is_between dict declared p q)

-- Edges to a test lead from stronger tests alone.
abbrev pub TestsAreOrdered : Dict → Taxonomy → Type 0
TestsAreOrdered dict t =
    (p q : ℕ) → has_edge t p q ≡ true → is_some (test_by (word_of dict q)) ≡ true → are_weaker (test_by (word_of dict q)) (test_by (word_of dict p)) ≡ true

-- ---- the next tests on both sides
-- the first test is on that side of the second one
abbrev pub is_past : Side → Option Test → Option Test → Bool
is_past Weaker q p = are_weaker q p
is_past Stronger q p = are_weaker p q

-- the number is that of a declared test on that side of a test, and none is between them
pub record IsNearest (side : Side) (dict : Dict) (declared : List Bool) (test : Option Test) (n : ℕ) : Type 0 where
  pub past : is_past side (declared_test dict declared n) test ≡ true
  pub nearest : (r : ℕ) → is_past side (declared_test dict declared r) test ≡ true → is_past side (declared_test dict declared n) (declared_test dict declared r) ≡ false

-- the number of the nearest declared test on that side of a test, if there is one
abbrev pub IsNeighbour : Side → Dict → List Bool → Option Test → Option ℕ → Type 0
IsNeighbour side dict declared test None = (r : ℕ) → is_past side (declared_test dict declared r) test ≡ false
IsNeighbour side dict declared test (Some n) = IsNearest side dict declared test n

-- if both are given, the second one is a weaker test
abbrev pub AreInOrder : Dict → List Bool → Option ℕ → Option ℕ → Type 0
AreInOrder dict declared from to = IfSome from (λ p. IfSome to (λ q. is_test_link dict declared p q ≡ true))

-- with the edge from the one number to the other, if both are given
pub record LinksPair (from to : Option ℕ) (t u : Taxonomy) : Type 0 where
  pub props : u.props ≡ t.props
  pub edges : (p q : ℕ) → has_edge u p q ≡ ((is_at from p && is_at to q) || has_edge t p q)

-- and without it
pub record UnlinksPair (from to : Option ℕ) (t u : Taxonomy) : Type 0 where
  pub props : u.props ≡ t.props
  pub edges : (p q : ℕ) → has_edge u p q ≡ (not (is_at from p && is_at to q) && has_edge t p q)

-- with the edge from a number to that of the next weaker test
pub record LinksNext (dict : Dict) (declared : List Bool) (number : ℕ) (t u : Taxonomy) : Type 0 where
  pub props : u.props ≡ t.props
  pub edges : (p q : ℕ) → has_edge u p q ≡ (((p == number) && is_next_test dict declared p q) || has_edge t p q)

-- the numbers of the next tests on both sides of a number's
pub record AreNeighbours (dict : Dict) (declared : List Bool) (number : ℕ) (stronger weaker : Option ℕ) : Type 0 where
  pub above : IsNeighbour Stronger dict declared (declared_test dict declared number) stronger
  pub below : IsNeighbour Weaker dict declared (declared_test dict declared number) weaker

-- with edges to and from a number instead of the one between its neighbours
pub record InsertsTest (dict : Dict) (declared : List Bool) (number : ℕ) (t u : Taxonomy) : Type 0 where
  pub stronger : Option ℕ
  pub weaker : Option ℕ
  pub neighbours : AreNeighbours dict declared number stronger weaker
  pub props : u.props ≡ t.props
  pub edges : (p q : ℕ) → has_edge u p q
      ≡ ((is_at stronger p && (number == q)) || (((number == p) && is_at weaker q) || (not (is_at stronger p && is_at weaker q) && has_edge t p q)))

-- with the edge between the neighbours of a number instead of those to and from it
pub record RemovesTest (dict : Dict) (declared : List Bool) (number : ℕ) (t u : Taxonomy) : Type 0 where
  pub stronger : Option ℕ
  pub weaker : Option ℕ
  pub neighbours : AreNeighbours dict declared number stronger weaker
  pub props : u.props ≡ t.props
  pub edges : (p q : ℕ) → has_edge u p q
      ≡ ((is_at stronger p && is_at weaker q) || (not (is_at stronger p && (number == q)) && (not ((number == p) && is_at weaker q) && has_edge t p q)))
