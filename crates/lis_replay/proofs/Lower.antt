-- A state that is on its way to another one: all that it has is there too, but its files may have fewer words.
use Rattle.std.proofs.Common.{◌≡◌, ℕ, ◌≤◌, nat_lt, nat_le, true, false, List, length, refl, ap, subst, arith}
use Rattle.std.proofs.lemmas.Bool.{leb-true, ltb-true, false_from_ne_true}
use Rattle.lis_graph.specs.Graph.{is_rising}
use Rattle.lis_graph.proofs.Members.{Among, among_from_any}
use Rattle.lis_graph.proofs.Sets.{members_le}
use Rattle.lis_words.specs.Words.{word_cmp, test_of}
use Rattle.lis_model.specs.declared.limits.Limits.{Limits}
use Rattle.lis_model.specs.Tests.{is_met}
use Rattle.lis_model.specs.Derived.{derived_words}
use Rattle.lis_model.specs.State.{State, File, WellFormed, own_words, description, known}
use Rattle.lis_model.specs.Step.{exceeds_known, exceeds_words}
use Rattle.lis_laws.proofs.Members.{word_order}
use Rattle.lis_laws.proofs.Counts.{all_among}
use Rattle.lis_laws.proofs.Closures.{IsLess, all_up_within, all_up_le}
use Rattle.lis_laws.proofs.Sources.{OwnWord, own_word, own_from, Source, source_of, known_from}
use Rattle.lis_laws.proofs.Sources.OwnWord.{Assigned, Derived, Met}
use Rattle.lis_laws.proofs.Sources.Source.{Declared, Left, LeftHead, Described}
use Rattle.lis_laws.proofs.Known.{sorted_known}

-- the same name and bytes, and no other words
pub record IsBarer (f g : File) : Type 0 where
  pub name : f.name ≡ g.name
  pub bytes : f.bytes ≡ g.bytes
  pub words : (w : List ℕ) → Among f.assigned w → Among g.assigned w

pub barer_itself : (f : File) → IsBarer f f
barer_itself f = record { name = refl; bytes = refl; words = λ w m. m }

pub record IsLower (s t : State) : Type 0 where
  pub limits : s.limits ≡ t.limits
  pub declared : (w : List ℕ) → Among s.declared w → Among t.declared w
  pub axioms : (e : List ℕ × List ℕ) → Among s.axioms e → Among t.axioms e
  pub files : (f : File) → Among s.files f → (g : File) × Among t.files g × IsBarer f g

own_lower : (s t : State) → IsLower s t → (f g : File) → IsBarer f g → (w : List ℕ) → Among (own_words s.declared f) w → Among (own_words t.declared g) w
own_lower s t lower f g barer w m = own_from t.declared g w (by (own_word s.declared f w m))
  where
    by : OwnWord s.declared f w → OwnWord t.declared g w
    by (Assigned given) = Assigned (barer.words w given)
    by (Derived derived) = Derived (subst (λ (b : List ℕ). Among (derived_words g.name b) w) barer.bytes (subst (λ (n : List ℕ). Among (derived_words n f.bytes) w) barer.name derived))
    by (Met there met) = Met (lower.declared w there) (subst (λ (b : List ℕ). is_met (test_of w) (length b) ≡ true) barer.bytes met)

less : (s t : State) → IsLower s t → (f g : File) → IsBarer f g → IsLess s.declared t.declared s.axioms t.axioms (own_words s.declared f) (own_words t.declared g)
less s t lower f g barer = record { in_declared = lower.declared; in_axioms = lower.axioms; in_words = own_lower s t lower f g barer }

pub known_lower : (s t : State) → IsLower s t → (w : List ℕ) → Among (known s) w → Among (known t) w
known_lower s t lower w m = known_from t w (by (source_of s w m))
  where
    file : (f : File) → Among (description s f) w → (g : File) × Among t.files g × IsBarer f g → Source t w
    file f has found =
        Described found.0 found.1 (all_up_within s.declared t.declared s.axioms t.axioms (own_words s.declared f) (own_words t.declared found.0) (less s t lower f found.0 found.2) w has)

    by : Source s w → Source t w
    by (Declared there) = Declared (lower.declared w there)
    by (Left e there is) = Left e (lower.axioms e there) is
    by (LeftHead e there head) = LeftHead e (lower.axioms e there) head
    by (Described f there has) = file f has (lower.files f there)

-- ---- so there is room, if the other state has it
pub room_known : (s t : State) → WellFormed t → IsLower s t → is_rising word_cmp s.declared ≡ true → exceeds_known s ≡ false
room_known s t formed lower rising = false_from_ne_true (exceeds_known s) many
  where
    few : length (known s) ≤ length (known t)
    few = members_le word_cmp word_order (known s) (known t) (sorted_known s rising) (sorted_known t formed.declared_set) (known_lower s t lower)

    many : exceeds_known s ≡ true → ⊥
    many h = omega (arith, few, formed.few_known, ltb-true _ _ h, ap (λ (l : Limits). l.props) lower.limits)

pub room_words : (s t : State) → WellFormed t → IsLower s t → exceeds_words s ≡ false
room_words s t formed lower = false_from_ne_true (exceeds_words s) many
  where
    long : (f : File) → nat_lt 128 (length (description s f)) ≡ true → (g : File) × Among t.files g × IsBarer f g → ⊥
    long f h found =
        let few = leb-true _ _ (all_among (λ (file : File). nat_le (length (description t file)) 128) t.files found.0 formed.files.few_words found.1) in
        let le = all_up_le s.declared t.declared s.axioms t.axioms (own_words s.declared f) (own_words t.declared found.0) (less s t lower f found.0 found.2) in
        omega (arith, few, le, ltb-true _ _ h)

    many : exceeds_words s ≡ true → ⊥
    many h =
        let found = among_from_any (λ (file : File). nat_lt 128 (length (description s file))) s.files h in
        long found.0 found.2 (lower.files found.0 found.1)
