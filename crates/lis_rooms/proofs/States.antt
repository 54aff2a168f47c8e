-- The test of two states says whether they are equal.
use Rattle.std.proofs.Common.{◌≡◌, ℕ, Decides, ap, List}
use Rattle.std.specs.Cmp.Lexicographic.{pointwise_decides}
use Rattle.std.proofs.lemmas.Bool.Decides.{Decides-and, Decides-eqb}
use Rattle.lis_laws.proofs.Members.{same_word_decides}
use Rattle.lis_model.specs.declared.limits.Limits.{Limits}
use Rattle.lis_model.specs.State.{State, File}
use Rattle.lis_rooms.specs.Sights.{same_words, same_limits, same_pair, same_file, same_state}

same_words_decides : (a b : List (List ℕ)) → Decides (same_words a b) (a ≡ b)
same_words_decides = pointwise_decides same_word_decides

same_limits_decides : (a b : Limits) → Decides (same_limits a b) (a ≡ b)
same_limits_decides a b =
    let parts =
    Decides-and _ _ (Decides-and _ _ (Decides-and _ _ (Decides-eqb a.files b.files) (Decides-eqb a.props b.props)) (Decides-eqb a.blocks b.blocks)) (Decides-eqb a.version b.version) in (
      λ is. let p = parts.0 is in λ i. record { files = p.0.0.0 i; props = p.0.0.1 i; blocks = p.0.1 i; version = p.1 i },
      λ e. parts.1 (((ap (λ (l : Limits). l.files) e, ap (λ (l : Limits). l.props) e), ap (λ (l : Limits). l.blocks) e), ap (λ (l : Limits). l.version) e),
    )

same_pair_decides : (a b : List ℕ × List ℕ) → Decides (same_pair a b) (a ≡ b)
same_pair_decides a b =
    let parts = Decides-and _ _ (same_word_decides a.0 b.0) (same_word_decides a.1 b.1) in
    (λ is. let p = parts.0 is in λ i. (p.0 i, p.1 i), λ e. parts.1 (ap (λ (l : List ℕ × List ℕ). l.0) e, ap (λ (l : List ℕ × List ℕ). l.1) e))

same_file_decides : (a b : File) → Decides (same_file a b) (a ≡ b)
same_file_decides a b =
    let parts = Decides-and _ _ (Decides-and _ _ (same_word_decides a.name b.name) (same_word_decides a.bytes b.bytes)) (same_words_decides a.assigned b.assigned) in (
      λ is. let p = parts.0 is in λ i. record { name = p.0.0 i; bytes = p.0.1 i; assigned = p.1 i },
      λ e. parts.1 ((ap (λ (f : File). f.name) e, ap (λ (f : File). f.bytes) e), ap (λ (f : File). f.assigned) e),
    )

pub same_state_decides : (a b : State) → Decides (same_state a b) (a ≡ b)
same_state_decides a b =
    let parts =
    Decides-and _ _ (Decides-and _ _ (Decides-and _ _ (same_limits_decides a.limits b.limits) (same_words_decides a.declared b.declared)) (pointwise_decides same_pair_decides a.axioms b.axioms)) (pointwise_decides same_file_decides a.files b.files) in (
      λ is. let p = parts.0 is in λ i. record { limits = p.0.0.0 i; declared = p.0.0.1 i; axioms = p.0.1 i; files = p.1 i },
      λ e. parts.1 (((ap (λ (s : State). s.limits) e, ap (λ (s : State). s.declared) e), ap (λ (s : State). s.axioms) e), ap (λ (s : State). s.files) e),
    )
