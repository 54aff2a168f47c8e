-- All that truth and listings look at: the known words, what they entail, and each file's name, size and description.
use Rattle.std.specs.Prelude.{ℕ, Bool, ◌&&◌, List, length, map}
use Rattle.std.specs.List.{list_any}
use Rattle.lis_words.specs.Words.{same_word, has_word}
use Rattle.lis_model.specs.declared.limits.Limits.{Limits}
use Rattle.lis_model.specs.State.{State, File, known, up, file_words}

pub record Entry : Type 0 where
  pub name : List ℕ
  pub size : ℕ
  pub words : List (List ℕ)

pub record Table : Type 0 where
  pub limits : Limits
  pub known : List (List ℕ)
  pub files : List Entry
  -- each known word, and what it entails
  pub entailed : List (List ℕ × List (List ℕ))

abbrev pub entry_of : List (List ℕ) → List (List ℕ × List ℕ) → File → Entry
entry_of declared axioms file = record { name = file.name; size = length file.bytes; words = file_words declared axioms file }

abbrev pub table : State → Table
table s = record {
  limits = s.limits;
  known = known s;
  files = map (entry_of s.declared s.axioms) s.files;
  entailed = map (λ p. (p, up s.declared s.axioms p)) (known s);
}

abbrev pub entails : Table → List ℕ → List ℕ → Bool
entails t p q = list_any (λ pair. same_word pair.0 p && has_word pair.1 q) t.entailed
