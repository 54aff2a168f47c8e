-- The codes by which a proof keeps situations as values.
use Rattle.std.specs.Prelude.{ℕ, List, refl}
use Rattle.std.specs.Coded.{Coded, code_by, coded×, coded_ℕ, coded_list}
use Rattle.lis_grammar.specs.Formula.{Formula}
use Rattle.lis_grammar.specs.Codes.{formula_code}
use Rattle.lis_model.specs.declared.limits.Limits.{Limits}
use Rattle.lis_model.specs.State.{File, State}
use Rattle.lis_model.specs.Step.{Situation}

abbrev pub word_code : Coded (List ℕ)
word_code = coded_list coded_ℕ

abbrev pub limits_code : Coded Limits
limits_code =
    code_by (ℕ × (ℕ × (ℕ × ℕ))) (coded× coded_ℕ (coded× coded_ℕ (coded× coded_ℕ coded_ℕ))) (λ l. (l.files, (l.props, (l.blocks, l.version))))
    (λ p. record { files = p.0; props = p.1.0; blocks = p.1.1.0; version = p.1.1.1 }) (λ _. refl)

abbrev pub file_code : Coded File
file_code =
    code_by (List ℕ × (List ℕ × List (List ℕ))) (coded× word_code (coded× word_code (coded_list word_code)))
    (λ f. (f.name, (f.bytes, f.assigned))) (λ p. record { name = p.0; bytes = p.1.0; assigned = p.1.1 }) (λ _. refl)

abbrev pub state_code : Coded State
state_code =
    code_by (Limits × (List (List ℕ) × (List (List ℕ × List ℕ) × List File)))
    (coded× limits_code (coded× (coded_list word_code) (coded× (coded_list (coded× word_code word_code)) (coded_list file_code))))
    (λ s. (s.limits, (s.declared, (s.axioms, s.files))))
    (λ p. record { limits = p.0; declared = p.1.0; axioms = p.1.1.0; files = p.1.1.1 }) (λ _. refl)

abbrev pub situation_code : Coded Situation
situation_code =
    code_by (State × List Formula) (coded× state_code (coded_list formula_code)) (λ s. (s.state, s.place)) (λ p. record { state = p.0; place = p.1 }) (λ _. refl)
