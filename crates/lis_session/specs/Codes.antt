-- The code by which a proof keeps sessions as values.
use Rattle.std.specs.Prelude.{List, refl}
use Rattle.std.specs.Coded.{Coded, code_by, coded×, coded_list}
use Rattle.lis_grammar.specs.Formula.{Formula}
use Rattle.lis_grammar.specs.Codes.{formula_code}
use Rattle.lis_store.specs.Stored.{Stored}
use Rattle.lis_store.specs.Codes.{stored_code}
use Rattle.lis_session.specs.Session.{Situated}

abbrev pub situated_code : Coded Situated
situated_code =
    code_by (Stored × List Formula) (coded× stored_code (coded_list formula_code)) (λ s. (s.store, s.place)) (λ p. record { store = p.0; place = p.1 }) (λ _. refl)
