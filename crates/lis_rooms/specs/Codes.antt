-- The code by which a proof keeps rooms as values.
use Rattle.std.specs.Prelude.{refl}
use Rattle.std.specs.Coded.{Coded, code_by, coded×, coded_list}
use Rattle.lis_grammar.specs.Codes.{formula_code}
use Rattle.lis_store.specs.Stored.{Stored}
use Rattle.lis_store.specs.Codes.{stored_code}
use Rattle.lis_session.specs.Session.{SituatedOf}
use Rattle.lis_rooms.specs.Rooms.{Places}

abbrev pub rooms_code : Coded (SituatedOf Places)
rooms_code =
    code_by (Stored × Places) (coded× stored_code (coded_list (coded_list formula_code))) (λ s. (s.store, s.place)) (λ p. record { store = p.0; place = p.1 }) (λ _. refl)
