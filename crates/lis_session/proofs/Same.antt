-- The two statements of a session moment.
use Rattle.std.proofs.Common.{◌≡◌, ◌⊎◌, ℕ, ◌+◌, ◌-◌, ◌≤◌, ◌<◌, List, [], ◌∷◌, ◌++◌, length, refl, ap, subst, ◌∙◌, inl, inr, arith, append-nil, length-append}
use Rattle.std.proofs.lemmas.Bool.{cases_lt}
use Rattle.lis_ports.specs.Since.{Begins}
use Rattle.lis_model.specs.Step.{SituationOf, OutcomeOf}
use Rattle.lis_session.specs.Session.{out, SessionMoment, ShownMoment, SaysTheSame}
use Rattle.lis_laws.proofs.Regular.{AreRegular}
use Rattle.lis_session.proofs.Moments.{begins_whole, begins_trans, begins_length, out_none, out_begins, out_grows}

module _ {P I : Type 0} (by : SituationOf P → I → OutcomeOf P) (regular : AreRegular by) (start : SituationOf P) (items : List I) (image shown : List ℕ) where
  -- this many replies were shown whole, and no more
  told : (m : SessionMoment by start items image shown) (whole : ℕ) → Begins (out by start items whole) shown → (m.count ≡ whole) ⊎ ((m.count ≡ whole + 1) × (whole < length items)) → whole ≤ length items
      → ((more : ℕ) → whole < more → more ≤ length items → length shown < length (out by start items more)) → ShownMoment by start items image shown
  told m whole is_shown which within longer = record {
    whole = whole;
    within = within;
    is_shown = is_shown;
    greatest = λ more few begins. elim (cases_lt whole more) as (λ _. more ≤ whole) [
      | inr le ↦ le
      | inl lt ↦ absurd (omega (arith, longer more lt few, begins_length (out by start items more) shown begins))
    ];
    count = m.count;
    which = which;
    stands = m.stands;
    no_more = m.no_more;
  }

  shown_moment : (m : SessionMoment by start items image shown) (rest : List ℕ) → out by start items m.count ≡ shown ++ rest → ShownMoment by start items image shown
  shown_moment m [] is =
      let all : out by start items m.count ≡ shown = is ∙ append-nil shown in
      told m m.count (subst (λ xs. Begins (out by start items m.count) xs) all (begins_whole (out by start items m.count))) (inl refl) m.within
      (λ more lt few. omega (arith, out_grows by regular start items m.count more lt few, ap length all))
  shown_moment m (b ∷ rest) is =
      let long : length shown < length (out by start items m.count) = omega (arith, ap length is, length-append shown (b ∷ rest)) in
      let some : 0 < m.count = elim (cases_lt 0 m.count) as (λ _. 0 < m.count) [
        | inl lt ↦ lt
        | inr le ↦ let none : m.count ≡ 0 = omega (arith, le) in absurd (omega (arith, long, ap (λ n. length (out by start items n)) none, ap length (out_none by start items)))
      ] in
      let within : m.count ≤ length items = m.within in
      told m (m.count - 1) m.no_less (inr (omega (arith, some), omega (arith, some, within))) (omega (arith, within))
      (λ more lt few. omega (arith, long, begins_length (out by start items m.count) (out by start items more) (out_begins by start items m.count more (omega (arith, lt)))))

  session_moment : ShownMoment by start items image shown → SessionMoment by start items image shown
  session_moment m = by_which m.which
    where
      by_count : m.count ≤ length items → m.count - 1 ≤ m.whole → SessionMoment by start items image shown
      by_count within le = record {
        count = m.count;
        within = within;
        stands = m.stands;
        no_more = m.no_more;
        no_less = begins_trans _ _ _ (out_begins by start items (m.count - 1) m.whole le) m.is_shown;
      }

      by_which : (m.count ≡ m.whole) ⊎ ((m.count ≡ m.whole + 1) × (m.whole < length items)) → SessionMoment by start items image shown
      by_which (inl same) = by_count (omega (arith, same, m.within)) (omega (arith, same))
      by_which (inr next) = by_count (omega (arith, next.0, next.1)) (omega (arith, next.0))

  pub same_moment : SaysTheSame by start items image shown
  same_moment = record { by_shown = λ m. shown_moment m m.no_more.rest m.no_more.is; by_count = session_moment }
