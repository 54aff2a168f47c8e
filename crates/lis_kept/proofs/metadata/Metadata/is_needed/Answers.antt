use Rattle.std.proofs.Common.{arith}
use Rattle.lis_kept.proofs.Common.{◌≡◌, ◌∙◌, ◌&&◌, ◌||◌, not, Bool, false, is_some, sym, ap, ap₂, list_any, word_of}
use Rattle.lis_kept.specs.Metadata.{Metadata}
use Rattle.lis_kept.specs.TestEdges.{test_by}
use Rattle.lis_kept.specs.Telling.{is_had}
use Rattle.lis_kept.specs.Undeclaring.{is_named_by, is_needed}
use Rattle.lis_kept.proofs.Formed.{named_in}
use Rattle.lis_kept.specs.contracts.metadata.Metadata.{the_view}
use Rattle.lis_kept.proofs.metadata.Metadata.is_needed.Goals.{else-not-is_test-via-then-not-is_test+else-is_had, else-not-is_test-via-else-not-is_test}
use Rattle.lis_kept.proofs.metadata.Metadata.is_needed.Goals as goal

pub is_had-requires : goal.is_had-requires
is_had-requires c = omega (arith, named_in c.args.self.now (the_view c.self.inside) c.self.view_is c.self.invariant.sound c.args.number c.requires, c.self.invariant.sound.rows)

pub is_named-requires : goal.is_named-requires
is_named-requires c = c.self.invariant.sound.dict

pub returns-then-is_had : goal.returns-then-is_had
returns-then-is_had c =
    let k = the_view c.self.inside in
    let n = c.args.number in
    sym
    (ap (λ (x : Metadata). is_needed x n) (sym c.self.view_is)
    ∙ ap₂ (λ a b. (not a && b) || list_any (is_named_by k.dict n) k.axioms) (sym c.is_test.ensures ∙ c.if-not-is_test.true) (sym c.is_had.ensures ∙ c.if-is_had.true))

pub returns : goal.returns
returns c =
    let k = the_view c.self.inside in
    let n = c.args.number in
    let tested : Bool = is_some (test_by (word_of k.dict n)) in
    let none : (not tested && is_had k.ext n) ≡ false =
    elim c.else-not-is_test.branch [
      | else-not-is_test-via-then-not-is_test+else-is_had w ↦ ap₂ (λ a b. not a && b) (sym c.is_test.ensures ∙ w.if-not-is_test.true) (sym w.is_had.ensures ∙ w.if-is_had.false)
      | else-not-is_test-via-else-not-is_test w ↦ ap (λ a. not a && is_had k.ext n) (sym c.is_test.ensures ∙ w.if-not-is_test.false)
    ] in
    c.is_named.ensures
    ∙ (ap (list_any (is_named_by k.dict n)) c.as_slice.ensures.value
    ∙ (sym (ap (λ b. b || list_any (is_named_by k.dict n) k.axioms) none) ∙ ap (λ (x : Metadata). is_needed x n) c.self.view_is))
