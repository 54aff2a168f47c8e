use Rattle.std.proofs.Common.{◌≡◌, ◌<◌, ◌∙◌, ℕ, false, true, List, get_or, length, ap, sym, subst, refl, arith}
use Rattle.lis_bits.specs.Rows.{get}
use Rattle.lis_taxonomy.specs.Inside.{MeetsRights}
use Rattle.lis_taxonomy.proofs.Ups.{leads_start, leads_step, leads_some, leads_none, in_row}
use Rattle.lis_taxonomy.proofs.search.Search.leads.Goals.{else-found-number-via-then-found-number+else-get, else-found-number-via-else-found-number}
use Rattle.lis_taxonomy.proofs.search.Search.leads.Goals as goal

pub loop-done-init : goal.loop-done-init
loop-done-init c = rw (c.meet.ensures, c.clear.ensures) (leads_start c.args.edges.now c.args.number c.args.marks.now)

pub get-requires-clause-bit : goal.get-requires-clause-bit
get-requires-clause-bit c =
    let l = c.loop-done in
    let lt : l.done < length l.self = omega (arith, c.loop-done-test.true, ap length c.numbers.ensures.value) in
    subst (λ (xs : List ℕ). get_or xs l.done 0 < c.args.marks.now.bits) (sym c.numbers-in-loop-done.ensures.value)
    (in_row c.args.edges.now c.args.number c.args.marks.now l.self l.done l.invariant c.requires.order c.requires.number lt)

pub returns-then-get : goal.returns-then-get
returns-then-get c =
    let l = c.loop-done in
    let same = c.numbers-in-loop-done.ensures.value in
    let lt : l.done < length l.self = omega (arith, c.loop-done-test.true, ap length c.numbers.ensures.value) in
    let apart = subst (λ (xs : List ℕ). get_or xs l.done 0 ≡ c.args.number → ⊥) same c.if-found-number.true in
    let mark = subst (λ (xs : List ℕ). get c.args.marks.now 0 (get_or xs l.done 0) ≡ true) same (sym c.get.ensures ∙ c.if-get.true) in
    (λ _. leads_some c.args.edges.now c.args.number c.args.marks.now l.self l.done l.invariant c.requires.order c.requires.number lt apart mark, λ _. refl)

pub loop-done-preserved : goal.loop-done-preserved
loop-done-preserved c =
    let l = c.loop-done in
    let same = c.numbers-in-loop-done.ensures.value in
    let lt : l.done < length l.self = omega (arith, c.loop-done-test.true, ap length c.numbers.ensures.value) in
    let meets = subst (λ (xs : List ℕ). MeetsRights c.args.edges.now l.self c.meet_rights.new.self (get_or xs l.done 0)) same c.meet_rights.ensures in
    let step = leads_step c.args.edges.now c.args.number c.args.marks.now l.self l.done l.invariant c.meet_rights.new.self lt meets in
    elim c.else-found-number.branch [
      | else-found-number-via-then-found-number+else-get w ↦ step (λ apart. subst (λ (xs : List ℕ). get c.args.marks.now 0 (get_or xs l.done 0) ≡ false) same (sym w.get.ensures ∙ w.if-get.false))
      | else-found-number-via-else-found-number w ↦ step (λ apart. absurd (apart (subst (λ (xs : List ℕ). get_or xs l.done 0 ≡ c.args.number) same w.if-found-number.false)))
    ]

pub returns : goal.returns
returns c =
    let l = c.loop-done in
    (λ e. absurd cc, λ lead. absurd (leads_none c.args.edges.now c.args.number c.args.marks.now l.self l.done l.invariant (omega (arith, c.loop-done-test.false, ap length c.numbers.ensures.value)) lead))
