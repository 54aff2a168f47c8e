use Rattle.std.proofs.Common.{◌≡◌, ℕ, ◌+◌, ◌++◌, min, cond, eqb, List, length, sym, ◌∙◌, ap, arith}
use Rattle.std.proofs.lemmas.Bool.{eqb-true, eqb-false}
use Rattle.lis_journal.specs.Images.{look, is_among}
use Rattle.lis_journal.specs.Journal.{Shape}
use Rattle.lis_journal.specs.Staging.{with_entry}
use Rattle.lis_words.specs.Bytes.{padded}
use Rattle.lis_content.proofs.Numbers.{length-marked}
use Rattle.lis_content.proofs.Taking.{filling_more, filling_done}
use Rattle.lis_content.proofs.content.stage_bytes.Goals as goal

pub home-requires : goal.home-requires
home-requires c =
    let was = c.loop-rest.invariant in
    omega (arith, c.requires.within, c.in-Some.ensures.within, ap length was.marks, length-marked c.args.map.now c.loop-rest.taken.items, ap (λ (s : Shape). s.layout.blocks) was.image)

pub stage_front-requires-clause-within : goal.stage_front-requires-clause-within
stage_front-requires-clause-within c =
    let was = c.loop-rest.invariant in
    omega (arith, c.home.ensures, c.requires.within, c.in-Some.ensures.within, ap length was.marks, length-marked c.args.map.now c.loop-rest.taken.items, ap (λ (s : Shape). s.layout.blocks) was.image)

pub stage_front-requires-clause-home : goal.stage_front-requires-clause-home
stage_front-requires-clause-home c = omega (arith, c.home.ensures, c.requires.home, ap (λ (s : Shape). s.layout.records) c.loop-rest.invariant.image)

pub loop-rest-preserved : goal.loop-rest-preserved
loop-rest-preserved c =
    let rest = c.loop-rest.rest.now in
    let now = c.loop-rest.journal in
    let front = c.split_at.result.0.now in
    let differ : length rest ≡ 0 → ⊥ = eqb-false (length rest) 0 (sym c.is_empty.ensures ∙ c.loop-rest-test.true) in
    let parts : front ++ c.split_at.result.1.now ≡ rest = sym c.split_at.ensures.by_index.0 in
    let size : length front ≡ min (length rest) 4096 = c.split_at.ensures.front_len ∙ c.min.ensures in
    let staged = c.stage_front.ensures.staged ∙ ap (λ h. record now { staged = with_entry now.staged h (padded 4096 front) }) c.home.ensures in
    let looks : (m : ℕ) (was : List ℕ) → look c.stage_front.new.journal.staged m was ≡ cond (eqb m (c.args.base + c.in-Some.n)) (padded 4096 front) (look now.staged m was) = λ m was. c.stage_front.ensures.looks m was ∙ ap (λ h. cond (eqb m h) (padded 4096 front) (look now.staged m was)) c.home.ensures in
    let more = filling_more c.args.base c.args.bytes.now rest front c.split_at.result.1.now c.args.map.now c.loop-rest.map c.take.new.self c.args.journal.now now c.stage_front.new.journal c.loop-rest.taken.items c.in-Some.n c.loop-rest.invariant (omega (arith, differ)) parts size c.in-Some.ensures.within c.in-Some.ensures.was_free c.in-Some.ensures.taken c.in-Some.ensures.fewer staged looks in
    rw c.push.ensures.items more

pub returns : goal.returns
returns c =
    filling_done c.args.base c.args.bytes.now c.loop-rest.rest.now c.args.map.now c.loop-rest.map c.args.journal.now c.loop-rest.journal c.loop-rest.taken.items (eqb-true (length c.loop-rest.rest.now) 0 (sym c.is_empty.ensures ∙ c.loop-rest-test.false)) c.loop-rest.invariant

pub stage_front-requires-clause-unplaced : goal.stage_front-requires-clause-unplaced
stage_front-requires-clause-unplaced c =
    ap (λ placed. is_among placed c.home.result) (c.loop-rest.invariant.placed ∙ c.requires.unplaced)
