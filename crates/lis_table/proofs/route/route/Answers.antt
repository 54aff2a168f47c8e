use Rattle.std.proofs.Common.{rules, ◌≡◌, ◌+◌, ◌-◌, ◌<◌, Some, None, true, false, [], ◌∷◌, ◌++◌, filter, append-nil, ap, sym, ◌∙◌}
use Rattle.lis_model.specs.Tests.{step_of}
use Rattle.lis_model.specs.Listing.{holds, is_local}
use Rattle.lis_table.specs.Routes.{first_of, route_from}
use Rattle.lis_table.proofs.Routes.{at_end, no_way, onward, pushed}
use Rattle.lis_table.proofs.route.route.Goals as goal

pub returns-then-is_local : goal.returns-then-is_local
returns-then-is_local c =
    let t = c.args.table.now in let file = c.args.file.now in let files = c.loop-step.files.items in let words = c.loop-step.words.items in
    let i = c.loop-step._step in let n = c.len-step-end.result in
    let lt : i < n = search rules in
    let at : is_local files file ≡ true = ap (λ fs. is_local fs file) (sym c.deref.ensures.value) ∙ (sym c.is_local.ensures ∙ c.if-is_local.true) in
    sym (append-nil words) ∙ (ap (λ ws. words ++ ws) (sym (at_end n i t files file lt at)) ∙ c.loop-step.invariant)

pub returns-in_default : goal.returns-in_default
returns-in_default c =
    let t = c.args.table.now in let file = c.args.file.now in let files = c.loop-step.files.items in let words = c.loop-step.words.items in
    let i = c.loop-step._step in let n = c.len-step-end.result in
    let lt : i < n = search rules in
    let far : is_local files file ≡ false = ap (λ fs. is_local fs file) (sym c.deref.ensures.value) ∙ (sym c.is_local.ensures ∙ c.if-is_local.false) in
    let none : first_of t files file ≡ None = ap (λ fs. first_of t fs file) (sym c.deref-in-loop-step.ensures.value) ∙ sym c.in_default.ensures in
    sym (append-nil words) ∙ (ap (λ ws. words ++ ws) (sym (no_way n i t files file lt far none)) ∙ c.loop-step.invariant)

pub loop-step-preserved : goal.loop-step-preserved
loop-step-preserved c =
    let t = c.args.table.now in let file = c.args.file.now in let files = c.loop-step.files.items in let words = c.loop-step.words.items in
    let i = c.loop-step._step in let n = c.len-step-end.result in let word = c.in-Some.word in
    let lt : i < n = search rules in
    let far : is_local files file ≡ false = ap (λ fs. is_local fs file) (sym c.deref.ensures.value) ∙ (sym c.is_local.ensures ∙ c.if-is_local.false) in
    let first : first_of t files file ≡ Some word = ap (λ fs. first_of t fs file) (sym c.deref-in-loop-step.ensures.value) ∙ sym c.in-Some.ensures in
    ap (λ ws. ws ++ route_from (n - (i + 1)) t c.narrow.new.files.items file) c.in_ok-push.ensures.items
    ∙ (ap (λ fs. (words ++ word ∷ []) ++ route_from (n - (i + 1)) t fs file) c.narrow.ensures
    ∙ (pushed words word (route_from (n - (i + 1)) t (filter (holds (step_of word)) files) file)
    ∙ (ap (λ ws. words ++ ws) (sym (onward n i t files file word lt far first)) ∙ c.loop-step.invariant)))
