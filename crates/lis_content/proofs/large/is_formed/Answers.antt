use Rattle.std.proofs.Common.{◌≡◌, ◌*◌, ◌==◌, ◌∙◌, false, true, drop, ap, sym, arith}
use Rattle.std.specs.List.{list_all}
use Rattle.lis_fields.specs.Layouts.{number_width}
use Rattle.lis_content.proofs.Indexes.{index_spelled, index_zeros}
use Rattle.lis_content.proofs.large.is_formed.Goals as goal

pub returns-clause-form : goal.returns-clause-form
returns-clause-form c = λ told.
    let version = c.args.version in
    let count = c.args.count in
    let block = c.args.block.now in
    let behind : c.split_at.result.1.now ≡ drop (number_width version * count) block = c.split_at.ensures.back ∙ ap (λ w. drop (w * count) block) c.number_width.ensures in
    index_spelled version count block c.requires.whole c.requires.few (λ k. omega (arith, c.type_inv.block k)) (ap (list_all (λ b. b == 0)) (sym behind) ∙ (sym c.are_zeros.ensures ∙ told))

pub returns-clause-none : goal.returns-clause-none
returns-clause-none c = λ told form.
    let version = c.args.version in
    let count = c.args.count in
    let block = c.args.block.now in
    let behind : c.split_at.result.1.now ≡ drop (number_width version * count) block = c.split_at.ensures.back ∙ ap (λ w. drop (w * count) block) c.number_width.ensures in
    let e : true ≡ false = sym (index_zeros version count block form) ∙ (ap (list_all (λ b. b == 0)) (sym behind) ∙ (sym c.are_zeros.ensures ∙ told)) in
    absurd (cc)
