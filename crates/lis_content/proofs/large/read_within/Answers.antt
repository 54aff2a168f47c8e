use Rattle.std.proofs.Common.{rules, ◌≡◌, ◌+◌, ◌∙◌, length, take, replicate, ap, sym, arith}
use Rattle.std.proofs.lemmas.Bool.{le-ltb, cond-false}
use Rattle.std.proofs.lemmas.List.{take-replicate}
use Rattle.lis_content.proofs.large.read_within.Goals as goal

pub returns-then-number-blocks-clause-read : goal.returns-then-number-blocks-clause-read
returns-then-number-blocks-clause-read g c = λ kept fits.
    let zeros : c.fill.new.self ≡ replicate (length c.args.buf.now) 0 = c.fill.ensures.after (λ y e. search rules) in
    let none = cond-false _ _ _ (le-ltb (c.args.base + c.args.number) c.args.journal.now.layout.blocks (omega arith)) in
    zeros ∙ (sym (take-replicate (length c.args.buf.now) 4096 0 c.requires.few) ∙ ap (take (length c.args.buf.now)) (sym none))
