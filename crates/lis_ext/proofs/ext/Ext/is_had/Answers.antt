use Rattle.std.proofs.Common.{◌≡◌, ap, nat_lt, ◌∙◌, arith}
use Rattle.std.proofs.lemmas.Grind.{get_or_default_zero}
use Rattle.lis_ext.specs.Numbers.{has_number}
use Rattle.lis_ext.specs.Ext.{count_of}
use Rattle.lis_ext.proofs.Counted.{any_counted}
use Rattle.lis_ext.proofs.ext.Ext.is_had.Goals as goal

pub returns : goal.returns
returns c =
    let e = c.self.inside in
    let prop = c.args.prop in
    let low = rw (← c.self.view_is) at c.requires in
    let count : c.index.result.now ≡ count_of e.lists prop = c.index.ensures ∙ (get_or_default_zero e.counts.items prop c.index.result.now (omega (arith, c.self.invariant.room)) ∙ c.self.invariant.counted prop low) in
    rw (← c.self.view_is) (ap (nat_lt 0) count ∙ any_counted (λ set. has_number set prop) e.lists)
