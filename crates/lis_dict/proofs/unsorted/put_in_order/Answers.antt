use Rattle.std.proofs.Common.{rules, arith}
use Rattle.std.proofs.lemmas.Fn.{always_returns_same}
use Rattle.std.specs.Ordering.{is_lt}
use Rattle.lis_limits.specs.declared.TheConstants.{V3_MAX_PROPS}
use Rattle.lis_graph.specs.Inside.{named_cmp}
use Rattle.lis_graph.proofs.Repeats.{ranked, moved}
use Rattle.lis_words.specs.Words.{word_cmp}
use Rattle.lis_dict.specs.Inside.{word_in}
use Rattle.lis_dict.proofs.Entries.{word_order}
use Rattle.lis_dict.proofs.unsorted.put_in_order.Goals as goal

pub returns-clause-held : goal.returns-clause-held
returns-clause-held c =
    moved V3_MAX_PROPS c.args.holders.now c.args.order.now.items _ c.requires c.sort_unstable_by.new.self.items c.sort_unstable_by.ensures.permutation _ (omega (arith, c.sort_unstable_by.ensures.capacity))

pub returns-clause-ordered : goal.returns-clause-ordered
returns-clause-ordered c =
    let name = word_in c.args.holders.now in
    c.sort_unstable_by.ensures.sorted (λ m n. is_lt (named_cmp word_cmp name m n)) (ranked word_cmp word_order name) (always_returns_same _ _ _ (λ a r f called. search rules))
