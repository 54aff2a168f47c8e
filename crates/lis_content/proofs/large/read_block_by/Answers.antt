use Rattle.std.proofs.Common.{ℕ, List, length, take, ◌∙◌, ap, subst}
use Rattle.std.proofs.lemmas.Result.{on_ok_weaker}
use Rattle.lis_journal.specs.Phases.{looked}
use Rattle.lis_content.specs.Inside.{IsWhole}
use Rattle.lis_content.specs.Large.{block_within}
use Rattle.lis_content.proofs.Reading.{base_within}
use Rattle.lis_content.proofs.large.read_block_by.Goals as goal

pub read_within-requires-clause-within : goal.read_within-requires-clause-within
read_within-requires-clause-within g c =
    base_within c.args.laid.base c.args.journal.now.layout.blocks c.args.laid.blocks.now c.args.laid.size c.args.n c.requires.count c.requires.inside c.requires.within

pub returns-clause-read : goal.returns-clause-read
returns-clause-read g c = on_ok_weaker c.read_within.result (λ read kept fits same.
    let at : ℕ → List ℕ = looked c.args.journal.now.staged kept in
    read kept fits ∙ ap (λ n. take (length c.args.buf.now) (block_within c.args.laid.base c.args.journal.now.layout.blocks at n)) (c.number_of-number.ensures.number at same)) c.read_within.ensures.read

pub returns-clause-whole : goal.returns-clause-whole
returns-clause-whole g c = on_ok_weaker c.read_within.result (λ whole kept fits same.
    let at : ℕ → List ℕ = looked c.args.journal.now.staged kept in
    subst (IsWhole c.args.laid.base c.args.journal.now.layout.blocks at) (c.number_of-number.ensures.number at same) (whole kept fits)) c.read_within.ensures.whole
