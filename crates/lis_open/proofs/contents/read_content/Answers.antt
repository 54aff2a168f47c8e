use Rattle.lis_open.proofs.Common.{◌≡◌, ◌∙◌, ap, Bool, ℕ, nat_lt, arith, list_all, on_ok_weaker, FileRecord, blocks_needed}
use Rattle.lis_content.proofs.Numbers.{within_if_below}
use Rattle.lis_open.proofs.BlocksRead.{few_blocks, size_of_form}
use Rattle.lis_open.proofs.ContentRead.{content_of_told, first_pass, told_words}
use Rattle.lis_kept.proofs.Image.{same_homes, same_blocks}
use Rattle.lis_open.proofs.contents.read_content.Goals as goal

pub resize-requires : goal.resize-requires
resize-requires g c = size_of_form c.args.limits.now c.args.rec.now c.requires.form c.rec.view_is

pub split_at-requires : goal.split_at-requires
split_at-requires g c = omega (arith, c.div_ceil-count.ensures, ap (λ (r : FileRecord). r.size) c.rec.view_is, c.requires.count)

pub read_front-requires-clause-few : goal.read_front-requires-clause-few
read_front-requires-clause-few g c = omega (arith, c.resize.ensures, size_of_form c.args.limits.now c.args.rec.now c.requires.form c.rec.view_is)

pub read_front-requires-clause-count : goal.read_front-requires-clause-count
read_front-requires-clause-count g c = omega (arith, c.split_at.ensures.front_len, c.div_ceil-count.ensures, c.resize.ensures)

pub read_front-requires-clause-home : goal.read_front-requires-clause-home
read_front-requires-clause-home g c = omega (arith, c.data_start.ensures.start, same_homes c.requires.readable.image)

pub read_front-requires-clause-within : goal.read_front-requires-clause-within
read_front-requires-clause-within g c =
    let below : ℕ → Bool = λ n. nat_lt n c.args.limits.now.blocks in
    within_if_below c.data_start.result c.args.journal.now.layout.blocks c.args.limits.now.blocks c.split_at.result.0.now
    (omega (arith, c.data_start.ensures.start, same_blocks c.requires.readable.image))
    (ap (list_all below) c.split_at.ensures.front ∙ first_pass below _ c.args.blocks.now c.requires.below)

pub read_front-requires-clause-image : goal.read_front-requires-clause-image
read_front-requires-clause-image g c = few_blocks c.args.limits.now _ c.requires.readable.range (same_blocks c.requires.readable.image)

pub returns-clause-size : goal.returns-clause-size
returns-clause-size g c =
    on_ok_weaker c.read_front.result (λ size. size ∙ (c.resize.ensures ∙ ap (λ (r : FileRecord). r.size) c.rec.view_is)) c.read_front.ensures.size

pub returns-clause-words : goal.returns-clause-words
returns-clause-words g c =
    let limits = c.args.limits.now in
    let rec = c.args.rec.now in
    let sized = ap (λ (r : FileRecord). r.size) c.rec.view_is in
    let part = c.split_at.result.0.now in
    let count : c.div_ceil-count.result ≡ blocks_needed rec.size = omega (arith, c.div_ceil-count.ensures, sized) in
    on_ok_weaker c.read_front.result
    (λ words. λ kept fits told.
    told_words limits rec kept c.data_start.result _ part _ c.read_front.new.bytes (ap (λ (r : FileRecord). r.name) c.rec.view_is) (c.resize.ensures ∙ sized)
    (content_of_told limits rec kept c.data_start.result c.div_ceil-count.result c.args.blocks.now part c.data_start.ensures.start count c.requires.readable.range c.requires.form c.split_at.ensures.front told)
    (words kept fits))
    c.read_front.ensures.words
