use Rattle.std.proofs.Common.{[], length, replicate, subst, ap, ◌∙◌, take, ◌*◌, ◌+◌, ◌<◌, ◌≤◌, arith, rules}
use Rattle.lis_journal.specs.Record.{HomeBlock, homes, header_blocks}
use Rattle.lis_journal.proofs.Headers.{Begun, begin_header, one_home_more, homes-take}
use Rattle.lis_journal.proofs.header.write_header.Goals as goal

pub loop-k-init : goal.loop-k-init
loop-k-init c =
    begin_header (4096 * header_blocks (length c.args.stage.now.entries)) c.fill.new.self c.put_word.new.header c.len-count.result (omega arith) (c.fill.ensures.after (λ y e. search rules) ∙ ap (λ n. replicate n 0) c.requires) (c.fill.ensures.len ∙ c.requires) c.put_word.ensures (omega (arith, c.len-count.ensures.len, c.len-count.ensures.staging.few, c.len-count.ensures.staging.small))

pub loop-k-preserved : goal.loop-k-preserved
loop-k-preserved c =
    let nothing : HomeBlock = record { home = 0; bytes = [] } in
    let k = c.loop-k.k in
    let es = c.args.stage.now.entries in
    let n = 4096 * header_blocks (length es) in
    let lt : k < length es = omega (arith, c.loop-k-test.true, c.len-count.ensures.len) in
    let room : 4 * (k + 1) + 4 ≤ n = omega (arith, lt) in
    subst (λ hs. Begun n c.put_word-in-loop-k.new.header c.len-count.result hs (k + 1)) (homes-take es k nothing c.home.result lt (c.home.ensures nothing))
    (one_home_more n c.loop-k.header c.put_word-in-loop-k.new.header c.len-count.result k (homes (take k es)) c.home.result c.loop-k.invariant c.put_word-in-loop-k.ensures (search rules) room)
