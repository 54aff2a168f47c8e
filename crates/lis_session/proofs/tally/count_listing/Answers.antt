use Rattle.std.proofs.Common.{length, length-append, ap, ◌∙◌, arith}
use Rattle.std.proofs.lemmas.List.{length-map}
use Rattle.lis_kept.proofs.InArea.{few_files, few_properties}
use Rattle.lis_store.specs.Seen.{seen_of}
use Rattle.lis_session.proofs.Tallying.{few_lines}
use Rattle.lis_session.proofs.tally.count_listing.Goals as goal

pub count_lines-requires : goal.count_lines-requires
count_lines-requires c =
    let limits = c.args.store.now.metadata.limits in
    let range = c.requires.sound.metadata.range in
    let few = few_lines (seen_of c.args.store.now.metadata) c.make_listing.new.scratch.increments c.make_listing.new.scratch.locals 0 0 c.make_listing.ensures.kept in
    omega (arith, ap length c.lines.ensures, few, few_properties limits range, few_files limits range)

pub returns-clause-count : goal.returns-clause-count
returns-clause-count c = c.count_lines.ensures ∙ (ap length (c.lines.ensures ∙ c.make_listing.ensures.lines) ∙ simp (length-append, length-map))

pub returns-clause-few : goal.returns-clause-few
returns-clause-few c =
    let few = few_lines (seen_of c.args.store.now.metadata) c.make_listing.new.scratch.increments c.make_listing.new.scratch.locals 0 0 c.make_listing.ensures.kept in
    omega (arith, c.count_lines.ensures, ap length c.lines.ensures, few)
