use Rattle.std.proofs.Common.{◌≡◌, ◌*◌, ◌<◌, ◌++◌, sym, ◌∙◌, ap, subst, arith}
use Rattle.lis_model.specs.State.{blocks_needed}
use Rattle.lis_journal.specs.Images.{look}
use Rattle.lis_journal.specs.Phases.{looked}
use Rattle.lis_content.specs.Large.{index_home, numbers_in, numbers_of}
use Rattle.lis_content.proofs.Indexes.{large_slot}
use Rattle.lis_content.proofs.IndexesRead.{Spells, so_many, none_read, one_read}
use Rattle.lis_content.proofs.large.read_indexes.Goals as goal

pub loop-j-init : goal.loop-j-init
loop-j-init g c =
    none_read (g.D.Disk.meaning c.args.disk.now) c.args.journal.now c.args.laid.version c.args.laid.base c.args.laid.blocks.now c.args.laid.size c.args.numbers.now.items c.requires.none

pub index_count-count-requires-clause-there : goal.index_count-count-requires-clause-there
index_count-count-requires-clause-there g c = omega (arith, c.loop-j-test.true, c.requires.count, large_slot c.args.laid.size c.requires.large)

pub push_numbers-requires-clause-room : goal.push_numbers-requires-clause-room
push_numbers-requires-clause-room g c = omega (arith, c.loop-j.invariant.count, c.index_count-count.ensures, c.requires.few)

pub loop-j-preserved : goal.loop-j-preserved
loop-j-preserved g c =
    let laid = c.args.laid in
    let journal = c.args.journal.now in
    let j = c.loop-j.j in
    let read = c.in_ok-read_home.ensures in
    let block = c.read_home.new.buf in
    let there : 1024 * j < blocks_needed laid.size = omega (arith, c.loop-j-test.true, c.requires.count, large_slot laid.size c.requires.large) in
    let home : c.home.result ≡ index_home laid.base laid.blocks.now j = c.home.ensures in
    one_read (g.D.Disk.meaning c.args.disk.now) (g.D.Disk.meaning c.loop-j.disk) (g.D.Disk.meaning c.read_home.new.disk) journal laid.version laid.base laid.blocks.now laid.size j c.loop-j.formed c.is_formed-formed.result c.loop-j.numbers.items c.push_numbers.new.numbers.items block
    c.loop-j.invariant there read.disk.reads read.disk.cause.stays read.disk.first_fault read.fits
    (λ kept fits. read.read kept fits ∙ ap (λ h. look journal.staged h (kept h)) home)
    (c.push_numbers.ensures ∙ ap (λ n. c.loop-j.numbers.items ++ numbers_in laid.version n block) c.index_count-count.ensures)
    (λ is. subst (λ n. Spells laid.version n block) c.index_count-count.ensures (c.is_formed-formed.ensures.form is))
    (λ is spells. c.is_formed-formed.ensures.none is (subst (λ n. Spells laid.version n block) (sym c.index_count-count.ensures) spells))

pub returns-clause-numbers : goal.returns-clause-numbers
returns-clause-numbers g c = λ kept fits.
    let laid = c.args.laid in
    let all : so_many laid.size c.loop-j.j ≡ blocks_needed laid.size = omega (arith, c.loop-j-test.false, c.requires.count, large_slot laid.size c.requires.large) in
    c.loop-j.invariant.numbers_are kept fits ∙ ap (λ n. numbers_of laid.version laid.base laid.blocks.now n (looked c.args.journal.now.staged kept)) all

pub returns-clause-count : goal.returns-clause-count
returns-clause-count g c = omega (arith, c.loop-j.invariant.count, c.loop-j-test.false, c.requires.count, large_slot c.args.laid.size c.requires.large)

pub returns-clause-formed : goal.returns-clause-formed
returns-clause-formed g c = λ formed kept fits large i lt. c.loop-j.invariant.well formed kept fits i (omega (arith, lt, c.loop-j-test.false))

pub returns-clause-malformed : goal.returns-clause-malformed
returns-clause-malformed g c = λ formed kept fits indexed.
    let found = c.loop-j.invariant.ill formed kept fits in
    found.2 (indexed c.requires.large found.0 (omega (arith, found.1)))
