use Rattle.std.proofs.Common.{◌≡◌, ◌+◌, length, sym, ◌∙◌, ap}
use Rattle.lis_journal.specs.Record.{record_len}
use Rattle.lis_journal.specs.Journal.{records_of}
use Rattle.lis_journal.specs.Inside.{Log}
use Rattle.lis_journal.proofs.Holding.{append_moments, append_kept}
use Rattle.lis_journal.proofs.records.Records.append.Goals as goal

pub returns-in_err-append-clause-any_moment : goal.returns-in_err-append-clause-any_moment
returns-in_err-append-clause-any_moment g c =
    append_moments c.args.stage.now.entries c.requires.same (ap (λ (log : Log). log.records) c.self.view_is) (c.append.ensures.any_moment c.self.inside.latest.entries)

pub returns-clause-any_moment : goal.returns-clause-any_moment
returns-clause-any_moment g c =
    append_moments c.args.stage.now.entries c.requires.same (ap (λ (log : Log). log.records) c.self.view_is) (c.append.ensures.any_moment c.self.inside.latest.entries)

pub returns-clause-kept : goal.returns-clause-kept
returns-clause-kept g c =
    let es = c.args.stage.now.entries in
    let later = c.absorb.new.latest.entries in
    let blocks : c.args.stage.now.layout ≡ c.absorb.new.latest.layout = c.requires.same ∙ sym (c.absorb.ensures.layout ∙ ap (λ (log : Log). log.layout) c.self.view_is) in
    let behind : c.self.inside.next + record_len (length es) ≡ c.self.inside.next + c.record_len.result = ap (λ n. c.self.inside.next + n) (ap record_len (sym c.len.ensures.len) ∙ sym c.record_len.ensures) in
    append_kept es c.requires.same blocks (ap (λ (log : Log). log.records) c.self.view_is) (ap (λ next. records_of (c.self.inside.count + 1) next later) behind)
    (λ placed kept fits. c.in_ok-append.ensures.kept c.self.inside.latest.entries later placed kept c.absorb.ensures.absorbs fits)
