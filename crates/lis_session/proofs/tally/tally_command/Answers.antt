use Rattle.std.proofs.Common.{◌+◌, length, refl, rules, ap, ap₂, sym, ◌∙◌}
use Rattle.std.specs.List.{flat_map}
use Rattle.lis_model.specs.Changes.{file_of}
use Rattle.lis_model.specs.Listing.{increments, locals}
use Rattle.lis_model.specs.Replies.{body_line, content_lines}
use Rattle.lis_model.specs.Route.{route}
use Rattle.lis_model.specs.State.{description}
use Rattle.lis_model.specs.Step.{Situation, entry_at, cd, ls, pwd, stat}
use Rattle.lis_model.specs.Table.{Table, table}
use Rattle.lis_store.proofs.ToldBy.{told_fits}
use Rattle.lis_store.proofs.StoreSays.{table_told}
use Rattle.lis_session.proofs.Settled.{settled_applied}
use Rattle.lis_session.proofs.Staying.{done_stays}
use Rattle.lis_session.proofs.Answering.{words_known}
use Rattle.lis_session.proofs.Tallying.{tally_with, tallied_change, tallied_still, tallied_look, refused_answer, no_refusal, listing_no_refusal}
use Rattle.lis_session.proofs.Written.{makes_written}
use Rattle.lis_session.proofs.tally.tally_command.Goals as goal

pub returns-in-Cat-clause-tallies : goal.returns-in-Cat-clause-tallies
returns-in-Cat-clause-tallies g c =
    rw (c.in-Cat.is, c.look.ensures.here) (λ state fitting.
    let now : Situation = record { state = state; place = c.args.place.now } in
    tallied_look now c.in-Cat.name (content_lines (file_of state.files c.in-Cat.name).bytes) c.requires.sound fitting refl)

pub returns-in-Props-clause-tallies : goal.returns-in-Props-clause-tallies
returns-in-Props-clause-tallies g c =
    rw (c.in-Props.is, c.look-in-Props.ensures.here) (λ state fitting.
    let now : Situation = record { state = state; place = c.args.place.now } in
    let words = description state (file_of state.files c.in-Props.name) in
    tallied_look now c.in-Props.name (flat_map (body_line 112) words) c.requires.sound fitting (no_refusal 112 words refl))

pub returns-in-Way-clause-tallies : goal.returns-in-Way-clause-tallies
returns-in-Way-clause-tallies g c =
    rw (c.in-Way.is, c.look-in-Way.ensures.here) (λ state fitting.
    let now : Situation = record { state = state; place = c.args.place.now } in
    let words = route (table state) c.args.place.now (entry_at state c.in-Way.name) in
    tallied_look now c.in-Way.name (flat_map (body_line 100) words) c.requires.sound fitting (no_refusal 100 words refl))

pub returns-in-Cd-clause-tallies : goal.returns-in-Cd-clause-tallies
returns-in-Cd-clause-tallies g c =
    rw (c.in-Cd.is, c.no_listing.ensures) (λ state fitting.
    let now : Situation = record { state = state; place = c.args.place.now } in
    let is = c.go.ensures state (words_known state c.requires.sound fitting.own) in
    tallied_still (cd now c.in-Cd.text) 0 c.go.new.place _ _ fitting is (ap (λ refused. tally_with refused 0) (c.is_err.ensures.value ∙ sym (refused_answer c.go.result))))

pub returns-in-Ls-clause-tallies : goal.returns-in-Ls-clause-tallies
returns-in-Ls-clause-tallies g c =
    rw (c.in-Ls.is, c.list.ensures.listed) (λ state fitting.
    let now : Situation = record { state = state; place = c.args.place.now } in
    let told = table_told c.args.store.now state c.requires.sound (told_fits c.args.store.now (g.D.Disk.meaning c.args.disk.now) state c.requires.sound fitting.own) in
    tallied_still (ls now) _ c.args.place.now _ _ fitting refl (ap₂ tally_with (sym (listing_no_refusal (increments (table state) c.args.place.now) (locals (table state) c.args.place.now)))
    (ap (λ (t : Table). length (increments t c.args.place.now) + length (locals t c.args.place.now)) told)))

pub returns-in-Pwd-clause-tallies : goal.returns-in-Pwd-clause-tallies
returns-in-Pwd-clause-tallies g c =
    rw (c.in-Pwd.is, c.no_listing-in-Pwd.ensures) (λ state fitting.
    tallied_still (pwd (record { state = state; place = c.args.place.now })) 0 c.args.place.now _ _ fitting refl refl)

pub returns-in-Stat-clause-tallies : goal.returns-in-Stat-clause-tallies
returns-in-Stat-clause-tallies g c =
    rw (c.in-Stat.is, c.no_listing-in-Stat.ensures) (λ state fitting.
    tallied_still (stat (record { state = state; place = c.args.place.now })) 0 c.args.place.now _ _ fitting refl refl)

pub returns-in-Mkdir-clause-tallies : goal.returns-in-Mkdir-clause-tallies
returns-in-Mkdir-clause-tallies g c = λ state fitting.
    let now : Situation = record { state = state; place = c.args.place.now } in
    tallied_change (done_stays now c.args.command.now c.args.payload.now (search rules)) (search rules) c.apply.ensures.keeps.sound c.apply.result (makes_written c.write_of-write.result c.write_of-write.ensures.written c.apply.ensures.changes state fitting.own) c.concluded.ensures

pub apply-requires-clause-whole : goal.apply-requires-clause-whole
apply-requires-clause-whole g c = c.write_of-write.ensures.whole c.args.store.now.metadata.limits

pub returns-in-Mkdir-clause-settled : goal.returns-in-Mkdir-clause-settled
returns-in-Mkdir-clause-settled g c = settled_applied c.args.store.now c.apply.new.self c.apply.result c.apply.ensures.keeps.left c.apply.ensures.settled
