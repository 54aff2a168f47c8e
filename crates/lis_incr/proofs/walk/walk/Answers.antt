use Rattle.std.proofs.Common.{◌≡◌, false, suc, ◌+◌, ◌-◌, ◌&&◌, ◌++◌, ◌<◌, length, take, sym, ap, subst, ◌∙◌, arith, length-set}
use Rattle.std.proofs.lemmas.Bool.{and_parts, and_from, and_left}
use Rattle.std.proofs.lemmas.List.{take_more_set, append-nil}
use Rattle.std.proofs.lemmas.Option.{slice_get_within}
use Rattle.lis_bits.specs.Rows.{Rows, SetsBits, get}
use Rattle.lis_bits.proofs.Laws.{new_row, shaped}
use Rattle.lis_ext.specs.Ext as ext
use Rattle.lis_model.specs.Route.{route_within}
use Rattle.lis_eval.specs.View.{table_of}
use Rattle.lis_eval.proofs.Members.{contains_at}
use Rattle.lis_eval.proofs.Slots.{bits_shaped}
use Rattle.lis_incr.specs.Ways.{words_of, further, Walks}
use Rattle.lis_incr.proofs.Found.{has_told}
use Rattle.lis_incr.proofs.Routes.{ends, known_more, step_had, walks_start, walks_on}
use Rattle.lis_incr.proofs.walk.walk.Goals as goal

pub loop-step-init : goal.loop-step-init
loop-step-init g c =
    let v = g.V.View.seen c.args.view.now in
    let old = c.args.scratch.now.candidates in
    let room = c.requires.room in
    rw c.fill.ensures (record {
      own = λ n lt set. let none = new_row old 1 v.limits.props 0 n (λ _. false) room.candidates (omega arith) lt in absurd cc;
      here = c.requires.here;
      finds = c.requires.found;
      room = record {
        within = room.within;
        files = room.files;
        locals = room.locals;
        candidates = shaped old 1 v.limits.props 0 (λ _. false) room.candidates;
        increments = room.increments;
        counts = room.counts;
        route = room.route;
      };
      known = λ i below. absurd (omega (arith, below));
      walks = λ f place here placed tells. walks_start v c.args.scratch.now.files c.args.most place f.entry tells;
    })

pub returns-in-None-clause-steps : goal.returns-in-None-clause-steps
returns-in-None-clause-steps g c = λ f place here placed tells.
    let v = g.V.View.seen c.args.view.now in
    let l = c.loop-step in
    let words = words_of v (take l.step l.scratch.route.items) in
    let walks = l.invariant.walks f place here placed tells in
    rw c.first_step.ensures.route (sym (walks.rest ∙ (ap (λ ws. words ++ ws) (ends v c.requires.kept l.scratch.files (further place words) walks.tells f.entry (c.args.most - l.step) (c.in-None.ensures.first f here placed)) ∙ append-nil words)))

pub and_row-requires-clause-prop : goal.and_row-requires-clause-prop
and_row-requires-clause-prop g c =
    let v = g.V.View.seen c.args.view.now in
    let own = c.requires.slot in
    let first = c.in-Some.ensures.first own.0 own.1 own.2 in
    let w = first.0 in
    let low = c.requires.kept.numbers w (contains_at v.words c.in-Some.place w first.1) in
    let same = first.2 in
    omega (arith, c.ext.ensures.told.props)

pub loop-step-preserved : goal.loop-step-preserved
loop-step-preserved g c =
    let v = g.V.View.seen c.args.view.now in
    let kept = c.requires.kept in
    let own = c.requires.slot in
    let l = c.loop-step in
    let found = l.scratch.files in
    let route = l.scratch.route.items in
    let e = c.ext.result.now in
    let step = l.step in
    let number = c.in-Some.number in
    let place = c.in-Some.place in
    let room = c.first_step.ensures.room in
    let joined = subst (λ (rows : Rows). SetsBits rows c.and_row.new.to (length rows.rows) rows.bits 0 (λ bit. get rows 0 bit && ext.has e number bit)) c.first_step.ensures.files c.and_row.ensures in
    let sets = bits_shaped found c.and_row.new.to 65 v.limits.files 0 (λ bit. get found 0 bit && ext.has e number bit) l.invariant.finds.shape joined in
    let first = c.in-Some.ensures.first own.0 own.1 own.2 in
    let left : c.args.most - step ≡ suc (c.args.most - (step + 1)) = omega arith in
    let within : step < length route = omega (arith, c.loop-step-test.true, c.requires.most, l.invariant.room.route) in
    let goes = c.first_step.ensures.own in
    let has = step_had v found own.0.entry first.0 first.3 in
    let in_slot = ap (ext.has e number) (sym own.2) ∙ (has_told v e c.ext.ensures.told first.0 (contains_at v.words place first.0 first.1) number first.2 own.0 own.1 ∙ has) in
    rw (c.first_step.ensures.route, take_more_set route step place within) (record {
      own = goes;
      here = sets.at c.args.slot (let low = kept.slots own.0 own.1 in let same = own.2 in omega arith) ∙ and_from (get found 0 c.args.slot) (ext.has e number c.args.slot) l.invariant.here in_slot;
      finds = record {
        shape = sets.shape;
        none = λ slot lt free. sets.at slot lt ∙ and_left (get found 0 slot) (ext.has e number slot) (l.invariant.finds.none slot lt free);
      };
      room = record {
        within = room.within;
        files = sets.shape;
        locals = room.locals;
        candidates = room.candidates;
        increments = room.increments;
        counts = room.counts;
        route = length-set route step place ∙ l.invariant.room.route;
      };
      known = known_more v (take step route) place l.invariant.known (slice_get_within v.words place first.0 first.1);
      walks = λ f at here placed tells.
          let next = c.in-Some.ensures.first f here placed in
          let w = next.0 in
          let there = contains_at v.words place w next.1 in
          walks_on v kept found _ (c.args.most - (step + 1)) (take step route) place w at f.entry (route_within c.args.most (table_of v) at f.entry)
          (subst (λ n. Walks v found n (take step route) at f.entry (route_within c.args.most (table_of v) at f.entry)) left (l.invariant.walks f at here placed tells)) next.1 next.3
          (λ slot lt set. (and_parts (get found 0 slot) (ext.has e number slot) (sym (sets.at slot lt) ∙ set)).0)
          (λ o inside. sets.at o.slot (kept.slots o inside) ∙ ap (λ b. get found 0 o.slot && b) (has_told v e c.ext.ensures.told w there number next.2 o inside));
    })
