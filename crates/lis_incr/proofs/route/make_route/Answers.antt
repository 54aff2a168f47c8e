use Rattle.std.proofs.Common.{◌≡◌, ℕ, List, length, take, sym, ap, ◌∙◌, arith}
use Rattle.std.proofs.lemmas.List.{length-map}
use Rattle.std.specs.List.{find}
use Rattle.lis_words.specs.Words.{same_word}
use Rattle.lis_bits.specs.Rows.{get}
use Rattle.lis_model.specs.Listing.{extension}
use Rattle.lis_model.specs.Route.{route_within}
use Rattle.lis_eval.specs.View.{Placed, table_of}
use Rattle.lis_eval.proofs.Members.{mapped_none}
use Rattle.lis_incr.specs.Ways.{words_of}
use Rattle.lis_incr.proofs.Shown.{found_is}
use Rattle.lis_incr.proofs.Routes.{no_file, not_here, among_here, is_here, file_named, shorter}
use Rattle.lis_incr.proofs.route.make_route.Goals as goal

pub returns-in_default-clause-none : goal.returns-in_default-clause-none
returns-in_default-clause-none g c = λ _.
    let v = g.V.View.seen c.args.view.now in
    no_file v c.args.place.now c.args.name.now (mapped_none (λ (f : Placed). f.slot) (find (λ (f : Placed). same_word f.entry.name c.args.name.now) v.files) (sym c.in_default.is ∙ c.slot_of.ensures))

pub get-requires-clause-bit : goal.get-requires-clause-bit
get-requires-clause-bit g c =
    let v = g.V.View.seen c.args.view.now in
    let f = file_named v c.args.name.now c.in-Some.slot (sym c.in-Some.is ∙ c.slot_of.ensures) in
    omega (arith, c.evaluate.ensures.room.files.wide, f.3, c.evaluate.ensures.kept.slots f.0 f.1)

pub returns-then-not-get-clause-none : goal.returns-then-not-get-clause-none
returns-then-not-get-clause-none g c = λ _.
    let v = g.V.View.seen c.args.view.now in
    let f = file_named v c.args.name.now c.in-Some.slot (sym c.in-Some.is ∙ c.slot_of.ensures) in
    let found = c.evaluate.new.scratch.files in
    not_here v c.evaluate.ensures.kept c.args.place.now c.args.name.now f.0 f.1 f.2 (sym (c.evaluate.ensures.found.told f.0 f.1) ∙ (ap (get found 0) f.3 ∙ (sym c.get.ensures ∙ c.if-not-get.true)))

pub walk-scratch-requires-clause-slot : goal.walk-scratch-requires-clause-slot
walk-scratch-requires-clause-slot g c =
    let v = g.V.View.seen c.args.view.now in
    let f = file_named v c.args.name.now c.in-Some.slot (sym c.in-Some.is ∙ c.slot_of.ensures) in
    (f.0, f.1, f.3)

pub returns-clause-way : goal.returns-clause-way
returns-clause-way g c = λ _.
    let v = g.V.View.seen c.args.view.now in
    let kept = c.evaluate.ensures.kept in
    let place = c.args.place.now in
    let f = file_named v c.args.name.now c.in-Some.slot (sym c.in-Some.is ∙ c.slot_of.ensures) in
    let found = c.evaluate.new.scratch.files in
    let inside = sym (c.evaluate.ensures.found.told f.0 f.1) ∙ (ap (get found 0) f.3 ∙ (sym c.get.ensures ∙ c.if-not-get.false)) in
    let most : c.count_found-most.result ≡ length (extension (table_of v) place) = c.count_found-most.ensures.count ∙ (sym (length-map _ (λ (p : Placed). p.entry)) ∙ ap length (found_is v kept found place c.evaluate.ensures.found)) in
    let steps = (c.walk-scratch.ensures.steps f.0 place f.1 f.3 c.evaluate.ensures.found ∙ ap (λ n. route_within n (table_of v) place f.0.entry) most) in
    let few = shorter v kept (length (extension (table_of v) place)) place f.0.entry (among_here v kept place c.args.name.now f.0 f.1 f.2 inside) in
    let same = ap length steps in
    record {
      file = f.0.entry;
      here = is_here v kept place c.args.name.now f.0 f.1 f.2 inside;
      steps = steps;
      few = omega arith;
    }
