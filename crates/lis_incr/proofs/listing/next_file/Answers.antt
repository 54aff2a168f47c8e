use Rattle.std.proofs.Common.{ℕ, ◌+◌, List, ◌∷◌, sym, ap, ◌∙◌, arith}
use Rattle.std.specs.List.{slice_get}
use Rattle.lis_bits.specs.Rows.{get}
use Rattle.lis_eval.specs.View.{Placed, name_and_slot}
use Rattle.lis_eval.proofs.Members.{past_end, mapped_none}
use Rattle.lis_eval.proofs.Slots.{file_given}
use Rattle.lis_incr.specs.Lines.{names_from}
use Rattle.lis_incr.proofs.Shown.{shown_next, shown_later, shown_end}
use Rattle.lis_incr.proofs.listing.next_file.Goals as goal

pub returns-in-None : goal.returns-in-None
returns-in-None g c =
    let v = g.V.View.seen c.args.view.now in
    c.loop-k.invariant ∙ shown_end (λ (f : Placed). get c.args.marks.now 0 f.slot) (λ (f : Placed). f.entry.name) v.files c.loop-k.k (past_end v.files c.loop-k.k (mapped_none name_and_slot (slice_get v.files c.loop-k.k) (sym c.in-None.is ∙ c.file_at.ensures)))

pub get-requires-clause-bit : goal.get-requires-clause-bit
get-requires-clause-bit g c =
    let v = g.V.View.seen c.args.view.now in
    let f = file_given v c.requires.kept c.loop-k.k c.in-Some.name c.in-Some.slot (sym c.in-Some.is ∙ c.file_at.ensures) in
    let x : Placed = f.0 in
    let at = f.1.at in
    omega (arith, c.requires.marks.wide, f.1.placed, c.requires.kept.slots x f.1.there)

pub returns-then-get : goal.returns-then-get
returns-then-get g c =
    let v = g.V.View.seen c.args.view.now in
    let f = file_given v c.requires.kept c.loop-k.k c.in-Some.name c.in-Some.slot (sym c.in-Some.is ∙ c.file_at.ensures) in
    let x : Placed = f.0 in
    let at = f.1.at in
    let marked = ap (get c.args.marks.now 0) f.1.placed ∙ (sym c.get.ensures ∙ c.if-get.true) in
    (c.loop-k.invariant ∙ (shown_next (λ (f : Placed). get c.args.marks.now 0 f.slot) (λ (f : Placed). f.entry.name) v.files c.loop-k.k x at marked ∙ ap (λ (n : List ℕ). n ∷ names_from v c.args.marks.now (c.loop-k.k + 1)) f.1.named), omega arith)

pub loop-k-preserved : goal.loop-k-preserved
loop-k-preserved g c =
    let v = g.V.View.seen c.args.view.now in
    let f = file_given v c.requires.kept c.loop-k.k c.in-Some.name c.in-Some.slot (sym c.in-Some.is ∙ c.file_at.ensures) in
    let x : Placed = f.0 in
    let at = f.1.at in
    let marked = ap (get c.args.marks.now 0) f.1.placed ∙ (sym c.get.ensures ∙ c.if-get.false) in
    c.loop-k.invariant ∙ shown_later (λ (f : Placed). get c.args.marks.now 0 f.slot) (λ (f : Placed). f.entry.name) v.files c.loop-k.k x at marked

pub returns : goal.returns
returns g c =
    let v = g.V.View.seen c.args.view.now in
    c.loop-k.invariant ∙ shown_end (λ (f : Placed). get c.args.marks.now 0 f.slot) (λ (f : Placed). f.entry.name) v.files c.loop-k.k (omega (arith, c.requires.kept.few_files))
