use Rattle.std.proofs.Common.{◌+◌, List, [], IsTrue, sym, ◌∙◌, ap, subst, get_or}
use Rattle.lis_journal.specs.declared.stage.Staged.{Staged}
use Rattle.lis_journal.specs.Record.{HomeBlock, rises}
use Rattle.lis_journal.specs.Images.{look}
use Rattle.lis_journal.specs.Staging.{Staging, has_entry}
use Rattle.lis_journal.specs.Inside.{home_list, FoundAt, PlaceFor}
use Rattle.lis_journal.proofs.Frames.{list_rises, look-found, has-homes, has-found}
use Rattle.lis_journal.proofs.Places.{absent}
use Rattle.lis_journal.proofs.stage.Stage.get.Goals as goal

pub find-requires : goal.find-requires
find-requires c =
    let inside = c.self.inside in (
      inside.layout.blocks,
      (
        inside.layout.records + 1,
        subst (λ (xs : List Staged). IsTrue (rises inside.layout.blocks (inside.layout.records + 1) (home_list xs))) (sym c.deref.ensures.value)
            (list_rises inside.pool inside.staged.items inside.layout.blocks (inside.layout.records + 1) c.self.invariant.staging.rise),
      ),
    )

pub returns-in-Ok-clause-some : goal.returns-in-Ok-clause-some
returns-in-Ok-clause-some c = λ old.
    let inside = c.self.inside in
    let n = c.args.n in
    let place = c.in-Ok.place in
    let nothing : HomeBlock = record { home = 0; bytes = [] } in
    let found : FoundAt n place inside.staged.items = subst (λ (xs : List Staged). FoundAt n place xs) c.deref.ensures.value c.in-Ok.ensures.place in
    ap (λ (s : Staging). look s.entries n old) (sym c.self.view_is)
    ∙ (look-found inside.pool inside.staged.items inside.layout.blocks (inside.layout.records + 1) n place nothing old c.self.invariant.staging.rise found
    ∙ (ap (λ (s : Staging). (get_or s.entries place nothing).bytes) c.self.view_is ∙ sym (c.bytes.ensures.bytes nothing)))

pub returns-in-Err-clause-none : goal.returns-in-Err-clause-none
returns-in-Err-clause-none c =
    let inside = c.self.inside in
    let n = c.args.n in
    let place : PlaceFor n c.in-Err.field-0 inside.staged.items = subst (λ (xs : List Staged). PlaceFor n c.in-Err.field-0 xs) c.deref.ensures.value c.in-Err.ensures.place in
    ap (λ (s : Staging). has_entry s.entries n) (sym c.self.view_is)
    ∙ (has-homes inside.pool inside.staged.items n
    ∙ absent inside.layout.blocks (inside.layout.records + 1) n c.in-Err.field-0 inside.staged.items (list_rises inside.pool inside.staged.items inside.layout.blocks (inside.layout.records + 1) c.self.invariant.staging.rise) place)

pub returns-in-Ok-clause-has : goal.returns-in-Ok-clause-has
returns-in-Ok-clause-has c =
    let inside = c.self.inside in
    let n = c.args.n in
    let found : FoundAt n c.in-Ok.place inside.staged.items = subst (λ (xs : List Staged). FoundAt n c.in-Ok.place xs) c.deref.ensures.value c.in-Ok.ensures.place in
    ap (λ (s : Staging). has_entry s.entries n) (sym c.self.view_is) ∙ has-found inside.pool inside.staged.items n c.in-Ok.place found
