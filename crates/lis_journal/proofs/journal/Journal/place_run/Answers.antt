use Rattle.std.proofs.Common.{◌≡◌, ℕ, ◌+◌, nat_lt, List, ◌++◌, length, length-append, refl, sym, ap, ◌∙◌, subst, arith}
use Rattle.std.specs.List.{range_with_len, list_all}
use Rattle.std.proofs.lemmas.Bool.{and_from}
use Rattle.std.proofs.lemmas.List.FromFn.{length-range_with_len}
use Rattle.std.proofs.lemmas.List.Folds.{list_all-append}
use Rattle.lis_ports.specs.Runs.{Leaves}
use Rattle.lis_journal.specs.declared.layout.Layout.{Layout}
use Rattle.lis_journal.specs.Images.{Fits, FitsAt, StandsBut, KeepsPast, with_run}
use Rattle.lis_journal.specs.Journal.{Held}
use Rattle.lis_journal.specs.Spreads.{Spreads, SamePast}
use Rattle.lis_journal.proofs.Runs.{row_within, among_swapped}
use Rattle.lis_journal.proofs.Holding.{fits_among}
use Rattle.lis_journal.proofs.Fitting.{fits_told, past_kept}
use Rattle.lis_journal.proofs.journal.Journal.place_run.Goals as goal

pub invariant_of-self : goal.invariant_of-self
invariant_of-self g c =
    let placed = c.self.inside.placed.items in
    let run = range_with_len c.args.first c.args.count in
    let was = c.self.invariant in
    let blocks : c.args.self.now.layout.blocks ≡ c.self.inside.stage.layout.blocks = ap (λ (h : Held). h.layout.blocks) (sym c.self.view_is) in
    let most : c.args.self.now.capacity.placed ≡ c.self.inside.most_placed = ap (λ (h : Held). h.capacity.placed) (sym c.self.view_is) in
    let len : length (placed ++ run) ≡ length c.args.self.now.placed + c.args.count = length-append placed run ∙ (ap (λ k. length placed + k) (length-range_with_len c.args.first c.args.count) ∙ ap (λ (h : Held). length h.placed + c.args.count) c.self.view_is) in
    record {
      enough = was.enough;
      same = c.write_homes.ensures.layout ∙ was.same;
      fits = was.fits;
      header_len = was.header_len;
      few = omega (arith, ap length c.push_run.ensures.items, len, most, c.requires.room);
      has_room = omega (arith, was.has_room, c.push_run.ensures.capacity);
      within = ap (list_all (λ n. nat_lt n c.self.inside.stage.layout.blocks)) c.push_run.ensures.items
          ∙ (list_all-append (λ n. nat_lt n c.self.inside.stage.layout.blocks) placed run ∙ and_from _ _ was.within (row_within c.args.first c.args.count c.self.inside.stage.layout.blocks (omega (arith, c.requires.within, blocks))));
    }

pub returns-in-Ok-clause-any_moment : goal.returns-in-Ok-clause-any_moment
returns-in-Ok-clause-any_moment g c =
    let old = g.D.Disk.meaning c.args.disk.now in
    let new = g.D.Disk.meaning c.write_homes.new.disk in
    let placed = c.self.inside.placed.items in
    subst (λ (h : Held). (kept : ℕ → List ℕ) → Fits h old kept → Leaves old new (StandsBut h.layout (range_with_len c.args.first c.args.count ++ h.placed) kept)) c.self.view_is
    (λ kept fits. subst (λ b. Leaves old new (StandsBut b (range_with_len c.args.first c.args.count ++ placed) kept)) c.self.invariant.same
    (c.write_homes.ensures.any_moment placed kept (fits_told (sym c.self.invariant.same) refl refl fits)))

pub returns-in-Err-clause-any_moment : goal.returns-in-Err-clause-any_moment
returns-in-Err-clause-any_moment g c =
    let old = g.D.Disk.meaning c.args.disk.now in
    let new = g.D.Disk.meaning c.write_homes.new.disk in
    let placed = c.self.inside.placed.items in
    subst (λ (h : Held). (kept : ℕ → List ℕ) → Fits h old kept → Leaves old new (StandsBut h.layout (range_with_len c.args.first c.args.count ++ h.placed) kept)) c.self.view_is
    (λ kept fits. subst (λ b. Leaves old new (StandsBut b (range_with_len c.args.first c.args.count ++ placed) kept)) c.self.invariant.same
    (c.write_homes.ensures.any_moment placed kept (fits_told (sym c.self.invariant.same) refl refl fits)))

pub returns-in-Ok-clause-kept : goal.returns-in-Ok-clause-kept
returns-in-Ok-clause-kept g c =
    let old = g.D.Disk.meaning c.args.disk.now in
    let new = g.D.Disk.meaning c.write_homes.new.disk in
    let placed = c.self.inside.placed.items in
    let run = range_with_len c.args.first c.args.count in
    let now : (ℕ → List ℕ) → ℕ → List ℕ = with_run c.args.first c.args.count c.args.bytes.now in
    subst (λ (h : Held). (kept : ℕ → List ℕ) → Fits h old kept → FitsAt c.self.inside.stage.layout c.write_homes.new.self.records c.push_run.new.placed.items new (now kept)) c.self.view_is
    (λ kept fits. subst (λ ns. FitsAt c.self.inside.stage.layout c.write_homes.new.self.records ns new (now kept)) (sym c.push_run.ensures.items)
    (fits_among (run ++ placed) (placed ++ run) (among_swapped placed run)
    (fits_told (c.write_homes.ensures.layout ∙ c.self.invariant.same) refl refl
    (c.in-Ok.ensures.kept placed kept (fits_told (sym c.self.invariant.same) refl refl fits)))))

pub returns-in-Ok-clause-past : goal.returns-in-Ok-clause-past
returns-in-Ok-clause-past g c =
    let old = g.D.Disk.meaning c.args.disk.now in
    let new = g.D.Disk.meaning c.write_homes.new.disk in
    subst (λ (h : Held). (kept : ℕ → List ℕ) → Fits h old kept → KeepsPast h.layout.blocks old new) c.self.view_is
    (λ kept fits. past_kept c.self.invariant.within fits (subst (λ (l : Layout). Spreads old new (SamePast l.blocks)) c.self.invariant.same (c.write_homes.ensures.past fits.honest)))

pub returns-in-Err-clause-past : goal.returns-in-Err-clause-past
returns-in-Err-clause-past g c =
    let old = g.D.Disk.meaning c.args.disk.now in
    let new = g.D.Disk.meaning c.write_homes.new.disk in
    subst (λ (h : Held). (kept : ℕ → List ℕ) → Fits h old kept → KeepsPast h.layout.blocks old new) c.self.view_is
    (λ kept fits. past_kept c.self.invariant.within fits (subst (λ (l : Layout). Spreads old new (SamePast l.blocks)) c.self.invariant.same (c.write_homes.ensures.past fits.honest)))
