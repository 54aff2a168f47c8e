use Rattle.std.proofs.Common.{◌≤◌, ◌+◌, ◌≡◌, ◌<◌, List, IsTrue, sym, ◌∙◌, ap, subst, refl, arith, rules, length}
use Rattle.lis_journal.specs.declared.stage.Staged.{Staged}
use Rattle.lis_journal.specs.Record.{homes_start, rises}
use Rattle.lis_journal.specs.Staging.{Staging, with_entry}
use Rattle.lis_journal.specs.Inside.{entries_of, home_list, FoundAt, PlaceFor, staging_of}
use Rattle.lis_journal.proofs.Frames.{list_rises, has_frame_at_place, put_found, put_new, not_full, may_stage, looked_put}
use Rattle.lis_journal.proofs.stage.Stage.put.Goals as goal

pub find-requires : goal.find-requires
find-requires c =
    let inside = c.self.inside in (
      inside.layout.blocks,
      (
        inside.layout.records + 1,
        subst (λ (xs : List Staged). IsTrue (rises inside.layout.blocks (inside.layout.records + 1) (home_list xs))) (sym c.deref.ensures.value)
            (list_rises inside.pool inside.staged.items inside.layout.blocks (inside.layout.records + 1) c.self.invariant.staging.rise),
      ),
    )

pub write-requires-clause-taken : goal.write-requires-clause-taken
write-requires-clause-taken c =
    let inside = c.self.inside in
    has_frame_at_place inside.pool inside.staged.items c.in-Ok.place c.index.result.now c.self.invariant.staging.whole (omega (arith, c.in-Ok.ensures.bound, ap length c.deref.ensures.value)) c.index.ensures

pub invariant_of-self : goal.invariant_of-self
invariant_of-self c =
    let inside = c.self.inside in
    let found : FoundAt c.args.n c.in-Ok.place inside.staged.items = subst (λ (xs : List Staged). FoundAt c.args.n c.in-Ok.place xs) c.deref.ensures.value c.in-Ok.ensures.place in
    let within : c.args.n < inside.layout.blocks = omega (arith, c.requires.within, ap (λ (s : Staging). s.layout.blocks) c.self.view_is) in
    let home : homes_start inside.layout ≤ c.args.n = omega (arith, c.requires.home, ap (λ (s : Staging). s.layout.records) c.self.view_is) in
    (put_found inside.pool c.write.new.self inside.staged.items c.args.n c.in-Ok.place _ inside.layout inside.capacity c.index.result.now c.args.bytes.now c.self.invariant found (omega (arith, c.in-Ok.ensures.bound, ap length c.deref.ensures.value)) c.index.ensures c.write.ensures home within c.requires.whole).0

pub returns-in-Ok-clause-put : goal.returns-in-Ok-clause-put
returns-in-Ok-clause-put c =
    let inside = c.self.inside in
    let found : FoundAt c.args.n c.in-Ok.place inside.staged.items = subst (λ (xs : List Staged). FoundAt c.args.n c.in-Ok.place xs) c.deref.ensures.value c.in-Ok.ensures.place in
    let within : c.args.n < inside.layout.blocks = omega (arith, c.requires.within, ap (λ (s : Staging). s.layout.blocks) c.self.view_is) in
    let home : homes_start inside.layout ≤ c.args.n = omega (arith, c.requires.home, ap (λ (s : Staging). s.layout.records) c.self.view_is) in
    let put = (put_found inside.pool c.write.new.self inside.staged.items c.args.n c.in-Ok.place _ inside.layout inside.capacity c.index.result.now c.args.bytes.now c.self.invariant found (omega (arith, c.in-Ok.ensures.bound, ap length c.deref.ensures.value)) c.index.ensures c.write.ensures home within c.requires.whole).1 in
    let same : staging_of inside.pool inside.staged.items inside.layout inside.capacity ≡ c.args.self.now = c.self.view_is in
    ap (λ es. record { layout = inside.layout; capacity = inside.capacity; entries = es }) put
    ∙ ap (λ (s : Staging). record { layout = s.layout; capacity = s.capacity; entries = with_entry s.entries c.args.n c.args.bytes.now }) same

pub unreachable-requires : goal.unreachable-requires
unreachable-requires c =
    let inside = c.self.inside in
    let place : PlaceFor c.args.n c.in-Err.place inside.staged.items = subst (λ (xs : List Staged). PlaceFor c.args.n c.in-Err.place xs) c.deref.ensures.value c.in-Err.ensures.place in
    let few = not_full inside.pool inside.staged.items c.args.n c.in-Err.place _ inside.layout inside.capacity c.self.invariant place (may_stage c.args.n c.self.view_is c.requires.room) in
    omega (arith, few, c.self.invariant.counted, c.in_default.ensures.none.0 refl)

pub invariant_of-self-in-Ok-insert : goal.invariant_of-self-in-Ok-insert
invariant_of-self-in-Ok-insert c =
    let inside = c.self.inside in
    let place : PlaceFor c.args.n c.in-Err.place inside.staged.items = subst (λ (xs : List Staged). PlaceFor c.args.n c.in-Err.place xs) c.deref.ensures.value c.in-Err.ensures.place in
    let within : c.args.n < inside.layout.blocks = omega (arith, c.requires.within, ap (λ (s : Staging). s.layout.blocks) c.self.view_is) in
    let home : homes_start inside.layout ≤ c.args.n = omega (arith, c.requires.home, ap (λ (s : Staging). s.layout.records) c.self.view_is) in
    (put_new inside.pool c.take.new.self c.write-in-Err.new.self inside.staged.items c.insert.new.self.items c.args.n c.in-Err.place _ _ inside.layout inside.capacity c.in-Some.frame _ c.args.bytes.now c.self.invariant place c.in-Some.ensures.was_free c.in-Some.ensures.new_number c.in-Some.ensures.taken c.in-Some.ensures.fewer c.write-in-Err.ensures c.in-Ok-insert.ensures.items (search rules) (search rules) home within c.requires.whole).0

pub returns-in-Ok-insert-clause-put : goal.returns-in-Ok-insert-clause-put
returns-in-Ok-insert-clause-put c =
    let inside = c.self.inside in
    let place : PlaceFor c.args.n c.in-Err.place inside.staged.items = subst (λ (xs : List Staged). PlaceFor c.args.n c.in-Err.place xs) c.deref.ensures.value c.in-Err.ensures.place in
    let within : c.args.n < inside.layout.blocks = omega (arith, c.requires.within, ap (λ (s : Staging). s.layout.blocks) c.self.view_is) in
    let home : homes_start inside.layout ≤ c.args.n = omega (arith, c.requires.home, ap (λ (s : Staging). s.layout.records) c.self.view_is) in
    let put = (put_new inside.pool c.take.new.self c.write-in-Err.new.self inside.staged.items c.insert.new.self.items c.args.n c.in-Err.place _ inside.capacity inside.layout inside.capacity c.in-Some.frame _ c.args.bytes.now c.self.invariant place c.in-Some.ensures.was_free c.in-Some.ensures.new_number c.in-Some.ensures.taken c.in-Some.ensures.fewer c.write-in-Err.ensures c.in-Ok-insert.ensures.items (search rules) (omega arith) home within c.requires.whole).1 in
    let same : staging_of inside.pool inside.staged.items inside.layout inside.capacity ≡ c.args.self.now = c.self.view_is in
    ap (λ es. record { layout = inside.layout; capacity = inside.capacity; entries = es }) put
    ∙ ap (λ (s : Staging). record { layout = s.layout; capacity = s.capacity; entries = with_entry s.entries c.args.n c.args.bytes.now }) same

pub returns-in-Ok-clause-looks : goal.returns-in-Ok-clause-looks
returns-in-Ok-clause-looks c =
    let inside = c.self.inside in
    let found : FoundAt c.args.n c.in-Ok.place inside.staged.items = subst (λ (xs : List Staged). FoundAt c.args.n c.in-Ok.place xs) c.deref.ensures.value c.in-Ok.ensures.place in
    let within : c.args.n < inside.layout.blocks = omega (arith, c.requires.within, ap (λ (s : Staging). s.layout.blocks) c.self.view_is) in
    let home : homes_start inside.layout ≤ c.args.n = omega (arith, c.requires.home, ap (λ (s : Staging). s.layout.records) c.self.view_is) in
    let put = (put_found inside.pool c.write.new.self inside.staged.items c.args.n c.in-Ok.place _ inside.layout inside.capacity c.index.result.now c.args.bytes.now c.self.invariant found (omega (arith, c.in-Ok.ensures.bound, ap length c.deref.ensures.value)) c.index.ensures c.write.ensures home within c.requires.whole).1 in
    looked_put inside.layout inside.capacity c.args.n c.args.bytes.now (entries_of inside.pool inside.staged.items) _ c.args.self.now c.self.view_is c.self.invariant.staging.rise put

pub returns-in-Ok-insert-clause-looks : goal.returns-in-Ok-insert-clause-looks
returns-in-Ok-insert-clause-looks c =
    let inside = c.self.inside in
    let place : PlaceFor c.args.n c.in-Err.place inside.staged.items = subst (λ (xs : List Staged). PlaceFor c.args.n c.in-Err.place xs) c.deref.ensures.value c.in-Err.ensures.place in
    let within : c.args.n < inside.layout.blocks = omega (arith, c.requires.within, ap (λ (s : Staging). s.layout.blocks) c.self.view_is) in
    let home : homes_start inside.layout ≤ c.args.n = omega (arith, c.requires.home, ap (λ (s : Staging). s.layout.records) c.self.view_is) in
    let put = (put_new inside.pool c.take.new.self c.write-in-Err.new.self inside.staged.items c.insert.new.self.items c.args.n c.in-Err.place _ inside.capacity inside.layout inside.capacity c.in-Some.frame _ c.args.bytes.now c.self.invariant place c.in-Some.ensures.was_free c.in-Some.ensures.new_number c.in-Some.ensures.taken c.in-Some.ensures.fewer c.write-in-Err.ensures c.in-Ok-insert.ensures.items (search rules) (omega arith) home within c.requires.whole).1 in
    looked_put inside.layout inside.capacity c.args.n c.args.bytes.now (entries_of inside.pool inside.staged.items) _ c.args.self.now c.self.view_is c.self.invariant.staging.rise put
