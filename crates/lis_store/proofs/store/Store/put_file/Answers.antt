use Rattle.lis_store.proofs.Common.{◌≡◌, ◌∙◌, Ok, Err, length, refl, sym, ap, subst, arith, err_from_is_err_and, new_file, file_added, changed, Metadata, State, Situation, Outcome, rules, size_fits}
use Rattle.lis_journal.specs.Journal.{shape_of}
use Rattle.lis_store.specs.Stored.{Stored, IsSound, StoreHolds}
use Rattle.lis_store.specs.Changes.{Holds, Commits}
use Rattle.lis_store.specs.Drafts.{draft_of}
use Rattle.lis_store.specs.ReplacingIn.{MayPutBytes, record_in, file_gone}
use Rattle.lis_store.proofs.Holding.{fits_held}
use Rattle.lis_store.proofs.Keeping.{keeps_behind, left_unrefused}
use Rattle.lis_store.proofs.Large.{held_behind_commit, held_lost_commit}
use Rattle.lis_store.proofs.ReplaceFile.{anew_small}
use Rattle.lis_store.proofs.store.Store.put_file.Goals.{then-is_large+in_ok-commit, else-is_large}
use Rattle.lis_model.proofs.Ranges.{limit_le}
use Rattle.lis_store.proofs.store.Store.put_file.Goals as goal

pub overflow_cast-payload : goal.overflow_cast-payload
overflow_cast-payload g c =
    let file = new_file c.args.name.now c.args.words.now.assigned.items c.args.payload.now in
    omega (arith, size_fits c.args.self.now.metadata.limits (length c.args.payload.now) (anew_small {old = c.args.self.now} refl c.args.slot (draft_of file) c.requires.may.0))

pub is_large-requires : goal.is_large-requires
is_large-requires g c =
    let file = new_file c.args.name.now c.args.words.now.assigned.items c.args.payload.now in
    omega (arith, limit_le c.args.self.now.metadata.limits, (anew_small {old = c.args.self.now} refl c.args.slot (draft_of file) c.requires.may.0))

pub returns-in_err-commit : goal.returns-in_err-commit
returns-in_err-commit g c =
    let holds = λ (base : State) (now : Situation) (holds : StoreHolds c.args.self.now (g.D.Disk.meaning c.args.disk.now) base now.state).
    let p = err_from_is_err_and c.from_residual.result c.from_residual.ensures.1 in
    let m = g.D.Disk.meaning c.args.disk.now in
    let file = new_file c.args.name.now c.args.words.now.assigned.items c.args.payload.now in
    held_lost_commit base now (changed now (file_added (file_gone now.state (record_in c.args.self.now.metadata c.args.slot)) file)) m m (g.D.Disk.meaning c.commit.new.disk)
    c.commit.new.self c.in_err-commit.field-0.0 c.from_residual.result (c.in_err-commit.ensures.commits base now.state holds) (p.1 ∙ ap Err p.2) in
    let e = err_from_is_err_and c.from_residual.result c.from_residual.ensures.1 in
    let ended = left_unrefused c.commit.new.self c.in_err-commit.field-0.0 c.from_residual.result c.in_err-commit.ensures.left (e.1 ∙ ap Err e.2) in
    search (rules, holds, ended)

pub put_alone-requires-clause-may : goal.put_alone-requires-clause-may
put_alone-requires-clause-may g c =
    let May : Metadata → Type 0 = λ k. MayPutBytes k c.args.slot (new_file c.args.name.now c.args.words.now.assigned.items c.args.payload.now) in
    elim c.if-is_large.branch [
      | then-is_large+in_ok-commit w ↦ subst May (sym (ap (λ (k : Stored). k.metadata) w.self-is ∙ w.commit.ensures.metadata)) c.requires.may
      | else-is_large w ↦ subst May (sym (ap (λ (k : Stored). k.metadata) w.self-is)) c.requires.may
    ]

pub returns-clause-holds : goal.returns-clause-holds
returns-clause-holds g c = λ base now holds.
    let m = g.D.Disk.meaning c.args.disk.now in
    let mid = c.if-is_large.self in
    let between = g.D.Disk.meaning c.if-is_large.disk in
    let after = g.D.Disk.meaning c.put_alone.new.disk in
    let sound = subst (λ (k : Stored). IsSound k) c.self.view_is c.self.invariant in
    let file = new_file c.args.name.now c.args.words.now.assigned.items c.args.payload.now in
    let outcome : Metadata → Outcome = λ k. changed now (file_added (file_gone now.state (record_in k c.args.slot)) file) in
    let kept : mid.metadata ≡ c.args.self.now.metadata =
    elim c.if-is_large.branch [
      | then-is_large+in_ok-commit w ↦ ap (λ (k : Stored). k.metadata) w.self-is ∙ w.commit.ensures.metadata
      | else-is_large w ↦ ap (λ (k : Stored). k.metadata) w.self-is
    ] in
    let O : Metadata → Type 0 = λ k. Holds base now (outcome k) c.put_alone.new.self m after c.put_alone.result in
    subst O kept
    (elim c.if-is_large.branch [
      | then-is_large+in_ok-commit w ↦
          let commits : Commits {T = Unit {0}} base now.state mid m between (Ok tt) = rw (w.self-is, w.disk-is) (w.in_ok-commit.ensures.commits base now.state holds) in
          held_behind_commit base now (outcome mid.metadata) m between after c.args.self.now mid c.put_alone.new.self tt c.put_alone.result sound holds commits
          c.put_alone.ensures.keeps.sound (c.put_alone.ensures.settled (sym c.is_large.ensures ∙ w.if-is_large.true)) c.put_alone.ensures.ended
          (c.put_alone.ensures.holds now.state now (fits_held mid between now.state (rw w.self-is w.commit.ensures.sound) commits.ended))
      | else-is_large w ↦
          rw (← w.disk-is) (c.put_alone.ensures.holds base now (rw (w.self-is, w.disk-is) holds))
    ])

pub returns-clause-ends : goal.returns-clause-ends
returns-clause-ends g c =
    let kept : (c.if-is_large.self.metadata ≡ c.args.self.now.metadata) × (shape_of c.if-is_large.self.journal ≡ shape_of c.args.self.now.journal) =
    elim c.if-is_large.branch [
      | then-is_large+in_ok-commit w ↦ (ap (λ (k : Stored). k.metadata) w.self-is ∙ w.commit.ensures.metadata, ap (λ (k : Stored). shape_of k.journal) w.self-is ∙ w.commit.ensures.image)
      | else-is_large w ↦ (ap (λ (k : Stored). k.metadata) w.self-is, ap (λ (k : Stored). shape_of k.journal) w.self-is)
    ] in
    let keeps = keeps_behind {old = c.args.self.now} kept.0 kept.1 c.put_alone.ensures.keeps c.put_alone.ensures.ended in
    search (rules, keeps)
