use Rattle.lis_kept.proofs.Common.{◌∙◌, sym, ℕ, List, length}
use Rattle.arrayvec.specs.ArrayVec.{ArrayVec}
use Rattle.lis_kept.proofs.BlocksTaken.{MayPut, PutEnds, placed_ends, staged_ends, ended_ok, ended_err}
use Rattle.lis_kept.specs.contracts.metadata.Metadata.{the_view}
use Rattle.lis_kept.proofs.metadata.Metadata.put_content.Goals.{then-is_large, else-is_large, in-Ok, in-Err-Disk}
use Rattle.lis_fields.proofs.Parts.{size_fits}
use Rattle.lis_kept.proofs.metadata.Metadata.put_content.Goals as goal

abbrev items : ArrayVec ℕ → List ℕ
items ns = ns.items

-- how the put ends, placed or staged
ends : (g : _) (c : goal.Joined-put g)
    → PutEnds items c.args.bytes.now c.args.self.now (the_view c.if-is_large.self-inside) c.if-is_large.self-inside.taxonomy c.args.journal.now c.if-is_large.journal
    (g.D.Disk.meaning c.args.disk.now) (g.D.Disk.meaning c.if-is_large.disk) c.if-is_large.put
ends g c =
    let k = c.args.self.now in
    let v = the_view c.self.inside in
    let t = c.self.inside.taxonomy in
    let old = c.args.journal.now in
    let before = g.D.Disk.meaning c.args.disk.now in
    let may : MayPut k c.args.bytes.now old = record { short = c.requires.short; enough = c.requires.enough; unplaced = c.requires.unplaced; unstaged = c.requires.unstaged } in
    elim c.if-is_large.branch [
      | then-is_large w ↦
          let r = w.place_marked-put in
          rw (w.journal-is, w.disk-is, w.put-is, w.self-inside-is)
          (placed_ends items k v t c.self.view_is c.self.invariant c.args.bytes.now old r.new.journal may r.new.map r.new.marks before (g.D.Disk.meaning r.new.disk)
          (sym c.is_large.ensures ∙ w.if-is_large.true) r.result r.ensures.ended)
      | else-is_large w ↦
          let r = w.stage_marked-put in
          rw (w.journal-is, w.disk-is, w.put-is, w.self-inside-is, r.ensures.disk)
          (staged_ends items k v t c.self.view_is c.self.invariant c.args.bytes.now old r.new.journal may r.new.map r.new.marks before
          (sym c.is_large.ensures ∙ w.if-is_large.false) r.result r.ensures.ended)
    ]

pub invariant_of-self : goal.invariant_of-self
invariant_of-self g c = (ends g c).held

pub returns-clause-ended : goal.returns-clause-ended
returns-clause-ended g c =
    let e = ends g c in
    elim c.match-put.branch [
      | in-Ok w ↦ rw w.result-is (ended_ok _ _ c.if-is_large.put w.in-Ok.numbers w.in-Ok.is e.ended)
      | in-Err-Disk w ↦ rw w.result-is (ended_err _ _ c.if-is_large.put _ w.in-Err-Disk.is e.ended)
    ]

pub returns-clause-sound : goal.returns-clause-sound
returns-clause-sound g c = (ends g c).held.sound

pub is_large-requires : goal.is_large-requires
is_large-requires g c = size_fits c.args.self.now.limits (length c.args.bytes.now) c.requires.short
