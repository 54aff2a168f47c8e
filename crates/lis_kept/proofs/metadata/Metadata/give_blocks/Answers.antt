use Rattle.lis_kept.proofs.Common.{◌≡◌, ◌≤◌, ◌∙◌, ℕ, length, true, false, Some, ap, sym, subst, same_Some, rec_at, slot_count, FileRecord}
use Rattle.lis_content.specs.Large.{is_large}
use Rattle.lis_fields.proofs.Parts.{size_fits}
use Rattle.lis_model.specs.Image.{image_blocks}
use Rattle.lis_kept.specs.Metadata.{Metadata}
use Rattle.lis_kept.specs.Sound.{is_sound_record}
use Rattle.lis_kept.proofs.Dropped.{record_in_form}
use Rattle.lis_kept.proofs.BlocksTaken.{slot_within, on_ok, freed_held, freed_gives, small_gives, given_held}
use Rattle.lis_kept.proofs.Image.{same_blocks}
use Rattle.lis_kept.proofs.Contents.{slot_counted}
use Rattle.lis_kept.specs.contracts.metadata.Metadata.{the_view}
use Rattle.lis_kept.proofs.metadata.Metadata.give_blocks.Goals as goal

-- the size of a sound record is one of the layout
size_few : (k : Metadata) (rec : FileRecord) (size : ℕ) → is_sound_record k.limits k.dict k.limits.blocks rec ≡ true → size ≡ rec.size → size ≤ 67108864
size_few k rec size sound is = subst (λ n. n ≤ 67108864) (sym is) (size_fits k.limits rec.size (record_in_form k.limits k.dict k.limits.blocks rec sound).small)

pub is_large-requires : goal.is_large-requires
is_large-requires g c =
    size_few (the_view c.self.inside) c.in-Some.rec.now c.rec-2.inside.size (c.self.invariant.sound.records c.args.slot c.in-Some.rec.now c.in-Some.ensures)
    (ap (λ (r : FileRecord). r.size) c.rec-2.view_is)

pub free_large-requires-clause-few : goal.free_large-requires-clause-few
free_large-requires-clause-few g c =
    size_few (the_view c.self.inside) c.in-Some.rec.now c.laid_by-laid.result.size (c.self.invariant.sound.records c.args.slot c.in-Some.rec.now c.in-Some.ensures) c.laid_by-laid.ensures.size

pub free_large-requires-clause-count : goal.free_large-requires-clause-count
free_large-requires-clause-count g c =
    let k = the_view c.self.inside in
    let counted = slot_counted k.limits k.dict k.limits.blocks c.in-Some.rec.now c.self.invariant.sound.range (c.self.invariant.sound.records c.args.slot c.in-Some.rec.now c.in-Some.ensures) in
    ap length c.laid_by-laid.ensures.blocks ∙ (counted ∙ ap slot_count (sym c.laid_by-laid.ensures.size))

pub free_large-requires-clause-within : goal.free_large-requires-clause-within
free_large-requires-clause-within g c =
    slot_within (the_view c.self.inside) c.in-Some.rec.now c.laid_by-laid.result.base c.args.journal.now.layout.blocks c.laid_by-laid.result.blocks.now
    (c.self.invariant.sound.records c.args.slot c.in-Some.rec.now c.in-Some.ensures) c.laid_by-laid.ensures.base
    (same_blocks c.requires.image ∙ ap (λ (x : Metadata). image_blocks x.limits) (sym c.self.view_is)) c.laid_by-laid.ensures.blocks

pub invariant_of-self : goal.invariant_of-self
invariant_of-self g c =
    freed_held c.args.self.now (the_view c.self.inside) c.self.inside.taxonomy c.self.view_is c.self.invariant c.args.journal.now (g.D.Disk.meaning c.args.disk.now) c.laid_by-laid.result.version
    c.laid_by-laid.result.base c.laid_by-laid.result.size c.laid_by-laid.result.blocks.now c.free_large.new.map c.free_large.new.marks c.free_large.result c.free_large.ensures.freed c.free_large.ensures.stays

pub returns-then-is_large-clause-sound : goal.returns-then-is_large-clause-sound
returns-then-is_large-clause-sound g c =
    (freed_held c.args.self.now (the_view c.self.inside) c.self.inside.taxonomy c.self.view_is c.self.invariant c.args.journal.now (g.D.Disk.meaning c.args.disk.now) c.laid_by-laid.result.version
    c.laid_by-laid.result.base c.laid_by-laid.result.size c.laid_by-laid.result.blocks.now c.free_large.new.map c.free_large.new.marks c.free_large.result c.free_large.ensures.freed c.free_large.ensures.stays).sound

-- the record is the one in the slot
same_record : (p k : Metadata) (slot : ℕ) (one two : FileRecord) → p ≡ k → rec_at p.catalog slot ≡ Some one → rec_at k.catalog slot ≡ Some two → one ≡ two
same_record p k slot one two is here there = same_Some one two (sym here ∙ (ap (λ (x : Metadata). rec_at x.catalog slot) is ∙ there))

pub returns-then-is_large-clause-gives : goal.returns-then-is_large-clause-gives
returns-then-is_large-clause-gives g c =
    let laid = c.laid_by-laid.result in
    let is = c.laid_by-laid.ensures in
    let large : is_large laid.size ≡ true = ap is_large (is.size ∙ sym (ap (λ (r : FileRecord). r.size) c.rec-2.view_is)) ∙ (sym c.is_large.ensures ∙ c.if-is_large.true) in
    on_ok c.free_large.result (λ freed rec there.
    let same = same_record (the_view c.self.inside) c.args.self.now c.args.slot c.in-Some.rec.now rec c.self.view_is c.in-Some.ensures there in
    freed_gives c.args.self.now (the_view c.self.inside) c.self.inside.taxonomy c.self.view_is c.self.invariant c.args.journal.now (g.D.Disk.meaning c.args.disk.now) laid.version laid.base laid.size
    laid.blocks.now c.free_large.new.map c.free_large.new.marks rec is.version is.base (is.blocks ∙ ap (λ (r : FileRecord). r.blocks) same) (is.size ∙ ap (λ (r : FileRecord). r.size) same) large freed)
    c.free_large.ensures.freed

pub invariant_of-self-2 : goal.invariant_of-self-2
invariant_of-self-2 g c =
    given_held (the_view c.self.inside) c.self.inside.taxonomy c.laid_by-laid.result.blocks.now c.free_all.new.map c.free_all.new.marks c.self.invariant c.free_all.ensures.given c.free_all.ensures.marks

pub returns-clause-sound : goal.returns-clause-sound
returns-clause-sound g c =
    (given_held (the_view c.self.inside) c.self.inside.taxonomy c.laid_by-laid.result.blocks.now c.free_all.new.map c.free_all.new.marks c.self.invariant c.free_all.ensures.given c.free_all.ensures.marks).sound

pub returns-clause-gives : goal.returns-clause-gives
returns-clause-gives g c = λ rec there.
    let same = same_record (the_view c.self.inside) c.args.self.now c.args.slot c.in-Some.rec.now rec c.self.view_is c.in-Some.ensures there in
    let small : is_large rec.size ≡ false = ap is_large (sym (ap (λ (r : FileRecord). r.size) (c.rec-2.view_is ∙ same))) ∙ (sym c.is_large.ensures ∙ c.if-is_large.false) in
    small_gives c.args.self.now (the_view c.self.inside) c.self.inside.taxonomy rec c.args.journal.now (g.D.Disk.meaning c.args.disk.now) c.laid_by-laid.result.blocks.now c.free_all.new.map c.free_all.new.marks
    c.self.view_is c.self.invariant (c.laid_by-laid.ensures.blocks ∙ ap (λ (r : FileRecord). r.blocks) same) small c.free_all.ensures.given c.free_all.ensures.marks
