use Rattle.lis_open.proofs.Common.{◌∙◌, sym, ap, subst, false, Metadata, Stored, IsSound}
use Rattle.lis_open.specs.ReadAll.{AreNoMarks}
use Rattle.lis_open.proofs.Joined.{metadata_held, store_sound, store_told}
use Rattle.lis_open.proofs.reading.read_store.Goals as goal

pub returns-in-Err-clause-ended : goal.returns-in-Err-clause-ended
returns-in-Err-clause-ended g c = λ kept fits super. c.in-Err.ensures.ended kept fits

pub join-metadata-requires : goal.join-metadata-requires
join-metadata-requires g c =
    let limits = c.args.limits in
    metadata_held limits c.in-Ok.parts.0 c.read_parts.new.memory.axioms c.in-Ok.parts.1 c.read_parts.new.memory.marks (c.in-Ok.ensures.read c.read_parts.new.memory.marks) c.requires.readable.range (subst (AreNoMarks limits) (sym c.read_parts.ensures.marks) c.requires.memory.later.marks)

pub join-requires : goal.join-requires
join-requires g c =
    let limits = c.args.limits in
    let sound = store_sound limits c.in-Ok.parts.0 c.read_parts.new.memory.axioms c.in-Ok.parts.1 c.read_parts.new.memory.marks (c.in-Ok.ensures.read c.read_parts.new.memory.marks) c.requires.readable.range (subst (AreNoMarks limits) (sym c.read_parts.ensures.marks) c.requires.memory.later.marks)
    c.args.journal c.requires.readable.image c.requires.readable.usable.unbroken c.requires.readable.clean c.requires.unplaced in
    subst (λ (k : Metadata). IsSound (record { metadata = k; journal = c.args.journal; is_broken = false })) (sym c.join-metadata.ensures) sound

pub returns-clause-sound : goal.returns-clause-sound
returns-clause-sound g c =
    let limits = c.args.limits in
    let sound = store_sound limits c.in-Ok.parts.0 c.read_parts.new.memory.axioms c.in-Ok.parts.1 c.read_parts.new.memory.marks (c.in-Ok.ensures.read c.read_parts.new.memory.marks) c.requires.readable.range (subst (AreNoMarks limits) (sym c.read_parts.ensures.marks) c.requires.memory.later.marks)
    c.args.journal c.requires.readable.image c.requires.readable.usable.unbroken c.requires.readable.clean c.requires.unplaced in
    subst IsSound (sym c.join.ensures) (subst (λ (k : Metadata). IsSound (record { metadata = k; journal = c.args.journal; is_broken = false })) (sym c.join-metadata.ensures) sound)

pub returns-clause-ended : goal.returns-clause-ended
returns-clause-ended g c = λ kept fits super.
    let limits = c.args.limits in
    let metadata = ap (λ (s : Stored). s.metadata) c.join.ensures ∙ c.join-metadata.ensures in
    store_told limits c.in-Ok.parts.0 c.read_parts.new.memory.axioms c.in-Ok.parts.1 c.read_parts.new.memory.marks kept (c.in-Ok.ensures.read c.read_parts.new.memory.marks)
    (c.in-Ok.ensures.ended kept fits) c.requires.readable.range (subst (AreNoMarks limits) (sym c.read_parts.ensures.marks) c.requires.memory.later.marks) c.join.result metadata super
