use Rattle.std.proofs.Common.{ℕ, List, Ok, Err}
use Rattle.std.specs.Prelude.{Result, OnOk}
use Rattle.lis_journal.specs.Images.{look}
use Rattle.lis_content.proofs.Places.{part_between, torn_between}
use Rattle.lis_content.proofs.buffer.read_place.Goals as goal

on_both : {T E P Q R : Type 0} (r : Result T E) → (P → Q → R) → OnOk r P → OnOk r Q → OnOk r R
on_both (Ok x) step p q = step p q
on_both (Err e) step p q = p

pub returns-clause-place : goal.returns-clause-place
returns-clause-place g c =
    torn_between c.args.at c.min-count.result c.args.size c.args.bytes.now c.read_front.new.buf c.read_front.auto.buf c.min-count.ensures c.requires.inside c.requires.there

pub returns-clause-read : goal.returns-clause-read
returns-clause-read g c =
    let block = λ (kept : ℕ → List ℕ). look c.args.journal.now.staged c.args.home (kept c.args.home) in
    let is = part_between c.args.at c.min-count.result c.args.size c.args.bytes.now c.read_front.new.buf c.read_front.auto.buf c.min-count.ensures c.requires.inside c.requires.there in
    on_both c.read_front.result (λ front whole kept fits. is (block kept) (whole kept fits) (front kept fits)) c.read_front.ensures.front c.read_front.ensures.whole
