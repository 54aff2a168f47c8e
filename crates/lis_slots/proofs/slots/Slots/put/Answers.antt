use Rattle.std.proofs.Common.{◌≡◌, ℕ, cond, eqb, List, length, ◌∙◌, ap}
use Rattle.lis_ports.specs.Bytes.{part, put}
use Rattle.lis_journal.specs.Images.{look}
use Rattle.lis_journal.specs.Phases.{looked}
use Rattle.lis_journal.specs.Staging.{with_entry}
use Rattle.lis_slots.specs.Slots.{home, place}
use Rattle.lis_slots.proofs.Putting.{slot_over}
use Rattle.lis_slots.proofs.slots.Slots.put.Goals as goal

pub returns-clause-ended : goal.returns-clause-ended
returns-clause-ended g c =
    let s = c.args.self.now in
    let k = c.args.k in
    let old = c.args.journal.now in
    let content = c.overwrite.new.block in
    let at_home : c.home-home.result ≡ home s k = c.home-home.ensures in
    let over : content ≡ put c.read.new.buf (place s k) c.args.bytes.now = c.overwrite.ensures ∙ ap (λ at. put c.read.new.buf at c.args.bytes.now) c.place.ensures.place in
    let whole : length c.read.new.buf ≡ 4096 = c.read.auto.buf in
    let looks : (n : ℕ) (was : List ℕ) → look c.stage.new.self.staged n was ≡ cond (eqb n (home s k)) content (look old.staged n was) = λ n was. c.stage.ensures.looks n was ∙ ap (λ h. cond (eqb n h) content (look old.staged n was)) at_home in
    record {
      content = content;
      whole = c.overwrite.auto.block ∙ whole;
      staged = c.stage.ensures.staged ∙ ap (λ h. record old { staged = with_entry old.staged h content }) at_home;
      slots = λ kept fits j.
          ap (part (place s j) s.width) (looks (home s j) (kept (home s j)))
          ∙ slot_over s k j c.args.bytes.now c.read.new.buf content (looked old.staged kept) c.place.ensures.all c.requires.whole whole (c.in_ok-read.ensures.read kept fits ∙ ap (λ h. look old.staged h (kept h)) at_home) over;
      others = λ n was other. looks n was ∙ ap (λ b. cond b content (look old.staged n was)) other;
    }
