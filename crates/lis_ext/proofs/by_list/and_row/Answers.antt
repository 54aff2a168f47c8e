use Rattle.std.proofs.Common.{◌≡◌, ℕ, ◌<◌, Bool, true, false, ◌&&◌, ap, sym, ◌∙◌, arith}
use Rattle.lis_bits.specs.Rows.{get}
use Rattle.lis_ext.specs.Numbers.{has_number}
use Rattle.lis_ext.specs.Inside.{has_in}
use Rattle.lis_ext.proofs.ByList.{sets_none, sets_more, sets_same, sets_all}
use Rattle.lis_ext.proofs.by_list.and_row.Goals.{then-get+then-not-is_among, else-get, else-get-via-then-get+else-not-is_among, else-get-via-else-get}
use Rattle.lis_ext.proofs.by_list.and_row.Goals as goal

and_of_true : (a b x : Bool) → a ≡ true → b ≡ x → x ≡ (a && b)
and_of_true a b x set same = sym (ap (λ v. v && b) set ∙ same)

and_of_false : (a b x : Bool) → a ≡ false → x ≡ false → x ≡ (a && b)
and_of_false a b x unset same = same ∙ sym (ap (λ v. v && b) unset)

pub loop-file-init : goal.loop-file-init
loop-file-init c = sets_none c.args.to.now c.args.row (λ bit. get c.args.to.now c.args.row bit && has_in c.args.lists.now c.args.prop bit)

pub loop-file-preserved : goal.loop-file-preserved
loop-file-preserved c =
    let l = c.loop-file in
    let to = c.args.to.now in
    let row = c.args.row in
    let prop = c.args.prop in
    let was = get to row l.file in
    let is = get l.to row l.file in
    let had = has_in c.args.lists.now prop l.file in
    let value = λ (bit : ℕ). get to row bit && has_in c.args.lists.now prop bit in
    let in_row : l.file < to.bits = omega (arith, c.requires.bits) in
    let stays : is ≡ was = l.invariant.rest l.file (omega arith) in_row in
    elim c.if-get.branch [
      | then-get+then-not-is_among w ↦
          let lacks : had ≡ false = sym (w.is_among.ensures ∙ ap (λ numbers. has_number numbers prop) w.numbers.ensures.numbers) ∙ w.if-not-is_among.true in
          rw (w.to-is, w.put.ensures) (sets_more to l.to row l.file value l.invariant in_row false c.requires.row (and_of_true was had false (sym stays ∙ (sym c.get.ensures ∙ w.if-get.true)) lacks))
      | else-get w ↦ rw w.to-is (sets_same to l.to row l.file value l.invariant in_row (
          elim w.else-get.branch [
            | else-get-via-then-get+else-not-is_among w' ↦
                let set = sym c.get.ensures ∙ w'.if-get.true in
                let has : had ≡ true = sym (w'.is_among.ensures ∙ ap (λ numbers. has_number numbers prop) w'.numbers.ensures.numbers) ∙ w'.if-not-is_among.false in
                and_of_true was had is (sym stays ∙ set) (has ∙ sym set)
            | else-get-via-else-get w' ↦
                let unset = sym c.get.ensures ∙ w'.if-get.false in
                and_of_false was had is (sym stays ∙ unset) unset
          ]))
    ]

pub returns : goal.returns
returns c = sets_all c.args.to.now c.loop-file.to c.args.row c.loop-file.file (λ bit. get c.args.to.now c.args.row bit && has_in c.args.lists.now c.args.prop bit) c.loop-file.invariant (omega (arith, c.requires.bits))
