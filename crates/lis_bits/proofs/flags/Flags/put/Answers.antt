use Rattle.std.proofs.Common.{◌≡◌, ◌<◌, ◌/◌, ◌+◌, length, get_or, set, ◌==◌, if◌then◌else◌, ap, ◌∙◌, sym, arith, length-set}
use Rattle.std.proofs.lemmas.Grind.{get_or_default_zero}
use Rattle.lis_bits.proofs.OneRow.{flags_many, flags_put, zeros_added, bit_put, put_past}
use Rattle.lis_bits.proofs.flags.Flags.put.Goals as goal

pub returns-then-len-place : goal.returns-then-len-place
returns-then-len-place c =
    let fields = c.self.inside in
    sym c.self.view_is ∙ flags_put fields.bits fields.words.items c.args.self.now c.self.view_is fields.words.items c.args.number c.args.value c.requires
    (put_past fields.words.items c.args.number c.args.value (omega arith) c.if-not-value.true)

pub extend-requires : goal.extend-requires
extend-requires c =
    let many = flags_many c.self.inside.bits c.self.inside.words.items c.args.self.now c.self.view_is in
    let room = c.self.invariant.room in
    let whole = c.self.invariant.whole_words in
    omega arith

pub invariant_of-self : goal.invariant_of-self
invariant_of-self c =
    let fields = c.self.inside in
    let many = flags_many fields.bits fields.words.items c.args.self.now c.self.view_is in
    let whole = c.self.invariant.whole_words in
    let within = c.self.invariant.within in
    let long = length-set c.extend.new.words.items (c.args.number / 64) c.with_bit.result in
    record {
      whole_words = whole;
      few = c.self.invariant.few;
      within = omega (arith, c.extend.ensures.long);
      room = omega (arith, c.extend.ensures.room, c.self.invariant.room);
    }

pub returns : goal.returns
returns c =
    let fields = c.self.inside in
    let number = c.args.number in
    let words = c.extend.new.words.items in
    let there : number / 64 < length words = omega (arith, c.extend.ensures.long) in
    let was : c.index.result.now ≡ get_or words (number / 64) 0 = c.index.ensures ∙ get_or_default_zero words (number / 64) c.index.result.now there in
    let bits = rw was at c.with_bit.ensures in
    let old = zeros_added fields.words.items words (number / 64 + 1) c.extend.ensures.long c.extend.ensures.same c.extend.ensures.added in
    flags_put fields.bits fields.words.items c.args.self.now c.self.view_is (set words (number / 64) c.with_bit.result) number c.args.value c.requires
    (λ k. bit_put words number c.with_bit.result c.args.value there bits k ∙ ap (λ b. if k == number then c.args.value else b) (old k))
