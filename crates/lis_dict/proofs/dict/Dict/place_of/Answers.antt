use Rattle.std.proofs.Common.{◌≡◌, sym, subst, ◌∙◌}
use Rattle.std.specs.List.{HoldsAt}
use Rattle.lis_dict.proofs.Entries.{DictEntry}
use Rattle.lis_dict.proofs.Places.{IsGap}
use Rattle.lis_dict.proofs.Laws.{number_absent, number_from_word}
use Rattle.lis_dict.proofs.Indexes.{no_place, placed}
use Rattle.lis_dict.proofs.dict.Dict.place_of.Goals as goal

pub returns-in_err-word : goal.returns-in_err-word
returns-in_err-word c = c.from_residual.ensures ∙ sym (no_place c.args.self.now c.args.number (sym c.in_err-word.ensures))

pub unreachable-requires : goal.unreachable-requires
unreachable-requires c =
    let d = c.args.self.now in
    let k = c.in_default.field-0 in
    let word = c.in_ok-word.word in
    let there = number_from_word d c.search_bytes.ensures.kept word c.args.number (sym c.in_ok-word.ensures) in
    let absent = number_absent d word k (subst (λ key. IsGap d.entries key k) c.bytes.ensures.bytes c.in_default.ensures.absent) in
    absurd cc

pub returns : goal.returns
returns c =
    let d = c.args.self.now in
    let k = c.in-Ok.place in
    let word = c.in_ok-word.word in
    sym (placed d c.args.number c.search_bytes.ensures.kept word (sym c.in_ok-word.ensures) k c.in-Ok.ensures.bound (subst (λ key. HoldsAt (λ (e : DictEntry). e.0 ≡ key) d.entries k) c.bytes.ensures.bytes c.in-Ok.ensures.found))
