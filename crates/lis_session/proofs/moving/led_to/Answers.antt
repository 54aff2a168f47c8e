use Rattle.std.proofs.Common.{ap, sym, ◌∙◌, true, false}
use Rattle.lis_dict.specs.Dict.{words}
use Rattle.lis_grammar.specs.Places.{resolved}
use Rattle.lis_session.proofs.TextWords.{led_by_words}
use Rattle.lis_session.proofs.moving.led_to.Goals as goal

pub returns-then-knows_text : goal.returns-then-knows_text
returns-then-knows_text c =
    let leads = ap (resolved c.args.place.now) (sym c.bytes.ensures.bytes) ∙ c.in-Ok.ensures.place in
    let told = rw c.bytes-2.ensures.bytes at c.knows_text.ensures c.args.place.now c.in-Ok.next in
    led_by_words (words c.args.store.now.metadata.dict) c.args.text.now (resolved c.args.place.now c.args.text.now) c.in-Ok.next true leads
    (sym c.if-knows_text.true ∙ told leads)

pub returns : goal.returns
returns c =
    let leads = ap (resolved c.args.place.now) (sym c.bytes.ensures.bytes) ∙ c.in-Ok.ensures.place in
    let told = rw c.bytes-2.ensures.bytes at c.knows_text.ensures c.args.place.now c.in-Ok.next in
    led_by_words (words c.args.store.now.metadata.dict) c.args.text.now (resolved c.args.place.now c.args.text.now) c.in-Ok.next false leads
    (sym c.if-knows_text.false ∙ told leads)
