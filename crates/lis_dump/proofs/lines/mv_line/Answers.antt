use Rattle.std.proofs.Common.{ℕ, List, [], ◌∷◌, ◌++◌, ap, ap₂, sym, ◌∙◌}
use Rattle.std.specs.List.{flat_map}
use Rattle.lis_replay.specs.Dump.{mv_lines}
use Rattle.lis_dump.proofs.LineBytes.{mv_bytes}
use Rattle.lis_dump.proofs.lines.mv_line.Goals as goal

pub returns : goal.returns
returns c =
    let name = c.args.name.now in
    let first = c.in-Some.first.now in
    let others = c.in-Some.others.now in
    let named = c.add_word.ensures ∙ ap₂ (λ text word. text ++ 32 ∷ word) c.begin-line.ensures c.bytes.ensures.bytes in
    let begun = c.add_word-2.ensures ∙ ap₂ (λ text word. text ++ 32 ∷ word) named c.bytes-2.ensures.bytes in
    let all = c.add_words.ensures.added ∙ ap (λ text. text ++ flat_map (λ (word : List ℕ). 47 ∷ word) others) begun in
    c.push.ensures.items ∙ (ap (λ text. text ++ 10 ∷ []) all ∙ (mv_bytes name first others ∙ ap (λ words. 10 ∷ mv_lines name words) (sym c.in-Some.ensures.cases.0)))
