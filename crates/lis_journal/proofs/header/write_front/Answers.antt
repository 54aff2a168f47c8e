use Rattle.std.proofs.Common.{◌≡◌, ◌*◌, ◌++◌, List, ℕ, take, drop, length, IsTrue, sym, ◌∙◌, ap, subst, arith}
use Rattle.std.proofs.lemmas.List.{take_at, length-take-le}
use Rattle.lis_journal.specs.Record.{header_blocks, is_header, homes_of}
use Rattle.lis_journal.proofs.header.write_front.Goals as goal

pub returns-clause-form : goal.returns-clause-form
returns-clause-form c = λ some.
    let n = c.header_len-len.result in
    let n_is : n ≡ 4096 * header_blocks (length c.args.stage.now.entries) = c.header_len-len.ensures ∙ ap (λ k. 4096 * header_blocks k) c.len.ensures.len in
    let len : length c.write_header.new.header ≡ n = c.write_header.auto.header ∙ length-take-le n c.args.front.now (omega (arith, n_is, c.requires)) in
    subst (λ m. IsTrue (is_header c.args.stage.now.layout (take m (c.write_header.new.header ++ drop n c.args.front.now)))) n_is
    (subst (λ (xs : List ℕ). IsTrue (is_header c.args.stage.now.layout xs)) (sym (take_at c.write_header.new.header (drop n c.args.front.now) n len)) (c.write_header.ensures.form some))

pub returns-clause-homes : goal.returns-clause-homes
returns-clause-homes c =
    let n = c.header_len-len.result in
    let n_is : n ≡ 4096 * header_blocks (length c.args.stage.now.entries) = c.header_len-len.ensures ∙ ap (λ k. 4096 * header_blocks k) c.len.ensures.len in
    let len : length c.write_header.new.header ≡ n = c.write_header.auto.header ∙ length-take-le n c.args.front.now (omega (arith, n_is, c.requires)) in
    ap (λ m. homes_of (take m (c.write_header.new.header ++ drop n c.args.front.now))) (sym n_is)
    ∙ (ap homes_of (take_at c.write_header.new.header (drop n c.args.front.now) n len) ∙ c.write_header.ensures.homes)
