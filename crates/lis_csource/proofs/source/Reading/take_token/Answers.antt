use Rattle.std.proofs.Common.{◌≡◌, true, ap, sym, ◌∙◌}
use Rattle.lis_transducers.specs.Joined.{joined}
use Rattle.lis_transducers.specs.Pieces.{piece_of}
use Rattle.lis_transducers.specs.Entries.{tokens}
use Rattle.lis_transducers.specs.Source.{is_candidate}
use Rattle.lis_transducers.specs.Bytes.{front, is_name_byte}
use Rattle.lis_csource.specs.Rights.{right_words_of}
use Rattle.lis_csource.proofs.ReadingLemmas.{begins}
use Rattle.lis_csource.proofs.source.Reading.take_token.Goals as goal

pub returns-then-candidate-clause-words : goal.returns-then-candidate-clause-words
returns-then-candidate-clause-words c = λ es.
    let old = c.args.self.now in
    let new = c.settle.new.self in
    let candidate : is_candidate old.braces old.parens (piece_of c.args.kind (joined c.args.text.now)) ≡ true = cc in
    rw c.settle.ensures.place
    (begins old.stage old.braces old.parens c.args.kind (front is_name_byte (joined old.name.now)) (front is_name_byte (joined old.name.now)) (joined c.args.text.now)
    old.early new.early c.args.out.now c.settle.new.out es candidate c.requires.sound
    (ap (λ s. right_words_of s c.settle.new.out (tokens es)) (sym c.settle.ensures.place) ∙ c.settle.ensures.right (tokens es)))
