use Rattle.std.proofs.Common.{◌≡◌, filter, length}
use Rattle.lis_words.specs.Words.{is_word}
use Rattle.lis_model.specs.Noted.{noted_all}
use Rattle.lis_transducers.specs.Tokens.{tokens}
use Rattle.lis_transducers.specs.Mail.{token_words}
use Rattle.lis_mail.proofs.mail.note_tokens.Given as goal

abbrev pub invariant-loop-token : goal.invariant-loop-token
invariant-loop-token l =
    noted_all l.out (filter is_word (token_words l.kind (tokens l.rest))) ≡ noted_all l.fn.out (filter is_word (token_words l.kind (tokens l.body)))

abbrev pub decreases-loop-token : goal.decreases-loop-token
decreases-loop-token l = length l.rest
