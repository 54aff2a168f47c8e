use Rattle.std.proofs.Common.{◌≡◌, filter, length}
use Rattle.lis_words.specs.Words.{is_word}
use Rattle.lis_model.specs.Noted.{noted_all}
use Rattle.lis_transducers.specs.Lines.{header}
use Rattle.lis_transducers.specs.Mail.{mail_words}
use Rattle.lis_mail.proofs.MailLemmas.{rest_words}
use Rattle.lis_mail.proofs.mail.mail_props.Given as goal

abbrev pub invariant-loop-line : goal.invariant-loop-line
invariant-loop-line l =
    noted_all l.out (filter is_word (rest_words l.kind (header l.rest))) ≡ noted_all l.fn.out (mail_words l.bytes)

abbrev pub decreases-loop-line : goal.decreases-loop-line
decreases-loop-line l = length l.rest
