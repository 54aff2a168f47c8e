-- Mails worked by the definitions alone.
use Rattle.std.proofs.Common.{◌≡◌, [], ◌∷◌, codes, true, false, refl}
use Rattle.lis_transducers.specs.Mail.{mail_words}
use Rattle.lis_mail.specs.Header.{has_end, has_end_from}

-- a continuation belongs to the field before it; what follows the empty line is no part of the header
a_mail : mail_words (codes "From: Alice <alice@example.org>\nTo: bob@example.org,\n Carol <carol@example.org>\nSubject: Re: Lunch plan\n\nSee you.\n")
    ≡ codes "from:alice@example.org" ∷ codes "to:bob@example.org" ∷ codes "to:carol@example.org" ∷ codes "subject:re" ∷ codes "subject:lunch" ∷ codes "subject:plan" ∷ []
unfolding mail_words
a_mail = refl

-- nothing may be between a field's name and its colon; a continuation without an @ gives nothing here
no_blank_in_a_name : mail_words (codes "To : a@b\nTO: C@d\r\n e\n") ≡ codes "to:c@d" ∷ []
unfolding mail_words
no_blank_in_a_name = refl

-- a line that continues an ignored line is ignored too
ignored_lines : mail_words (codes "To: a@b\nno field\n c@d\n") ≡ codes "to:a@b" ∷ []
unfolding mail_words
ignored_lines = refl

-- a word has at most 60 bytes
long_words : mail_words (codes "Subject: 12345678901234567890123456789012345678901234567890123 1234567890123456789012345678901234567890123456789012\n")
    ≡ codes "subject:1234567890123456789012345678901234567890123456789012" ∷ []
unfolding mail_words
long_words = refl

-- a header ends with an empty line and its line feed; a CR alone may be the first byte of a line
ends : has_end (codes "To: a@b\n\nc") ≡ true
unfolding has_end_from
ends = refl

ends_with_return : has_end (codes "To: a@b\r\n\r\n") ≡ true
unfolding has_end_from
ends_with_return = refl

goes_on : has_end (codes "To: a@b\r\nCc: c@d\n\r") ≡ false
unfolding has_end_from
goes_on = refl

begins_empty : has_end (codes "\nTo: a@b\n") ≡ true
unfolding has_end_from
begins_empty = refl
