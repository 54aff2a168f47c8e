use Rattle.std.proofs.Common.{◌≡◌, false}
use Rattle.lis_words.specs.Words.{has_word}
use Rattle.lis_model.proofs.NotedLemmas.{are_distinct-push}
use Rattle.lis_model.proofs.derived.Derived.note.Goals as goal

pub invariant_of-self : goal.invariant_of-self
invariant_of-self c =
    let new : has_word c.self.inside.words.items c.copied.result ≡ false = cc in
    rw c.push.ensures.items (are_distinct-push c.self.inside.words.items c.copied.result c.self.invariant new)
