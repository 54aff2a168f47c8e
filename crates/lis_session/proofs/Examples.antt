-- Moments of small sessions, worked out by the definitions alone.
use Rattle.std.proofs.Common.{ℕ, List, [], ◌∷◌, ◌++◌, codes, refl, arith}
use Rattle.lis_model.specs.declared.command.Command.TheVariants.{Mkdir, Pwd}
use Rattle.lis_model.specs.Replies.{line}
use Rattle.lis_model.specs.Step.{Situation, Item, step, start_of, no_payload}
use Rattle.lis_model.specs.Step.Item.{Do}
use Rattle.lis_grammar.specs.Printing.{printed}
use Rattle.lis_store.specs.Stands.{Stands}
use Rattle.lis_session.specs.Session.{state_after, SessionMoment}

abbrev start : Situation
start = start_of (record { files = 64; props = 64; blocks = 8; version = 1 })

-- `mkdir a`, and then `pwd`
abbrev session : List Item
session = Do (Mkdir (codes "a")) no_payload ∷ Do Pwd no_payload ∷ []

-- nothing was shown: the image may represent the state before the first command
before_all : (image : List ℕ) → Stands image (state_after step start session 0) → SessionMoment step start session image []
unfolding step
before_all image stands = record {
  count = 0;
  within = omega arith;
  stands = stands;
  no_more = record { rest = []; is = refl };
  no_less = record { rest = []; is = refl };
}

-- or the state after it, whose reply was lost
reply_lost : (image : List ℕ) → Stands image (state_after step start session 1) → SessionMoment step start session image []
unfolding step
reply_lost image stands = record {
  count = 1;
  within = omega arith;
  stands = stands;
  no_more = record { rest = line (codes "ok"); is = refl };
  no_less = record { rest = []; is = refl };
}

-- one byte of the reply is enough: the first command is done
one_byte : (image : List ℕ) → Stands image (state_after step start session 1) → SessionMoment step start session image (codes "o")
unfolding step
one_byte image stands = record {
  count = 1;
  within = omega arith;
  stands = stands;
  no_more = record { rest = line (codes "k"); is = refl };
  no_less = record { rest = codes "o"; is = refl };
}

-- in the middle of the second reply
second_reply : (image : List ℕ) → Stands image (state_after step start session 2) → SessionMoment step start session image (line (codes "ok") ++ codes "w ")
unfolding step printed
second_reply image stands = record {
  count = 2;
  within = omega arith;
  stands = stands;
  no_more = record { rest = line (codes "/") ++ line (codes "ok"); is = refl };
  no_less = record { rest = codes "w "; is = refl };
}
