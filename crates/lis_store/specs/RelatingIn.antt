-- An axiom that is added to memory.
use Rattle.std.specs.Prelude.{◌≡◌, ℕ, Some, List}
use Rattle.lis_dict.specs.Dict.{number_of}
use Rattle.lis_kept.specs.Metadata.{Metadata}
use Rattle.lis_kept.specs.Sound.{AreSound}
use Rattle.lis_kept.specs.Linking.{Links}
use Rattle.lis_store.specs.Adding.{behind_head, LearnsAll}
use Rattle.lis_store.specs.Closing.{rebuilt}
use Rattle.lis_store.specs.declared.closing.Rebuild.TheVariants.{Having}
use Rattle.lis_store.specs.Redescribing.{Redescribes}

-- The left word gets a number, then it is linked to the right one, and the descriptions that have it are rebuilt.
pub record RelatesIn (left right : List ℕ) (p q : Metadata) : Type 0 where
  pub learnt : Metadata
  pub learns : LearnsAll (behind_head left) p learnt
  pub sound : AreSound learnt
  pub from : ℕ
  pub is_left : number_of learnt.dict left ≡ Some from
  pub to : ℕ
  pub is_right : number_of learnt.dict right ≡ Some to
  pub linked : Metadata
  pub links : Links from to learnt linked
  pub sound_linked : AreSound linked
  pub rebuilds : Redescribes (rebuilt linked (Having from)) linked.limits.files linked q
