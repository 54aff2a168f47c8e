-- What is true of the bytes as they read and of each image stays true over a call.
use Rattle.std.proofs.Common.{ℕ, List, sym, subst}
use Rattle.lis_ports.specs.Meaning.{Meaning}
use Rattle.lis_ports.specs.Runs.{Always, IsSettled}
use Rattle.lis_ports.specs.Calls.{IsUnchanged, IsSynced}

pub always_weaken : {m : Meaning} {P : List ℕ → Type 0} (Q : List ℕ → Type 0) → Always m P → ((image : List ℕ) → P image → Q image) → Always m Q
always_weaken {m} Q all weaker = record {
  reads = weaker m.bytes all.reads;
  leaves = λ image is. weaker image (all.leaves image is);
}

pub always_unchanged : {a b : Meaning} {Q : List ℕ → Type 0} → Always a Q → IsUnchanged a b → Always b Q
always_unchanged {Q = Q} all same = record {
  reads = subst Q (sym same.bytes) all.reads;
  leaves = λ image is. all.leaves image (same.images.only image is);
}

-- after a sync there is only one image
pub settled_synced : {a b : Meaning} → IsSynced a b → IsSettled b a.bytes
settled_synced synced = record {
  reads = synced.bytes;
  only = λ image is. (synced.images.only image is).1;
}

pub always_settled : {m : Meaning} (Q : List ℕ → Type 0) (bytes : List ℕ) → IsSettled m bytes → Q bytes → Always m Q
always_settled Q bytes settled q = record {
  reads = subst Q (sym settled.reads) q;
  leaves = λ image is. subst Q (sym (settled.only image is)) q;
}
