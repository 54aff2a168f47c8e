use Rattle.std.proofs.Common.{◌≡◌, [], replicate}
use Rattle.lis_rooms.proofs.rooms.places_at_root.Given as goal

abbrev pub invariant-loop : goal.invariant-loop
invariant-loop l = l.places.items ≡ replicate l.counter []
