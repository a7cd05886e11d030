-- The estimates of the examples, by computation.
use Rattle.std.proofs.Common.{refl}
use Rattle.rules_sizes.specs.Sizes.{bounded, greatest}
use Rattle.rules_costs.specs.Showing.{IsJoined, IsJoinedTwice, IsCounted, IsCountedInParts}

pub is_joined : IsJoined
unfolding bounded greatest
is_joined = refl

pub is_joined_twice : IsJoinedTwice
unfolding bounded greatest
is_joined_twice = refl

pub is_counted : IsCounted
unfolding bounded greatest
is_counted = refl

pub is_counted_in_parts : IsCountedInParts
unfolding bounded greatest
is_counted_in_parts = refl
