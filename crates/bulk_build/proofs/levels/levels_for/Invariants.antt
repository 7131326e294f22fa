use Rattle.std.proofs.Common.{◌-◌, ◌≡◌, ◌<◌, ◌^◌, suc}
use Rattle.bulk_build.proofs.levels.levels_for.Given as goal

abbrev pub invariant-rising : goal.invariant-rising
invariant-rising l = record {
  room_is : l.room ≡ l.width ^ suc l.below;
  needed : l.width ^ l.below < l.gaps;
  deep : l.below < l.room;
}

abbrev pub decreases-rising : goal.decreases-rising
decreases-rising l = l.gaps - l.room
