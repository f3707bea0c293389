pub mod FollowingRounds
