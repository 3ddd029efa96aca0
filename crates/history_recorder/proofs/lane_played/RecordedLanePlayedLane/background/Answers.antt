-- Each step is asked of the lane.
use Rattle.history_recorder.proofs.lane_played.RecordedLanePlayedLane.background.Goals as goal

pub play_flush-requires : goal.play_flush-requires
play_flush-requires g c = assumption

pub play_begin-requires : goal.play_begin-requires
play_begin-requires g c = assumption

pub play_commit-requires : goal.play_commit-requires
play_commit-requires g c = assumption

pub play_abort-requires : goal.play_abort-requires
play_abort-requires g c = assumption
