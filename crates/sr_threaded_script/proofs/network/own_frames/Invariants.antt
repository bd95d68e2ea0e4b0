use Rattle.std.proofs.Common.{◌≡◌, take, vec_items}
use Rattle.sr_threaded_script.specs.Sent.{own_frames}
use Rattle.sr_threaded_script.proofs.network.own_frames.Given as goal

-- those of the frames so far that are the node's are taken
abbrev pub invariant-loop-one : goal.invariant-loop-one
invariant-loop-one l = vec_items l.frames ≡ own_frames l.fn.number (take l.one-index l.fn.sent)
