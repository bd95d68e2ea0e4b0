use Rattle.std.proofs.Common.{◌≡◌, ◌*◌, ◌+◌, ◌%◌, ◌^◌, take, fold}
use Rattle.sr_slots.proofs.keys.after_each.Given as goal

-- the octets so far were taken up
abbrev pub invariant-loop-octet : goal.invariant-loop-octet
invariant-loop-octet l = l.word ≡ fold (λ w octet. (w * 256 + octet) % 2 ^ 64) l.fn.word (take l.octet-index l.octets)
