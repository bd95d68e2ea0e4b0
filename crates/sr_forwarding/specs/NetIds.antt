-- Numbers of PRP networks at a ring.
use Rattle.std.specs.Prelude.{ℕ, ◌==◌, if◌then◌else◌}
use Rattle.sr_forwarding.specs.declared.net_id.NetId.{NetId}
use Rattle.sr_forwarding.specs.declared.net_id.NetId.TheVariants.{One, Two, Three, Four, Five, Six}

-- the number
abbrev pub number_of : NetId → ℕ
number_of One = 1
number_of Two = 2
number_of Three = 3
number_of Four = 4
number_of Five = 5
number_of Six = 6

-- the network of a number from 1 to 6
abbrev pub net_of : ℕ → NetId
net_of n =
    if n == 1 then One
    else if n == 2 then Two
    else if n == 3 then Three
    else if n == 4 then Four
    else if n == 5 then Five
    else Six
