-- Times of packets: units of a second since 1970, and the seconds of the interface's offset.
use Rattle.std.specs.Prelude.{◌≡◌, ℕ, ◌-◌, ◌*◌, ◌/◌, ◌^◌, min, nat_lt, if◌then◌else◌, ℤ, pos, ◌+ℤ◌, ◌*ℤ◌}
use Rattle.std.specs.Int.{int_min, int_max}
use Rattle.sr_pcapng.specs.declared.track.Interface.{Interface}

-- how many units a second has; finer ones than of 10^-38 s count as those, since a time is 0 in nanoseconds with either
abbrev pub units_of : ℕ → ℕ
units_of resolution = if nat_lt resolution 128 then 10 ^ min resolution 38 else 2 ^ (resolution - 128)

-- the nanoseconds of an offset in seconds and those since; times before 1970 count as 0, and those over 63 bits as the last of these
abbrev pub IsMoment : ℤ → ℕ → ℕ → Type 0
IsMoment offset since time = pos time ≡ int_max (pos 0) (int_min (offset *ℤ pos 1000000000 +ℤ pos since) (pos (2 ^ 63 - 1)))

-- so many units of an interface are a time in nanoseconds
abbrev pub IsTime : Interface → ℕ → ℕ → Type 0
IsTime interface ticks time = IsMoment interface.offset (ticks * 1000000000 / units_of interface.resolution) time
