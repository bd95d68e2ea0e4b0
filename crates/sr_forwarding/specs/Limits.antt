-- The limits that parcels, roles and framings speak of.
use Rattle.std.specs.Prelude.{ℕ}

-- the most octets of a frame with a tag or a trailer
abbrev pub longest_frame : ℕ
longest_frame = 1524

-- the most octets of a plain frame, which leave room for a tag or a trailer
abbrev pub longest_plain : ℕ
longest_plain = 1518

-- a path has four bits
abbrev pub paths : ℕ
paths = 16

-- the greatest number of a PRP network at a ring
abbrev pub greatest_net : ℕ
greatest_net = 6

-- how long an address is proxied after it was learned, in milliseconds
abbrev pub proxy_forget_time : ℕ
proxy_forget_time = 60000

-- the most addresses that are proxied
abbrev pub most_proxied : ℕ
most_proxied = 256
