-- The objects of lines. The values of a line are octets without a quote and a backslash, and numbers are spelled as in the line.
use Rattle.std.specs.Prelude.{ℕ, List, ◌++◌, codes}

-- what node `node` hands up
abbrev pub up_object : List ℕ → List ℕ → List ℕ
up_object node frame = codes "{\"line\":\"up\",\"node\":" ++ (node ++ (codes ",\"frame\":\"" ++ (frame ++ codes "\"}\n")))

-- the end of a flow of so many carries
abbrev pub flow_object : List ℕ → List ℕ
flow_object carries = codes "{\"line\":\"flow\",\"carries\":" ++ (carries ++ codes "}\n")

-- the event of the line with this number is refused for this reason
abbrev pub refused_object : List ℕ → List ℕ → List ℕ
refused_object number name = codes "{\"line\":\"refused\",\"number\":" ++ (number ++ (codes ",\"fault\":\"" ++ (name ++ codes "\"}\n")))

-- so many copies are in flight at the end
abbrev pub flight_object : List ℕ → List ℕ
flight_object copies = codes "{\"line\":\"flight\",\"copies\":" ++ (copies ++ codes "}\n")

-- how node `node` settled
abbrev pub node_object : List ℕ → List ℕ → List ℕ
node_object node state = codes "{\"line\":\"node\",\"node\":" ++ (node ++ (codes ",\"state\":\"" ++ (state ++ codes "\"}\n")))

-- node `node` lost so many frames
abbrev pub lost_object : List ℕ → List ℕ → List ℕ
lost_object node frames = codes "{\"line\":\"lost\",\"node\":" ++ (node ++ (codes ",\"frames\":" ++ (frames ++ codes "}\n")))

-- a frame goes out at a port
abbrev pub out_object : List ℕ → List ℕ → List ℕ
out_object port frame = codes "{\"line\":\"out\",\"port\":\"" ++ (port ++ (codes "\",\"frame\":\"" ++ (frame ++ codes "\"}\n")))

-- a frame comes in at a port
abbrev pub in_object : List ℕ → List ℕ → List ℕ → List ℕ
in_object port time frame = codes "{\"line\":\"in\",\"port\":\"" ++ (port ++ (codes "\",\"time_ms\":" ++ (time
    ++ (codes ",\"frame\":\"" ++ (frame ++ codes "\"}\n")))))

-- time passes
abbrev pub tick_object : List ℕ → List ℕ
tick_object time = codes "{\"line\":\"tick\",\"time_ms\":" ++ (time ++ codes "}\n")

-- a packet of a capture is not used for this reason
abbrev pub unused_object : List ℕ → List ℕ → List ℕ → List ℕ
unused_object capture packet reason = codes "{\"line\":\"unused\",\"capture\":\"" ++ (capture ++ (codes "\",\"packet\":" ++ (packet
    ++ (codes ",\"reason\":\"" ++ (reason ++ codes "\"}\n")))))
