-- The object of a status. A line is here one with a space in place of its line feed, so that each of its words has a space behind it.
-- Values are octets without a quote and a backslash, and numbers are spelled as in the lines. What the LRE-MIB has an object for has
-- its name.
use Rattle.std.specs.Prelude.{ℕ, List, [], ◌∷◌, ◌++◌, codes, Option, Some, None}
use Rattle.std.specs.Fmt.{decimal}
use Rattle.sr_session.specs.Octets.{Lacks}

-- elements, with a comma behind them if there are some
abbrev pub with_comma : List ℕ → List ℕ
with_comma [] = []
with_comma (octet ∷ octets) = (octet ∷ octets) ++ 44 ∷ []

-- what is told of a node, but for the RedBox that it stands behind
pub record NodeWords : Type 0 where
  pub mac : List ℕ
  pub age_a : List ℕ
  pub age_b : List ℕ
  pub seq_a : List ℕ
  pub seq_b : List ℕ
  pub index_a : List ℕ
  pub index_b : List ℕ

-- none of them has a space
pub record AreWords (n : NodeWords) : Type 0 where
  pub mac : Lacks 32 n.mac
  pub age_a : Lacks 32 n.age_a
  pub age_b : Lacks 32 n.age_b
  pub seq_a : Lacks 32 n.seq_a
  pub seq_b : Lacks 32 n.seq_b
  pub index_a : Lacks 32 n.index_a
  pub index_b : Lacks 32 n.index_b

-- the words of its line behind `node`: its address and ages, its numbers, and the indices of the ports
abbrev pub ages_told : NodeWords → List ℕ → List ℕ
ages_told n rest = n.mac ++ 32 ∷ (codes "if1_age " ++ (n.age_a ++ 32 ∷ (codes "if2_age " ++ (n.age_b ++ 32 ∷ rest))))

abbrev pub numbers_told : NodeWords → List ℕ → List ℕ
numbers_told n rest = codes "if1_seq " ++ (n.seq_a ++ 32 ∷ (codes "if2_seq " ++ (n.seq_b ++ 32 ∷ rest)))

abbrev pub indices_told : NodeWords → List ℕ → List ℕ
indices_told n rest = codes "if1_ifindex " ++ (n.index_a ++ 32 ∷ (codes "if2_ifindex " ++ (n.index_b ++ 32 ∷ rest)))

-- all of them, and what stands behind them
abbrev pub node_told : NodeWords → List ℕ → List ℕ
node_told n rest = ages_told n (numbers_told n (indices_told n rest))

-- the members of these
abbrev pub age_members : NodeWords → List ℕ
age_members n = codes "{\"lreNodesMacAddress\":\"" ++ (n.mac ++ (codes "\",\"lreTimeLastSeenA\":" ++ (n.age_a
    ++ (codes ",\"lreTimeLastSeenB\":" ++ n.age_b))))

abbrev pub number_members : NodeWords → List ℕ
number_members n = codes ",\"if1_seq\":" ++ (n.seq_a ++ (codes ",\"if2_seq\":" ++ n.seq_b))

abbrev pub index_members : NodeWords → List ℕ
index_members n = codes ",\"if1_ifindex\":" ++ (n.index_a ++ (codes ",\"if2_ifindex\":" ++ n.index_b))

-- where a node stands behind a RedBox
abbrev pub redbox_member : Option (List ℕ) → List ℕ
redbox_member None = codes ",\"redbox\":null}"
redbox_member (Some mac) = codes ",\"redbox\":\"" ++ (mac ++ codes "\"}")

-- the object of a node
abbrev pub node_element : NodeWords → Option (List ℕ) → List ℕ
node_element n redbox = age_members n ++ (number_members n ++ (index_members n ++ redbox_member redbox))

-- the object of an alarm of a port, and of one of a node that is down
abbrev pub ring_error_element : List ℕ → List ℕ → List ℕ → List ℕ
ring_error_element mac port at = codes "{\"kind\":\"RingError\",\"mac\":\"" ++ (mac ++ (codes "\",\"port\":\"" ++ (port
    ++ (codes "\",\"at_ms\":" ++ (at ++ codes "}")))))

abbrev pub node_down_element : List ℕ → List ℕ → List ℕ
node_down_element mac at = codes "{\"kind\":\"NodeDown\",\"mac\":\"" ++ (mac ++ (codes "\",\"port\":null,\"at_ms\":" ++ (at ++ codes "}")))

-- the object of an event that is refused
abbrev pub refused_element : List ℕ → List ℕ → List ℕ
refused_element number name = codes "{\"number\":" ++ (number ++ (codes ",\"fault\":\"" ++ (name ++ codes "\"}")))

-- a count of a port, whose name stands ahead of the port's letter
abbrev pub count_member : List ℕ → List ℕ → List ℕ → List ℕ
count_member name port count = (name ++ port) ++ (codes "\":" ++ count)

-- the counts of a port: how many frames came in, how many of them had the other LAN's id, and how many were refused
abbrev pub port_members : List ℕ → List ℕ → List ℕ → List ℕ → List ℕ
port_members port frames wrong_lan refused = count_member (codes ",\"lreCntRx") port frames
    ++ (count_member (codes ",\"lreCntErrWrongLan") port wrong_lan ++ count_member (codes ",\"lreCntErrors") port refused)

-- how many frames were refused for a table of sources that was full
abbrev pub left_out_member : List ℕ → List ℕ
left_out_member count = codes ",\"sources_left_out\":" ++ count

-- the members of the node itself, and of the network at its interlink
abbrev pub station_members : List ℕ → List ℕ → List ℕ → List ℕ → List ℕ
station_members role mac mode window = codes "{\"role\":\"" ++ (role ++ (codes "\",\"mac\":\"" ++ (mac ++ (codes "\",\"mode\":\"" ++ (mode
    ++ (codes "\",\"window\":" ++ window))))))

abbrev pub no_network_members : List ℕ
no_network_members = codes ",\"lan\":null,\"net\":null"

abbrev pub network_members : List ℕ → List ℕ → List ℕ
network_members lan net = codes ",\"lan\":\"" ++ (lan ++ (codes "\",\"net\":" ++ net))

-- how many nodes are told of, and their objects
abbrev pub nodes_member : ℕ → List ℕ → List ℕ
nodes_member count nodes = codes ",\"lreCntNodes\":" ++ (decimal count ++ (codes ",\"nodes\":[" ++ (nodes ++ codes "]")))

-- the objects of alarms and of refusals, and the end
abbrev pub end_members : List ℕ → List ℕ → List ℕ
end_members alarms refusals = codes ",\"alarms\":[" ++ (alarms ++ (codes "],\"refused\":[" ++ (refusals ++ codes "]}\n")))
