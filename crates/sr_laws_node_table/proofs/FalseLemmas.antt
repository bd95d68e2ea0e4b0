-- False tables are refused.
use Rattle.std.proofs.Common.{◌≡◌, ℕ, Bool, true, false, List, [], ◌∷◌, length, sym, ap, ◌∙◌, refl, suc, ◌-◌, drop, arith}
use Rattle.std.specs.Prelude.{Contains, is_some}
use Rattle.std.specs.Map.{lookup}
use Rattle.circular_buffer.specs.Buffer.{keep_last}
use Rattle.std.proofs.lemmas.List.{length-drop}
use Rattle.std.proofs.lemmas.Bool.{true≢false}
use Rattle.sr_frame.specs.declared.fields.Mac.{Mac}
use Rattle.sr_frame.specs.declared.ports.Port.{Port}
use Rattle.sr_frame.specs.declared.learn_outcome.LearnOutcome.TheVariants.{New, Full}
use Rattle.sr_frame.specs.Addresses.{mac_eq}
use Rattle.sr_node_table.specs.declared.alarm.Alarm.{Alarm}
use Rattle.sr_node_table.specs.declared.alarm.Alarm.TheVariants.{RingError, NodeDown}
use Rattle.sr_node_table.specs.Nodes.{Hearing, answer_to}
use Rattle.sr_node_table.specs.Stating.{has_at, listed_at}
use Rattle.sr_node_table.specs.Hearings.{Event, Hears, Prunes, time_of, table_after, AreUpTo}
use Rattle.sr_laws_node_table.specs.Kept.{is_live_by, others_live, kept_in, kept_of}
use Rattle.sr_laws_node_table.specs.Entered.{has_entry_in}
use Rattle.sr_laws_node_table.specs.Lateness.{is_late, was_late_at_prune}
use Rattle.sr_laws_node_table.specs.Raised.{raised_by, raised_in}
use Rattle.sr_laws_node_table.specs.Examples.{first_node, second_node, renewed_node}
use Rattle.sr_laws_node_table.specs.TableLaws.{FullWhereOthersAreLive, StatusIsOfKept, ListIsOfKept, EntryIsOfKept, AlarmsAreTheLatest, RingErrorsAreExact, NodeDownsAreExact}

-- a table of 1023 places: full with 1023 others
pub none_is_full_before_1024 : FullWhereOthersAreLive → (events : List Event) (h : Hearing) → AreUpTo h.time events → length (others_live (kept_in events) h.time h.mac) ≡ 1023 → answer_to (table_after events) h ≡ Full → ⊥
none_is_full_before_1024 law events h up few full = let e : length (others_live (kept_in events) h.time h.mac) ≡ 1024 = (law events h up).0 full in absurd (omega arith)

-- a table without a limit: a new address is learned beside 1024 others
pub none_learns_beyond_1024 : FullWhereOthersAreLive → (events : List Event) (h : Hearing) → AreUpTo h.time events → length (others_live (kept_in events) h.time h.mac) ≡ 1024 → answer_to (table_after events) h ≡ New → ⊥
none_learns_beyond_1024 law events h up many learned = let e : New ≡ Full = sym learned ∙ (law events h up).1 many in cc

-- a table that counts silent addresses: full though nobody is live
pub none_is_full_of_silent_ones : FullWhereOthersAreLive → (events : List Event) (h : Hearing) → AreUpTo h.time events → others_live (kept_in events) h.time h.mac ≡ [] → answer_to (table_after events) h ≡ Full → ⊥
none_is_full_of_silent_ones law events h up none full = let e : length (others_live (kept_in events) h.time h.mac) ≡ 1024 = (law events h up).0 full in absurd (omega (arith, ap length none))

-- whether the first node stands first
abbrev is_first : List Mac → Bool
is_first [] = false
is_first (mac ∷ macs) = mac_eq first_node mac

-- a list in which a renewed entry goes last
pub none_lists_a_renewed_node_last : ListIsOfKept → AreUpTo 60000 renewed_node → listed_at (table_after renewed_node) 60000 ≡ second_node ∷ first_node ∷ [] → ⊥
none_lists_a_renewed_node_last law up last = let e : false ≡ true = ap is_first (sym last ∙ law renewed_node 60000 up) in absurd (true≢false (sym e))

-- a table that tells of silent addresses
pub none_tells_of_the_silent : StatusIsOfKept → (events : List Event) (now : ℕ) (mac : Mac) → AreUpTo now events → is_live_by (kept_in events) now mac ≡ false → has_at (table_after events) mac now ≡ true → ⊥
none_tells_of_the_silent law events now mac up silent there = let e : true ≡ false = sym there ∙ (law events now mac up).0 ∙ silent in cc

-- a prune that leaves silent addresses
pub no_prune_leaves_the_silent : EntryIsOfKept → (events : List Event) (now : ℕ) (mac : Mac) → AreUpTo now events → is_live_by (kept_in events) now mac ≡ false
    → is_some (lookup (mac_eq mac) (table_after (Prunes now ∷ events)).entries) ≡ true → ⊥
no_prune_leaves_the_silent law events now mac up silent there = let e : true ≡ false = sym there ∙ law (Prunes now ∷ events) now mac (omega arith, up) ∙ silent in cc

-- a port that is told of at each prune
pub no_port_is_told_of_again : RingErrorsAreExact → (e : Event) (events : List Event) (mac : Mac) (port : Port) (at : ℕ) → AreUpTo (time_of e) events → was_late_at_prune port mac events ≡ true
    → Contains (raised_by e events) (RingError mac port at) → ⊥
no_port_is_told_of_again law e events mac port at up before told = let bad : true ≡ false = sym before ∙ ((law e events mac port at up).0 told).before in cc

-- a port of which nothing is told as it falls behind
pub no_late_port_goes_untold : RingErrorsAreExact → (events : List Event) (mac : Mac) (port : Port) (at : ℕ) → AreUpTo at events → is_late port (kept_of mac events) at ≡ true → was_late_at_prune port mac events ≡ false
    → (Contains (raised_by (Prunes at) events) (RingError mac port at) → ⊥) → ⊥
no_late_port_goes_untold law events mac port at up late before silent = silent ((law (Prunes at) events mac port at up).1 (record { prune = refl; late = late; before = before }))

-- a port that is told of by a hearing
pub no_hearing_tells_of_ports : RingErrorsAreExact → (h : Hearing) (events : List Event) (mac : Mac) (port : Port) (at : ℕ) → AreUpTo h.time events → Contains (raised_by (Hears h) events) (RingError mac port at) → ⊥
no_hearing_tells_of_ports law h events mac port at up told = let bad : Hears h ≡ Prunes at = ((law (Hears h) events mac port at up).0 told).prune in cc

-- an entry that goes in silence
pub none_goes_in_silence : NodeDownsAreExact → (e : Event) (events : List Event) (mac : Mac) → AreUpTo (time_of e) events → has_entry_in events mac ≡ true → has_entry_in (e ∷ events) mac ≡ false
    → (Contains (raised_by e events) (NodeDown mac (time_of e)) → ⊥) → ⊥
none_goes_in_silence law e events mac up before after silent = silent ((law e events mac (time_of e) up).1 (record { time = refl; before = before; after = after }))

-- an address that is down though it was renewed in its place
pub none_is_down_that_stays : NodeDownsAreExact → (e : Event) (events : List Event) (mac : Mac) (at : ℕ) → AreUpTo (time_of e) events → has_entry_in (e ∷ events) mac ≡ true → Contains (raised_by e events) (NodeDown mac at) → ⊥
none_is_down_that_stays law e events mac at up there told = let bad : true ≡ false = sym there ∙ ((law e events mac at up).0 told).after in cc

-- a table that keeps a 65th alarm
pub none_keeps_65_alarms : AlarmsAreTheLatest → (events : List Event) (now : ℕ) → AreUpTo now events → length (table_after events).alarms ≡ 65 → ⊥
none_keeps_65_alarms law events now up many =
    absurd (omega (arith, ap length (law events now up), length-drop (length (raised_in events) - 64) (raised_in events)))

-- of 65 alarms the oldest goes
pub the_oldest_goes : AlarmsAreTheLatest → (events : List Event) (now : ℕ) (oldest : Alarm) (later : List Alarm) → AreUpTo now events → raised_in events ≡ oldest ∷ later → length later ≡ 64 → (table_after events).alarms ≡ later
the_oldest_goes law events now oldest later up all many = law events now up ∙ ap (keep_last 64) all ∙ ap (λ n. drop (suc n - 64) (oldest ∷ later)) many
