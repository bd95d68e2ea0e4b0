-- Where an arrival is noted and where it is new, outlet by outlet.
use Rattle.std.proofs.Common.{◌≡◌, ◌⊎◌, inl, inr, ℕ, ◌+◌, nat_lt, length, Bool, true, false, ◌||◌, ◌&&◌, not, Option, None, Some, refl, sym, ap, ◌∙◌}
use Rattle.std.specs.Option.{option_map}
use Rattle.std.specs.List.{list_any}
use Rattle.sr_frame.specs.declared.fields.Mac.{Mac}
use Rattle.sr_frame.specs.declared.ports.Port.{Port}
use Rattle.sr_frame.specs.declared.ports.Port.TheVariants.{H, A, B, C}
use Rattle.sr_sequence.specs.declared.Seq.{Seq}
use Rattle.sr_dup_window.specs.declared.lane_sets.Lane.{Lane}
use Rattle.sr_dup_window.specs.declared.lane_sets.Lane.TheVariants as lane
use Rattle.sr_dup_window.specs.declared.lane_sets.Lanes.{Lanes}
use Rattle.sr_dup_window.specs.LaneSets.{lanes_where, is_empty}
use Rattle.sr_dup_window.specs.LaneSets as lanes
use Rattle.sr_dup_window.specs.LaneLemmas.{has-lanes_where, some_lane, not_empty}
use Rattle.std.specs.Map.{lookup}
use Rattle.std.proofs.lemmas.Bool.{cases_Bool}
use Rattle.std.proofs.lemmas.Map.Views.{any-filter_same}
use Rattle.sr_frame.specs.Addresses.{mac_eq}
use Rattle.sr_dup_table.specs.Limits.{most_sources}
use Rattle.sr_dup_table.specs.Sources.{Remembered, Sources, arrive_answer, answer_of, fresh_at, with_room}
use Rattle.sr_forwarding.specs.declared.outlets.Outlets.{Outlets}
use Rattle.sr_forwarding.specs.Outlets.{has, bit_if, outlets_where, port_eq, all_ports, listed}
use Rattle.sr_node.specs.declared.mode.Mode.{Mode}
use Rattle.sr_node.specs.Lanes.{lane_at, is_wanted_on, came_in_on, lanes_noted, is_asked, lanes_asked, is_clear, outlets_on, new_outlets}
use Rattle.sr_laws_node.specs.Brought.{is_at, inlet_lane}

-- the four tests are the four lowest bits
abbrev HasBits : Bool → Bool → Bool → Bool → Outlets → Type 0
HasBits a b c d o = (has o H ≡ a) × (has o A ≡ b) × (has o B ≡ c) × (has o C ≡ d)

bits : (a b c d : Bool) → HasBits a b c d (record { 0 = bit_if a 1 + bit_if b 2 + bit_if c 4 + bit_if d 8 })
bits true true true true = (refl, refl, refl, refl)
bits true true true false = (refl, refl, refl, refl)
bits true true false true = (refl, refl, refl, refl)
bits true true false false = (refl, refl, refl, refl)
bits true false true true = (refl, refl, refl, refl)
bits true false true false = (refl, refl, refl, refl)
bits true false false true = (refl, refl, refl, refl)
bits true false false false = (refl, refl, refl, refl)
bits false true true true = (refl, refl, refl, refl)
bits false true true false = (refl, refl, refl, refl)
bits false true false true = (refl, refl, refl, refl)
bits false true false false = (refl, refl, refl, refl)
bits false false true true = (refl, refl, refl, refl)
bits false false true false = (refl, refl, refl, refl)
bits false false false true = (refl, refl, refl, refl)
bits false false false false = (refl, refl, refl, refl)

-- the set of the ports for which a test holds has just those
pub has-outlets_where : (test : Port → Bool) (p : Port) → has (outlets_where test) p ≡ test p
has-outlets_where test H = (bits (test H) (test A) (test B) (test C)).0
has-outlets_where test A = (bits (test H) (test A) (test B) (test C)).1
has-outlets_where test B = (bits (test H) (test A) (test B) (test C)).2
has-outlets_where test C = (bits (test H) (test A) (test B) (test C)).3

-- two ports that are one are in the same sets
same-port : (outlets : Outlets) (o k : Port) → port_eq o k ≡ true → has outlets k ≡ has outlets o
same-port outlets H H is = refl
same-port outlets H A is = let bad : false ≡ true = is in cc
same-port outlets H B is = let bad : false ≡ true = is in cc
same-port outlets H C is = let bad : false ≡ true = is in cc
same-port outlets A H is = let bad : false ≡ true = is in cc
same-port outlets A A is = refl
same-port outlets A B is = let bad : false ≡ true = is in cc
same-port outlets A C is = let bad : false ≡ true = is in cc
same-port outlets B H is = let bad : false ≡ true = is in cc
same-port outlets B A is = let bad : false ≡ true = is in cc
same-port outlets B B is = refl
same-port outlets B C is = let bad : false ≡ true = is in cc
same-port outlets C H is = let bad : false ≡ true = is in cc
same-port outlets C A is = let bad : false ≡ true = is in cc
same-port outlets C B is = let bad : false ≡ true = is in cc
same-port outlets C C is = refl

among-all : (o : Port) → list_any (port_eq o) all_ports ≡ true
among-all H = refl
among-all A = refl
among-all B = refl
among-all C = refl

and-true : (b : Bool) → (b && true) ≡ b
and-true true = refl
and-true false = refl

-- the list of a set of ports has just those of the set
pub listed-has : (outlets : Outlets) (o : Port) → list_any (port_eq o) (listed outlets) ≡ has outlets o
listed-has outlets o =
    any-filter_same (port_eq o) (has outlets) (has outlets o) (same-port outlets o) all_ports
    ∙ ap (λ b. has outlets o && b) (among-all o)
    ∙ and-true (has outlets o)

-- at each port, a set of those wanted whose lane is fresh
pub has-outlets_on : (m : Mode) (fresh : Lanes) (wanted : Outlets) (p : Port) →
    has (outlets_on m fresh wanted) p ≡ (has wanted p && (lanes.has fresh (lane_at p) && is_clear m fresh p))
has-outlets_on m fresh wanted p = has-outlets_where (λ q. has wanted q && (lanes.has fresh (lane_at q) && is_clear m fresh q)) p

-- the lane of an outlet is noted where the frame is wanted there; that of the interlink also where it came in there
pub noted_at : (port : Port) (wanted : Outlets) (o : Port) → lanes.has (lanes_noted port wanted) (lane_at o) ≡ (has wanted o || (is_at C o && is_at C port))
noted_at port wanted o = has-lanes_where (λ l. is_wanted_on wanted l || came_in_on port l) (lane_at o) ∙ by port o
  where
    by : (port o : Port) → (is_wanted_on wanted (lane_at o) || came_in_on port (lane_at o)) ≡ (has wanted o || (is_at C o && is_at C port))
    by H H = refl
    by H A = refl
    by H B = refl
    by H C = refl
    by A H = refl
    by A A = refl
    by A B = refl
    by A C = refl
    by B H = refl
    by B A = refl
    by B B = refl
    by B C = refl
    by C H = refl
    by C A = refl
    by C B = refl
    by C C = refl

or_later : {b : Bool} (a : Bool) → b ≡ true → (a || b) ≡ true
or_later true e = refl
or_later false e = e

or_here : {a : Bool} (b : Bool) → a ≡ true → (a || b) ≡ true
or_here b e = ap (λ x. x || b) e

-- every arrival is noted on some lane
pub noted_somewhere : (port : Port) (wanted : Outlets) → is_at H port ≡ false → is_empty (lanes_noted port wanted) ≡ false
noted_somewhere H wanted other = let e : true ≡ false = other in absurd (false_is e)
  where
    false_is : true ≡ false → ⊥
    false_is e = absurd cc
noted_somewhere A wanted other =
    let x = lanes_noted A wanted in
    let e : lanes.has x lane.GotA ≡ true = has-lanes_where (λ l. is_wanted_on wanted l || came_in_on A l) lane.GotA in
    ap not (or_here (lanes.has x lane.GotB) (or_later (lanes.has x lane.H || lanes.has x lane.A || lanes.has x lane.B || lanes.has x lane.C) e))
noted_somewhere B wanted other =
    let x = lanes_noted B wanted in
    let e : lanes.has x lane.GotB ≡ true = has-lanes_where (λ l. is_wanted_on wanted l || came_in_on B l) lane.GotB in
    ap not (or_later (lanes.has x lane.H || lanes.has x lane.A || lanes.has x lane.B || lanes.has x lane.C || lanes.has x lane.GotA) e)
noted_somewhere C wanted other =
    let x = lanes_noted C wanted in
    let e : lanes.has x lane.C ≡ true = has-lanes_where (λ l. is_wanted_on wanted l || came_in_on C l) lane.C ∙ or_later (has wanted C) refl in
    ap not (or_here (lanes.has x lane.GotB) (or_here (lanes.has x lane.GotA) (or_later (lanes.has x lane.H || lanes.has x lane.A || lanes.has x lane.B) e)))

-- of the lanes that are noted the table is asked, and in mode X of where copies came in
pub asked_at : (m : Mode) (port : Port) (wanted : Outlets) (l : Lane) →
    lanes.has (lanes_asked m port wanted) l ≡ (lanes.has (lanes_noted port wanted) l || is_asked m l)
asked_at m port wanted l = has-lanes_where (λ k. lanes.has (lanes_noted port wanted) k || is_asked m k) l

pub asked_somewhere : (m : Mode) (port : Port) (wanted : Outlets) → is_at H port ≡ false → is_empty (lanes_asked m port wanted) ≡ false
asked_somewhere m port wanted other =
    let some = some_lane (lanes_noted port wanted) (noted_somewhere port wanted other) in
    not_empty (lanes_asked m port wanted) some.0 (asked_at m port wanted some.0 ∙ or_here (is_asked m some.0) some.1)

pub noted_came : (port : Port) (wanted : Outlets) (o : Port) → (o ≡ A) ⊎ (o ≡ B) → lanes.has (lanes_noted port wanted) (inlet_lane o) ≡ is_at o port
noted_came port wanted o side = has-lanes_where (λ l. is_wanted_on wanted l || came_in_on port l) (inlet_lane o) ∙ by port o side
  where
    by : (port o : Port) → (o ≡ A) ⊎ (o ≡ B) → (is_wanted_on wanted (inlet_lane o) || came_in_on port (inlet_lane o)) ≡ is_at o port
    by H A side = refl
    by A A side = refl
    by B A side = refl
    by C A side = refl
    by H B side = refl
    by A B side = refl
    by B B side = refl
    by C B side = refl
    by port H (inl e) = cc
    by port H (inr e) = cc
    by port C (inl e) = cc
    by port C (inr e) = cc

-- whatever lanes a table is asked of, it answers where it is not full
answers : (w : ℕ) (o : Option Remembered) (s : Sources) (seq now : ℕ) (asked noted fresh : Lanes) → answer_of w o s seq asked now ≡ Some fresh →
    (own : Lanes) × (answer_of w o s seq noted now ≡ Some own)
answers w None s seq now asked noted fresh is =
    elim (cases_Bool (nat_lt (length (with_room now s)) most_sources)) [
      | inl room ↦ (noted, rw room refl)
      | inr full ↦ let no : None ≡ Some fresh = rw full at is in absurd cc
    ]
answers w (Some h) s seq now asked noted fresh is = (fresh_at w h seq noted now, refl)

-- where a frame with a number goes, the table answered: of the lanes that it was asked, and of those that it notes
pub record IsAnswered (m : Mode) (w : ℕ) (s : Sources) (port : Port) (src : Mac) (seq : Seq) (wanted : Outlets) (now : ℕ) (o : Outlets) : Type 0 where
  pub fresh : Lanes
  pub answer : arrive_answer w s src seq.0 (lanes_asked m port wanted) now ≡ Some fresh
  pub own : Lanes
  pub noted : arrive_answer w s src seq.0 (lanes_noted port wanted) now ≡ Some own
  pub outlets : o ≡ outlets_on m fresh wanted

pub answered : (m : Mode) (w : ℕ) (s : Sources) (port : Port) (src : Mac) (seq : Seq) (wanted : Outlets) (now : ℕ) (o : Outlets) → new_outlets m w s port src (Some seq) wanted now ≡ Some o → IsAnswered m w s port src seq wanted now o
answered m w s port src seq wanted now o h = by (arrive_answer w s src seq.0 (lanes_asked m port wanted) now) refl h
  where
    by : (x : Option Lanes) → arrive_answer w s src seq.0 (lanes_asked m port wanted) now ≡ x → option_map (λ fresh. outlets_on m fresh wanted) x ≡ Some o → IsAnswered m w s port src seq wanted now o
    by None e h = absurd cc
    by (Some fresh) e h =
        let same : outlets_on m fresh wanted ≡ o = cc in
        let also = answers w (lookup (mac_eq src) s) s seq.0 now (lanes_asked m port wanted) (lanes_noted port wanted) fresh e in
        record { fresh = fresh; answer = e; own = also.0; noted = also.1; outlets = sym same }
