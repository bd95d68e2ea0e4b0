-- Tables of roles and those of the laws, by what headers show.
use Rattle.std.proofs.Common.{◌≡◌, ℕ, ◌==◌, Bool, true, false, not, ◌&&◌, ◌||◌, if◌then◌else◌, [], ◌∷◌, ◌++◌, List, refl, ap, ◌∙◌}
use Rattle.sr_frame.specs.declared.ports.Port.{Port}
use Rattle.sr_frame.specs.declared.ports.Port.TheVariants.{H, A, B, C}
use Rattle.sr_forwarding.specs.declared.outlets.Outlets.{Outlets}
use Rattle.sr_forwarding.specs.NetIds.{number_of}
use Rattle.sr_forwarding.specs.Outlets.{has, to, ring}
use Rattle.sr_forwarding.specs.Routes.{routes}
use Rattle.sr_laws_plant.specs.Frames.{Dest, one, group, is_only, is_for, Frame}
use Rattle.sr_laws_plant.specs.Ports.{is_at, is_side}
use Rattle.sr_laws_plant.specs.Rings as rings
use Rattle.sr_laws_plant.specs.RingLans.{Shape, is_in_ring, lan_box_routes}
use Rattle.sr_laws_plant.specs.TwinLans as lans
use Rattle.sr_laws_plant.specs.Ways as ways
use Rattle.sr_laws_box.specs.Members.{is_to_group, IsShown, IsPathOf, DanhsAreMembers, DanpsAreMembers, PrpBoxesAreMembers, HsrBoxesAreMembers}

-- where a frame is wanted, told of the four outlets
abbrev Wants : (Port → Bool) → Outlets → Type 0
Wants table outlets = (has outlets H ≡ table H) × (has outlets A ≡ table A) × (has outlets B ≡ table B) × (has outlets C ≡ table C)

at_each : (table : Port → Bool) (outlets : Outlets) → Wants table outlets → (o : Port) → has outlets o ≡ table o
at_each table outlets w H = w.0
at_each table outlets w A = w.1
at_each table outlets w B = w.2
at_each table outlets w C = w.3

-- for this member, alone or among others of a group
is_for_parts : (k : ℕ) (d : Dest) → (is_only k d || is_to_group d) ≡ is_for k d
is_for_parts k (one j) = by (k == j)
  where
    by : (b : Bool) → (b || false) ≡ b
    by true = refl
    by false = refl
is_for_parts k group = refl

not_not : (b : Bool) → not (not b) ≡ b
not_not true = refl
not_not false = refl

and_true : (b : Bool) → (b && true) ≡ b
and_true true = refl
and_true false = refl

from_host : Wants is_side (to (A ∷ B ∷ []))
from_host = (refl, refl, refl, refl)

-- a doubly attached node of a ring
abbrev ring_choice : Bool → Bool → Bool → Port → Outlets
ring_choice s own all p =
    if s then to (ring p) else if own then to (H ∷ []) else if all then to (H ∷ ring p) else to (ring p)

abbrev ring_wants : Bool → Bool → Bool → Port → Port → Bool
ring_wants s own all other H = not s && (own || all)
ring_wants s own all other A = is_at other A && (s || not own)
ring_wants s own all other B = is_at other B && (s || not own)
ring_wants s own all other C = false

ring_a : (s own all : Bool) → Wants (ring_wants s own all B) (ring_choice s own all A)
ring_a true own all = (refl, refl, refl, refl)
ring_a false true all = (refl, refl, refl, refl)
ring_a false false true = (refl, refl, refl, refl)
ring_a false false false = (refl, refl, refl, refl)

ring_b : (s own all : Bool) → Wants (ring_wants s own all A) (ring_choice s own all B)
ring_b true own all = (refl, refl, refl, refl)
ring_b false true all = (refl, refl, refl, refl)
ring_b false false true = (refl, refl, refl, refl)
ring_b false false false = (refl, refl, refl, refl)

ring_table : (k : ℕ) (f : Frame) (other o : Port) →
    ring_wants f.supervision (is_only k f.dest) (is_to_group f.dest) other o ≡ rings.from_side k f other o
ring_table k f other H = ap (λ b. not f.supervision && b) (is_for_parts k f.dest)
ring_table k f other A = refl
ring_table k f other B = refl
ring_table k f other C = refl

nowhere : (o : Port) → has (to []) o ≡ false
nowhere H = refl
nowhere A = refl
nowhere B = refl
nowhere C = refl

pub danhs : DanhsAreMembers
danhs k role h f H kind shown o now =
    let e : routes role h H now ≡ to (A ∷ B ∷ []) = rw kind refl in ap (λ x. has x o) e ∙ at_each is_side (to (A ∷ B ∷ [])) from_host o
danhs k role h f A kind shown o now =
    let shows = shown refl in
    let e : routes role h A now ≡ ring_choice f.supervision (is_only k f.dest) (is_to_group f.dest) A =
    rw (kind, shows.other, shows.supervision, shows.alone, shows.all) refl in
    ap (λ x. has x o) e
    ∙ at_each (ring_wants f.supervision (is_only k f.dest) (is_to_group f.dest) B) (ring_choice f.supervision (is_only k f.dest) (is_to_group f.dest) A) (ring_a f.supervision (is_only k f.dest) (is_to_group f.dest)) o ∙ ring_table k f B o
danhs k role h f B kind shown o now =
    let shows = shown refl in
    let e : routes role h B now ≡ ring_choice f.supervision (is_only k f.dest) (is_to_group f.dest) B =
    rw (kind, shows.other, shows.supervision, shows.alone, shows.all) refl in
    ap (λ x. has x o) e
    ∙ at_each (ring_wants f.supervision (is_only k f.dest) (is_to_group f.dest) A) (ring_choice f.supervision (is_only k f.dest) (is_to_group f.dest) B) (ring_b f.supervision (is_only k f.dest) (is_to_group f.dest)) o ∙ ring_table k f A o
danhs k role h f C kind shown o now = let e : routes role h C now ≡ to [] = rw kind refl in ap (λ x. has x o) e ∙ nowhere o

-- a doubly attached node of two LANs
abbrev lan_choice : Bool → Bool → Bool → Outlets
lan_choice s own all = if s then to [] else if own || all then to (H ∷ []) else to []

abbrev lan_wants : Bool → Bool → Bool → Port → Bool
lan_wants s own all H = not s && (own || all)
lan_wants s own all A = false
lan_wants s own all B = false
lan_wants s own all C = false

in_lan : (s own all : Bool) → Wants (lan_wants s own all) (lan_choice s own all)
in_lan true own all = (refl, refl, refl, refl)
in_lan false true all = (refl, refl, refl, refl)
in_lan false false true = (refl, refl, refl, refl)
in_lan false false false = (refl, refl, refl, refl)

lan_table : (k : ℕ) (f : Frame) (o : Port) →
    lan_wants f.supervision (is_only k f.dest) (is_to_group f.dest) o ≡ lans.from_lan k f o
lan_table k f H = ap (λ b. not f.supervision && b) (is_for_parts k f.dest)
lan_table k f A = refl
lan_table k f B = refl
lan_table k f C = refl

pub danps : DanpsAreMembers
danps k role h f H kind shown o now =
    let e : routes role h H now ≡ to (A ∷ B ∷ []) = rw kind refl in ap (λ x. has x o) e ∙ at_each is_side (to (A ∷ B ∷ [])) from_host o
danps k role h f A kind shown o now =
    let shows = shown refl in
    let e : routes role h A now ≡ lan_choice f.supervision (is_only k f.dest) (is_to_group f.dest) =
    rw (kind, shows.supervision, shows.alone, shows.all) refl in
    ap (λ x. has x o) e ∙ at_each (lan_wants f.supervision (is_only k f.dest) (is_to_group f.dest)) (lan_choice f.supervision (is_only k f.dest) (is_to_group f.dest)) (in_lan f.supervision (is_only k f.dest) (is_to_group f.dest)) o ∙ lan_table k f o
danps k role h f B kind shown o now =
    let shows = shown refl in
    let e : routes role h B now ≡ lan_choice f.supervision (is_only k f.dest) (is_to_group f.dest) =
    rw (kind, shows.supervision, shows.alone, shows.all) refl in
    ap (λ x. has x o) e ∙ at_each (lan_wants f.supervision (is_only k f.dest) (is_to_group f.dest)) (lan_choice f.supervision (is_only k f.dest) (is_to_group f.dest)) (in_lan f.supervision (is_only k f.dest) (is_to_group f.dest)) o ∙ lan_table k f o
danps k role h f C kind shown o now = let e : routes role h C now ≡ to [] = rw kind refl in ap (λ x. has x o) e ∙ nowhere o

-- a RedBox: what came from its own network does not go back over the interlink
abbrev link_unless : Bool → List Port
link_unless back = if back then [] else C ∷ []

abbrev box_choice : Bool → Bool → Bool → Port → List Port → Outlets
box_choice s own all p link =
    if own then to (H ∷ []) else if s then to (ring p ++ link) else if all then to (H ∷ ring p ++ link) else to (ring p ++ link)

abbrev over_choice : Bool → Bool → Bool → Outlets
over_choice s own all =
    if own then to (H ∷ []) else if s then to (A ∷ B ∷ []) else if all then to (H ∷ A ∷ B ∷ []) else to (A ∷ B ∷ [])

abbrev box_wants : Bool → Bool → Bool → Bool → Port → Port → Bool
box_wants s own all back H o = not (is_at H o)
box_wants s own all back p H = not s && (own || all)
box_wants s own all back A A = false
box_wants s own all back A B = not own
box_wants s own all back A C = not own && not back
box_wants s own all back B A = not own
box_wants s own all back B B = false
box_wants s own all back B C = not own && not back
box_wants s own all back C A = not own
box_wants s own all back C B = not own
box_wants s own all back C C = false

box_host : (s own all back : Bool) → Wants (box_wants s own all back H) (to (A ∷ B ∷ C ∷ []))
box_host s own all back = (refl, refl, refl, refl)

box_a : (s own all back : Bool) → (s ≡ true → own ≡ false) →
    Wants (box_wants s own all back A) (box_choice s own all A (link_unless back))
box_a true true all l alone = let clash : true ≡ false = alone refl in cc
box_a false true all true alone = (refl, refl, refl, refl)
box_a false true all false alone = (refl, refl, refl, refl)
box_a true false all true alone = (refl, refl, refl, refl)
box_a true false all false alone = (refl, refl, refl, refl)
box_a false false true true alone = (refl, refl, refl, refl)
box_a false false true false alone = (refl, refl, refl, refl)
box_a false false false true alone = (refl, refl, refl, refl)
box_a false false false false alone = (refl, refl, refl, refl)

box_b : (s own all back : Bool) → (s ≡ true → own ≡ false) →
    Wants (box_wants s own all back B) (box_choice s own all B (link_unless back))
box_b true true all l alone = let clash : true ≡ false = alone refl in cc
box_b false true all true alone = (refl, refl, refl, refl)
box_b false true all false alone = (refl, refl, refl, refl)
box_b true false all true alone = (refl, refl, refl, refl)
box_b true false all false alone = (refl, refl, refl, refl)
box_b false false true true alone = (refl, refl, refl, refl)
box_b false false true false alone = (refl, refl, refl, refl)
box_b false false false true alone = (refl, refl, refl, refl)
box_b false false false false alone = (refl, refl, refl, refl)

box_c : (s own all back : Bool) → (s ≡ true → own ≡ false) → Wants (box_wants s own all back C) (over_choice s own all)
box_c true true all l alone = let clash : true ≡ false = alone refl in cc
box_c false true all l alone = (refl, refl, refl, refl)
box_c true false all l alone = (refl, refl, refl, refl)
box_c false false true l alone = (refl, refl, refl, refl)
box_c false false false l alone = (refl, refl, refl, refl)

-- the laws' tables of boxes say the same
lan_box_table : (s : Shape) (k : ℕ) (f : Frame) (p o : Port) →
    box_wants f.supervision (is_only k f.dest) (is_to_group f.dest) (not (is_in_ring s f.src)) p o ≡ lan_box_routes s k f p o
lan_box_table s k f H H = refl
lan_box_table s k f H A = refl
lan_box_table s k f H B = refl
lan_box_table s k f H C = refl
lan_box_table s k f A H = ap (λ b. not f.supervision && b) (is_for_parts k f.dest)
lan_box_table s k f A A = refl
lan_box_table s k f A B = refl
lan_box_table s k f A C = ap (λ b. not (is_only k f.dest) && b) (not_not (is_in_ring s f.src))
lan_box_table s k f B H = ap (λ b. not f.supervision && b) (is_for_parts k f.dest)
lan_box_table s k f B A = refl
lan_box_table s k f B B = refl
lan_box_table s k f B C = ap (λ b. not (is_only k f.dest) && b) (not_not (is_in_ring s f.src))
lan_box_table s k f C H = ap (λ b. not f.supervision && b) (is_for_parts k f.dest)
lan_box_table s k f C A = refl
lan_box_table s k f C B = refl
lan_box_table s k f C C = refl

ring_box_table : (k : ℕ) (f : Frame) (p o : Port) →
    box_wants f.supervision (is_only k f.dest) (is_to_group f.dest) false p o ≡ ways.box_routes k f p o
ring_box_table k f H H = refl
ring_box_table k f H A = refl
ring_box_table k f H B = refl
ring_box_table k f H C = refl
ring_box_table k f A H = ap (λ b. not f.supervision && b) (is_for_parts k f.dest)
ring_box_table k f A A = refl
ring_box_table k f A B = refl
ring_box_table k f A C = and_true (not (is_only k f.dest))
ring_box_table k f B H = ap (λ b. not f.supervision && b) (is_for_parts k f.dest)
ring_box_table k f B A = refl
ring_box_table k f B B = refl
ring_box_table k f B C = and_true (not (is_only k f.dest))
ring_box_table k f C H = ap (λ b. not f.supervision && b) (is_for_parts k f.dest)
ring_box_table k f C A = refl
ring_box_table k f C B = refl
ring_box_table k f C C = refl

pub prp_boxes : PrpBoxesAreMembers
prp_boxes s net k lan role h f p kind shown path o now = by p shown path ∙ lan_box_table s k f p o
  where
    by : (p : Port) → IsShown p k role h f → IsPathOf s (number_of net) p h f →
        has (routes role h p now) o
        ≡ box_wants f.supervision (is_only k f.dest) (is_to_group f.dest) (not (is_in_ring s f.src)) p o
    by H shown path =
        let e : routes role h H now ≡ to (A ∷ B ∷ C ∷ []) = rw kind refl in
        ap (λ x. has x o) e ∙ at_each (box_wants f.supervision (is_only k f.dest) (is_to_group f.dest) (not (is_in_ring s f.src)) H) (to (A ∷ B ∷ C ∷ [])) (box_host f.supervision (is_only k f.dest) (is_to_group f.dest) (not (is_in_ring s f.src))) o
    by A shown path =
        let shows = shown refl in
        let there = path refl in
        let e : routes role h A now
        ≡ box_choice f.supervision (is_only k f.dest) (is_to_group f.dest) A (link_unless (not (is_in_ring s f.src))) =
        rw (kind, shows.other, shows.alone, shows.supervision, shows.all, there) refl in
        ap (λ x. has x o) e
        ∙ at_each (box_wants f.supervision (is_only k f.dest) (is_to_group f.dest) (not (is_in_ring s f.src)) A) (box_choice f.supervision (is_only k f.dest) (is_to_group f.dest) A (link_unless (not (is_in_ring s f.src)))) (box_a f.supervision (is_only k f.dest) (is_to_group f.dest) (not (is_in_ring s f.src)) shows.group) o
    by B shown path =
        let shows = shown refl in
        let there = path refl in
        let e : routes role h B now
        ≡ box_choice f.supervision (is_only k f.dest) (is_to_group f.dest) B (link_unless (not (is_in_ring s f.src))) =
        rw (kind, shows.other, shows.alone, shows.supervision, shows.all, there) refl in
        ap (λ x. has x o) e
        ∙ at_each (box_wants f.supervision (is_only k f.dest) (is_to_group f.dest) (not (is_in_ring s f.src)) B) (box_choice f.supervision (is_only k f.dest) (is_to_group f.dest) B (link_unless (not (is_in_ring s f.src)))) (box_b f.supervision (is_only k f.dest) (is_to_group f.dest) (not (is_in_ring s f.src)) shows.group) o
    by C shown path =
        let shows = shown refl in
        let e : routes role h C now ≡ over_choice f.supervision (is_only k f.dest) (is_to_group f.dest) =
        rw (kind, shows.other, shows.alone, shows.supervision, shows.all) refl in
        ap (λ x. has x o) e
        ∙ at_each (box_wants f.supervision (is_only k f.dest) (is_to_group f.dest) (not (is_in_ring s f.src)) C) (over_choice f.supervision (is_only k f.dest) (is_to_group f.dest)) (box_c f.supervision (is_only k f.dest) (is_to_group f.dest) (not (is_in_ring s f.src)) shows.group) o

pub hsr_boxes : HsrBoxesAreMembers
hsr_boxes k role h f p kind shown o now = by p shown ∙ ring_box_table k f p o
  where
    by : (p : Port) → IsShown p k role h f →
        has (routes role h p now) o ≡ box_wants f.supervision (is_only k f.dest) (is_to_group f.dest) false p o
    by H shown =
        let e : routes role h H now ≡ to (A ∷ B ∷ C ∷ []) = rw kind refl in
        ap (λ x. has x o) e ∙ at_each (box_wants f.supervision (is_only k f.dest) (is_to_group f.dest) false H) (to (A ∷ B ∷ C ∷ [])) (box_host f.supervision (is_only k f.dest) (is_to_group f.dest) false) o
    by A shown =
        let shows = shown refl in
        let e : routes role h A now ≡ box_choice f.supervision (is_only k f.dest) (is_to_group f.dest) A (C ∷ []) =
        rw (kind, shows.other, shows.alone, shows.supervision, shows.all) refl in
        ap (λ x. has x o) e ∙ at_each (box_wants f.supervision (is_only k f.dest) (is_to_group f.dest) false A) (box_choice f.supervision (is_only k f.dest) (is_to_group f.dest) A (link_unless false)) (box_a f.supervision (is_only k f.dest) (is_to_group f.dest) false shows.group) o
    by B shown =
        let shows = shown refl in
        let e : routes role h B now ≡ box_choice f.supervision (is_only k f.dest) (is_to_group f.dest) B (C ∷ []) =
        rw (kind, shows.other, shows.alone, shows.supervision, shows.all) refl in
        ap (λ x. has x o) e ∙ at_each (box_wants f.supervision (is_only k f.dest) (is_to_group f.dest) false B) (box_choice f.supervision (is_only k f.dest) (is_to_group f.dest) B (link_unless false)) (box_b f.supervision (is_only k f.dest) (is_to_group f.dest) false shows.group) o
    by C shown =
        let shows = shown refl in
        let e : routes role h C now ≡ over_choice f.supervision (is_only k f.dest) (is_to_group f.dest) =
        rw (kind, shows.other, shows.alone, shows.supervision, shows.all) refl in
        ap (λ x. has x o) e ∙ at_each (box_wants f.supervision (is_only k f.dest) (is_to_group f.dest) false C) (over_choice f.supervision (is_only k f.dest) (is_to_group f.dest)) (box_c f.supervision (is_only k f.dest) (is_to_group f.dest) false shows.group) o
