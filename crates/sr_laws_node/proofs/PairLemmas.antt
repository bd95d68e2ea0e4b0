-- The frames that went up to the host, by source and number.
use Rattle.std.proofs.Common.{◌≡◌, Bool, true, false, ◌||◌, ◌&&◌, not, List, [], ◌∷◌, filter, Option, None, Some, option_to_list, ℤ, refl, sym, ap, ◌∙◌, if◌then◌else◌}
use Rattle.std.specs.List.{list_any}
use Rattle.std.specs.Ordering.{int_eq}
use Rattle.std.proofs.lemmas.Bool.Decides.{Decides-int_eq}
use Rattle.std.proofs.lemmas.List.Folds.{list_any-append}
use Rattle.std.proofs.Math.Bool.{or_assoc}
use Rattle.sr_frame.specs.declared.fields.Mac.{Mac}
use Rattle.sr_frame.specs.declared.ports.Port.{Port}
use Rattle.sr_frame.specs.declared.ports.Port.TheVariants.{H, A, B, C}
use Rattle.sr_frame.specs.Addresses.{mac_eq}
use Rattle.sr_frame.specs.AddressLemmas.{mac_same}
use Rattle.sr_dup_window.specs.declared.lane_sets.Lane.TheVariants as lane
use Rattle.sr_laws_dup.specs.TableRuns.{Noting, was_noted}
use Rattle.sr_forwarding.specs.Outlets.{has, all_ports}
use Rattle.sr_laws_node.specs.NodeRuns.{Turn}
use Rattle.sr_laws_node.specs.Brought.{Brought, brings, brought, is_at, is_copy, bars, stood_bars, is_barred, goes_at, goes_in, went_after}
use Rattle.sr_laws_node.specs.AnyRuns.{PairsOfAll}

-- a copy that came in for the host
abbrev is_up : Mac → ℤ → Brought → Bool
is_up src n b = is_copy src n b && has b.wanted H

or_false : (b : Bool) → (b || false) ≡ b
or_false true = refl
or_false false = refl

no_interlink : (src : Mac) (n : ℤ) (b : Brought) → bars H src n b ≡ is_up src n b
no_interlink src n b = ap (λ y. is_copy src n b && y) (or_false (has b.wanted H))

-- what bars a copy from the host is what stood before as wanted there, and a copy that came in for it
barred_is : (stood : List Noting) (src : Mac) (n : ℤ) (earlier : List Brought) (b : Brought) → is_copy src n b ≡ true
    → is_barred H stood earlier b ≡ (was_noted src n lane.H stood || list_any (is_up src n) earlier)
barred_is stood src n earlier b copy = by b.number copy
  where
    barring : Mac → ℤ → Bool
    barring x m = stood_bars H b.mode x m stood || list_any (bars H x m) earlier

    same : (m : ℤ) → (e : Bool) → mac_eq src b.src ≡ e → (f : Bool) → int_eq n m ≡ f → (e && (f || false)) ≡ true → barring b.src m ≡ (was_noted src n lane.H stood || list_any (is_up src n) earlier)
    same m true e true f h =
        let is : src ≡ b.src = mac_same src b.src e in
        let num : n ≡ m = (Decides-int_eq n m).0 f in
        ap (λ x. barring x m) (sym is) ∙ ap (λ x. barring src x) (sym num)
        ∙ ap (λ y. y || list_any (bars H src n) earlier) (or_false (was_noted src n lane.H stood))
        ∙ ap (λ y. was_noted src n lane.H stood || y) (λ i. list_any (λ x. no_interlink src n x i) earlier)
    same m true e false f h = absurd cc
    same m false e f g h = absurd cc

    none : (e : Bool) → (e && false) ≡ true → list_any (λ m. barring b.src m) [] ≡ (was_noted src n lane.H stood || list_any (is_up src n) earlier)
    none true h = absurd cc
    none false h = absurd cc

    by : (k : Option ℤ) → (mac_eq src b.src && list_any (int_eq n) (option_to_list k)) ≡ true → list_any (λ m. barring b.src m) (option_to_list k) ≡ (was_noted src n lane.H stood || list_any (is_up src n) earlier)
    by None h = none (mac_eq src b.src) h
    by (Some m) h = or_false (barring b.src m) ∙ same m (mac_eq src b.src) refl (int_eq n m) refl h

any_if : (k : Bool) (src : Mac) (n : ℤ) (b : Brought) (rest : List Brought) → list_any (is_copy src n) (if k then b ∷ rest else rest) ≡ ((k && is_copy src n b) || list_any (is_copy src n) rest)
any_if true src n b rest = refl
any_if false src n b rest = refl

-- one frame: `l` where a copy stood before, `x` where one came up earlier
one : (l x c w barred : Bool) → (c ≡ true → barred ≡ (l || x)) → ((not l && x) || ((w && not barred) && c)) ≡ (not l && ((c && w) || x))
one true x false true true h = refl
one true x false true false h = refl
one true x false false barred h = refl
one true x true w barred h = ap (λ y. false || ((w && not y) && true)) (h refl) ∙ by w
  where
    by : (w : Bool) → ((w && false) && true) ≡ false
    by true = refl
    by false = refl
one false x false w barred h = by x w barred
  where
    by : (x w barred : Bool) → (x || ((w && not barred) && false)) ≡ x
    by true w barred = refl
    by false true true = refl
    by false true false = refl
    by false false barred = refl
one false x true w barred h = ap (λ y. x || ((w && not y) && true)) (h refl) ∙ by x w
  where
    by : (x w : Bool) → (x || ((w && not x) && true)) ≡ (w || x)
    by true true = refl
    by true false = refl
    by false true = refl
    by false false = refl

-- one frame before the others that a turn brings
then_rest : (l u x r : Bool) → ((not l && (u || x)) || r) ≡ ((not l && u) || ((not l && x) || r))
then_rest true u x r = refl
then_rest false true x r = refl
then_rest false false x r = refl

both_of : (l u v x : Bool) → ((not l && u) || (not l && (v || x))) ≡ (not l && ((u || v) || x))
both_of true u v x = refl
both_of false true v x = refl
both_of false false v x = refl

-- of what a turn brings
up_in : (stood : List Noting) (src : Mac) (n : ℤ) (earlier bs : List Brought)
    → ((not (was_noted src n lane.H stood) && list_any (is_up src n) earlier) || list_any (is_copy src n) (filter (goes_at H stood earlier) bs))
    ≡ (not (was_noted src n lane.H stood) && (list_any (is_up src n) bs || list_any (is_up src n) earlier))
up_in stood src n earlier [] = or_false (not (was_noted src n lane.H stood) && list_any (is_up src n) earlier)
up_in stood src n earlier (b ∷ bs) =
    let l = was_noted src n lane.H stood in
    let x = list_any (is_up src n) earlier in
    let rest = filter (goes_at H stood earlier) bs in
    let r = list_any (is_copy src n) rest in
    let g = goes_at H stood earlier b in
    ap (λ y. (not l && x) || y) (any_if g src n b rest)
    ∙ sym (or_assoc (not l && x) (g && is_copy src n b) r)
    ∙ ap (λ y. y || r) (one l x (is_copy src n b) (has b.wanted H) (is_barred H stood earlier b) (barred_is stood src n earlier b))
    ∙ then_rest l (is_up src n b) x r
    ∙ ap (λ y. (not l && is_up src n b) || y) (up_in stood src n earlier bs)
    ∙ both_of l (is_up src n b) (list_any (is_up src n) bs) x

none_up : (l : Bool) → false ≡ (not l && false)
none_up true = refl
none_up false = refl

all_up : (stood : List Noting) (src : Mac) (n : ℤ) (turns : List Turn)
    → list_any (is_copy src n) (went_after stood H turns) ≡ (not (was_noted src n lane.H stood) && list_any (is_up src n) (brought turns))
all_up stood src n [] = none_up (was_noted src n lane.H stood)
all_up stood src n (turn ∷ before) =
    list_any-append (is_copy src n) (went_after stood H before) (goes_in H stood before turn)
    ∙ ap (λ y. y || list_any (is_copy src n) (goes_in H stood before turn)) (all_up stood src n before)
    ∙ up_in stood src n (brought before) (brings before turn)
    ∙ ap (λ y. not (was_noted src n lane.H stood) && y) (sym (list_any-append (is_up src n) (brings before turn) (brought before)))

-- came in at this port, and for the host
abbrev at_port : Mac → ℤ → Port → Brought → Bool
at_port src n inlet b = is_copy src n b && (has b.wanted H && is_at inlet b.inlet)

spread : (c w : Bool) (inlet : Port) (h a b d : Bool)
    → ((c && w) || (h || (a || (b || (d || false))))) ≡ (((c && (w && is_at H inlet)) || h) || (((c && (w && is_at A inlet)) || a) || (((c && (w && is_at B inlet)) || b) || (((c && (w && is_at C inlet)) || d) || false))))
spread true true H h a b d = refl
spread true true A true a b d = refl
spread true true A false a b d = refl
spread true true B true a b d = refl
spread true true B false true b d = refl
spread true true B false false b d = refl
spread true true C true a b d = refl
spread true true C false true b d = refl
spread true true C false false true d = refl
spread true true C false false false d = refl
spread true false inlet h a b d = refl
spread false w inlet h a b d = refl

by_ports : (src : Mac) (n : ℤ) (bs : List Brought) → list_any (is_up src n) bs ≡ list_any (λ inlet. list_any (at_port src n inlet) bs) all_ports
by_ports src n [] = refl
by_ports src n (b ∷ bs) =
    ap (λ y. is_up src n b || y) (by_ports src n bs)
    ∙ spread (is_copy src n b) (has b.wanted H) b.inlet
    (list_any (at_port src n H) bs) (list_any (at_port src n A) bs) (list_any (at_port src n B) bs) (list_any (at_port src n C) bs)

pub pairs_of_all_lem : PairsOfAll
pairs_of_all_lem stood turns src n =
    all_up stood src n turns ∙ ap (λ y. not (was_noted src n lane.H stood) && y) (by_ports src n (brought turns))
