-- What the packets of captures are read as, one by one.
use Rattle.std.proofs.Common.{◌≡◌, ℕ, ◌-◌, ◌^◌, ◌≤◌, Bool, true, false, ◌&&◌, List, [], ◌∷◌, ◌++◌, length, refl, sym, ap, ◌∙◌, subst, arith}
use Rattle.std.specs.Prelude.{min}
use Rattle.std.proofs.lemmas.List.{append-nil, append_assoc}
use Rattle.std.proofs.lemmas.Bool.Decides.{nat_tests}
use Rattle.sr_audit.specs.declared.side.Side.{Side}
use Rattle.sr_capture.specs.Limits.{longest_kept}
use Rattle.sr_capture.specs.Records.{Captured, Shows}
use Rattle.sr_capture.specs.declared.packet.Extent.{Extent}
use Rattle.sr_capture.specs.declared.packet.Extent.TheVariants.{Whole, Cut}
use Rattle.sr_capture.specs.declared.packet.Packet.{Packet}
use Rattle.sr_capture_script.specs.declared.choice.Choice.{Choice}
use Rattle.sr_capture_script.specs.declared.choice.Inlet.{Inlet}
use Rattle.sr_capture_script.specs.Items.{Item}
use Rattle.sr_capture_script.specs.Texts.{is_wanted, time_since}
use Rattle.sr_capture_merge.specs.declared.counts.Counts.{Counts}
use Rattle.sr_capture_merge.specs.declared.plan.Plan.{Plan}
use Rattle.sr_capture_merge.specs.Counted.{AreLeftOut}
use Rattle.sr_capture_merge.specs.Counting.{CountsLeftOut}
use Rattle.sr_capture_merge.specs.Reading.{IsReadIf, is_whole, was_cut, is_long, side_at, IsItemRead, AreRead}
use Rattle.sr_capture_merge.proofs.Counted.{left_out_more}
use Rattle.sr_merge.specs.Merging.{Read}

-- one packet more is read
pub read_more : (choice : Choice) (plan : Plan) (start : ℕ) (items : List Item) (ps : List Read) (item : Item) (own : List Read) →
    AreRead choice plan start items ps → IsItemRead choice plan start item own → AreRead choice plan start (items ++ item ∷ []) (ps ++ own)
read_more choice plan start [] ps item own h more = (own, [], ap (λ l. l ++ own) h ∙ sym (append-nil own), more, refl)
read_more choice plan start (x ∷ xs) ps item own h more =
    (h.0, h.1 ++ own, ap (λ l. l ++ own) h.2 ∙ append_assoc h.0 h.1 own, h.3, read_more choice plan start xs h.1 item own h.4 more)

-- a packet is read as the item that it shows
whole_len : (extent : Extent) (len : ℕ) → is_whole extent len ≡ true → len ≤ longest_kept
whole_len Cut len h = cc
whole_len Whole len h = grind (arith, nat_tests)

read_shown : (plan : Plan) (side : Side) (number time : ℕ) (packet : Packet) (item : Captured) (own : List Read) → Shows packet item →
    IsReadIf (is_whole packet.extent packet.len) plan side number time packet.octets.items own →
    IsReadIf (is_whole item.extent (length item.octets)) plan side number time item.octets own
read_shown plan side number time packet item own shows h = by (is_whole packet.extent packet.len) refl h
  where
    same : is_whole item.extent (length item.octets) ≡ is_whole packet.extent packet.len
    same = ap (λ e. is_whole e (length item.octets)) (sym shows.extent) ∙ ap (is_whole packet.extent) (sym shows.len)

    by : (b : Bool) → is_whole packet.extent packet.len ≡ b → IsReadIf b plan side number time packet.octets.items own →
        IsReadIf (is_whole item.extent (length item.octets)) plan side number time item.octets own
    by true is g =
        let fits = whole_len item.extent (length item.octets) (same ∙ is) in
        subst (λ b. IsReadIf b plan side number time item.octets own) (sym (same ∙ is))
        (subst (λ l. IsReadIf true plan side number time l own) (shows.octets fits) g)
    by false is g = subst (λ b. IsReadIf b plan side number time item.octets own) (sym (same ∙ is)) g

pub item_read : (choice : Choice) (plan : Plan) (start number : ℕ) (inlet : Inlet) (moment : ℕ) (packet : Packet) (item : Item) (own : List Read) →
    is_wanted choice (time_since start moment) ≡ true → item.inlet ≡ inlet → item.moment ≡ moment → number ≡ min item.number (2 ^ 64 - 1) →
    Shows packet item.packet → IsReadIf (is_whole packet.extent packet.len) plan (side_at inlet) number (moment - start) packet.octets.items own →
    IsItemRead choice plan start item own
item_read choice plan start number inlet moment packet item own wanted at when is shows h =
    let one = read_shown plan (side_at inlet) number (moment - start) packet item.packet own shows h in
    let w = is_whole item.packet.extent (length item.packet.octets) in
    let two = subst (λ n. IsReadIf w plan (side_at inlet) n (moment - start) item.packet.octets own) is one in
    let three = subst (λ i. IsReadIf w plan (side_at i) (min item.number (2 ^ 64 - 1)) (moment - start) item.packet.octets own) (sym at) two in
    let four = subst (λ t. IsReadIf w plan (side_at item.inlet) (min item.number (2 ^ 64 - 1)) (t - start) item.packet.octets own) (sym when) three in
    let want : is_wanted choice (time_since start item.moment) ≡ true = ap (λ t. is_wanted choice (time_since start t)) when ∙ wanted in
    subst (λ b. IsReadIf (b && w) plan (side_at item.inlet) (min item.number (2 ^ 64 - 1)) (item.moment - start) item.packet.octets own) (sym want) four

pub item_unwanted : (choice : Choice) (plan : Plan) (start : ℕ) (moment : ℕ) (item : Item) →
    is_wanted choice (time_since start moment) ≡ false → item.moment ≡ moment → IsItemRead choice plan start item []
item_unwanted choice plan start moment item unwanted when =
    let want : is_wanted choice (time_since start item.moment) ≡ false = ap (λ t. is_wanted choice (time_since start t)) when ∙ unwanted in
    subst (λ b. IsReadIf (b && is_whole item.packet.extent (length item.packet.octets)) plan (side_at item.inlet) (min item.number (2 ^ 64 - 1))
    (item.moment - start) item.packet.octets []) (sym want) refl

-- a packet that is left out is counted as the item that it shows, if it is wanted
pub left_out_shown : (choice : Choice) (start : ℕ) (items : List Item) (moment : ℕ) (packet : Packet) (item : Item) (c new : Counts) →
    is_wanted choice (time_since start moment) ≡ true → item.moment ≡ moment → Shows packet item.packet → AreLeftOut choice start items c →
    CountsLeftOut (was_cut packet.extent) (is_long packet.extent packet.len) c new → AreLeftOut choice start (items ++ item ∷ []) new
left_out_shown choice start items moment packet item c new wanted when shows h on =
    let want : is_wanted choice (time_since start item.moment) ≡ true = ap (λ t. is_wanted choice (time_since start t)) when ∙ wanted in
    left_out_more choice start items item (was_cut packet.extent) (is_long packet.extent packet.len) c new h
    (ap (λ b. b && was_cut item.packet.extent) want ∙ ap was_cut (sym shows.extent))
    (ap (λ b. b && is_long item.packet.extent (length item.packet.octets)) want
    ∙ ap (λ e. is_long e (length item.packet.octets)) (sym shows.extent) ∙ ap (is_long packet.extent) (sym shows.len)) on

pub left_out_unwanted : (choice : Choice) (start : ℕ) (items : List Item) (moment : ℕ) (item : Item) (c : Counts) →
    is_wanted choice (time_since start moment) ≡ false → item.moment ≡ moment → AreLeftOut choice start items c →
    AreLeftOut choice start (items ++ item ∷ []) c
left_out_unwanted choice start items moment item c unwanted when h =
    let want : is_wanted choice (time_since start item.moment) ≡ false = ap (λ t. is_wanted choice (time_since start t)) when ∙ unwanted in
    left_out_more choice start items item false false c c h (ap (λ b. b && was_cut item.packet.extent) want)
    (ap (λ b. b && is_long item.packet.extent (length item.packet.octets)) want) (record { cut = refl; long = refl })
