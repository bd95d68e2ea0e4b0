-- Bodies of packets, of which a front is kept.
use Rattle.std.proofs.Common.{◌≡◌, ℕ, ◌+◌, ◌-◌, ◌<◌, ◌≤◌, List, ◌++◌, length, take, drop, Option, Some, None, true, false, sym, ap, subst, refl, ◌∙◌, arith, inl, inr}
use Rattle.std.specs.Prelude.{IfSome}
use Rattle.std.proofs.lemmas.List.{length-take}
use Rattle.std.proofs.lemmas.List.{length-append, length-drop, take-append-drop, take-take, drop-take, take_at}
use Rattle.sr_capture.specs.declared.fault.CaptureFault.{CaptureFault}
use Rattle.sr_capture.specs.declared.fault.Reason.{Reason}
use Rattle.sr_capture.specs.Taking.{Loses, LosesBelow, LeavesNone, TakesAll}
use Rattle.sr_capture.specs.Headers.{IsLack}
use Rattle.sr_capture.specs.declared.header.Form.{Form}
use Rattle.sr_capture.specs.declared.packet.Packet.{Packet}
use Rattle.sr_capture.specs.declared.packet.Head.{Head}
use Rattle.sr_capture.specs.Records.{TakesBody, IsHead, IsPart, EndsEarly, IsNoRecord, LosesRecord, Captured, IsRecord, Shows}
use Rattle.sr_capture.specs.TakingLemmas.{LosesSome, loses_more, none_left}

-- a front is kept, the rest passed over
pub body_done : (held wanted near far : ℕ) (kept : List ℕ) (a b c : Option (List ℕ)) → TakesAll true near kept a b → LosesSome far b c
    → near + far ≡ held → (wanted ≤ 1524 → near ≡ wanted) → TakesBody true held wanted kept a c
body_done held wanted near far kept a b c k s sum all = (
  kept ++ s.0,
  loses_more kept s.0 a b c k.0 s.2,
  omega (arith, length-append kept s.0, k.1, s.1),
  λ small. sym (take_at kept s.0 wanted (omega (arith, k.1, all small))),
)

-- the input ends in the front
pub body_short : (held wanted near : ℕ) (kept : List ℕ) (a b : Option (List ℕ)) → TakesAll false near kept a b → near ≤ held
    → TakesBody false held wanted kept a b
body_short held wanted near kept a b k few = (kept, k.0, omega (arith, k.1), k.2)

-- the input ends behind it
pub body_ends : (held wanted near far n : ℕ) (kept kept' : List ℕ) (a b c : Option (List ℕ)) → TakesAll true near kept a b → LosesSome n b c → n < far
    → LeavesNone b c → near + far ≡ held → TakesBody false held wanted kept' a c
body_ends held wanted near far n kept kept' a b c k s short none sum =
    (kept ++ s.0, loses_more kept s.0 a b c k.0 s.2, omega (arith, length-append kept s.0, k.1, s.1), none_left kept a b c k.0 none)

-- a head and its body are a record
pub record_done : (form : Form) (shown : Packet) (head : Head) (front kept : List ℕ) (wanted : ℕ) (a b c : Option (List ℕ)) → Loses front a b
    → IsHead form front head → TakesBody true head.held wanted kept b c → wanted ≡ head.held - form.check_len → shown.time ≡ head.time
    → shown.extent ≡ head.extent → shown.len ≡ wanted → shown.octets.items ≡ kept → shown.size ≡ 16 + head.held → LosesRecord form shown a c
record_done form shown head front kept wanted a b c l is_head body cut time extent len octets size =
    let own = take (length body.0 - form.check_len) body.0 in
    let packet : Captured = record { time = head.time; extent = head.extent; octets = own } in
    let far : length own ≡ wanted = omega (arith, length-take (length body.0 - form.check_len) body.0, body.2, cut) in
    let same : take wanted body.0 ≡ own = ap (λ n. take n body.0) (omega (arith, body.2, cut)) in
    let is_record : IsRecord form (front ++ body.0) packet =
    record { front = front; head = head; body = body.0; spelled = refl; is_head = is_head; size = body.2; time = refl; extent = refl; octets = refl } in
    let shows : Shows shown packet =
    record { time = time; extent = extent; len = len ∙ sym far; octets = λ small. octets ∙ body.3 (omega (arith, far)) ∙ same } in
    (front ++ body.0, packet, loses_more front body.0 a b c l body.1, is_record, shows, omega (arith, length-append front body.0, is_head.size, body.2))

-- a packet whose head and body are at hand is a record
pub record_at_hand : (form : Form) (shown : Packet) (head : Head) (near : ℕ) (xs : List ℕ) (a c : Option (List ℕ)) → Loses (take (16 + head.held) xs) a c
    → IsHead form (take 16 xs) head → 16 + head.held ≤ length xs → shown.len ≡ head.held - form.check_len → (shown.len ≤ 1524 → near ≡ shown.len)
    → shown.time ≡ head.time → shown.extent ≡ head.extent → shown.octets.items ≡ take near (drop 16 xs) → shown.size ≡ 16 + head.held
    → LosesRecord form shown a c
record_at_hand form shown head near xs a c l is_head whole len all time extent octets size =
    let body = take head.held (drop 16 xs) in
    let far : length body ≡ head.held = omega (arith, length-take head.held (drop 16 xs), length-drop 16 xs, whole) in
    let cut : length body - form.check_len ≡ shown.len = omega (arith, far, len) in
    let own = take (length body - form.check_len) body in
    let long : length own ≡ shown.len = omega (arith, length-take (length body - form.check_len) body, far, len) in
    let same : take shown.len (drop 16 xs) ≡ own = sym (take-take shown.len head.held (drop 16 xs) (omega (arith, len)))
    ∙ ap (λ n. take n body) (sym cut) in
    let seam : take 16 (take (16 + head.held) xs) ≡ take 16 xs = take-take 16 (16 + head.held) xs (omega arith) in
    let spelled : take (16 + head.held) xs ≡ take 16 xs ++ body = sym (take-append-drop 16 (take (16 + head.held) xs))
    ∙ ap (λ (t : List ℕ). t ++ drop 16 (take (16 + head.held) xs)) seam ∙ ap (λ (t : List ℕ). take 16 xs ++ t) (drop-take 16 head.held xs) in
    let packet : Captured = record { time = head.time; extent = head.extent; octets = own } in
    let is_record : IsRecord form (take (16 + head.held) xs) packet =
    record { front = take 16 xs; head = head; body = body; spelled = spelled; is_head = is_head; size = far; time = refl; extent = refl; octets = refl } in
    let shows : Shows shown packet = record {
      time = time;
      extent = extent;
      len = sym long;
      octets = λ small. octets ∙ ap (λ n. take n (drop 16 xs)) (all (omega (arith, long, small))) ∙ same;
    } in
    (take (16 + head.held) xs, packet, l, is_record, shows, omega (arith, length-take (16 + head.held) xs, whole, size))

-- the input ends in a body
pub ends_early : (a b c : Option (List ℕ)) (form : Form) (head : Head) (front kept : List ℕ) (wanted : ℕ) → Loses front a b → IsHead form front head
    → TakesBody false head.held wanted kept b c → IfSome a (EndsEarly form)
ends_early None b c form head front kept wanted l is_head body = tt
ends_early (Some xs) None c form head front kept wanted l is_head body = absurd l
ends_early (Some xs) (Some ys) None form head front kept wanted l is_head body = absurd body.1
ends_early (Some xs) (Some ys) (Some zs) form head front kept wanted l is_head body =
    let far : length ys ≡ length body.0 + length zs = ap length body.1 ∙ length-append body.0 zs in
    let none : length zs ≡ 0 = ap length body.3 in
    let all : length xs ≡ length front + length ys = ap length l ∙ length-append front ys in
    (omega (arith, is_head.size), inr (front, head, ys, l, is_head, omega (arith, body.2)))

-- so many octets that are fewer were lost
abbrev pub LosesFewer : ℕ → ℕ → Option (List ℕ) → Option (List ℕ) → Type 0
LosesFewer count n a b = (octets : List ℕ) × (length octets ≡ n) × LosesBelow count octets a b

-- a lack in the front of a body
pub lacks_near : (held near n : ℕ) (kept : List ℕ) (a b : Option (List ℕ)) → length kept ≡ n → LosesBelow near kept a b → near ≤ held
    → LosesFewer held n a b
lacks_near held near n kept a b size l few = (kept, size, (l.0, omega (arith, l.1)))

-- a lack behind the front of a body
pub lacks_far : (held near far n : ℕ) (kept : List ℕ) (a b c : Option (List ℕ)) → TakesAll true near kept a b → LosesFewer far n b c
    → near + far ≡ held → LosesFewer held (near + n) a c
lacks_far held near far n kept a b c k l sum =
    let size : length (kept ++ l.0) ≡ near + n = omega (arith, length-append kept l.0, k.1, l.1) in
    (kept ++ l.0, size, (loses_more kept l.0 a b c k.0 l.2.0, omega (arith, size, l.1, l.2.1)))

-- a lack in a head
pub lacks_head : (form : Form) (fault : CaptureFault) (octets : List ℕ) (a b : Option (List ℕ)) → IsLack fault.reason → fault.at ≡ length octets
    → LosesBelow 16 octets a b → IsNoRecord form fault a b
lacks_head form fault octets a b lack at l = inl (lack, (octets, sym at, l.0, inl l.1))

-- a lack in a body
pub lacks_body : (form : Form) (head : Head) (fault : CaptureFault) (reason : Reason) (n : ℕ) (front : List ℕ) (a b c : Option (List ℕ)) → Loses front a b
    → IsHead form front head → IsLack reason × LosesFewer head.held n b c → fault.reason ≡ reason → fault.at ≡ 16 + n → IsNoRecord form fault a c
lacks_body form head fault reason n front a b c l is_head lack why at =
    let body = lack.1.0 in
    let size : length (front ++ body) ≡ fault.at = omega (arith, length-append front body, is_head.size, lack.1.1, at) in
    let part : IsPart form (front ++ body) = inr (front, head, body, refl, is_head, lack.1.2.1) in
    inl (subst IsLack (sym why) lack.0, (front ++ body, size, loses_more front body a b c l lack.1.2.0, part))
