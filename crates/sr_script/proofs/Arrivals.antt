-- A line with a time and octets, which ends where its digits end.
use Rattle.std.proofs.Common.{◌≡◌, ℕ, suc, ◌+◌, ◌-◌, ◌*◌, ◌/◌, ◌%◌, ◌^◌, ◌<◌, ◌≤◌, true, false, List, [], ◌∷◌, ◌++◌, length, take, drop, slice_index, Ok, sym, ap, refl, subst, ◌∙◌, arith, append_assoc, lit<}
use Rattle.std.specs.Prelude.{codes}
use Rattle.std.specs.Fmt.{decimal}
use Rattle.std.specs.List.{AllPass}
use Rattle.std.proofs.lemmas.List.{drop_more, length-append, length-take, take-append-drop}
use Rattle.hex.specs.Hex.{decode_of, is_hex_digit}
use Rattle.sr_frame.specs.declared.ports.Port.{Port}
use Rattle.sr_frame.specs.declared.ports.Port.TheVariants.{H, A, B, C}
use Rattle.sr_hex.specs.Values.{IsDigitFront}
use Rattle.sr_forwarding.specs.declared.kind.RoleKind.{RoleKind}
use Rattle.sr_session.specs.Octets.{spaced}
use Rattle.sr_words.specs.Words.{IsHex}
use Rattle.sr_script.specs.declared.reading.Command.{Command}
use Rattle.sr_script.specs.declared.reading.Command.TheVariants.{Arrive, Send}
use Rattle.sr_script.specs.declared.reading.FrontLine.{FrontLine}
use Rattle.sr_script.specs.Commands.{IsInlet, Says, letter_of}
use Rattle.sr_script.specs.FrontArrivals.{EndsAtFront, StandsAtFront}
use Rattle.sr_session.specs.Octets.{Lacks}
use Rattle.sr_session.specs.OctetLemmas.{Lacks-append}
use Rattle.sr_words.specs.WordLemmas.{decimal_unbroken}
use Rattle.sr_session.specs.FrontLemmas.{placed}

other_than_feed : (n : ℕ) → 10 < n → n ≡ 10 → ⊥
other_than_feed n lt e = omega arith

letter_unbroken : (port : Port) → Lacks 10 (letter_of port)
letter_unbroken H = (other_than_feed 72 (lit< tt), tt)
letter_unbroken A = (other_than_feed 65 (lit< tt), tt)
letter_unbroken B = (other_than_feed 66 (lit< tt), tt)
letter_unbroken C = (other_than_feed 67 (lit< tt), tt)

digits_unbroken : (ds : List ℕ) → AllPass is_hex_digit ds → Lacks 10 ds
digits_unbroken [] h = tt
digits_unbroken (d ∷ ds) h = (λ e. no_digit d e (h 0 0 (omega arith)), digits_unbroken ds (λ i z lt. h (suc i) z (omega arith)))
  where
    no_digit : (d : ℕ) → d ≡ 10 → is_hex_digit d ≡ true → ⊥
    no_digit d e is =
        let no : is_hex_digit d ≡ false = ap is_hex_digit e in
        absurd cc

-- the time and the octets, and what stands behind their digits
pub ends : (text behind word out : List ℕ) (left time n len : ℕ)
    → text ≡ word ++ 32 ∷ behind → word ≡ decimal time → time < 2 ^ 64
    → IsDigitFront behind n → slice_index behind n ≡ 10 → 0 < n → n % 2 ≡ 0 → length text ≤ left → len ≡ left - length behind + n → len ≤ 8000
    → decode_of (take (2 * (n / 2)) behind) ≡ Ok (take (n / 2) out) → n / 2 ≤ length out
    → EndsAtFront left text (record { time = time; count = n / 2; length = len }) out
ends text behind word out left time n len first word_is fits front feed some even within len_is short decoded room =
    let digits = take n behind in
    let after = drop (n + 1) behind in
    let timed = spaced (decimal time ∷ digits ∷ []) in
    let parted : behind ≡ digits ++ 10 ∷ after =
    sym (take-append-drop n behind) ∙ ap (λ (l : List ℕ). digits ++ l) (drop_more behind n 0 front.within ∙ ap (λ b. b ∷ after) feed) in
    let parts : text ≡ timed ++ 10 ∷ after =
    first ∙ ap (λ (w : List ℕ). w ++ 32 ∷ behind) word_is ∙ ap (λ (l : List ℕ). decimal time ++ 32 ∷ l) parted
    ∙ sym (append_assoc (decimal time) (32 ∷ digits) (10 ∷ after)) in
    let digits_len : length digits ≡ n = omega (arith, length-take n behind, front.within) in
    let long : len + length text ≡ left + length timed =
    omega (arith, len_is, ap length first, length-append word (32 ∷ behind), ap length word_is, length-append (decimal time) (32 ∷ digits), digits_len, within) in
    let space = other_than_feed 32 (lit< tt) in
    let pairs : 2 * (n / 2) ≡ n = omega arith in
    let hex : IsHex digits (take (n / 2) out) =
    (subst (λ m. decode_of (take m behind) ≡ Ok (take (n / 2) out)) pairs decoded, omega (arith, length-take (n / 2) out)) in
    record {
      timed = timed;
      after = after;
      is_timed = (digits, refl, fits, hex);
      unbroken = Lacks-append 10 (decimal time) (32 ∷ digits) (decimal_unbroken time fits) (space, digits_unbroken digits front.digits);
      parts = parts;
      long = long;
      short = short;
      count = room;
    }

-- what stands before a time and octets makes one line with them
joined : (text line start timed : List ℕ) (command : Command) (role : RoleKind) (f : FrontLine) (out : List ℕ) (at : EndsAtFront (length text) timed f out)
    → text ≡ start ++ timed → line ≡ start ++ at.timed → Lacks 10 start → Says role line command (take f.count out) → StandsAtFront role text command f out
joined text line start timed command role f out at parts line_is unbroken says =
    let whole : text ≡ line ++ 10 ∷ at.after =
    parts ∙ ap (λ (l : List ℕ). start ++ l) at.parts ∙ sym (append_assoc start at.timed (10 ∷ at.after)) ∙ ap (λ (l : List ℕ). l ++ 10 ∷ at.after) (sym line_is) in
    let long : f.length ≡ length line =
    omega (arith, at.long, ap length parts, length-append start timed, ap length line_is, length-append start at.timed) in
    let lacks : Lacks 10 line = subst (Lacks 10) (sym line_is) (Lacks-append 10 start at.timed unbroken at.unbroken) in
    record {
      line = line;
      front = placed text line at.after whole lacks (omega (arith, long, at.short));
      long = long;
      count = at.count;
      says = says;
    }

-- the words of the line of a frame that arrives
pub arrives : (role : RoleKind) (text rest timed out : List ℕ) (port : Port) (f : FrontLine)
    → text ≡ codes "in " ++ rest → rest ≡ letter_of port ++ 32 ∷ timed → IsInlet role port → EndsAtFront (length text) timed f out
    → StandsAtFront role text (Arrive port f.time) f out
arrives role text rest timed out port f first second inlet at =
    let start = codes "in " ++ (letter_of port ++ 32 ∷ []) in
    let digits = at.is_timed.0 in
    let line = spaced (codes "in" ∷ letter_of port ∷ decimal f.time ∷ digits ∷ []) in
    let grouped : (l : List ℕ) → codes "in " ++ (letter_of port ++ 32 ∷ l) ≡ start ++ l =
    λ l. ap (λ (x : List ℕ). codes "in " ++ x) (sym (append_assoc (letter_of port) (32 ∷ []) l)) in
    let space = other_than_feed 32 (lit< tt) in
    joined text line start timed (Arrive port f.time) role f out at
    (first ∙ ap (λ (l : List ℕ). codes "in " ++ l) second ∙ grouped timed)
    (grouped (spaced (decimal f.time ∷ digits ∷ [])) ∙ ap (λ (l : List ℕ). start ++ l) (sym at.is_timed.1))
    (other_than_feed 105 (lit< tt), (other_than_feed 110 (lit< tt), (space, Lacks-append 10 (letter_of port) (32 ∷ []) (letter_unbroken port) (space, tt))))
    (digits, refl, inlet, at.is_timed.2, at.is_timed.3)

-- the words of the line of a frame of the host
pub sends : (role : RoleKind) (text timed out : List ℕ) (f : FrontLine) → text ≡ codes "send " ++ timed → EndsAtFront (length text) timed f out
    → StandsAtFront role text (Send f.time) f out
sends role text timed out f first at =
    let digits = at.is_timed.0 in
    let unbroken : Lacks 10 (codes "send ") =
    (other_than_feed 115 (lit< tt), (other_than_feed 101 (lit< tt), (other_than_feed 110 (lit< tt), (other_than_feed 100 (lit< tt), (other_than_feed 32 (lit< tt), tt))))) in
    joined text (spaced (codes "send" ∷ decimal f.time ∷ digits ∷ [])) (codes "send ") timed (Send f.time) role f out at
    first (ap (λ (l : List ℕ). codes "send " ++ l) (sym at.is_timed.1)) unbroken (digits, refl, at.is_timed.2, at.is_timed.3)
