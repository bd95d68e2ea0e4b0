-- Packets that are written one by one, with their verdicts.
use Rattle.std.proofs.Common.{◌≡◌, ℕ, ◌+◌, ◌≤◌, Bool, true, false, cond, zero, suc, List, [], ◌∷◌, ◌++◌, length, Option, None, Some, refl, sym, ap, ◌∙◌, subst, arith, inl, inr}
use Rattle.std.specs.Prelude.{drop, IfSome}
use Rattle.std.specs.List.{flat_map}
use Rattle.std.specs.Io.KnownBytes.{Appends}
use Rattle.std.proofs.KnownBytes.{Appends-nil, Appends-trans}
use Rattle.std.proofs.lemmas.List.{append_assoc, append-nil, map_push, length-map}
use Rattle.std.proofs.lemmas.List.Concat.{flat_map-append}
use Rattle.std.proofs.lemmas.Option.{same_Some}
use Rattle.sr_merge.specs.declared.waiting.Verdict.{Verdict}
use Rattle.sr_merge.specs.Limits.{most_held}
use Rattle.sr_merge.specs.Merging.{Read, Pending, Merging, met, meet, verdict_of, is_new, waiting_behind, sources_told, untold_after, next_written, TakesIn}
use Rattle.sr_merge.specs.MergeRuns.{packets_in}
use Rattle.sr_merge.specs.WaitingLemmas.{packets_meet, waits_list}
use Rattle.sr_merge.specs.Verdicts.{kept_of_all, verdict_until, AllBy}
use Rattle.sr_merge.specs.VerdictLemmas.{with_all_more, taken_behind, verdict_stays, verdict_met, verdict_last, crowded, crowded_more, all_later, all_more}
use Rattle.sr_capture_merge.specs.declared.plan.Plan.{Plan}
use Rattle.sr_capture_merge.specs.Entries.{written_piece}
use Rattle.sr_capture_merge.specs.Counted.{AreCountsOf}
use Rattle.sr_capture_merge.specs.Settling.{Settled, counted_one, AreSettled, IsVerdict, IsKnown}
use Rattle.sr_capture_merge.specs.Files.{merged_body, Sink, HasWritten, HasEnded}
use Rattle.sr_capture_merge.proofs.Counted.{counted_more}

-- one packet more is written
settled_more : (P : Pending → List Read → Option Verdict → Type 0) (gone : List Pending) (w : Pending) (ps : List Read) (xs : List Settled)
    (x : Settled) → AreSettled P gone (w.packet ∷ ps) xs → x.packet ≡ w.packet → P w ps x.verdict →
    AreSettled P (gone ++ w ∷ []) ps (xs ++ x ∷ [])
settled_more P [] w ps [] x h same p = (same, p, tt)
settled_more P [] w ps (y ∷ ys) x h same p = absurd h
settled_more P (g ∷ gs) w ps [] x h same p = absurd h
settled_more P (g ∷ gs) w ps (y ∷ ys) x h same p =
    let behind : packets_in (gs ++ w ∷ []) ++ ps ≡ packets_in gs ++ (w.packet ∷ ps) =
    ap (λ l. l ++ ps) (map_push (λ v. v.packet) gs w) ∙ append_assoc (packets_in gs) (w.packet ∷ []) ps in
    (h.0, subst (λ l. P g l y.verdict) (sym behind) h.1, settled_more P gs w ps ys x h.2 same p)

-- what follows from a rule
settled_weaker : (P Q : Pending → List Read → Option Verdict → Type 0) →
    ((w : Pending) (ps : List Read) (v : Option Verdict) → P w ps v → Q w ps v) → (gone : List Pending) (ps : List Read) (xs : List Settled) →
    AreSettled P gone ps xs → AreSettled Q gone ps xs
settled_weaker P Q f [] ps [] h = tt
settled_weaker P Q f [] ps (x ∷ xs) h = absurd h
settled_weaker P Q f (g ∷ gs) ps [] h = absurd h
settled_weaker P Q f (g ∷ gs) ps (x ∷ xs) h = (h.0, f g (packets_in gs ++ ps) x.verdict h.1, settled_weaker P Q f gs ps xs h.2)

-- more packets are to be written
settled_grown : (P : Pending → List Read → Option Verdict → Type 0) →
    ((w : Pending) (ps more : List Read) (v : Option Verdict) → P w ps v → P w (ps ++ more) v) → (gone : List Pending) (ps more : List Read)
    (xs : List Settled) → AreSettled P gone ps xs → AreSettled P gone (ps ++ more) xs
settled_grown P f [] ps more [] h = tt
settled_grown P f [] ps more (x ∷ xs) h = absurd h
settled_grown P f (g ∷ gs) ps more [] h = absurd h
settled_grown P f (g ∷ gs) ps more (x ∷ xs) h = (
  h.0,
  subst (λ l. P g l x.verdict) (append_assoc (packets_in gs) ps more) (f g (packets_in gs ++ ps) more x.verdict h.1),
  settled_grown P f gs ps more xs h.2,
)

known_grown : (now : ℕ) (w : Pending) (ps more : List Read) (v : Option Verdict) → IsKnown now w ps v → IsKnown now w (ps ++ more) v
known_grown now w ps more v (inl h) = inl h
known_grown now w ps more v (inr h) = inr (h.0, crowded_more w.packet ps more h.1)

known_later : (before now : ℕ) → before ≤ now → (w : Pending) (ps : List Read) (v : Option Verdict) → IsKnown before w ps v → IsKnown now w ps v
known_later before now le w ps v (inl h) = inl (h.0, verdict_stays before now w h.0 le h.1, h.2)
known_later before now le w ps v (inr h) = inr h

-- a copy that comes of a packet that is gone changes nothing
known_met : (now : ℕ) (w : Pending) (ps : List Read) (v : Option Verdict) → IsKnown now w ps v → IsKnown now (met now w) ps v
known_met now w ps v (inl h) = inl (h.0, verdict_met now w h.0 h.1, h.2)
known_met now w ps v (inr h) = inr h

settled_met : (now at : ℕ) (gone : List Pending) (ps : List Read) (xs : List Settled) → AreSettled (IsKnown now) gone ps xs →
    AreSettled (IsKnown now) (meet now at gone) ps xs
settled_met now at [] ps xs h = h
settled_met now at (g ∷ gs) ps [] h = absurd h
settled_met now zero (g ∷ gs) ps (x ∷ xs) h = (h.0, known_met now g (packets_in gs ++ ps) x.verdict h.1, h.2)
settled_met now (suc at) (g ∷ gs) ps (x ∷ xs) h = (
  h.0,
  subst (λ l. IsKnown now g (l ++ ps) x.verdict) (sym (packets_meet now at gs)) h.1,
  settled_met now at gs ps xs h.2,
)

-- the octets of one packet more
body_more : (plan : Plan) (start : ℕ) (xs : List Settled) (x : Settled) →
    merged_body plan start (xs ++ x ∷ []) ≡ merged_body plan start xs ++ written_piece plan start x.verdict x.packet
unfolding merged_body
body_more plan start xs x =
    let f : Settled → List ℕ = λ y. written_piece plan start y.verdict y.packet in
    flat_map-append f xs (x ∷ []) ∙ ap (λ l. flat_map f xs ++ l) (append-nil (f x))

body_nil : (plan : Plan) (start : ℕ) → merged_body plan start [] ≡ []
unfolding merged_body
body_nil plan start = refl

wrote_more : (plan : Plan) (start : ℕ) (xs : List Settled) (x : Settled) (held mid to : Option (List ℕ)) →
    Appends held mid (merged_body plan start xs) → Appends mid to (written_piece plan start x.verdict x.packet) →
    Appends held to (merged_body plan start (xs ++ x ∷ []))
wrote_more plan start xs x held mid to h more =
    subst (Appends held to) (sym (body_more plan start xs x))
    (Appends-trans held mid to (merged_body plan start xs) (written_piece plan start x.verdict x.packet) h more)

-- nothing was taken
pub written_none : (plan : Plan) (start : ℕ) (m : Merging) (held : Sink) → m.sources ≡ [] → m.waiting ≡ [] → m.untold ≡ 0 →
    AreCountsOf plan [] held.counts → HasWritten plan start [] 0 m held held
written_none plan start m held sources waiting untold none = record {
  gone = [];
  settled = [];
  sources = sym sources;
  untold = sym untold;
  waiting = sym waiting;
  early = subst (λ l. AllBy 0 (packets_in l)) (sym waiting) tt;
  known = tt;
  wrote = subst (Appends held.written held.written) (sym (body_nil plan start)) (Appends-nil held.written);
  counted = none;
}

-- what else is counted may change
pub written_left : (plan : Plan) (start : ℕ) (taken : List Read) (now : ℕ) (m : Merging) (held to later : Sink) → later.written ≡ to.written →
    ((xs : List Settled) → AreCountsOf plan xs to.counts → AreCountsOf plan xs later.counts) → HasWritten plan start taken now m held to →
    HasWritten plan start taken now m held later
written_left plan start taken now m held to later same counts h = record {
  gone = h.gone;
  settled = h.settled;
  sources = h.sources;
  untold = h.untold;
  waiting = h.waiting;
  early = h.early;
  known = h.known;
  wrote = subst (λ o. Appends held.written o (merged_body plan start h.settled)) (sym same) h.wrote;
  counted = counts h.settled h.counted;
}

-- time passes
pub written_later : (plan : Plan) (start : ℕ) (taken : List Read) (before now : ℕ) (m : Merging) (held to : Sink) →
    before ≤ now → HasWritten plan start taken before m held to → HasWritten plan start taken now m held to
written_later plan start taken before now m held to le h = record {
  gone = h.gone;
  settled = h.settled;
  sources = h.sources;
  untold = h.untold;
  waiting = h.waiting;
  early = all_later before now (packets_in m.waiting) le h.early;
  known = settled_weaker (IsKnown before) (IsKnown now) (known_later before now le) h.gone (packets_in m.waiting) h.settled h.known;
  wrote = h.wrote;
  counted = h.counted;
}

-- the first packet that waits is written: its verdict is known, or too many wait
known_first : (now : ℕ) (w : Pending) (ps : List Read) (v : Option Verdict) → verdict_of now w ≡ v → AllBy now ps →
    (v ≡ None → most_held ≤ length ps + 1) → IsKnown now w ps v
known_first now w ps None is all many = inr (refl, crowded now w ps is all (many refl))
known_first now w ps (Some x) is all many = inl (x, is, refl)

pub written_next : (plan : Plan) (start : ℕ) (taken : List Read) (now : ℕ) (old new : Merging) (w : Pending) (v : Option Verdict)
    (held mid to : Sink) → HasWritten plan start taken now old held mid → next_written old.waiting ≡ Some w →
    new.sources ≡ old.sources → new.untold ≡ old.untold → new.waiting ≡ drop 1 old.waiting → verdict_of now w ≡ v →
    (v ≡ None → most_held ≤ length old.waiting) → Appends mid.written to.written (written_piece plan start v w.packet) →
    to.counts ≡ counted_one plan (record { packet = w.packet; verdict = v }) mid.counts → HasWritten plan start taken now new held to
written_next plan start taken now old new w v held mid to h first sources untold rest is many wrote count_is = by old.waiting refl first
  where
    by : (l : List Pending) → old.waiting ≡ l → next_written l ≡ Some w → HasWritten plan start taken now new held to
    by [] e first = cc
    by (u ∷ us) e first =
        let front : u ∷ us ≡ w ∷ us = ap (λ k. k ∷ us) (same_Some u w first) in
        let left : new.waiting ≡ us = rest ∙ ap (drop 1) e in
        let early = subst (λ l. AllBy now (packets_in l)) (e ∙ front) h.early in
        let known = subst (λ l. AreSettled (IsKnown now) h.gone (packets_in l) h.settled) (e ∙ front) h.known in
        let count : length old.waiting ≡ length (packets_in us) + 1 = ap length e ∙ (let m = length-map us (λ k. k.packet) in omega (arith, m)) in
        let own = known_first now w (packets_in us) v is early.1 (λ none. let n = many none in omega (arith, n, count)) in
        record {
          gone = h.gone ++ w ∷ [];
          settled = h.settled ++ record { packet = w.packet; verdict = v } ∷ [];
          sources = h.sources ∙ sym sources;
          untold = h.untold ∙ sym untold;
          waiting = h.waiting ∙ ap (λ l. h.gone ++ l) (e ∙ front) ∙ sym (append_assoc h.gone (w ∷ []) us) ∙ ap (λ l. (h.gone ++ w ∷ []) ++ l) (sym left);
          early = subst (λ l. AllBy now (packets_in l)) (sym left) early.1;
          known = subst (λ l. AreSettled (IsKnown now) (h.gone ++ w ∷ []) (packets_in l) (h.settled ++ record { packet = w.packet; verdict = v } ∷ []))
              (sym left) (settled_more (IsKnown now) h.gone w (packets_in us) h.settled (record { packet = w.packet; verdict = v }) known refl own);
          wrote = wrote_more plan start h.settled (record { packet = w.packet; verdict = v }) held.written mid.written to.written h.wrote wrote;
          counted = counted_more plan h.settled (record { packet = w.packet; verdict = v }) mid.counts to.counts h.counted count_is;
        }

-- a packet is taken
all_by_one : (new : Bool) (now : ℕ) (p : Read) → p.came.time ≡ now → AllBy now (cond new (p ∷ []) [])
all_by_one true now p e = (omega (arith, e), tt)
all_by_one false now p e = tt

pub written_taken : (plan : Plan) (start : ℕ) (taken : List Read) (now : ℕ) (old new : Merging) (p : Read) (held to : Sink) →
    HasWritten plan start taken now old held to → TakesIn old p new → p.came.time ≡ now →
    HasWritten plan start (taken ++ p ∷ []) now new held to
written_taken plan start taken now old new p held to h takes time =
    let time_of = p.came.time in
    let frame = p.came.frame in
    let fresh = is_new old.sources time_of frame in
    let e = with_all_more (record { sources = []; waiting = []; untold = 0 }) taken p in
    let split = taken_behind fresh p h.gone old.waiting in
    let list : packets_in new.waiting ≡ packets_in old.waiting ++ cond fresh (p ∷ []) [] =
    ap packets_in takes.waiting ∙ waits_list fresh p old.waiting in
    let known : AreSettled (IsKnown now) split.0 (packets_in old.waiting) h.settled = elim split.2 [
      | inl same ↦ subst (λ l. AreSettled (IsKnown now) l (packets_in old.waiting) h.settled) (sym same) h.known
      | inr (at, same) ↦ subst (λ l. AreSettled (IsKnown now) l (packets_in old.waiting) h.settled)
          (sym (same ∙ ap (λ t. meet t at h.gone) time)) (settled_met now at h.gone (packets_in old.waiting) h.settled h.known)
    ] in
    record {
      gone = split.0;
      settled = h.settled;
      sources = ap (λ m. m.sources) e ∙ ap (λ s. sources_told s time_of frame) h.sources ∙ sym takes.sources;
      untold = ap (λ m. m.untold) e
          ∙ ap (λ s. untold_after s time_of frame (kept_of_all taken).untold) h.sources
          ∙ ap (untold_after old.sources time_of frame) h.untold
          ∙ sym takes.untold;
      waiting = ap (λ m. m.waiting) e
          ∙ ap (λ s. waiting_behind (is_new s time_of frame) p (kept_of_all taken).waiting) h.sources
          ∙ ap (waiting_behind fresh p) h.waiting
          ∙ split.1
          ∙ ap (λ l. split.0 ++ l) (sym takes.waiting);
      early = subst (AllBy now) (sym list) (all_more now (packets_in old.waiting) (cond fresh (p ∷ []) []) h.early (all_by_one fresh now p time));
      known = subst (λ l. AreSettled (IsKnown now) split.0 l h.settled) (sym list)
          (settled_grown (IsKnown now) (known_grown now) split.0 (packets_in old.waiting) (cond fresh (p ∷ []) []) h.settled known);
      wrote = h.wrote;
      counted = h.counted;
    }

-- no more will come
known_whole : (now : ℕ) (w : Pending) (ps : List Read) (v : Option Verdict) → IsKnown now w ps v → IsVerdict None w ps v
known_whole now w ps v (inl h) = inl (h.2 ∙ sym (verdict_last now w h.0 h.1))
known_whole now w ps v (inr h) = inr h

known_until : (now late : ℕ) → now ≤ late → (w : Pending) (ps : List Read) (v : Option Verdict) → IsKnown now w ps v → IsVerdict (Some late) w ps v
known_until now late le w ps v (inl h) = inl (h.2 ∙ sym (verdict_stays now late w h.0 le h.1))
known_until now late le w ps v (inr h) = inr h

verdicts_known : (until : Option ℕ) (now : ℕ) → IfSome until (λ late. now ≤ late) → (gone : List Pending) (ps : List Read) (xs : List Settled) →
    AreSettled (IsKnown now) gone ps xs → AreSettled (IsVerdict until) gone ps xs
verdicts_known None now le gone ps xs h = settled_weaker (IsKnown now) (IsVerdict None) (known_whole now) gone ps xs h
verdicts_known (Some late) now le gone ps xs h = settled_weaker (IsKnown now) (IsVerdict (Some late)) (known_until now late le) gone ps xs h

pub ended_from : (plan : Plan) (start : ℕ) (taken : List Read) (until : Option ℕ) (now : ℕ) (m : Merging) (held to : Sink) →
    IfSome until (λ late. now ≤ late) → HasWritten plan start taken now m held to → HasEnded plan start taken until m.waiting held to
ended_from plan start taken until now m held to le h = record {
  gone = h.gone;
  settled = h.settled;
  all = h.waiting;
  verdicts = verdicts_known until now le h.gone (packets_in m.waiting) h.settled h.known;
  wrote = h.wrote;
  counted = h.counted;
}

-- the first packet that waits is written
pub ended_next : (plan : Plan) (start : ℕ) (taken : List Read) (until : Option ℕ) (old new : List Pending) (w : Pending) (v : Option Verdict)
    (held mid to : Sink) → HasEnded plan start taken until old held mid → next_written old ≡ Some w → new ≡ drop 1 old →
    v ≡ verdict_until until w → Appends mid.written to.written (written_piece plan start v w.packet) →
    to.counts ≡ counted_one plan (record { packet = w.packet; verdict = v }) mid.counts → HasEnded plan start taken until new held to
ended_next plan start taken until old new w v held mid to h first rest is wrote count_is = by old refl first
  where
    by : (l : List Pending) → old ≡ l → next_written l ≡ Some w → HasEnded plan start taken until new held to
    by [] e first = cc
    by (u ∷ us) e first =
        let front : u ∷ us ≡ w ∷ us = ap (λ k. k ∷ us) (same_Some u w first) in
        let left : new ≡ us = rest ∙ ap (drop 1) e in
        let known = subst (λ l. AreSettled (IsVerdict until) h.gone (packets_in l) h.settled) (e ∙ front) h.verdicts in
        record {
          gone = h.gone ++ w ∷ [];
          settled = h.settled ++ record { packet = w.packet; verdict = v } ∷ [];
          all = h.all ∙ ap (λ l. h.gone ++ l) (e ∙ front) ∙ sym (append_assoc h.gone (w ∷ []) us) ∙ ap (λ l. (h.gone ++ w ∷ []) ++ l) (sym left);
          verdicts = subst (λ l. AreSettled (IsVerdict until) (h.gone ++ w ∷ []) (packets_in l) (h.settled ++ record { packet = w.packet; verdict = v } ∷ []))
              (sym left) (settled_more (IsVerdict until) h.gone w (packets_in us) h.settled (record { packet = w.packet; verdict = v }) known refl (inl is));
          wrote = wrote_more plan start h.settled (record { packet = w.packet; verdict = v }) held.written mid.written to.written h.wrote wrote;
          counted = counted_more plan h.settled (record { packet = w.packet; verdict = v }) mid.counts to.counts h.counted count_is;
        }
