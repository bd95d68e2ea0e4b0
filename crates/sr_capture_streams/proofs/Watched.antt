-- The messages of the packets of captures, one by one.
use Rattle.std.proofs.Common.{◌+◌, ◌^◌, ◌<◌, List, [], ◌∷◌, ◌++◌, length, refl, sym, ap, ◌∙◌, subst, arith, length-append, append_assoc}
use Rattle.std.proofs.lemmas.Fn.{chained_keeps}
use Rattle.std.proofs.lemmas.List.{append-nil}
use Rattle.sr_capture.specs.Records.{Captured, Shows}
use Rattle.sr_capture.specs.declared.packet.Packet.{Packet}
use Rattle.sr_capture_script.specs.declared.choice.Choice.{Choice}
use Rattle.sr_capture_script.specs.declared.passing.Place.{Place}
use Rattle.sr_capture_script.specs.Merging.{Feed}
use Rattle.sr_capture_script.specs.Passing.{Handed, wanted, IsHandedAs, TakesWanted}
use Rattle.sr_frame.specs.declared.fields.Mac.{Mac}
use Rattle.sr_streams.specs.Messages.{Said}
use Rattle.sr_streams.specs.Tables.{MessageSent, AreStreamsOf}
use Rattle.sr_capture_streams.specs.declared.watching.StreamWatch.{StreamWatch}
use Rattle.sr_capture_streams.specs.Watching.{SaysOfStream, SaysNothing, IsSentIn, message, no_message, AreSentIn, WatchesMore, AreStreamsOfAll}

-- a packet more
sent_more : (xs : List Handed) (sent : List MessageSent) (x : Handed) (own : List MessageSent) → AreSentIn xs sent → IsSentIn x own → AreSentIn (xs ++ x ∷ []) (own ++ sent)
sent_more [] sent x own h is = (own, [], ap (λ l. own ++ l) h ∙ append-nil own, is, refl)
sent_more (y ∷ ys) sent x own h is =
    (h.0, own ++ h.1, ap (λ l. own ++ l) h.2 ∙ sym (append_assoc own h.1 h.0), h.3, sent_more ys h.1 x own h.4 is)

-- a packet that says nothing of a stream
pub watched_none : (place : Place) (shown : Packet) (x : Handed) (old : StreamWatch) → IsHandedAs place shown x →
    ((captured : Captured) → Shows shown captured → SaysNothing captured) → WatchesMore x old old
watched_none place shown x old is nothing = record { own = []; is_own = no_message (nothing x.packet is.shows) refl; takes = λ sent few h. h }

-- a message
pub watched_one : (place : Place) (shown : Packet) (x : Handed) (old new : StreamWatch) (src : Mac) (says : Said) → IsHandedAs place shown x →
    ((captured : Captured) → Shows shown captured → SaysOfStream captured src says) →
    ((sent : List MessageSent) → length sent + 1 < 2 ^ 64 → AreStreamsOf sent old.streams → AreStreamsOf (record { src = src; says = says; time = place.time } ∷ sent) new.streams) →
    WatchesMore x old new
watched_one place shown x old new src says is said noted =
    let own : List MessageSent = record { src = src; says = says; time = x.time } ∷ [] in
    record {
      own = own;
      is_own = message src says (said x.packet is.shows) refl;
      takes = λ sent few h. subst (λ t. AreStreamsOf (record { src = src; says = says; time = t } ∷ sent) new.streams) (sym is.time) (noted sent (omega (arith, few)) h);
    }

-- all packets were watched
pub watched_all : (choice : Choice) (x y z : Feed) (old new : StreamWatch) → AreStreamsOf [] old.streams →
    TakesWanted (λ o h n. WatchesMore h o n) choice x y z old new → AreStreamsOfAll choice x y z new.streams
watched_all choice x y z old new none all =
    let end = chained_keeps (λ o h n. WatchesMore h o n)
    (λ xs w. (sent : List MessageSent) × AreSentIn xs sent × (length sent < 2 ^ 64 → AreStreamsOf sent w.streams))
    (λ xs q h v is took. (
      took.own ++ is.0,
      sent_more xs is.0 h took.own is.1 took.is_own,
      λ few. took.takes is.0 few (is.2 (omega (arith, few, length-append took.own is.0))),
    ))
    (wanted choice all.merged) old new ([], refl, λ few. none) all.taken in
    record { merged = all.merged; came = all.came; sent = end.0; are_sent = end.1; of_all = end.2 }
