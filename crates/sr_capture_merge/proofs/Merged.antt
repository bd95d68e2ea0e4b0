-- The packets of captures, from the first one to the file.
use Rattle.std.proofs.Common.{◌≡◌, ◌≢◌, ℕ, ◌+◌, ◌-◌, ◌^◌, ◌/◌, ◌<◌, ◌≤◌, length, Result, Ok, Err, Bool, true, false, List, [], ◌∷◌, ◌++◌, Option, None, Some, refl, sym, ap, ◌∙◌, subst, arith, inl, inr}
use Rattle.std.specs.Prelude.{IfSome, IfNone, OnOk, IfErr}
use Rattle.std.specs.List.{flat_map}
use Rattle.std.specs.Io.KnownBytes.{Appends}
use Rattle.std.proofs.KnownBytes.{Appends-trans}
use Rattle.std.proofs.lemmas.List.{append-nil}
use Rattle.std.proofs.lemmas.List.Concat.{flat_map-append}
use Rattle.std.proofs.lemmas.Bool.Decides.{nat_tests}
use Rattle.sr_sequence.specs.declared.Seq.{Seq}
use Rattle.sr_forwarding.specs.declared.fault.ReadFault.{ReadFault}
use Rattle.sr_forwarding.specs.Parcels.{ParcelImage}
use Rattle.sr_audit.specs.declared.side.Side.{Side}
use Rattle.sr_capture.specs.Limits.{longest_kept}
use Rattle.sr_capture.specs.declared.packet.Extent.{Extent}
use Rattle.sr_capture.specs.declared.packet.Extent.TheVariants.{Whole, Cut}
use Rattle.sr_capture.specs.declared.packet.Packet.{Packet}
use Rattle.sr_capture.specs.declared.fault.CaptureFault.{CaptureFault}
use Rattle.sr_capture_script.specs.Captures.{file_at, IsDueFirst, HasNoFront, Advances, StopsAt, KeepsOthers}
use Rattle.sr_capture_script.specs.Coming.{StartsAt, last_time}
use Rattle.sr_capture_script.specs.declared.captures.Captures.{Captures}
use Rattle.sr_capture_script.specs.declared.captures.Front.{Front}
use Rattle.sr_capture_script.specs.declared.choice.Choice.{Choice}
use Rattle.sr_capture_script.specs.declared.choice.Inlet.{Inlet}
use Rattle.sr_capture_script.specs.declared.choice.Inlet.TheVariants.{A, B, C}
use Rattle.sr_capture_script.specs.declared.fault.ScriptFault.{ScriptFault}
use Rattle.sr_capture_script.specs.declared.fault.ScriptFault.TheVariants.{File, Write, NoMemory, Endless}
use Rattle.sr_capture_script.specs.Items.{Item}
use Rattle.sr_capture_script.specs.Merging.{Feed, feed_of}
use Rattle.sr_capture_script.specs.Sources.{left_of}
use Rattle.sr_capture_script.specs.SourceViews.{IsFed}
use Rattle.sr_capture_script.specs.Texts.{is_wanted, time_since}
use Rattle.sr_capture_script.proofs.Going.{length_more}
use Rattle.sr_capture_script.proofs.Coming.{come_none, came_to, comes_first, stops_first, all_came, not_early, last_more, starts_more, none_behind}
use Rattle.sr_pcapng.specs.Writing.{packet_block, file_head}
use Rattle.sr_merge.specs.Due.{due}
use Rattle.sr_merge.specs.Merging.{Read, Pending, Merging, TakesIn}
use Rattle.sr_merge.specs.Verdicts.{kept_of_all}
use Rattle.sr_capture_merge.specs.declared.plan.Plan.{Plan}
use Rattle.sr_capture_merge.specs.Entries.{names_of, entry_of, entry_block, piece_by, is_shown, written_piece}
use Rattle.sr_capture_merge.specs.Remarks.{remark_of}
use Rattle.sr_capture_merge.specs.Settling.{Settled, AreSettled, IsVerdict}
use Rattle.sr_capture_merge.specs.declared.plan.Spelling.{Spelling}
use Rattle.sr_capture_merge.specs.Reading.{side_at, frame_read, packet_read, IsPacketRead, IsReadIf, is_whole, was_cut, is_long, AreRead}
use Rattle.sr_capture_merge.specs.Files.{entries_by, entries_one, merged_entries, merged_file, merged_body, Sink, sink, HasWritten, HasEnded, IsStop, WritesOn, TakesOn, EndsOn, EndsBy}
use Rattle.sr_capture_merge.specs.Counted.{AreCountsOf, AreLeftOut}
use Rattle.sr_capture_merge.specs.Counting.{CountsLeftOut, more}
use Rattle.sr_capture_merge.specs.declared.counts.Counts.{Counts}
use Rattle.sr_capture_merge.specs.Merged.{IsMerging, HasStopped, MergesOn, MergesAll, MergesUntil, IsFileOf, IsFrontOf, whole, broken, IsMerged, IsMergedUpTo}
use Rattle.sr_capture_merge.proofs.Counted.{untold_left, left_out_kept}
use Rattle.sr_capture_merge.proofs.Settled.{written_none, written_left, written_later, written_taken, ended_from}
use Rattle.sr_capture_merge.proofs.Items.{read_more, item_read, item_unwanted, left_out_shown, left_out_unwanted}

-- a file is its head and the pieces of its packets
piece_is : (start early : ℕ) (comment : List ℕ) (p : Read) (shown : Bool) →
    flat_map packet_block (entries_by shown (entry_of start early comment p)) ≡ piece_by shown start early comment p
unfolding entry_block
piece_is start early comment p true = append-nil (packet_block (entry_of start early comment p))
piece_is start early comment p false = refl

one_is : (plan : Plan) (start : ℕ) (x : Settled) →
    flat_map packet_block (entries_one plan start x) ≡ written_piece plan start x.verdict x.packet
one_is plan start x =
    let comment = remark_of plan.network x.verdict x.packet in
    piece_is start plan.early comment x.packet (is_shown plan.scope comment)

body_is : (plan : Plan) (start : ℕ) (xs : List Settled) →
    flat_map packet_block (flat_map (entries_one plan start) xs) ≡ flat_map (λ x. written_piece plan start x.verdict x.packet) xs
body_is plan start [] = refl
body_is plan start (x ∷ xs) =
    flat_map-append packet_block (entries_one plan start x) (flat_map (entries_one plan start) xs)
    ∙ ap (λ l. l ++ flat_map packet_block (flat_map (entries_one plan start) xs)) (one_is plan start x)
    ∙ ap (λ l. written_piece plan start x.verdict x.packet ++ l) (body_is plan start xs)

file_is : (plan : Plan) (start : ℕ) (xs : List Settled) → merged_file plan start xs ≡ file_head (names_of plan.network) ++ merged_body plan start xs
unfolding merged_file merged_body merged_entries
file_is plan start xs = ap (λ l. file_head (names_of plan.network) ++ l) (body_is plan start xs)

file_wrote : (plan : Plan) (start : ℕ) (xs : List Settled) (held mid to : Option (List ℕ)) → Appends held mid (file_head (names_of plan.network)) →
    Appends mid to (merged_body plan start xs) → Appends held to (merged_file plan start xs)
file_wrote plan start xs held mid to head body =
    subst (Appends held to) (sym (file_is plan start xs))
    (Appends-trans held mid to (file_head (names_of plan.network)) (merged_body plan start xs) head body)

module _ {R : Type 0} (remaining : R → Option (List ℕ)) (choice : Choice) (plan : Plan) (start : ℕ) where
  -- nothing came yet
  pub merging_none : (a b c : Option (List ℕ)) (all : Captures R) (first : Option Front) (m : Merging) (held : Sink) →
      IsFed remaining A a all.a [] → IsFed remaining B b all.b [] → IsFed remaining C c all.c [] → IfSome first (λ front. IsDueFirst all front) →
      IfNone first (HasNoFront all) → IfSome first (λ front. front.moment ≡ start) → m.sources ≡ [] → m.waiting ≡ [] → m.untold ≡ 0 →
      AreCountsOf plan [] held.counts → held.counts.cut ≡ 0 → held.counts.long ≡ 0 →
      IsMerging remaining choice plan start (feed_of all.a a) (feed_of all.b b) (feed_of all.c c) all first 0 m held held
  merging_none a b c all first m held fed_a fed_b fed_c due none at sources waiting untold uncounted cut long = record {
    out = [];
    come = come_none remaining a b c all fed_a fed_b fed_c;
    ahead = record { due = due; none = none; first = λ e. at };
    starts = tt;
    time = refl;
    taken = [];
    read = refl;
    written = written_none plan start m held sources waiting untold uncounted;
    left_out = record { cut = cut; long = long };
  }

  -- a packet that is wanted
  pub merging_taken : (before after : Captures R) (front : Front) (now : ℕ) (old new : Merging) (mid to : Sink) →
      is_wanted choice (time_since start front.moment) ≡ true →
      TakesOn plan start (side_at front.inlet) front.number (front.moment - start) (file_at front.inlet before).packet old new mid to →
      Advances remaining (file_at front.inlet before) (file_at front.inlet after) → KeepsOthers front.inlet before after →
      MergesOn remaining choice plan start before after front now (front.moment - start) old new mid to
  merging_taken before after front now old new mid to wanted takes goes others x y z held h next due none =
      let more = comes_first remaining x y z before after front h.out h.ahead.due goes others h.come in
      let early = not_early remaining x y z before front start h.out h.ahead.due h.come in
      let le : now ≤ front.moment - start = subst (λ t. t ≤ front.moment - start) (sym h.time) early in
      let own = takes.on h.taken now held le h.written in (
        record {
          out = h.out ++ more.item ∷ [];
          come = more.come;
          ahead = record { due = due; none = none; first = λ e. absurd (none_behind h.out more.item e) };
          starts = starts_more start h.out more.item h.starts (λ e. more.when ∙ h.ahead.first e);
          time = sym (last_more start 0 h.out more.item ∙ ap (λ m. m - start) more.when);
          taken = h.taken ++ own.0;
          read = read_more choice plan start h.out h.taken more.item own.0 h.read
              (item_read choice plan start front.number front.inlet front.moment (file_at front.inlet before).packet more.item own.0 wanted
              more.at more.when more.number more.shown own.1);
          written = own.2;
          left_out = left_out_shown choice start h.out front.moment (file_at front.inlet before).packet more.item mid.counts to.counts wanted
              more.when more.shown h.left_out takes.left_out;
        },
        length_more h.out more.item,
      )

  -- one that is not
  pub merging_passed : (before after : Captures R) (front : Front) (now : ℕ) (m : Merging) (to : Sink) →
      is_wanted choice (time_since start front.moment) ≡ false →
      Advances remaining (file_at front.inlet before) (file_at front.inlet after) → KeepsOthers front.inlet before after →
      MergesOn remaining choice plan start before after front now (front.moment - start) m m to to
  merging_passed before after front now m to unwanted goes others x y z held h next due none =
      let more = comes_first remaining x y z before after front h.out h.ahead.due goes others h.come in
      let early = not_early remaining x y z before front start h.out h.ahead.due h.come in
      let le : now ≤ front.moment - start = subst (λ t. t ≤ front.moment - start) (sym h.time) early in (
        record {
          out = h.out ++ more.item ∷ [];
          come = more.come;
          ahead = record { due = due; none = none; first = λ e. absurd (none_behind h.out more.item e) };
          starts = starts_more start h.out more.item h.starts (λ e. more.when ∙ h.ahead.first e);
          time = sym (last_more start 0 h.out more.item ∙ ap (λ m. m - start) more.when);
          taken = h.taken;
          read = subst (λ l. AreRead choice plan start (h.out ++ more.item ∷ []) l) (append-nil h.taken)
              (read_more choice plan start h.out h.taken more.item [] h.read
              (item_unwanted choice plan start front.moment more.item unwanted more.when));
          written = written_later plan start h.taken now (front.moment - start) m held to le h.written;
          left_out = left_out_unwanted choice start h.out front.moment more.item to.counts unwanted more.when h.left_out;
        },
        length_more h.out more.item,
      )

  -- a fault while it was taken
  pub merging_refused : (before : Captures R) (front : Front) (fault : ScriptFault) (now later : ℕ) (old new : Merging) (mid to : Sink) →
      fault ≢ Write → IsStop fault (WritesOn plan start (front.moment - start) old new mid to) →
      MergesUntil remaining choice plan start before (Some front) fault now later old new mid to
  merging_refused before front Write now later old new mid to other stop x y z held h = absurd (other refl)
  merging_refused before front (File inlet fault) now later old new mid to other stop x y z held h = absurd stop
  merging_refused before front Endless now later old new mid to other stop x y z held h = absurd stop
  merging_refused before front NoMemory now later old new mid to other stop x y z held h =
      let early = not_early remaining x y z before front start h.out h.ahead.due h.come in
      let le : now ≤ front.moment - start = subst (λ t. t ≤ front.moment - start) (sym h.time) early in
      record {
        out = h.out;
        came = came_to remaining x y z before NoMemory h.out h.come refl refl refl tt;
        starts = h.starts;
        taken = h.taken;
        read = h.read;
        by = front.moment - start;
        time = tt;
        written = stop.on h.taken now held le h.written;
        left_out = left_out_kept choice start h.out mid.counts to.counts h.left_out stop.left_out;
      }

  -- a fault of its file behind it
  pub merging_stuck_taken : (before after : Captures R) (front : Front) (fault : ScriptFault) (now : ℕ) (old new : Merging) (mid to : Sink) →
      is_wanted choice (time_since start front.moment) ≡ true →
      TakesOn plan start (side_at front.inlet) front.number (front.moment - start) (file_at front.inlet before).packet old new mid to →
      StopsAt remaining front.inlet (file_at front.inlet before) (file_at front.inlet after) fault →
      MergesUntil remaining choice plan start before (Some front) fault now (front.moment - start) old new mid to
  merging_stuck_taken before after front fault now old new mid to wanted takes stops x y z held h =
      let last = stops_first remaining x y z before front stops.0 (left_of remaining (file_at front.inlet after).reader) h.out h.ahead.due stops.2 h.come in
      let early = not_early remaining x y z before front start h.out h.ahead.due h.come in
      let le : now ≤ front.moment - start = subst (λ t. t ≤ front.moment - start) (sym h.time) early in
      let own = takes.on h.taken now held le h.written in
      let stopped : HasStopped choice plan start x y z (File front.inlet stops.0) (front.moment - start) new held to = record {
        out = h.out ++ last.item ∷ [];
        came = last.came;
        starts = starts_more start h.out last.item h.starts (λ e. last.when ∙ h.ahead.first e);
        taken = h.taken ++ own.0;
        read = read_more choice plan start h.out h.taken last.item own.0 h.read
            (item_read choice plan start front.number front.inlet front.moment (file_at front.inlet before).packet last.item own.0 wanted
            last.at last.when last.number last.shows own.1);
        by = front.moment - start;
        time = (sym (last_more start 0 h.out last.item ∙ ap (λ m. m - start) last.when), refl);
        written = own.2;
        left_out = left_out_shown choice start h.out front.moment (file_at front.inlet before).packet last.item mid.counts to.counts wanted
            last.when last.shows h.left_out takes.left_out;
      } in
      subst (λ f. HasStopped choice plan start x y z f (front.moment - start) new held to) (sym stops.1) stopped

  pub merging_stuck_passed : (before after : Captures R) (front : Front) (fault : ScriptFault) (now : ℕ) (m : Merging) (to : Sink) →
      is_wanted choice (time_since start front.moment) ≡ false →
      StopsAt remaining front.inlet (file_at front.inlet before) (file_at front.inlet after) fault →
      MergesUntil remaining choice plan start before (Some front) fault now (front.moment - start) m m to to
  merging_stuck_passed before after front fault now m to unwanted stops x y z held h =
      let last = stops_first remaining x y z before front stops.0 (left_of remaining (file_at front.inlet after).reader) h.out h.ahead.due stops.2 h.come in
      let early = not_early remaining x y z before front start h.out h.ahead.due h.come in
      let le : now ≤ front.moment - start = subst (λ t. t ≤ front.moment - start) (sym h.time) early in
      let stopped : HasStopped choice plan start x y z (File front.inlet stops.0) (front.moment - start) m held to = record {
        out = h.out ++ last.item ∷ [];
        came = last.came;
        starts = starts_more start h.out last.item h.starts (λ e. last.when ∙ h.ahead.first e);
        taken = h.taken;
        read = subst (λ l. AreRead choice plan start (h.out ++ last.item ∷ []) l) (append-nil h.taken)
            (read_more choice plan start h.out h.taken last.item [] h.read
            (item_unwanted choice plan start front.moment last.item unwanted last.when));
        by = front.moment - start;
        time = (sym (last_more start 0 h.out last.item ∙ ap (λ m. m - start) last.when), refl);
        written = written_later plan start h.taken now (front.moment - start) m held to le h.written;
        left_out = left_out_unwanted choice start h.out front.moment last.item to.counts unwanted last.when h.left_out;
      } in
      subst (λ f. HasStopped choice plan start x y z f (front.moment - start) m held to) (sym stops.1) stopped

  -- the same of what a call was given and left
  pub pass_taken : (before after : Captures R) (front : Front) (now time : ℕ) (side : Side) (packet : Packet) (old made new : Merging)
      (mid wrote to : Sink) → time ≡ front.moment - start → side ≡ side_at front.inlet → packet ≡ (file_at front.inlet before).packet →
      new ≡ made → to ≡ wrote → is_wanted choice (time / 1000000) ≡ true →
      TakesOn plan start side front.number time packet old made mid wrote →
      Advances remaining (file_at front.inlet before) (file_at front.inlet after) → KeepsOthers front.inlet before after →
      MergesOn remaining choice plan start before after front now time old new mid to
  pass_taken before after front now time side packet old made new mid wrote to when at shown is done wanted takes goes others =
      let one = subst (λ t. TakesOn plan start side front.number t packet old made mid wrote) when takes in
      let two = subst (λ s. TakesOn plan start s front.number (front.moment - start) packet old made mid wrote) at one in
      let three = subst (λ p. TakesOn plan start (side_at front.inlet) front.number (front.moment - start) p old made mid wrote) shown two in
      let want : is_wanted choice (time_since start front.moment) ≡ true = ap (λ t. is_wanted choice (t / 1000000)) (sym when) ∙ wanted in
      subst (λ t. MergesOn remaining choice plan start before after front now t old new mid to) (sym when)
      (subst (λ m. MergesOn remaining choice plan start before after front now (front.moment - start) old m mid to) (sym is)
      (subst (λ o. MergesOn remaining choice plan start before after front now (front.moment - start) old made mid o) (sym done)
      (merging_taken before after front now old made mid wrote want three goes others)))

  pub pass_passed : (before after : Captures R) (front : Front) (now time : ℕ) (old new : Merging) (mid to : Sink) →
      time ≡ front.moment - start → new ≡ old → to ≡ mid → is_wanted choice (time / 1000000) ≡ false →
      Advances remaining (file_at front.inlet before) (file_at front.inlet after) → KeepsOthers front.inlet before after →
      MergesOn remaining choice plan start before after front now time old new mid to
  pass_passed before after front now time old new mid to when is done unwanted goes others =
      let want : is_wanted choice (time_since start front.moment) ≡ false = ap (λ t. is_wanted choice (t / 1000000)) (sym when) ∙ unwanted in
      subst (λ t. MergesOn remaining choice plan start before after front now t old new mid to) (sym when)
      (subst (λ m. MergesOn remaining choice plan start before after front now (front.moment - start) old m mid to) (sym is)
      (subst (λ o. MergesOn remaining choice plan start before after front now (front.moment - start) old old mid o) (sym done)
      (merging_passed before after front now old mid want goes others)))

  pub pass_refused : (before : Captures R) (front : Front) (fault : ScriptFault) (now later time : ℕ) (old new : Merging) (mid to : Sink) →
      time ≡ front.moment - start → fault ≢ Write → IsStop fault (WritesOn plan start time old new mid to) →
      MergesUntil remaining choice plan start before (Some front) fault now later old new mid to
  pass_refused before front fault now later time old new mid to when other stop =
      merging_refused before front fault now later old new mid to other (subst (λ t. IsStop fault (WritesOn plan start t old new mid to)) when stop)

  pub pass_stuck_taken : (before after : Captures R) (front : Front) (fault : ScriptFault) (now time : ℕ) (side : Side) (packet : Packet)
      (old made new : Merging) (mid wrote to : Sink) → time ≡ front.moment - start → side ≡ side_at front.inlet →
      packet ≡ (file_at front.inlet before).packet → new ≡ made → to ≡ wrote → is_wanted choice (time / 1000000) ≡ true →
      TakesOn plan start side front.number time packet old made mid wrote →
      StopsAt remaining front.inlet (file_at front.inlet before) (file_at front.inlet after) fault →
      MergesUntil remaining choice plan start before (Some front) fault now time old new mid to
  pass_stuck_taken before after front fault now time side packet old made new mid wrote to when at shown is done wanted takes stops =
      let one = subst (λ t. TakesOn plan start side front.number t packet old made mid wrote) when takes in
      let two = subst (λ s. TakesOn plan start s front.number (front.moment - start) packet old made mid wrote) at one in
      let three = subst (λ p. TakesOn plan start (side_at front.inlet) front.number (front.moment - start) p old made mid wrote) shown two in
      let want : is_wanted choice (time_since start front.moment) ≡ true = ap (λ t. is_wanted choice (t / 1000000)) (sym when) ∙ wanted in
      subst (λ t. MergesUntil remaining choice plan start before (Some front) fault now t old new mid to) (sym when)
      (subst (λ m. MergesUntil remaining choice plan start before (Some front) fault now (front.moment - start) old m mid to) (sym is)
      (subst (λ o. MergesUntil remaining choice plan start before (Some front) fault now (front.moment - start) old made mid o) (sym done)
      (merging_stuck_taken before after front fault now old made mid wrote want three stops)))

  pub pass_stuck_passed : (before after : Captures R) (front : Front) (fault : ScriptFault) (now time : ℕ) (old new : Merging) (mid to : Sink) →
      time ≡ front.moment - start → new ≡ old → to ≡ mid → is_wanted choice (time / 1000000) ≡ false →
      StopsAt remaining front.inlet (file_at front.inlet before) (file_at front.inlet after) fault →
      MergesUntil remaining choice plan start before (Some front) fault now time old new mid to
  pass_stuck_passed before after front fault now time old new mid to when is done unwanted stops =
      let want : is_wanted choice (time_since start front.moment) ≡ false = ap (λ t. is_wanted choice (t / 1000000)) (sym when) ∙ unwanted in
      subst (λ t. MergesUntil remaining choice plan start before (Some front) fault now t old new mid to) (sym when)
      (subst (λ m. MergesUntil remaining choice plan start before (Some front) fault now (front.moment - start) old m mid to) (sym is)
      (subst (λ o. MergesUntil remaining choice plan start before (Some front) fault now (front.moment - start) old old mid o) (sym done)
      (merging_stuck_passed before after front fault now old mid want stops)))

  -- there are more packets than are counted
  pub merging_endless : (x y z : Feed) (all : Captures R) (next : Option Front) (now : ℕ) (m : Merging) (held to : Sink) →
      (is : IsMerging remaining choice plan start x y z all next now m held to) → 2 ^ 64 - 1 ≤ length is.out →
      HasStopped choice plan start x y z Endless now m held to
  merging_endless x y z all next now m held to h many = record {
    out = h.out;
    came = came_to remaining x y z all Endless h.out h.come refl refl refl many;
    starts = h.starts;
    taken = h.taken;
    read = h.read;
    by = now;
    time = tt;
    written = h.written;
    left_out = h.left_out;
  }

-- it is counted that so many packets were taken as they came
abbrev pub told : ℕ → Sink → Sink
told untold to = sink to.written (record to.counts { untold = untold })

-- what waits is written, and the file is whole
file_ended : (choice : Choice) (plan : Plan) (start : ℕ) (items : List Item) (until : ℕ → Option ℕ) (taken : List Read) (untold : ℕ)
    (held : Option (List ℕ)) (mid to : Sink) → StartsAt start items → AreRead choice plan start items taken →
    Appends held mid.written (file_head (names_of plan.network)) → untold ≡ (kept_of_all taken).untold →
    HasEnded plan start taken (until (last_time start 0 items)) [] mid to → AreLeftOut choice start items to.counts →
    IsFileOf choice plan items until held (told untold to)
file_ended choice plan start items until taken untold held mid to starts read head is e left = record {
  start = start;
  starts = starts;
  taken = taken;
  read = read;
  settled = e.settled;
  verdicts = subst (λ l. AreSettled (IsVerdict (until (last_time start 0 items))) l [] e.settled) (sym (e.all ∙ append-nil e.gone)) e.verdicts;
  wrote = file_wrote plan start e.settled held mid.written to.written head e.wrote;
  counted = untold_left plan to.counts untold e.settled e.counted;
  untold = is;
  left_out = record { cut = left.cut; long = left.long };
}

front_ended : (choice : Choice) (plan : Plan) (start : ℕ) (items : List Item) (until : Option ℕ) (taken : List Read) (left : List Pending)
    (untold : ℕ) (held : Option (List ℕ)) (mid to : Sink) → StartsAt start items → AreRead choice plan start items taken →
    Appends held mid.written (file_head (names_of plan.network)) → untold ≡ (kept_of_all taken).untold →
    HasEnded plan start taken until left mid to → AreLeftOut choice start items to.counts → IsFrontOf choice plan items held (told untold to)
front_ended choice plan start items until taken left untold held mid to starts read head is e counted = record {
  start = start;
  starts = starts;
  taken = taken;
  read = read;
  gone = e.gone;
  left = left;
  parts = e.all;
  until = until;
  settled = e.settled;
  verdicts = e.verdicts;
  wrote = file_wrote plan start e.settled held mid.written to.written head e.wrote;
  counted = untold_left plan to.counts untold e.settled e.counted;
  untold = is;
  left_out = record { cut = counted.cut; long = counted.long };
}

-- all went well
pub merges_all : {R : Type 0} (remaining : R → Option (List ℕ)) (choice : Choice) (plan : Plan) (start : ℕ) (x y z : Feed) (all : Captures R) (now : ℕ)
    (m : Merging) (untold : ℕ) (held : Option (List ℕ)) (mid late to : Sink) → Appends held mid.written (file_head (names_of plan.network)) →
    untold ≡ m.untold → IsMerging remaining choice plan start x y z all None now m mid late → EndsOn plan start None m.waiting [] late to →
    IsMerged choice plan x y z held (told untold to)
merges_all remaining choice plan start x y z all now m untold held mid late to head is h ends =
    record {
      merged = h.out;
      came = all_came remaining x y z all h.out h.come h.ahead.none;
      file = file_ended choice plan start h.out whole h.taken untold held mid to h.starts h.read head (is ∙ sym h.written.untold)
          (ends.on h.taken mid (ended_from plan start h.taken None now m mid late tt h.written))
          (left_out_kept choice start h.out late.counts to.counts h.left_out ends.left_out);
    }

-- memory is refused behind the last packet
pub halts_last : {R : Type 0} (remaining : R → Option (List ℕ)) (choice : Choice) (plan : Plan) (start : ℕ) (x y z : Feed) (all : Captures R) (now : ℕ)
    (m : Merging) (untold : ℕ) (fault : ScriptFault) (held : Option (List ℕ)) (mid late to : Sink) → Appends held mid.written (file_head (names_of plan.network)) →
    fault ≢ Write → untold ≡ m.untold → IsMerging remaining choice plan start x y z all None now m mid late →
    IsStop fault ((left : List Pending) × EndsOn plan start None m.waiting left late to) → IsMergedUpTo choice plan x y z fault held (told untold to)
halts_last remaining choice plan start x y z all now m untold Write held mid late to head other is h ends = absurd (other refl)
halts_last remaining choice plan start x y z all now m untold (File inlet fault) held mid late to head other is h ends = absurd ends
halts_last remaining choice plan start x y z all now m untold Endless held mid late to head other is h ends = absurd ends
halts_last remaining choice plan start x y z all now m untold NoMemory held mid late to head other is h ends = record {
  own = NoMemory;
  merged = h.out;
  came = came_to remaining x y z all NoMemory h.out h.come refl refl refl tt;
  file = front_ended choice plan start h.out None h.taken ends.0 untold held mid to h.starts h.read head (is ∙ sym h.written.untold)
      (ends.1.on h.taken mid (ended_from plan start h.taken None now m mid late tt h.written))
      (left_out_kept choice start h.out late.counts to.counts h.left_out ends.1.left_out);
}

-- a fault before the end: of memory, of counting, or of a file
front_stopped : (choice : Choice) (plan : Plan) (start : ℕ) (x y z : Feed) (own : ScriptFault) (now : ℕ) (m : Merging) (untold : ℕ)
    (held : Option (List ℕ)) (mid late : Sink) → Appends held mid.written (file_head (names_of plan.network)) → untold ≡ m.untold →
    (h : HasStopped choice plan start x y z own now m mid late) → IsFrontOf choice plan h.out held (told untold late)
front_stopped choice plan start x y z own now m untold held mid late head is h =
    let le : h.by ≤ h.by = omega arith in
    front_ended choice plan start h.out (Some h.by) h.taken m.waiting untold held mid late h.starts h.read head (is ∙ sym h.written.untold)
    (ended_from plan start h.taken (Some h.by) h.by m mid late le h.written) h.left_out

broken_file : (choice : Choice) (plan : Plan) (start : ℕ) (x y z : Feed) (inlet : Inlet) (own : CaptureFault) (fault : ScriptFault) (now : ℕ) (m : Merging)
    (untold : ℕ) (held : Option (List ℕ)) (mid late to : Sink) → Appends held mid.written (file_head (names_of plan.network)) → fault ≢ Write →
    untold ≡ m.untold → HasStopped choice plan start x y z (File inlet own) now m mid late →
    EndsBy (File inlet own) fault plan start now m.waiting late to → IsMergedUpTo choice plan x y z fault held (told untold to)
broken_file choice plan start x y z inlet own fault now m untold held mid late to head other same h ends =
    let le : h.by ≤ now = subst (λ t. h.by ≤ t) h.time.1 (omega arith) in
    let from = ended_from plan start h.taken (Some now) h.by m mid late le h.written in
    elim ends [
      | inl (is, ended) ↦
          let e : HasEnded plan start h.taken (broken (last_time start 0 h.out)) [] mid to =
          subst (λ t. HasEnded plan start h.taken (Some t) [] mid to) h.time.0 (ended.on h.taken mid from) in
          let done : IsMergedUpTo choice plan x y z (File inlet own) held (told untold to) = record {
            own = File inlet own;
            merged = h.out;
            came = h.came;
            file = (
              refl,
              file_ended choice plan start h.out broken h.taken untold held mid to h.starts h.read head (same ∙ sym h.written.untold) e
                  (left_out_kept choice start h.out late.counts to.counts h.left_out ended.left_out),
            );
          } in
          subst (λ f. IsMergedUpTo choice plan x y z f held (told untold to)) (sym is) done
      | inr stop ↦ by fault other stop
    ]
  where
    by : (f : ScriptFault) → f ≢ Write → IsStop f ((left : List Pending) × EndsOn plan start (Some now) m.waiting left late to) →
        IsMergedUpTo choice plan x y z f held (told untold to)
    by Write other stop = absurd (other refl)
    by (File i f) other stop = absurd stop
    by Endless other stop = absurd stop
    by NoMemory other stop =
        let le : h.by ≤ now = subst (λ t. h.by ≤ t) h.time.1 (omega arith) in record {
          own = File inlet own;
          merged = h.out;
          came = h.came;
          file = front_ended choice plan start h.out (Some now) h.taken stop.0 untold held mid to h.starts h.read head (same ∙ sym h.written.untold)
              (stop.1.on h.taken mid (ended_from plan start h.taken (Some now) h.by m mid late le h.written))
              (left_out_kept choice start h.out late.counts to.counts h.left_out stop.1.left_out);
        }

pub halts_stopped : (choice : Choice) (plan : Plan) (start : ℕ) (x y z : Feed) (own fault : ScriptFault) (now : ℕ) (m : Merging) (untold : ℕ)
    (held : Option (List ℕ)) (mid late to : Sink) → Appends held mid.written (file_head (names_of plan.network)) → fault ≢ Write →
    untold ≡ m.untold → (own ≢ Write → HasStopped choice plan start x y z own now m mid late) →
    EndsBy own fault plan start now m.waiting late to → IsMergedUpTo choice plan x y z fault held (told untold to)
halts_stopped choice plan start x y z (File inlet own) fault now m untold held mid late to head other is h ends =
    broken_file choice plan start x y z inlet own fault now m untold held mid late to head other is (h (λ e. cc)) ends
halts_stopped choice plan start x y z Write fault now m untold held mid late to head other is h ends = absurd (other ends.0)
halts_stopped choice plan start x y z NoMemory fault now m untold held mid late to head other is h ends =
    let s = h (λ e. cc) in
    let done : IsMergedUpTo choice plan x y z NoMemory held (told untold late) = record {
      own = NoMemory;
      merged = s.out;
      came = s.came;
      file = front_stopped choice plan start x y z NoMemory now m untold held mid late head is s;
    } in
    subst (λ f. IsMergedUpTo choice plan x y z f held (told untold to)) (sym ends.0)
    (subst (λ o. IsMergedUpTo choice plan x y z NoMemory held (told untold o)) (sym ends.1) done)
halts_stopped choice plan start x y z Endless fault now m untold held mid late to head other is h ends =
    let s = h (λ e. cc) in
    let done : IsMergedUpTo choice plan x y z Endless held (told untold late) = record {
      own = Endless;
      merged = s.out;
      came = s.came;
      file = front_stopped choice plan start x y z Endless now m untold held mid late head is s;
    } in
    subst (λ f. IsMergedUpTo choice plan x y z f held (told untold to)) (sym ends.0)
    (subst (λ o. IsMergedUpTo choice plan x y z Endless held (told untold o)) (sym ends.1) done)

-- the same was written and counted
pub sink_is : (w v : Option (List ℕ)) (c d : Counts) → w ≡ v → c ≡ d → sink w c ≡ sink v d
sink_is w v c d e f = cc

-- what follows where the writing stops
pub stops_so : (fault : ScriptFault) {P Q : Type 0} → (P → Q) → IsStop fault P → IsStop fault Q
stops_so Write f s = tt
stops_so NoMemory f s = f s
stops_so (File inlet fault) f s = absurd s
stops_so Endless f s = absurd s

-- a fault of the writing hands on what it left
pub stopped_whole : {T : Type 0} (taken : Result T ScriptFault) (x : T) (fault : ScriptFault) (plan : Plan) (start now : ℕ) (old left : List Pending)
    (mid to : Sink) → taken ≡ Ok x → IsStop fault (EndsOn plan start None old left mid to) →
    OnOk taken (IsStop fault ((l : List Pending) × EndsOn plan start None old l mid to))
    × IfErr taken (λ own. EndsBy own fault plan start now old mid to)
stopped_whole taken x fault plan start now old left mid to e stop =
    subst (λ r. OnOk r (IsStop fault ((l : List Pending) × EndsOn plan start None old l mid to))
    × IfErr r (λ own. EndsBy own fault plan start now old mid to)) (sym e) (by fault stop, tt)
  where
    by : (f : ScriptFault) → IsStop f (EndsOn plan start None old left mid to) → IsStop f ((l : List Pending) × EndsOn plan start None old l mid to)
    by Write s = tt
    by NoMemory s = (left, s)
    by (File i f) s = absurd s
    by Endless s = absurd s

pub broken_stop : (own fault : ScriptFault) (inlet : Inlet) (at : CaptureFault) (plan : Plan) (start now : ℕ) (old left : List Pending)
    (mid to : Sink) → own ≡ File inlet at → IsStop fault (EndsOn plan start (Some now) old left mid to) →
    EndsBy own fault plan start now old mid to
broken_stop own fault inlet at plan start now old left mid to e stop =
    subst (λ o. EndsBy o fault plan start now old mid to) (sym e) (inr (by fault stop))
  where
    by : (f : ScriptFault) → IsStop f (EndsOn plan start (Some now) old left mid to) →
        IsStop f ((l : List Pending) × EndsOn plan start (Some now) old l mid to)
    by Write s = tt
    by NoMemory s = (left, s)
    by (File i f) s = absurd s
    by Endless s = absurd s

pub broken_done : (own : ScriptFault) (inlet : Inlet) (at : CaptureFault) (plan : Plan) (start now : ℕ) (old : List Pending)
    (mid to : Sink) → own ≡ File inlet at → EndsOn plan start (Some now) old [] mid to → EndsBy own own plan start now old mid to
broken_done own inlet at plan start now old mid to e ends =
    subst (λ o. EndsBy o own plan start now old mid to) (sym e) (inl (e, ends))

pub broken_by : {T : Type 0} (taken : Result T ScriptFault) (own fault : ScriptFault) (plan : Plan) (start now : ℕ) (old : List Pending)
    (mid to : Sink) → taken ≡ Err own → EndsBy own fault plan start now old mid to →
    OnOk taken (IsStop fault ((l : List Pending) × EndsOn plan start None old l mid to))
    × IfErr taken (λ own. EndsBy own fault plan start now old mid to)
broken_by taken own fault plan start now old mid to e ends =
    subst (λ r. OnOk r (IsStop fault ((l : List Pending) × EndsOn plan start None old l mid to))
    × IfErr r (λ own. EndsBy own fault plan start now old mid to)) (sym e) (tt, ends)

-- a packet that is left out, and one that is taken
pub left_out : (plan : Plan) (start : ℕ) (side : Side) (number time : ℕ) (packet : Packet) (m : Merging) (to later : Sink) →
    is_whole packet.extent packet.len ≡ false → later.written ≡ to.written →
    ((xs : List Settled) → AreCountsOf plan xs to.counts → AreCountsOf plan xs later.counts) →
    CountsLeftOut (was_cut packet.extent) (is_long packet.extent packet.len) to.counts later.counts →
    TakesOn plan start side number time packet m m to later
left_out plan start side number time packet m to later e same counts left = record {
  left_out = left;
  on = λ taken before held le h. (
    [],
    subst (λ b. IsReadIf b plan side number time packet.octets.items []) (sym e) refl,
    subst (λ l. HasWritten plan start l time m held later) (sym (append-nil taken))
        (written_left plan start taken time m held to later same counts (written_later plan start taken before time m held to le h)),
  );
}

-- what is left out is counted as cut, or as too long
pub cut_counted : (extent : Extent) (len : ℕ) (c : Counts) (n : ℕ) → extent ≡ Cut → n ≡ more c.cut →
    CountsLeftOut (was_cut extent) (is_long extent len) c (record c { cut = n })
cut_counted extent len c n e is =
    subst (λ x. CountsLeftOut (was_cut x) (is_long x len) c (record c { cut = n })) (sym e) (record { cut = is; long = refl })

long_so : (len : ℕ) → longest_kept < len → is_long Whole len ≡ true
long_so len h = grind (arith, nat_tests)

short_so : (len : ℕ) → len ≤ longest_kept → is_long Whole len ≡ false
short_so len h = grind (arith, nat_tests)

pub long_counted : (extent : Extent) (len : ℕ) (c : Counts) (n : ℕ) → extent ≡ Whole → longest_kept < len → n ≡ more c.long →
    CountsLeftOut (was_cut extent) (is_long extent len) c (record c { long = n })
long_counted extent len c n e h is =
    subst (λ x. CountsLeftOut (was_cut x) (is_long x len) c (record c { long = n })) (sym e)
    (subst (λ b. CountsLeftOut false b c (record c { long = n })) (sym (long_so len h)) (record { cut = refl; long = is }))

whole_counted : (extent : Extent) (len : ℕ) (c new : Counts) → is_whole extent len ≡ true → CountsLeftOut false false c new →
    CountsLeftOut (was_cut extent) (is_long extent len) c new
whole_counted Cut len c new e h = cc
whole_counted Whole len c new e h =
    let fits : is_long Whole len ≡ false = short_so len (grind (arith, nat_tests, e)) in
    subst (λ b. CountsLeftOut false b c new) (sym fits) h

pub long_is : (extent : Extent) (len : ℕ) → extent ≡ Whole → longest_kept < len → is_whole extent len ≡ false
long_is extent len e h = ap (λ x. is_whole x len) e ∙ too_long len h
  where
    too_long : (n : ℕ) → longest_kept < n → is_whole Whole n ≡ false
    too_long n h = grind (arith, nat_tests)

pub whole_is : (extent : Extent) (len : ℕ) → extent ≡ Whole → len ≤ longest_kept → is_whole extent len ≡ true
whole_is extent len e h = ap (λ x. is_whole x len) e ∙ fits len h
  where
    fits : (n : ℕ) → n ≤ longest_kept → is_whole Whole n ≡ true
    fits n h = grind (arith, nat_tests)

frame_time : (spelling : Spelling) (side : Side) (number time : ℕ) (octets : List ℕ) (p : ParcelImage) (seq : Option Seq) →
    (frame_read spelling side number time octets p seq).came.time ≡ time
frame_time spelling side number time octets p None = refl
frame_time spelling side number time octets p (Some seq) = refl

packet_time : (spelling : Spelling) (side : Side) (number time : ℕ) (octets : List ℕ) (answer : Result ParcelImage ReadFault) →
    (packet_read spelling side number time octets answer).came.time ≡ time
packet_time spelling side number time octets (Ok p) = frame_time spelling side number time octets p p.seq
packet_time spelling side number time octets (Err fault) = refl

-- nothing is due at the time of a packet, where nothing is at the time at which it came
pub none_due : (plan : Plan) (side : Side) (number time : ℕ) (octets : List ℕ) (p : Read) (ws : List Pending) →
    IsPacketRead plan side number time octets p → due time ws ≡ [] → due p.came.time ws ≡ []
none_due plan side number time octets p ws reads none =
    let when : p.came.time ≡ time = ap (λ r. r.came.time) reads.2 ∙ packet_time plan.spelling side number time octets reads.0 in
    subst (λ t. due t ws ≡ []) (sym when) none

pub taken_on : (plan own : Plan) (start : ℕ) (side : Side) (number time : ℕ) (packet : Packet) (octets : List ℕ) (p : Read) (old mid new : Merging)
    (from to : Sink) → is_whole packet.extent packet.len ≡ true → own ≡ plan → octets ≡ packet.octets.items →
    IsPacketRead own side number time octets p → WritesOn plan start time old mid from to → TakesIn mid p new →
    TakesOn plan start side number time packet old new from to
taken_on plan own start side number time packet octets p old mid new from to e same is reads writes takes =
    let read : IsPacketRead plan side number time packet.octets.items p =
    subst (λ l. IsPacketRead plan side number time l p) is (subst (λ q. IsPacketRead q side number time octets p) same reads) in
    let when : p.came.time ≡ time = ap (λ r. r.came.time) read.2 ∙ packet_time plan.spelling side number time packet.octets.items read.0 in
    record {
      left_out = whole_counted packet.extent packet.len from.counts to.counts e writes.left_out;
      on = λ taken before held le h. (
        p ∷ [],
        subst (λ b. IsReadIf b plan side number time packet.octets.items (p ∷ [])) (sym e) (p, refl, read),
        written_taken plan start taken time mid new p held to (writes.on taken before held le h) takes when,
      );
    }

-- the whole of a call: what it was given, and what its parts did
module _ {R T : Type 0} (remaining : R → Option (List ℕ)) (choice : Choice) (plan : Plan) (start : ℕ) (a b c : Option (List ℕ))
    (all after : Captures R) (first : Option Front) (now : ℕ) (empty m : Merging) (untold : ℕ) (held : Option (List ℕ)) (mid late to : Sink)
    (taken : Result T ScriptFault) where
  pub begins : IsFed remaining A a all.a [] → IsFed remaining B b all.b [] → IsFed remaining C c all.c [] → IfSome first (λ front. IsDueFirst all front) →
      IfNone first (HasNoFront all) → IfSome first (λ front. front.moment ≡ start) → empty.sources ≡ [] → empty.waiting ≡ [] →
      empty.untold ≡ 0 → AreCountsOf plan [] mid.counts → mid.counts.cut ≡ 0 → mid.counts.long ≡ 0 →
      IsMerging remaining choice plan start (feed_of all.a a) (feed_of all.b b) (feed_of all.c c) all first 0 empty mid mid
  begins fed_a fed_b fed_c due none at sources waiting none_told uncounted none_cut none_long =
      merging_none remaining choice plan start a b c all first empty mid fed_a fed_b fed_c due none at sources waiting none_told uncounted
      none_cut none_long

  pub ends_well : Appends held mid.written (file_head (names_of plan.network)) → untold ≡ m.untold →
      IsMerging remaining choice plan start (feed_of all.a a) (feed_of all.b b) (feed_of all.c c) all first 0 empty mid mid →
      OnOk taken (MergesAll remaining choice plan start all after first 0 now empty m mid late) →
      OnOk taken (EndsOn plan start None m.waiting [] late to) × IfErr taken (λ own. ⊥) →
      IsMerged choice plan (feed_of all.a a) (feed_of all.b b) (feed_of all.c c) held (told untold to)
  ends_well head is h goes ends = by taken goes ends
    where
      by : (r : Result T ScriptFault) → OnOk r (MergesAll remaining choice plan start all after first 0 now empty m mid late) →
          OnOk r (EndsOn plan start None m.waiting [] late to) × IfErr r (λ own. ⊥) →
          IsMerged choice plan (feed_of all.a a) (feed_of all.b b) (feed_of all.c c) held (told untold to)
      by (Ok x) goes ends =
          merges_all remaining choice plan start (feed_of all.a a) (feed_of all.b b) (feed_of all.c c) after now m untold held mid late to head is
          (goes (feed_of all.a a) (feed_of all.b b) (feed_of all.c c) mid h) ends.0
      by (Err e) goes ends = absurd ends.1

  pub ends_badly : (fault : ScriptFault) → fault ≢ Write → Appends held mid.written (file_head (names_of plan.network)) → untold ≡ m.untold →
      IsMerging remaining choice plan start (feed_of all.a a) (feed_of all.b b) (feed_of all.c c) all first 0 empty mid mid →
      OnOk taken (MergesAll remaining choice plan start all after first 0 now empty m mid late) →
      IfErr taken (λ own. own ≢ Write → MergesUntil remaining choice plan start all first own 0 now empty m mid late) →
      OnOk taken (IsStop fault ((left : List Pending) × EndsOn plan start None m.waiting left late to))
      × IfErr taken (λ own. EndsBy own fault plan start now m.waiting late to) →
      IsMergedUpTo choice plan (feed_of all.a a) (feed_of all.b b) (feed_of all.c c) fault held (told untold to)
  ends_badly fault other head is h goes stops ends = by taken goes stops ends
    where
      by : (r : Result T ScriptFault) → OnOk r (MergesAll remaining choice plan start all after first 0 now empty m mid late) →
          IfErr r (λ own. own ≢ Write → MergesUntil remaining choice plan start all first own 0 now empty m mid late) →
          OnOk r (IsStop fault ((left : List Pending) × EndsOn plan start None m.waiting left late to))
          × IfErr r (λ own. EndsBy own fault plan start now m.waiting late to) →
          IsMergedUpTo choice plan (feed_of all.a a) (feed_of all.b b) (feed_of all.c c) fault held (told untold to)
      by (Ok x) goes stops ends =
          halts_last remaining choice plan start (feed_of all.a a) (feed_of all.b b) (feed_of all.c c) after now m untold fault held mid late to head other is
          (goes (feed_of all.a a) (feed_of all.b b) (feed_of all.c c) mid h) ends.0
      by (Err own) goes stops ends =
          halts_stopped choice plan start (feed_of all.a a) (feed_of all.b b) (feed_of all.c c) own fault now m untold held mid late to head other is
          (λ ne. stops ne (feed_of all.a a) (feed_of all.b b) (feed_of all.c c) mid h) ends.1

-- memory is refused before the first packet
pub halts_first : {R : Type 0} (remaining : R → Option (List ℕ)) (choice : Choice) (plan : Plan) (a b c : Option (List ℕ)) (all : Captures R)
    (fault : ScriptFault) (held : Option (List ℕ)) (mid : Sink) → Appends held mid.written (file_head (names_of plan.network)) → fault ≡ NoMemory →
    AreCountsOf plan [] mid.counts → mid.counts.untold ≡ 0 → mid.counts.cut ≡ 0 → mid.counts.long ≡ 0 → IsFed remaining A a all.a [] → IsFed remaining B b all.b [] →
    IsFed remaining C c all.c [] → IsMergedUpTo choice plan (feed_of all.a a) (feed_of all.b b) (feed_of all.c c) fault held mid
halts_first remaining choice plan a b c all fault held mid head is uncounted none_told none_cut none_long fed_a fed_b fed_c =
    let come = come_none remaining a b c all fed_a fed_b fed_c in
    let nothing : Merging = record { sources = []; waiting = []; untold = 0 } in
    let le : 0 ≤ 0 = omega arith in
    let done : IsMergedUpTo choice plan (feed_of all.a a) (feed_of all.b b) (feed_of all.c c) NoMemory held mid = record {
      own = NoMemory;
      merged = [];
      came = came_to remaining (feed_of all.a a) (feed_of all.b b) (feed_of all.c c) all NoMemory [] come refl refl refl tt;
      file = front_ended choice plan 0 [] (Some 0) [] [] mid.counts.untold held mid mid tt refl head none_told
          (ended_from plan 0 [] (Some 0) 0 nothing mid mid le (written_none plan 0 nothing mid refl refl refl uncounted))
          (record { cut = none_cut; long = none_long });
    } in
    subst (λ f. IsMergedUpTo choice plan (feed_of all.a a) (feed_of all.b b) (feed_of all.c c) f held mid) (sym is) done

-- the same under other names for a plan and a start
pub well_as : {T : Type 0} (taken : Result T ScriptFault) (p q : Plan) (s t : ℕ) (old : List Pending) (mid to : Sink) → p ≡ q → s ≡ t →
    OnOk taken (EndsOn p s None old [] mid to) × IfErr taken (λ own. ⊥) → OnOk taken (EndsOn q t None old [] mid to) × IfErr taken (λ own. ⊥)
well_as taken p q s t old mid to e f h =
    subst (λ a. OnOk taken (EndsOn q a None old [] mid to) × IfErr taken (λ own. ⊥)) f
    (subst (λ a. OnOk taken (EndsOn a s None old [] mid to) × IfErr taken (λ own. ⊥)) e h)

pub badly_as : {T : Type 0} (taken : Result T ScriptFault) (fault : ScriptFault) (p q : Plan) (s t now : ℕ) (old : List Pending) (mid to : Sink) →
    p ≡ q → s ≡ t → OnOk taken (IsStop fault ((l : List Pending) × EndsOn p s None old l mid to)) × IfErr taken (λ own. EndsBy own fault p s now old mid to) →
    OnOk taken (IsStop fault ((l : List Pending) × EndsOn q t None old l mid to)) × IfErr taken (λ own. EndsBy own fault q t now old mid to)
badly_as taken fault p q s t now old mid to e f h =
    subst (λ a. OnOk taken (IsStop fault ((l : List Pending) × EndsOn q a None old l mid to)) × IfErr taken (λ own. EndsBy own fault q a now old mid to)) f
    (subst (λ a. OnOk taken (IsStop fault ((l : List Pending) × EndsOn a s None old l mid to)) × IfErr taken (λ own. EndsBy own fault a s now old mid to)) e h)

-- one packet more, under other names for a plan and a start
pub goes_within : {R : Type 0} (remaining : R → Option (List ℕ)) (choice : Choice) (p q : Plan) (s t : ℕ) (x y z : Feed) (all after : Captures R)
    (next later : Option Front) (front : Front) (count now by : ℕ) (m n : Merging) (held mid to : Sink) → p ≡ q → s ≡ t →
    next ≡ Some front → MergesOn remaining choice p s all after front now by m n mid to →
    IfSome later (λ due. IsDueFirst after due) → IfNone later (HasNoFront after) →
    (was : IsMerging remaining choice q t x y z all next now m held mid) × (length was.out ≡ count) →
    (is : IsMerging remaining choice q t x y z after later by n held to) × (length is.out ≡ count + 1)
goes_within remaining choice p q s t x y z all after next later front count now by m n held mid to e f g goes due none h =
    let one = subst (λ o. (was : IsMerging remaining choice q t x y z all o now m held mid) × (length was.out ≡ count)) g h in
    let two = subst (λ a. MergesOn remaining choice a s all after front now by m n mid to) e goes in
    let three = subst (λ a. MergesOn remaining choice q a all after front now by m n mid to) f two in
    let is = three x y z held one.0 later due none in
    (is.0, is.1 ∙ ap (λ k. k + 1) one.1)

pub stops_within : {R : Type 0} (remaining : R → Option (List ℕ)) (choice : Choice) (p q : Plan) (s t : ℕ) (x y z : Feed) (all : Captures R)
    (next : Option Front) (front : Front) (fault : ScriptFault) (now later : ℕ) (m n : Merging) (held mid to : Sink) → p ≡ q → s ≡ t →
    next ≡ Some front → MergesUntil remaining choice p s all (Some front) fault now later m n mid to →
    IsMerging remaining choice q t x y z all next now m held mid → HasStopped choice q t x y z fault later n held to
stops_within remaining choice p q s t x y z all next front fault now later m n held mid to e f g stops h =
    let one = subst (λ o. IsMerging remaining choice q t x y z all o now m held mid) g h in
    let two = subst (λ a. MergesUntil remaining choice a s all (Some front) fault now later m n mid to) e stops in
    let three = subst (λ a. MergesUntil remaining choice q a all (Some front) fault now later m n mid to) f two in
    three x y z held one
