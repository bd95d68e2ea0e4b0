-- What is counted of packets, one by one.
use Rattle.std.proofs.Common.{◌≡◌, ℕ, ◌+◌, Bool, true, false, not, ◌&&◌, cond, List, [], ◌∷◌, ◌++◌, length, Option, None, Some, refl, sym, ap, ◌∙◌, subst, arith}
use Rattle.std.specs.Prelude.{count_by}
use Rattle.std.proofs.lemmas.List.Sums.{fold-append}
use Rattle.sr_audit.specs.declared.side.Side.{Side}
use Rattle.sr_audit.specs.declared.side.Side.TheVariants.{A, B}
use Rattle.sr_capture_script.specs.declared.choice.Choice.{Choice}
use Rattle.sr_capture_script.specs.Items.{Item}
use Rattle.sr_capture_script.specs.Texts.{is_wanted, time_since}
use Rattle.sr_capture_merge.specs.declared.counts.Counts.{Counts}
use Rattle.sr_capture_merge.specs.declared.plan.Plan.{Plan}
use Rattle.sr_capture_merge.specs.Counting.{more, counted_by, counted_written, CountsLeftOut}
use Rattle.sr_capture_merge.specs.Counted.{saturated_count, is_both, is_alone, is_unnumbered, is_open, is_at_a, AreCountsOf, AreLeftOut}
use Rattle.sr_capture_merge.specs.Entries.{is_shown}
use Rattle.sr_capture_merge.specs.Reading.{was_cut, is_long}
use Rattle.sr_capture_merge.specs.Remarks.{remark_of}
use Rattle.sr_capture_merge.specs.Settling.{Settled, counted_one}
use Rattle.sr_merge.specs.declared.waiting.Verdict.{Verdict}
use Rattle.sr_merge.specs.declared.waiting.Verdict.TheVariants.{Both, Alone, Unnumbered}

-- no packet has come
pub uncounted : (plan : Plan) → AreCountsOf plan [] (record { packets = 0; both = 0; a = 0; b = 0; astray = 0; unnumbered = 0; «open» = 0; written = 0; cut = 0; long = 0; untold = 0 })
uncounted plan = record { packets = refl; both = refl; a = refl; b = refl; astray = refl; unnumbered = refl; unknown = refl; written = refl }

-- a count of one packet more
count_push : {A : Type 0} (test : A → Bool) (x : A) (xs : List A) → count_by test (xs ++ x ∷ []) ≡ count_by test xs + cond (test x) 1 0
count_push test x xs = fold-append (λ n y. n + cond (test y) 1 0) 0 xs (x ∷ [])

count_more : {A : Type 0} (test : A → Bool) (xs : List A) (x : A) →
    saturated_count test (xs ++ x ∷ []) ≡ cond (test x) (more (saturated_count test xs)) (saturated_count test xs)
count_more test xs x = by (test x) (count_push test x xs)
  where
    by : (b : Bool) → count_by test (xs ++ x ∷ []) ≡ count_by test xs + cond b 1 0 →
        saturated_count test (xs ++ x ∷ []) ≡ cond b (more (saturated_count test xs)) (saturated_count test xs)
    by true n = omega (arith, n)
    by false n = omega (arith, n)

-- what is counted of a packet, by its verdict and whether it is written
record CountsOn (side : Side) (stray shown : Bool) (v : Option Verdict) (c new : Counts) : Type 0 where
  packets : new.packets ≡ more c.packets
  both : new.both ≡ cond (is_both v && not stray) (more c.both) c.both
  a : new.a ≡ cond (is_alone v && is_at_a side) (more c.a) c.a
  b : new.b ≡ cond (is_alone v && not (is_at_a side)) (more c.b) c.b
  astray : new.astray ≡ cond (is_both v && stray) (more c.astray) c.astray
  unnumbered : new.unnumbered ≡ cond (is_unnumbered v) (more c.unnumbered) c.unnumbered
  unknown : new.«open» ≡ cond (is_open v) (more c.«open») c.«open»
  written : new.written ≡ cond shown (more c.written) c.written
  cut : new.cut ≡ c.cut
  long : new.long ≡ c.long

counts_on : (side : Side) (astray shown : Bool) (v : Option Verdict) (c : Counts) →
    CountsOn side astray shown v c (counted_written shown (counted_by side astray v (record c { packets = more c.packets })))
counts_on side astray true None c = record { packets = refl; both = refl; a = refl; b = refl; astray = refl; unnumbered = refl; unknown = refl; written = refl; cut = refl; long = refl }
counts_on A astray true (Some Alone) c = record { packets = refl; both = refl; a = refl; b = refl; astray = refl; unnumbered = refl; unknown = refl; written = refl; cut = refl; long = refl }
counts_on B astray true (Some Alone) c = record { packets = refl; both = refl; a = refl; b = refl; astray = refl; unnumbered = refl; unknown = refl; written = refl; cut = refl; long = refl }
counts_on side astray true (Some Unnumbered) c = record { packets = refl; both = refl; a = refl; b = refl; astray = refl; unnumbered = refl; unknown = refl; written = refl; cut = refl; long = refl }
counts_on side true true (Some Both) c = record { packets = refl; both = refl; a = refl; b = refl; astray = refl; unnumbered = refl; unknown = refl; written = refl; cut = refl; long = refl }
counts_on side false true (Some Both) c = record { packets = refl; both = refl; a = refl; b = refl; astray = refl; unnumbered = refl; unknown = refl; written = refl; cut = refl; long = refl }
counts_on side astray false None c = record { packets = refl; both = refl; a = refl; b = refl; astray = refl; unnumbered = refl; unknown = refl; written = refl; cut = refl; long = refl }
counts_on A astray false (Some Alone) c = record { packets = refl; both = refl; a = refl; b = refl; astray = refl; unnumbered = refl; unknown = refl; written = refl; cut = refl; long = refl }
counts_on B astray false (Some Alone) c = record { packets = refl; both = refl; a = refl; b = refl; astray = refl; unnumbered = refl; unknown = refl; written = refl; cut = refl; long = refl }
counts_on side astray false (Some Unnumbered) c = record { packets = refl; both = refl; a = refl; b = refl; astray = refl; unnumbered = refl; unknown = refl; written = refl; cut = refl; long = refl }
counts_on side true false (Some Both) c = record { packets = refl; both = refl; a = refl; b = refl; astray = refl; unnumbered = refl; unknown = refl; written = refl; cut = refl; long = refl }
counts_on side false false (Some Both) c = record { packets = refl; both = refl; a = refl; b = refl; astray = refl; unnumbered = refl; unknown = refl; written = refl; cut = refl; long = refl }

-- a figure that grows so is the count of one packet more
grows : {A : Type 0} (test : A → Bool) (xs : List A) (x : A) (n m : ℕ) → n ≡ saturated_count test xs → m ≡ cond (test x) (more n) n →
    m ≡ saturated_count test (xs ++ x ∷ [])
grows test xs x n m is grown = grown ∙ ap (λ k. cond (test x) (more k) k) is ∙ sym (count_more test xs x)

pub counted_more : (plan : Plan) (xs : List Settled) (x : Settled) (c new : Counts) → AreCountsOf plan xs c → new ≡ counted_one plan x c →
    AreCountsOf plan (xs ++ x ∷ []) new
counted_more plan xs x c new h is = subst (AreCountsOf plan (xs ++ x ∷ [])) (sym is) own
  where
    own : AreCountsOf plan (xs ++ x ∷ []) (counted_one plan x c)
    own =
        let on = counts_on x.packet.came.side x.packet.is_astray (is_shown plan.scope (remark_of plan.network x.verdict x.packet)) x.verdict c in
        record {
          packets = grows (λ y. true) xs x c.packets _ h.packets on.packets;
          both = grows (λ y. is_both y.verdict && not y.packet.is_astray) xs x c.both _ h.both on.both;
          a = grows (λ y. is_alone y.verdict && is_at_a y.packet.came.side) xs x c.a _ h.a on.a;
          b = grows (λ y. is_alone y.verdict && not (is_at_a y.packet.came.side)) xs x c.b _ h.b on.b;
          astray = grows (λ y. is_both y.verdict && y.packet.is_astray) xs x c.astray _ h.astray on.astray;
          unnumbered = grows (λ y. is_unnumbered y.verdict) xs x c.unnumbered _ h.unnumbered on.unnumbered;
          unknown = grows (λ y. is_open y.verdict) xs x c.«open» _ h.unknown on.unknown;
          written = grows (λ y. is_shown plan.scope (remark_of plan.network y.verdict y.packet)) xs x c.written _ h.written on.written;
        }

-- what is left out is counted apart
pub cut_left : (plan : Plan) (c : Counts) (n : ℕ) (xs : List Settled) → AreCountsOf plan xs c → AreCountsOf plan xs (record c { cut = n })
cut_left plan c n xs h = record {
  packets = h.packets;
  both = h.both;
  a = h.a;
  b = h.b;
  astray = h.astray;
  unnumbered = h.unnumbered;
  unknown = h.unknown;
  written = h.written;
}

pub long_left : (plan : Plan) (c : Counts) (n : ℕ) (xs : List Settled) → AreCountsOf plan xs c → AreCountsOf plan xs (record c { long = n })
long_left plan c n xs h = record {
  packets = h.packets;
  both = h.both;
  a = h.a;
  b = h.b;
  astray = h.astray;
  unnumbered = h.unnumbered;
  unknown = h.unknown;
  written = h.written;
}

pub untold_left : (plan : Plan) (c : Counts) (n : ℕ) (xs : List Settled) → AreCountsOf plan xs c → AreCountsOf plan xs (record c { untold = n })
untold_left plan c n xs h = record {
  packets = h.packets;
  both = h.both;
  a = h.a;
  b = h.b;
  astray = h.astray;
  unnumbered = h.unnumbered;
  unknown = h.unknown;
  written = h.written;
}

-- what is written is not left out
pub none_left_more : (plan : Plan) (x : Settled) (old c new : Counts) → CountsLeftOut false false old c → new ≡ counted_one plan x c →
    CountsLeftOut false false old new
none_left_more plan x old c new h is =
    let on = counts_on x.packet.came.side x.packet.is_astray (is_shown plan.scope (remark_of plan.network x.verdict x.packet)) x.verdict c in
    subst (CountsLeftOut false false old) (sym is) (record { cut = on.cut ∙ h.cut; long = on.long ∙ h.long })

-- no packet more is left out
pub left_out_kept : (choice : Choice) (start : ℕ) (items : List Item) (c new : Counts) → AreLeftOut choice start items c →
    CountsLeftOut false false c new → AreLeftOut choice start items new
left_out_kept choice start items c new h on = record { cut = on.cut ∙ h.cut; long = on.long ∙ h.long }

-- one packet more, which is left out or not
pub left_out_more : (choice : Choice) (start : ℕ) (items : List Item) (item : Item) (cut long : Bool) (c new : Counts) →
    AreLeftOut choice start items c → (is_wanted choice (time_since start item.moment) && was_cut item.packet.extent) ≡ cut →
    (is_wanted choice (time_since start item.moment) && is_long item.packet.extent (length item.packet.octets)) ≡ long →
    CountsLeftOut cut long c new → AreLeftOut choice start (items ++ item ∷ []) new
left_out_more choice start items item cut long c new h cut_is long_is on = record {
  cut = grows (λ x. is_wanted choice (time_since start x.moment) && was_cut x.packet.extent) items item c.cut new.cut h.cut
      (on.cut ∙ ap (λ b. cond b (more c.cut) c.cut) (sym cut_is));
  long = grows (λ x. is_wanted choice (time_since start x.moment) && is_long x.packet.extent (length x.packet.octets)) items item c.long new.long
      h.long (on.long ∙ ap (λ b. cond b (more c.long) c.long) (sym long_is));
}
