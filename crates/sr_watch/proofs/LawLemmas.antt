-- Laws of what is told of sources.
use Rattle.std.proofs.Common.{◌≡◌, ℕ, ◌+◌, ◌≤◌, ◌<◌, Bool, true, false, cond, not, ◌&&◌, List, [], ◌∷◌, ◌++◌, length, None, Option, pos, arith, refl, sym, ap, ◌∙◌, subst, length-append}
use Rattle.std.specs.Prelude.{◌^◌, ◌+ℤ◌}
use Rattle.std.proofs.lemmas.Int.{ints}
use Rattle.sr_frame.specs.declared.fields.Mac.{Mac}
use Rattle.sr_frame.specs.Addresses.{mac_eq}
use Rattle.sr_audit.specs.Audits.{Sent, of}
use Rattle.sr_audit.specs.Laws.{CopiesAddUp}
use Rattle.sr_audit.specs.Limits.{exact_arrivals}
use Rattle.sr_watch.specs.declared.watch.Next.{Next}
use Rattle.sr_watch.specs.Changed.{change}
use Rattle.sr_watch.specs.Following.{due_in, released_sent, Act, noted, passed, told, forgot, noted_in, lines_in, taken_in}
use Rattle.sr_watch.specs.Laws.{is_told_whole, LinesTellOfAllThatWasReleased, EachArrivalIsInOneInterval}
use Rattle.sr_watch.proofs.TableLemmas.{of_those}

-- all that was released was taken
all_taken : (n : Option Next) (xs sent : List Sent) → sent ≡ due_in n ++ xs → n ≡ None → sent ≡ xs
all_taken n xs sent is none = is ∙ ap (λ q. due_in q ++ xs) none

-- all arrivals of a source that was neither left out nor forgotten are noted
all_noted : (src : Mac) (acts : List Act) → is_told_whole src acts ≡ true → of src (noted_in acts) ≡ of src (taken_in acts)
all_noted src [] told_whole = refl
all_noted src (noted x ∷ before) told_whole =
    let rest = all_noted src before told_whole in λ i. cond (mac_eq src x.0) (x.1 ∷ rest i) (rest i)
all_noted src (passed x ∷ before) told_whole = by (mac_eq src x.0) told_whole (λ rest. all_noted src before rest)
  where
    by : (b : Bool) → (not b && is_told_whole src before) ≡ true →
        (is_told_whole src before ≡ true → of src (noted_in before) ≡ of src (taken_in before)) →
        of src (noted_in before) ≡ cond b (x.1 ∷ of src (taken_in before)) (of src (taken_in before))
    by true told_whole same = absurd cc
    by false told_whole same = same told_whole
all_noted src (told line ∷ before) told_whole = all_noted src before told_whole
all_noted src (forgot stays ∷ before) told_whole =
    of_those stays src (noted_in before) ∙ by (stays src) told_whole (λ rest. all_noted src before rest)
  where
    by : (b : Bool) → (b && is_told_whole src before) ≡ true →
        (is_told_whole src before ≡ true → of src (noted_in before) ≡ of src (taken_in before)) →
        cond b (of src (noted_in before)) [] ≡ of src (taken_in before)
    by true told_whole same = same told_whole
    by false told_whole same = absurd cc

pub lines_tell : LinesTellOfAllThatWasReleased
lines_tell slack start mark turns acts w src new line f none told_whole few exact tells =
    let same : released_sent slack start turns ≡ taken_in acts = all_taken w.next (taken_in acts) (released_sent slack start turns) f.sent none in
    let few_taken : length (taken_in acts) < 2 ^ 64 = subst (λ ys. length ys < 2 ^ 64) same few in
    let own : of src (released_sent slack start turns) ≡ of src (noted_in acts) = ap (of src) same ∙ sym (all_noted src acts told_whole) in
    let exact_noted : length (of src (noted_in acts)) ≤ exact_arrivals = subst (λ ys. length ys ≤ exact_arrivals) own exact in
    rw own (tells.together (noted_in acts) (lines_in acts) exact_noted (f.watches few_taken))

-- a difference of sums
between : (a b c d n m k : ℕ) → a + b ≡ n → c + d ≡ m → m ≡ k + n → (change a c +ℤ change b d) ≡ pos k
between a b c d n m k e f g = omega (arith, ints, e, f, g)

pub in_one : CopiesAddUp → EachArrivalIsInOneInterval
in_one add mark later before news =
    between _ _ _ _ (length before) (length (news ++ before)) (length news) (add before).all (add (news ++ before)).all (length-append news before)
