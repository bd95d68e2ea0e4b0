-- A message more, and the streams.
use Rattle.std.proofs.Common.{◌≡◌, ℕ, zero, suc, ◌+◌, ◌<◌, ◌≤◌, ◌^◌, Bool, true, false, ◌||◌, List, [], ◌∷◌, ◌++◌, length, get_or, Option, Some, None, refl, sym, ap, ◌∙◌, subst, arith, cond, inl, inr, eqb, eqb-true, eq-eqb, ◌⊎◌, ◌-◌}
use Rattle.std.specs.Prelude.{map, filter, not, nat_lt, min, position, slice_get, option_map, ◌≢◌}
use Rattle.std.specs.List.{prefix_len}
use Rattle.std.proofs.lemmas.Bool.{cases_Bool, false_from_ne_true, lt-ltb}
use Rattle.std.proofs.lemmas.List.{map-append, length-append, length-map}
use Rattle.std.proofs.lemmas.List.Quantifiers.{position-Some}
use Rattle.std.proofs.lemmas.Option.{slice_get_read, slice_get-map}
use Rattle.std.proofs.Math.Seq.{map-set_same}
use Rattle.std.proofs.Math.ListN.{set}
use Rattle.sr_streams.specs.declared.numbers.Arrival.{Arrival}
use Rattle.sr_streams.specs.declared.table.Stream.{Stream}
use Rattle.sr_streams.specs.declared.table.Streams.{Streams}
use Rattle.sr_streams.specs.Courses.{course_of}
use Rattle.sr_streams.specs.Sums.{KeepsCourse}
use Rattle.sr_streams.specs.Tables.{MessageSent, Key, key_eq, key_sent, stream_key, keys_of, has_stream, arrival_sent, stream_arrivals, AreStreamsOf}
use Rattle.sr_streams.proofs.Keys.{key_same, key_refl}

-- the messages of a stream, with one of it, and with one of another
own_more : (key : Key) (m : MessageSent) (xs : List MessageSent) → key ≡ key_sent m → stream_arrivals key (m ∷ xs) ≡ arrival_sent m ∷ stream_arrivals key xs
own_more key m xs same =
    ap (λ b. map arrival_sent (cond b (m ∷ filter (λ x. key_eq key (key_sent x)) xs) (filter (λ x. key_eq key (key_sent x)) xs)))
    (subst (λ k. key_eq key k ≡ true) same (key_refl key))

other_more : (key : Key) (m : MessageSent) (xs : List MessageSent) → key ≢ key_sent m → stream_arrivals key (m ∷ xs) ≡ stream_arrivals key xs
other_more key m xs other =
    ap (λ b. map arrival_sent (cond b (m ∷ filter (λ x. key_eq key (key_sent x)) xs) (filter (λ x. key_eq key (key_sent x)) xs)))
    (false_from_ne_true (key_eq key (key_sent m)) (λ t. other (key_same key (key_sent m) t)))

some_key : (k l : Key) → Some k ≡ Some l → k ≡ l
some_key k l e = cc

no_key : (k : Key) → None ≡ Some k → ⊥
no_key k e = cc

true_false : true ≡ false → ⊥
true_false e = cc

or_right : (a b : Bool) → b ≡ true → (a || b) ≡ true
or_right true b h = refl
or_right false b h = h

or_parts : (a b : Bool) → (a || b) ≡ false → (a ≡ false) × (b ≡ false)
or_parts true b h = absurd (true_false h)
or_parts false b h = (refl, h)

-- a stream that stands somewhere is among them
has_at : (key : Key) (keys : List Key) (at : ℕ) → slice_get keys at ≡ Some key → has_stream key keys ≡ true
has_at key [] zero e = absurd (no_key key e)
has_at key [] (suc at) e = absurd (no_key key e)
has_at key (own ∷ keys) zero e =
    let same : own ≡ key = some_key own key e in
    ap (λ b. b || has_stream key keys) (subst (λ k. key_eq k key ≡ true) (sym same) (key_refl key))
has_at key (own ∷ keys) (suc at) e = or_right (key_eq own key) (has_stream key keys) (has_at key keys at e)

-- one that is among them is found
front_short : (b : Bool) (rest whole : ℕ) (has : Bool) → (b || has) ≡ true → (has ≡ true → rest < whole) → cond (not b) (1 + rest) 0 < whole + 1
front_short true rest whole has h shorter = omega arith
front_short false rest whole has h shorter = omega (arith, shorter h)

found_among : (key : Key) (streams : List Stream) → has_stream key (keys_of streams) ≡ true →
    prefix_len (λ stream. not (key_eq (stream_key stream) key)) streams < length streams
found_among key [] h = absurd (true_false (sym h))
found_among key (s ∷ ss) h =
    let front = front_short (key_eq (stream_key s) key) (prefix_len (λ stream. not (key_eq (stream_key stream) key)) ss) (length ss) (has_stream key (keys_of ss)) h (found_among key ss) in
    omega (arith, front)

-- one that is not found is not among them
pub not_found : (key : Key) (streams : List Stream) → position (λ stream. key_eq (stream_key stream) key) streams ≡ None → has_stream key (keys_of streams) ≡ false
not_found key streams e =
    elim (cases_Bool (has_stream key (keys_of streams))) [
      | inl t ↦ absurd (some_none (prefix_len (λ stream. not (key_eq (stream_key stream) key)) streams) (length streams) (found_among key streams t) e)
      | inr f ↦ f
    ]
  where
    nothing : (n : ℕ) → ◌≡◌ {A = Option ℕ} (Some n) None → ⊥
    nothing n h = cc

    some_none : (n m : ℕ) → n < m → ◌≡◌ {A = Option ℕ} (cond (nat_lt n m) (Some n) None) None → ⊥
    some_none n m less h = nothing n (sym (ap (λ b. cond b (Some n) None) (lt-ltb n m less)) ∙ h)

-- another stream stands nowhere
other_than : (key own : Key) (keys : List Key) (at : ℕ) → has_stream key keys ≡ false → slice_get keys at ≡ Some own → own ≢ key
other_than key own keys at none there same =
    true_false (sym (has_at key keys at (there ∙ ap (λ k. Some k) same)) ∙ none)

-- with a stream behind them
has_more : (key own : Key) (keys : List Key) → has_stream key (keys ++ own ∷ []) ≡ (has_stream key keys || key_eq own key)
has_more key own [] = or_none (key_eq own key)
  where
    or_none : (b : Bool) → (b || false) ≡ b
    or_none true = refl
    or_none false = refl
has_more key own (k ∷ keys) = ap (λ b. key_eq k key || b) (has_more key own keys) ∙ or_assoc (key_eq k key) (has_stream key keys) (key_eq own key)
  where
    or_assoc : (a b c : Bool) → (a || (b || c)) ≡ ((a || b) || c)
    or_assoc true b c = refl
    or_assoc false b c = refl

-- a list with one element changed, and with one more
get_set_same : {A : Type 0} (xs : List A) (at : ℕ) (y s : A) → slice_get (set xs at y) at ≡ Some s → y ≡ s
get_set_same [] zero y s e = cc
get_set_same [] (suc at) y s e = cc
get_set_same (x ∷ xs) zero y s e = cc
get_set_same (x ∷ xs) (suc at) y s e = get_set_same xs at y s e

get_set_other : {A : Type 0} (xs : List A) (at i : ℕ) (y : A) → i ≢ at → slice_get (set xs at y) i ≡ slice_get xs i
get_set_other [] zero i y other = refl
get_set_other [] (suc at) i y other = refl
get_set_other (x ∷ xs) zero zero y other = absurd (other refl)
get_set_other (x ∷ xs) zero (suc i) y other = refl
get_set_other (x ∷ xs) (suc at) zero y other = refl
get_set_other (x ∷ xs) (suc at) (suc i) y other = get_set_other xs at i y (λ e. other (ap (λ n. suc n) e))

get_more : {A : Type 0} (xs : List A) (y s : A) (i : ℕ) → slice_get (xs ++ y ∷ []) i ≡ Some s → (slice_get xs i ≡ Some s) ⊎ ((i ≡ length xs) × (y ≡ s))
get_more [] y s zero e = inr (refl, same y s e)
  where
    same : {A : Type 0} (y s : A) → Some y ≡ Some s → y ≡ s
    same y s e = cc
get_more [] y s (suc zero) e = absurd (none s e)
  where
    none : {A : Type 0} (s : A) → None ≡ Some s → ⊥
    none s e = cc
get_more [] y s (suc (suc i)) e = absurd (none s e)
  where
    none : {A : Type 0} (s : A) → None ≡ Some s → ⊥
    none s e = cc
get_more (x ∷ xs) y s zero e = inl e
get_more (x ∷ xs) y s (suc i) e =
    elim (get_more xs y s i e) [
      | inl h ↦ inl h
      | inr h ↦ inr (omega (arith, h.0), h.1)
    ]

one_len : (b : Bool) (x : MessageSent) (rest : List MessageSent) (n : ℕ) → length (map arrival_sent rest) ≤ n → length (map arrival_sent (cond b (x ∷ rest) rest)) ≤ n + 1
one_len true x rest n h = omega (arith, h)
one_len false x rest n h = omega (arith, h)

arrivals_len : (key : Key) (xs : List MessageSent) → length (stream_arrivals key xs) ≤ length xs
arrivals_len key [] = omega arith
arrivals_len key (x ∷ xs) =
    let more = one_len (key_eq key (key_sent x)) x (filter (λ y. key_eq key (key_sent y)) xs) (length xs) (arrivals_len key xs) in
    omega (arith, more)

abbrev outside : List Key → List MessageSent → ℕ
outside keys xs = length (filter (λ x. not (has_stream (key_sent x) keys)) xs)

share : List Key → MessageSent → ℕ
share keys x = cond (not (has_stream (key_sent x) keys)) 1 0

outside_more : (keys : List Key) (m : MessageSent) (xs : List MessageSent) → outside keys (m ∷ xs) ≡ share keys m + outside keys xs
unfolding share
outside_more keys m xs = kept (not (has_stream (key_sent m) keys)) m (filter (λ x. not (has_stream (key_sent x) keys)) xs)
  where
    kept : (b : Bool) (x : MessageSent) (rest : List MessageSent) → length (cond b (x ∷ rest) rest) ≡ cond {A = ℕ} b 1 0 + length rest
    kept true x rest = omega arith
    kept false x rest = omega arith

share_in : (keys : List Key) (m : MessageSent) → has_stream (key_sent m) keys ≡ true → share keys m ≡ 0
unfolding share
share_in keys m h = ap (λ b. cond {A = ℕ} (not b) 1 0) h

share_out : (keys : List Key) (m : MessageSent) → has_stream (key_sent m) keys ≡ false → share keys m ≡ 1
unfolding share
share_out keys m h = ap (λ b. cond {A = ℕ} (not b) 1 0) h

cond_less : (a b : Bool) → cond {A = ℕ} (not (a || b)) 1 0 ≤ cond {A = ℕ} (not a) 1 0
cond_less true b = omega arith
cond_less false true = omega arith
cond_less false false = omega arith

cond_one : (b : Bool) → cond {A = ℕ} (not b) 1 0 ≤ 1
cond_one true = omega arith
cond_one false = omega arith

share_one : (keys : List Key) (m : MessageSent) → share keys m ≤ 1
unfolding share
share_one keys m = cond_one (has_stream (key_sent m) keys)

share_less : (keys : List Key) (own : Key) (m : MessageSent) → share (keys ++ own ∷ []) m ≤ share keys m
unfolding share
share_less keys own m =
    subst (λ b. cond {A = ℕ} (not b) 1 0 ≤ cond {A = ℕ} (not (has_stream (key_sent m) keys)) 1 0) (sym (has_more (key_sent m) own keys))
    (cond_less (has_stream (key_sent m) keys) (key_eq own (key_sent m)))

outside_in : (keys : List Key) (m : MessageSent) (xs : List MessageSent) → has_stream (key_sent m) keys ≡ true → outside keys (m ∷ xs) ≡ outside keys xs
outside_in keys m xs h = outside_more keys m xs ∙ ap (λ n. n + outside keys xs) (share_in keys m h) ∙ zero_plus (outside keys xs)
  where
    zero_plus : (n : ℕ) → 0 + n ≡ n
    zero_plus n = omega arith

outside_out : (keys : List Key) (m : MessageSent) (xs : List MessageSent) → has_stream (key_sent m) keys ≡ false → outside keys (m ∷ xs) ≡ outside keys xs + 1
outside_out keys m xs h = outside_more keys m xs ∙ ap (λ n. n + outside keys xs) (share_out keys m h) ∙ one_plus (outside keys xs)
  where
    one_plus : (n : ℕ) → 1 + n ≡ n + 1
    one_plus n = omega arith

outside_len : (keys : List Key) (xs : List MessageSent) → outside keys xs ≤ length xs
outside_len keys [] = omega arith
outside_len keys (x ∷ xs) = omega (arith, outside_more keys x xs, share_one keys x, outside_len keys xs)

outside_less : (keys : List Key) (own : Key) (xs : List MessageSent) → outside (keys ++ own ∷ []) xs ≤ outside keys xs
outside_less keys own [] = omega arith
outside_less keys own (x ∷ xs) =
    omega (arith, outside_more keys x xs, outside_more (keys ++ own ∷ []) x xs, share_less keys own x, outside_less keys own xs)

-- a stream that is kept, by its place
at_key : (streams : List Stream) (i : ℕ) (s : Stream) → slice_get streams i ≡ Some s → slice_get (keys_of streams) i ≡ Some (stream_key s)
at_key streams i s e = slice_get-map stream_key streams i ∙ ap (option_map stream_key) e

-- a message of a stream that is kept
pub updated : (xs : List MessageSent) (m : MessageSent) (old new : Streams) (at : ℕ) (own changed : Stream) → own ≡ get_or old.streams.items at own →
    new.streams.items ≡ set old.streams.items at changed → stream_key changed ≡ stream_key own → new.left_out ≡ old.left_out →
    position (λ stream. key_eq (stream_key stream) (key_sent m)) old.streams.items ≡ Some at →
    ((ys : List Arrival) → length ys + 1 < 2 ^ 64 → KeepsCourse (course_of ys) own.numbers → KeepsCourse (course_of (arrival_sent m ∷ ys)) changed.numbers) →
    length xs + 1 < 2 ^ 64 → AreStreamsOf xs old → AreStreamsOf (m ∷ xs) new
updated xs m old new at own changed is grown same_key same_out placed step less h =
    let p = position-Some (λ (s : Stream). key_eq (stream_key s) (key_sent m)) old.streams.items at own placed in
    let there : slice_get old.streams.items at ≡ Some own = slice_get_read old.streams.items (length old.streams.items) at own refl p.0 is in
    let own_key : stream_key own ≡ key_sent m = ap stream_key is ∙ key_same (stream_key (get_or old.streams.items at own)) (key_sent m) p.1 in
    let keys : keys_of new.streams.items ≡ keys_of old.streams.items =
    ap keys_of grown ∙ map-set_same stream_key old.streams.items at changed own (same_key ∙ ap stream_key is) in
    let size : length new.streams.items ≡ length old.streams.items =
    sym (length-map new.streams.items stream_key) ∙ ap length keys ∙ length-map old.streams.items stream_key in
    let among : has_stream (key_sent m) (keys_of old.streams.items) ≡ true =
    has_at (key_sent m) (keys_of old.streams.items) at (at_key old.streams.items at own there ∙ ap (λ k. Some k) own_key) in
    let of_own : KeepsCourse (course_of (stream_arrivals (stream_key changed) (m ∷ xs))) changed.numbers =
    subst (λ l. KeepsCourse (course_of l) changed.numbers)
    (ap (λ k. arrival_sent m ∷ stream_arrivals k xs) (sym same_key) ∙ sym (own_more (stream_key changed) m xs (same_key ∙ own_key)))
    (step (stream_arrivals (stream_key own) xs) (omega (arith, arrivals_len (stream_key own) xs, less)) (h.each at own there)) in
    record {
      few = omega (arith, size, h.few);
      each = λ i s e. let e' : slice_get (set old.streams.items at changed) i ≡ Some s = subst (λ l. slice_get l i ≡ Some s) grown e in
          elim (cases_Bool (eqb i at)) [
            | inl t ↦ let same = eqb-true i at t in
                let is_s : changed ≡ s = get_set_same old.streams.items at changed s (subst (λ n. slice_get (set old.streams.items at changed) n ≡ Some s) same e') in
                subst (λ (v : Stream). KeepsCourse (course_of (stream_arrivals (stream_key v) (m ∷ xs))) v.numbers) is_s of_own
            | inr f ↦ let other : i ≢ at = λ e2. true_false (sym (eq-eqb i at e2) ∙ f) in
                let spot_before : slice_get old.streams.items i ≡ Some s = sym (get_set_other old.streams.items at i changed other) ∙ e' in
                let not_own : stream_key s ≢ key_sent m = λ k.
                other (h.once i at (stream_key s) (at_key old.streams.items i s spot_before) (at_key old.streams.items at own there ∙ ap (λ q. Some q) (own_key ∙ sym k))) in
                subst (λ l. KeepsCourse (course_of l) s.numbers) (sym (other_more (stream_key s) m xs not_own)) (h.each i s spot_before)
          ];
      once = subst (λ ks. (i j : ℕ) (key : Key) → slice_get ks i ≡ Some key → slice_get ks j ≡ Some key → i ≡ j) (sym keys) h.once;
      all = λ room key none. let none' : has_stream key (keys_of old.streams.items) ≡ false = subst (λ ks. has_stream key ks ≡ false) keys none in
          other_more key m xs (λ e. true_false (sym among ∙ subst (λ k. has_stream k (keys_of old.streams.items) ≡ false) e none'))
          ∙ h.all (omega (arith, size, room)) key none';
      none_out = λ room. same_out ∙ h.none_out (omega (arith, size, room));
      left_out = same_out ∙ h.left_out ∙ sym (ap (λ ks. outside ks (m ∷ xs)) keys ∙ outside_in (keys_of old.streams.items) m xs among);
    }

-- the first message of a stream
pub pushed : (xs : List MessageSent) (m : MessageSent) (old new : Streams) (own : Stream) → new.streams.items ≡ old.streams.items ++ own ∷ [] → stream_key own ≡ key_sent m →
    new.left_out ≡ old.left_out → position (λ stream. key_eq (stream_key stream) (key_sent m)) old.streams.items ≡ None → length old.streams.items < 1024 →
    KeepsCourse (course_of (arrival_sent m ∷ [])) own.numbers → AreStreamsOf xs old → AreStreamsOf (m ∷ xs) new
pushed xs m old new own grown own_key same_out placed room keeps h =
    let none = not_found (key_sent m) old.streams.items placed in
    let ks : List Key = keys_of old.streams.items in
    let keys : keys_of new.streams.items ≡ keys_of old.streams.items ++ key_sent m ∷ [] =
    ap keys_of grown ∙ map-append stream_key old.streams.items (own ∷ []) ∙ ap (λ k. keys_of old.streams.items ++ k ∷ []) own_key in
    let size : length new.streams.items ≡ length old.streams.items + 1 = ap length grown ∙ length-append old.streams.items (own ∷ []) in
    let nothing : stream_arrivals (stream_key own) xs ≡ [] = h.all room (stream_key own) (subst (λ k. has_stream k (keys_of old.streams.items) ≡ false) (sym own_key) none) in
    let of_own : KeepsCourse (course_of (stream_arrivals (stream_key own) (m ∷ xs))) own.numbers =
    subst (λ l. KeepsCourse (course_of l) own.numbers) (ap (λ l. arrival_sent m ∷ l) (sym nothing) ∙ sym (own_more (stream_key own) m xs own_key)) keeps in
    let lone : (i : ℕ) (key : Key) → slice_get (keys_of old.streams.items) i ≡ Some key → key_sent m ≡ key → ⊥ =
    λ i key e same. other_than (key_sent m) key (keys_of old.streams.items) i none e (sym same) in
    let among : has_stream (key_sent m) (keys_of old.streams.items ++ key_sent m ∷ []) ≡ true =
    has_more (key_sent m) (key_sent m) (keys_of old.streams.items) ∙ or_right (has_stream (key_sent m) (keys_of old.streams.items)) (key_eq (key_sent m) (key_sent m)) (key_refl (key_sent m)) in
    record {
      few = omega (arith, size, room);
      each = λ i s e. elim (get_more old.streams.items own s i (subst (λ l. slice_get l i ≡ Some s) grown e)) [
        | inl spot_before ↦ subst (λ l. KeepsCourse (course_of l) s.numbers)
            (sym (other_more (stream_key s) m xs (other_than (key_sent m) (stream_key s) (keys_of old.streams.items) i none (at_key old.streams.items i s spot_before))))
            (h.each i s spot_before)
        | inr last ↦ subst (λ (v : Stream). KeepsCourse (course_of (stream_arrivals (stream_key v) (m ∷ xs))) v.numbers) last.1 of_own
      ];
      once = λ i j key e f. elim (get_more (keys_of old.streams.items) (key_sent m) key i (subst (λ l. slice_get l i ≡ Some key) keys e)) [
        | inl a ↦ elim (get_more (keys_of old.streams.items) (key_sent m) key j (subst (λ l. slice_get l j ≡ Some key) keys f)) [
          | inl b ↦ h.once i j key a b
          | inr b ↦ absurd (lone i key a b.1)
        ]
        | inr a ↦ elim (get_more (keys_of old.streams.items) (key_sent m) key j (subst (λ l. slice_get l j ≡ Some key) keys f)) [
          | inl b ↦ absurd (lone j key b a.1)
          | inr b ↦ a.0 ∙ sym b.0
        ]
      ];
      all = λ room' key out. let both = or_parts (has_stream key (keys_of old.streams.items)) (key_eq (key_sent m) key) (sym (has_more key (key_sent m) (keys_of old.streams.items)) ∙ subst (λ l. has_stream key l ≡ false) keys out) in
          other_more key m xs (λ e. true_false (sym (subst (λ k. key_eq k key ≡ true) e (key_refl key)) ∙ both.1)) ∙ h.all room key both.0;
      none_out = λ room'. same_out ∙ h.none_out room;
      left_out = let zero_out = outside_in (keys_of old.streams.items ++ key_sent m ∷ []) m xs among in
          let less = outside_less (keys_of old.streams.items) (key_sent m) xs in
          let here : outside (keys_of new.streams.items) (m ∷ xs) ≡ outside (keys_of old.streams.items ++ key_sent m ∷ []) (m ∷ xs) = ap (λ l. outside l (m ∷ xs)) keys in
          let none_left = h.none_out room in
          let left = h.left_out in
          omega (arith, zero_out, less, here, none_left, left, same_out);
    }

-- a message of a stream for which there is no room
pub left : (xs : List MessageSent) (m : MessageSent) (old new : Streams) → new.streams ≡ old.streams → new.left_out ≡ min (old.left_out + 1) (2 ^ 64 - 1) →
    1024 ≤ length old.streams.items → position (λ stream. key_eq (stream_key stream) (key_sent m)) old.streams.items ≡ None → length xs + 1 < 2 ^ 64 →
    AreStreamsOf xs old → AreStreamsOf (m ∷ xs) new
left xs m old new same out full placed less h =
    let none = not_found (key_sent m) old.streams.items placed in
    let items : new.streams.items ≡ old.streams.items = ap (λ v. v.items) same in
    let no_room : length new.streams.items < 1024 → ⊥ = λ r. omega (arith, r, full, ap length items) in
    record {
      few = omega (arith, ap length items, h.few);
      each = λ i s e. let spot_before : slice_get old.streams.items i ≡ Some s = subst (λ l. slice_get l i ≡ Some s) items e in
          subst (λ l. KeepsCourse (course_of l) s.numbers)
          (sym (other_more (stream_key s) m xs (other_than (key_sent m) (stream_key s) (keys_of old.streams.items) i none (at_key old.streams.items i s spot_before))))
          (h.each i s spot_before);
      once = subst (λ l. (i j : ℕ) (key : Key) → slice_get (keys_of l) i ≡ Some key → slice_get (keys_of l) j ≡ Some key → i ≡ j) (sym items) h.once;
      all = λ room key no. absurd (no_room room);
      none_out = λ room. absurd (no_room room);
      left_out = let more = outside_out (keys_of old.streams.items) m xs none in
          let size = outside_len (keys_of old.streams.items) xs in
          let here : outside (keys_of new.streams.items) (m ∷ xs) ≡ outside (keys_of old.streams.items) (m ∷ xs) = ap (λ l. outside (keys_of l) (m ∷ xs)) items in
          let was = h.left_out in
          omega (arith, more, size, here, was, out, less);
    }
