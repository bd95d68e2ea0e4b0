-- What a table of proxied addresses does is what becomes of them in the role.
use Rattle.std.proofs.Common.{◌≡◌, ℕ, suc, ◌≤◌, max, Bool, true, false, cond, nat_lt, [], ◌∷◌, ◌++◌, length, Option, None, Some, is_some, refl, sym, ap, ◌∙◌, arith}
use Rattle.std.specs.Option.{option_map}
use Rattle.std.specs.Map.{lookup, set_value}
use Rattle.std.proofs.lemmas.Bool.{ltb-false}
use Rattle.std.proofs.lemmas.List.{length-map, map-append}
use Rattle.sr_frame.specs.declared.fields.Mac.{Mac}
use Rattle.sr_frame.specs.declared.learn_outcome.LearnOutcome.{LearnOutcome}
use Rattle.sr_frame.specs.declared.learn_outcome.LearnOutcome.TheVariants.{New, Known, Full}
use Rattle.sr_frame.specs.Addresses.{mac_eq}
use Rattle.sr_forwarding.specs.RoleImages.{is_recent_in, is_proxied}
use Rattle.sr_forwarding.specs.Proxies.{recent_of, proxied_after, proxy_answer, with_address, with_new, answer_at}
use Rattle.sr_forwarding.specs.Proxies as role
use Rattle.sr_slots.specs.Calls.{passing}
use Rattle.sr_aged_slots.specs.AgeLemmas.{length-live_le}
use Rattle.sr_proxy_table.specs.Proxied.{Entry, Entries, times_of, is_live, live_at, has_at, with_room, learned_at, learned_again, answer_of, answer_to, kept_by, after_answer, after_learning}
use Rattle.sr_redbox.specs.SanBoxes.{SanView, san_of}

-- the entries after an answer, where the table has this of the address
abbrev after_kept : LearnOutcome → Option Entry → Entries → Mac → ℕ → Entries
after_kept Full o es m now = es
after_kept New o es m now = kept_by o es m now
after_kept Known o es m now = kept_by o es m now

abbrev time_in : Option Entry → Option ℕ
time_in o = option_map (λ e. e.time) o

look : (m : Mac) (es : Entries) → lookup (mac_eq m) (times_of es) ≡ time_in (lookup (mac_eq m) es)
look m [] = refl
look m (e ∷ es) = by (mac_eq m e.0) (look m es)
  where
    by : (t : Bool) → lookup (mac_eq m) (times_of es) ≡ time_in (lookup (mac_eq m) es)
        → cond t (Some e.1.time) (lookup (mac_eq m) (times_of es)) ≡ time_in (cond t (Some e.1) (lookup (mac_eq m) es))
    by true h = refl
    by false h = h

-- an address is proxied exactly where the table has it
pub proxied_where : (b : SanView) (m : Mac) (now : ℕ) → has_at b.proxied m now ≡ is_proxied (san_of b) m now
proxied_where b m now = by (lookup (mac_eq m) b.proxied) ∙ sym (ap (is_recent_in now) (look m b.proxied))
  where
    live : (e : Entry) (b : Bool) → is_some (cond b (Some e) None) ≡ b
    live e true = refl
    live e false = refl

    by : (o : Option Entry) → is_some (passing (is_live now) o) ≡ is_recent_in now (time_in o)
    by None = refl
    by (Some e) = live e (is_live now e)

pub length-times : (es : Entries) → length (times_of es) ≡ length es
length-times es = length-map es (λ e. (e.0, e.1.time))

-- what is forgotten in one is forgotten in the other
pub recent_times : (now : ℕ) (es : Entries) → recent_of (times_of es) now ≡ times_of (live_at now es)
recent_times now [] = refl
recent_times now (e ∷ es) = by (is_live now e.1) (recent_times now es)
  where
    by : (b : Bool) → recent_of (times_of es) now ≡ times_of (live_at now es)
        → cond b ((e.0, e.1.time) ∷ recent_of (times_of es) now) (recent_of (times_of es) now) ≡ times_of (cond b (e ∷ live_at now es) (live_at now es))
    by true h = ap (λ l. (e.0, e.1.time) ∷ l) h
    by false h = h

room_times : (now : ℕ) (es : Entries) → role.with_room (times_of es) now ≡ times_of (with_room now es)
room_times now es = ap (λ n. cond (nat_lt n 256) (times_of es) (recent_of (times_of es) now)) (length-times es) ∙ by (nat_lt (length es) 256)
  where
    by : (b : Bool) → cond b (times_of es) (recent_of (times_of es) now) ≡ times_of (cond b es (live_at now es))
    by true = refl
    by false = recent_times now es

-- where as many are live as there are, all are
all_live : (now : ℕ) (es : Entries) → length es ≤ length (live_at now es) → live_at now es ≡ es
all_live now [] h = refl
all_live now (e ∷ es) h = by (is_live now e.1) h (all_live now es)
  where
    by : (b : Bool) → suc (length es) ≤ length (cond b (e ∷ live_at now es) (live_at now es)) → (length es ≤ length (live_at now es) → live_at now es ≡ es)
        → cond b (e ∷ live_at now es) (live_at now es) ≡ e ∷ es
    by true le ih = ap (λ l. e ∷ l) (ih (omega arith))
    by false le ih = absurd (omega (arith, length-live_le 60000 now es))

-- a full table that has no room lets none go
no_room : (now : ℕ) (es : Entries) → length es ≤ 256 → nat_lt (length (with_room now es)) 256 ≡ false → with_room now es ≡ es
no_room now es few = by (nat_lt (length es) 256)
  where
    by : (b : Bool) → nat_lt (length (cond b es (live_at now es))) 256 ≡ false → cond b es (live_at now es) ≡ es
    by true h = refl
    by false h = let many : 256 ≤ length (live_at now es) = ltb-false (length (live_at now es)) 256 h in all_live now es (omega arith)

times_set : (m : Mac) (now : ℕ) (x : Entry) (es : Entries) → set_value (mac_eq m) (times_of es) (max x.time now) ≡ times_of (set_value (mac_eq m) es (learned_again x now))
times_set m now x [] = refl
times_set m now x (e ∷ es) = by (mac_eq m e.0) (times_set m now x es)
  where
    by : (t : Bool) → set_value (mac_eq m) (times_of es) (max x.time now) ≡ times_of (set_value (mac_eq m) es (learned_again x now))
        → cond t ((e.0, max x.time now) ∷ times_of es) ((e.0, e.1.time) ∷ set_value (mac_eq m) (times_of es) (max x.time now))
        ≡ times_of (cond t ((e.0, learned_again x now) ∷ es) (e ∷ set_value (mac_eq m) es (learned_again x now)))
    by true h = refl
    by false h = ap (λ l. (e.0, e.1.time) ∷ l) h

-- a learning is answered as the role says
pub learnt_where : (m : Mac) (es : Entries) (now : ℕ) → proxy_answer (times_of es) m now ≡ answer_to es m now
learnt_where m es now = ap (λ o. answer_at o (times_of es) now) (look m es) ∙ by (lookup (mac_eq m) es)
  where
    by : (o : Option Entry) → answer_at (time_in o) (times_of es) now ≡ answer_of o es now
    by None = ap (λ n. cond (nat_lt n 256) New Full) (ap length (room_times now es) ∙ length-times (with_room now es))
    by (Some e) = refl

-- the addresses after it are the role's
pub learned_where : (m : Mac) (es : Entries) (now : ℕ) → length es ≤ 256 → proxied_after (times_of es) m now ≡ times_of (after_learning es m now)
learned_where m es now few = ap (λ o. with_address o (times_of es) m now) (look m es) ∙ by (lookup (mac_eq m) es) ∙ ap times_of (after_is (answer_to es m now))
  where
    after_is : (a : LearnOutcome) → after_kept a (lookup (mac_eq m) es) es m now ≡ after_answer a es m now
    after_is Full = refl
    after_is New = refl
    after_is Known = refl

    again : (e : Entry) (b : Bool) → set_value (mac_eq m) (times_of es) (max e.time now) ≡ times_of (after_kept (cond b Known New) (Some e) es m now)
    again e true = times_set m now e es
    again e false = times_set m now e es

    new : (b : Bool) → nat_lt (length (with_room now es)) 256 ≡ b
        → cond b (times_of (with_room now es) ++ (m, now) ∷ []) (times_of (with_room now es)) ≡ times_of (after_kept (cond b New Full) None es m now)
    new true room = sym (map-append (λ e. (e.0, e.1.time)) (with_room now es) ((m, learned_at now) ∷ []))
    new false room = ap times_of (no_room now es few room)

    by : (o : Option Entry) → with_address (time_in o) (times_of es) m now ≡ times_of (after_kept (answer_of o es now) o es m now)
    by None =
        ap (λ ps. with_new ps m now) (room_times now es)
        ∙ ap (λ n. cond (nat_lt n 256) (times_of (with_room now es) ++ (m, now) ∷ []) (times_of (with_room now es))) (length-times (with_room now es))
        ∙ new (nat_lt (length (with_room now es)) 256) refl
    by (Some e) = again e (is_live now e)
