-- What the entries of the table show, through what is done to them.
use Rattle.std.proofs.Common.{◌≡◌, ℕ, suc, ◌<◌, ◌≤◌, Bool, true, false, cond, not, ◌&&◌, nat_lt, List, [], ◌∷◌, ◌++◌, length, filter, Option, None, Some, is_some, refl, sym, ap, ◌∙◌, arith}
use Rattle.std.specs.Map.{lookup, set_value, keys_of}
use Rattle.std.specs.Option.{option_map}
use Rattle.std.proofs.lemmas.Bool.{ltb-true, ltb-false, le-ltb}
use Rattle.std.proofs.lemmas.List.{length-map, map-append}
use Rattle.sr_frame.specs.declared.fields.Mac.{Mac}
use Rattle.sr_dup_window.specs.declared.lane_sets.Lanes.{Lanes}
use Rattle.sr_frame.specs.Addresses.{mac_eq}
use Rattle.sr_dup_window.specs.declared.record.Record.{Record}
use Rattle.sr_aged_slots.specs.declared.aged.Aged.{Aged}
use Rattle.sr_aged_slots.specs.Ages as ages
use Rattle.sr_aged_slots.specs.AgeLemmas.{length-live_by_le}
use Rattle.sr_aged_slots.specs.FullLemmas.{full_where as full_by}
use Rattle.sr_dup_table.specs.Sources.{Remembered, Sources, is_live, live_at, live_others, with_room, fresh_at, answer_of, arrive_answer}
use Rattle.sr_dup_table.specs.Shown.{heard_of, sources_of}

-- a look-up among what the entries show
pub lookup-shown : {N : ℕ} (test : Mac → Bool) (es : List (Mac × Aged (Record N))) → lookup test (sources_of es) ≡ option_map heard_of (lookup test es)
lookup-shown test [] = refl
lookup-shown test (e ∷ es) = by (test e.0) (lookup-shown test es)
  where
    by : (t : Bool) → lookup test (sources_of es) ≡ option_map heard_of (lookup test es) → cond t (Some (heard_of e.1)) (lookup test (sources_of es)) ≡ option_map heard_of (cond t (Some e.1) (lookup test es))
    by true ih = refl
    by false ih = ih

pub found-shown : {N : ℕ} (test : Mac → Bool) (es : List (Mac × Aged (Record N))) → is_some (lookup test es) ≡ is_some (lookup test (sources_of es))
found-shown {N} test es = by (lookup test es) ∙ sym (ap is_some (lookup-shown test es))
  where
    by : (o : Option (Aged (Record N))) → is_some o ≡ is_some (option_map heard_of o)
    by None = refl
    by (Some x) = refl

-- a write at a source
pub set-shown : {N : ℕ} (test : Mac → Bool) (es : List (Mac × Aged (Record N))) (w : Aged (Record N)) → sources_of (set_value test es w) ≡ set_value test (sources_of es) (heard_of w)
set-shown test [] w = refl
set-shown test (e ∷ es) w = by (test e.0) (set-shown test es w)
  where
    by : (t : Bool) → sources_of (set_value test es w) ≡ set_value test (sources_of es) (heard_of w)
        → sources_of (cond t ((e.0, w) ∷ es) (e ∷ set_value test es w)) ≡ cond t ((e.0, heard_of w) ∷ sources_of es) ((e.0, heard_of e.1) ∷ set_value test (sources_of es) (heard_of w))
    by true ih = refl
    by false ih = ap (λ l. (e.0, heard_of e.1) ∷ l) ih

-- a new source goes last
pub append-shown : {N : ℕ} (es : List (Mac × Aged (Record N))) (m : Mac) (w : Aged (Record N)) → sources_of (es ++ (m, w) ∷ []) ≡ sources_of es ++ (m, heard_of w) ∷ []
append-shown es m w = map-append (λ e. (e.0, heard_of e.1)) es ((m, w) ∷ [])

-- the live ones
pub live-shown : {N : ℕ} (now : ℕ) (es : List (Mac × Aged (Record N))) → sources_of (filter (λ e. is_live now (heard_of e.1)) es) ≡ live_at now (sources_of es)
live-shown now [] = refl
live-shown now (e ∷ es) = by (is_live now (heard_of e.1)) (live-shown now es)
  where
    by : (t : Bool) → sources_of (filter (λ e. is_live now (heard_of e.1)) es) ≡ live_at now (sources_of es)
        → sources_of (cond t (e ∷ filter (λ e. is_live now (heard_of e.1)) es) (filter (λ e. is_live now (heard_of e.1)) es)) ≡ cond t ((e.0, heard_of e.1) ∷ live_at now (sources_of es)) (live_at now (sources_of es))
    by true ih = ap (λ l. (e.0, heard_of e.1) ∷ l) ih
    by false ih = ih

pub length-shown : {N : ℕ} (es : List (Mac × Aged (Record N))) → length (sources_of es) ≡ length es
length-shown es = length-map es (λ e. (e.0, heard_of e.1))

pub length-live_le : (now : ℕ) (s : Sources) → length (live_at now s) ≤ length s
length-live_le now s = length-live_by_le (λ h. h.time) 400 now s

-- a source that shows no record has none
pub none-shown : {N : ℕ} (test : Mac → Bool) (es : List (Mac × Aged (Record N))) → lookup test (sources_of es) ≡ None → lookup test es ≡ None
none-shown {N} test es h = by (lookup test es) (sym (lookup-shown test es) ∙ h)
  where
    by : (o : Option (Aged (Record N))) → option_map heard_of o ≡ None → o ≡ None
    by None e = refl
    by (Some x) e = cc

-- what a new source is answered
pub answer_full : (b : Bool) (lanes : Lanes) → true ≡ not b → None ≡ cond b (Some lanes) None
answer_full true lanes h = cc
answer_full false lanes h = refl

pub answer_room : (b : Bool) (lanes : Lanes) → false ≡ not b → Some lanes ≡ cond b (Some lanes) None
answer_room true lanes h = refl
answer_room false lanes h = cc

-- a source is answered nothing exactly where 1024 other sources are live
pub full_where : (w : ℕ) (s : Sources) (m : Mac) (seq : ℕ) (lanes : Lanes) (now : ℕ) → length s ≤ 1024
    → (arrive_answer w s m seq lanes now ≡ None → length (live_others m now s) ≡ 1024) × (length (live_others m now s) ≡ 1024 → arrive_answer w s m seq lanes now ≡ None)
full_where w s m seq lanes now few = full_by (λ h. h.time) 400 1024 m now s (λ o. answer_of w o s seq lanes now) (Some lanes) None (λ e. cc) (λ h e. cc) refl few

-- the distinct sources of the entries
pub keys-shown : {N : ℕ} (es : List (Mac × Aged (Record N))) → keys_of (sources_of es) ≡ keys_of es
keys-shown [] = refl
keys-shown (e ∷ es) = ap (λ l. e.0 ∷ l) (keys-shown es)

-- what a full table keeps
pub room-shown : {N : ℕ} (now : ℕ) (es : List (Mac × Aged (Record N))) → sources_of (ages.with_room 400 1024 now es) ≡ with_room now (sources_of es)
room-shown now es = by (nat_lt (length es) 1024) ∙ sym (ap (λ n. cond (nat_lt n 1024) (sources_of es) (live_at now (sources_of es))) (length-shown es))
  where
    by : (b : Bool) → sources_of (cond b es (ages.live_at 400 now es)) ≡ cond b (sources_of es) (live_at now (sources_of es))
    by true = refl
    by false = live-shown now es

-- what a source with a record is answered, and what one without
pub known_answers : (w : ℕ) (s : Sources) (m : Mac) (seq : ℕ) (lanes fresh : Lanes) (now : ℕ) → Some fresh ≡ option_map (λ h. fresh_at w h seq lanes now) (lookup (mac_eq m) s) → arrive_answer w s m seq lanes now ≡ Some fresh
known_answers w s m seq lanes fresh now h = by (lookup (mac_eq m) s) h
  where
    by : (o : Option Remembered) → Some fresh ≡ option_map (λ h. fresh_at w h seq lanes now) o → answer_of w o s seq lanes now ≡ Some fresh
    by None e = cc
    by (Some x) e = sym e

pub unknown_answers : (w : ℕ) (s : Sources) (m : Mac) (seq : ℕ) (lanes : Lanes) (now : ℕ) → None ≡ option_map (λ h. fresh_at w h seq lanes now) (lookup (mac_eq m) s)
    → arrive_answer w s m seq lanes now ≡ cond (nat_lt (length (with_room now s)) 1024) (Some lanes) None
unknown_answers w s m seq lanes now h = by (lookup (mac_eq m) s) h
  where
    by : (o : Option Remembered) → None ≡ option_map (λ h. fresh_at w h seq lanes now) o → answer_of w o s seq lanes now ≡ cond (nat_lt (length (with_room now s)) 1024) (Some lanes) None
    by None e = refl
    by (Some x) e = cc
