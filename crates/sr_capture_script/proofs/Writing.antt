-- Lines, one by one.
use Rattle.std.specs.Prelude.{unwrap_or, max, Bool, true, false, if◌then◌else◌}
use Rattle.std.specs.Io.KnownBytes.{Appends}
use Rattle.std.proofs.Common.{◌≡◌, ℕ, ◌+◌, ◌-◌, ◌*◌, ◌/◌, ◌≤◌, map, List, [], ◌∷◌, ◌++◌, Option, Some, None, sym, ap, subst, refl, ◌∙◌, arith, append_assoc}
use Rattle.std.specs.List.{flat_map, range_with_len}
use Rattle.std.proofs.KnownBytes.{Appends-nil, Appends-trans}
use Rattle.std.proofs.lemmas.List.{append-nil}
use Rattle.std.proofs.Math.Nat.{div-mul-le_self, mul-le-mul_right}
use Rattle.std.proofs.lemmas.Grind.{flat_map-append}
use Rattle.std.proofs.lemmas.List.FromFn.{map-range_with_len_more}
use Rattle.sr_capture_script.specs.declared.choice.Choice.{Choice}
use Rattle.sr_capture_script.specs.declared.choice.Inlet.{Inlet}
use Rattle.sr_capture_script.specs.Items.{Item}
use Rattle.sr_capture_script.specs.Texts.{tick_line, steps_to, grid_between, ticks_to, line_of, time_since, is_wanted, piece_of, pieces_of, last_after, last_behind, first_moment, lines_of, last_line}

-- the first ticks behind so many steps of a grid
abbrev pub first_ticks : ℕ → ℕ → ℕ → ℕ → List ℕ
first_ticks from step gone n = flat_map tick_line (map (λ k. from + k * step) (range_with_len (gone + 1) n))

-- one tick more
pub ticks_more : (from step gone n at : ℕ) (old mid new : Option (List ℕ)) → Appends old mid (first_ticks from step gone n) → at ≡ from + (gone + n + 1) * step
    → Appends mid new (tick_line at) → Appends old new (first_ticks from step gone (n + 1))
ticks_more from step gone n at old mid new h e more =
    let f : ℕ → ℕ = λ k. from + k * step in
    let times : map f (range_with_len (gone + 1) (n + 1)) ≡ map f (range_with_len (gone + 1) n) ++ f (gone + n + 1) ∷ [] =
    map-range_with_len_more f (gone + 1) n (gone + n + 1) (omega arith) in
    let one : flat_map tick_line (f (gone + n + 1) ∷ []) ≡ tick_line at = append-nil (tick_line (f (gone + n + 1))) ∙ ap tick_line (sym e) in
    let all : first_ticks from step gone (n + 1) ≡ first_ticks from step gone n ++ tick_line at =
    ap (λ (l : List ℕ). flat_map tick_line l) times ∙ flat_map-append tick_line (map f (range_with_len (gone + 1) n)) (f (gone + n + 1) ∷ [])
    ∙ ap (λ (l : List ℕ). first_ticks from step gone n ++ l) one in
    subst (Appends old new) (sym all) (Appends-trans old mid new (first_ticks from step gone n) (tick_line at) h more)

-- all ticks between two times are written
pub all_between : (from step last time gone n : ℕ) (held now : Option (List ℕ)) → gone ≡ steps_to from step last
    → n ≡ steps_to from step time - steps_to from step last → Appends held now (first_ticks from step gone n)
    → Appends held now (flat_map tick_line (grid_between from step last time))
all_between from step last time gone n held now is all wrote =
    subst (Appends held now) (ap (λ g. first_ticks from step g n) is ∙ ap (λ m. first_ticks from step (steps_to from step last) m) all) wrote

-- one item more
pieces_more : (choice : Choice) (base : ℕ) (last : Option ℕ) (items : List Item) (item : Item)
    → pieces_of choice base last (items ++ item ∷ []) ≡ pieces_of choice base last items ++ piece_of choice base (last_behind choice base last items) item
pieces_more choice base last [] item = append-nil (piece_of choice base last item)
pieces_more choice base last (x ∷ xs) item =
    let next = last_after choice base last x.moment in
    let front = piece_of choice base last x in
    ap (λ (l : List ℕ). front ++ l) (pieces_more choice base next xs item)
    ∙ sym (append_assoc front (pieces_of choice base next xs) (piece_of choice base (last_behind choice base next xs) item))

last_more : (choice : Choice) (base : ℕ) (last : Option ℕ) (items : List Item) (item : Item)
    → last_behind choice base last (items ++ item ∷ []) ≡ last_after choice base (last_behind choice base last items) item.moment
last_more choice base last [] item = refl
last_more choice base last (x ∷ xs) item = last_more choice base (last_after choice base last x.moment) xs item

-- the lines of one item more
pub lines_more : (choice : Choice) (items : List Item) (item : Item)
    → lines_of choice (items ++ item ∷ []) ≡ lines_of choice items ++ piece_of choice (unwrap_or (first_moment items) item.moment) (last_line choice items) item
lines_more choice [] item = append-nil (piece_of choice item.moment None item)
lines_more choice (x ∷ xs) item = pieces_more choice x.moment None (x ∷ xs) item

pub last_line_more : (choice : Choice) (items : List Item) (item : Item)
    → last_line choice (items ++ item ∷ []) ≡ last_after choice (unwrap_or (first_moment items) item.moment) (last_line choice items) item.moment
last_line_more choice [] item = refl
last_line_more choice (x ∷ xs) item = last_more choice x.moment None (x ∷ xs) item

pub first_more : (items : List Item) (item : Item) → first_moment (items ++ item ∷ []) ≡ Some (unwrap_or (first_moment items) item.moment)
first_more [] item = refl
first_more (x ∷ xs) item = refl

-- a time on the grid that so many steps lead to is not behind both its beginning and the time up to which they are counted
pub steps_within : (from step time n : ℕ) → n ≤ steps_to from step time → from + n * step ≤ max from time
steps_within from step time n few =
    let most_steps : n * step ≤ (time - from) / step * step = mul-le-mul_right step few in
    omega (arith, most_steps, div-mul-le_self (time - from) step)

-- nothing is printed for an item whose time is not wanted
pub no_piece : (choice : Choice) (base : ℕ) (last : Option ℕ) (item : Item) (moment time : ℕ) (held : Option (List ℕ)) → item.moment ≡ moment
    → time ≡ time_since base moment → is_wanted choice time ≡ false → Appends held held (piece_of choice base last item)
no_piece choice base last item moment time held when is off =
    let at : time ≡ time_since base item.moment = is ∙ ap (time_since base) (sym when) in
    let piece = ticks_to choice.from choice.tick last (time_since base item.moment)
    ++ line_of item.inlet item.number (time_since base item.moment) item.packet in
    subst (λ (b : Bool). Appends held held (if b then piece else [])) (sym (subst (λ t. is_wanted choice t ≡ false) at off)) (Appends-nil held)

-- ticks are written, and then a text in place of nothing, which is the item's line
pub whole_piece : (choice : Choice) (base : ℕ) (last : Option ℕ) (item : Item) (inlet : Inlet) (moment time : ℕ) (old new shown : List ℕ)
    (held mid now : Option (List ℕ)) → item.inlet ≡ inlet → item.moment ≡ moment → time ≡ time_since base moment → is_wanted choice time ≡ true
    → old ≡ [] → new ≡ old ++ line_of inlet item.number time item.packet → shown ≡ new
    → Appends held mid (ticks_to choice.from choice.tick last time) → Appends mid now shown → Appends held now (piece_of choice base last item)
whole_piece choice base last item inlet moment time old new shown held mid now at when is on none more same ticked wrote =
    let meant : time ≡ time_since base item.moment = is ∙ ap (time_since base) (sym when) in
    let ticks = ticks_to choice.from choice.tick last time in
    let line : shown ≡ line_of item.inlet item.number time item.packet =
    same ∙ more ∙ ap (λ (l : List ℕ). l ++ line_of inlet item.number time item.packet) none
    ∙ ap (λ (i : Inlet). line_of i item.number time item.packet) (sym at) in
    let both = Appends-trans held mid now ticks (line_of item.inlet item.number time item.packet) ticked (subst (Appends mid now) line wrote) in
    let whole = subst (λ t. Appends held now (ticks_to choice.from choice.tick last t ++ line_of item.inlet item.number t item.packet)) meant both in
    let piece = ticks_to choice.from choice.tick last (time_since base item.moment)
    ++ line_of item.inlet item.number (time_since base item.moment) item.packet in
    subst (λ (b : Bool). Appends held now (if b then piece else [])) (sym (subst (λ t. is_wanted choice t ≡ true) meant on)) whole
