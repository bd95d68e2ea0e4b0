-- Three files, part of the way through their packets.
use Rattle.std.proofs.Common.{◌≡◌, ℕ, ◌+◌, ◌<◌, ◌≤◌, List, [], ◌∷◌, ◌++◌, length, length-append, Option, Some, None, sym, ap, subst, refl, ◌∙◌, arith}
use Rattle.std.specs.Prelude.{unwrap_or}
use Rattle.std.specs.Io.KnownBytes.{Appends}
use Rattle.std.proofs.KnownBytes.{Appends-nil, Appends-trans}
use Rattle.sr_capture_script.specs.declared.choice.Choice.{Choice}
use Rattle.sr_capture_script.specs.declared.choice.Inlet.{Inlet}
use Rattle.sr_capture_script.specs.declared.choice.Inlet.TheVariants.{A, B, C}
use Rattle.sr_capture_script.specs.declared.merge.Clock.{Clock}
use Rattle.sr_capture_script.specs.declared.source.Source.{Source}
use Rattle.sr_capture_script.specs.Items.{Item, key_of, came_at, AllTo, AllToDue}
use Rattle.sr_capture_script.specs.Picking.{NotBefore, IsAfter, IsEarliest}
use Rattle.sr_capture_script.specs.SourceViews.{IsFed, Serves}
use Rattle.sr_capture_script.specs.Texts.{piece_of, last_after, first_moment, last_line, lines_of}
use Rattle.sr_capture_script.specs.Going.{Going}
use Rattle.sr_capture_script.proofs.Ordering.{order_more, due_more, came_here, came_apart}
use Rattle.sr_capture_script.proofs.Writing.{lines_more, last_line_more, first_more}

pub length_more : (xs : List Item) (x : Item) → length (xs ++ x ∷ []) ≡ length xs + 1
length_more xs x = omega (arith, length-append xs (x ∷ []))

to_nothing : (i : Inlet) (d : Option ℕ) → AllToDue i d []
to_nothing i None = tt
to_nothing i (Some m) = tt

pub going_from : {R : Type 0} (remaining : R → Option (List ℕ)) (choice : Choice) (sa sb sc : Option (List ℕ)) (a b c : Source R) (clock : Clock)
    (held : Option (List ℕ)) → clock.base ≡ None → clock.last ≡ None
    → IsFed remaining A sa a [] → IsFed remaining B sb b [] → IsFed remaining C sc c []
    → (is : Going remaining choice sa sb sc a b c clock held held) × (length is.out ≡ 0)
going_from remaining choice sa sb sc a b c clock held base last fa fb fc = (
  record {
    out = [];
    fed_a = fa;
    fed_b = fb;
    fed_c = fc;
    order = tt;
    to_a = to_nothing A a.due;
    to_b = to_nothing B b.due;
    to_c = to_nothing C c.due;
    base = base;
    last = last;
    wrote = Appends-nil held;
  },
  refl,
)

-- what is due is not before, or after, a moment
not_before_is : (d : Option ℕ) (m n : ℕ) → NotBefore d m → d ≡ Some n → m ≤ n
not_before_is d m n h e = let P : Option ℕ → Type 0 = λ o. NotBefore o m in subst P e h

is_after_is : (d : Option ℕ) (m n : ℕ) → IsAfter d m → d ≡ Some n → m < n
is_after_is d m n h e = let P : Option ℕ → Type 0 = λ o. IsAfter o m in subst P e h

-- the item of this moment that is next comes to what is printed: how the lines grow, and the clock
pub more_lines : (choice : Choice) (clock : Clock) (m : ℕ) (out : List Item) (item : Item) (held mid now : Option (List ℕ)) → item.moment ≡ m
    → clock.base ≡ first_moment out → clock.last ≡ last_line choice out → Appends held mid (lines_of choice out)
    → Appends mid now (piece_of choice (unwrap_or clock.base m) clock.last item) → Appends held now (lines_of choice (out ++ item ∷ []))
more_lines choice clock m out item held mid now e base last held_mid mid_now =
    let bases : unwrap_or clock.base m ≡ unwrap_or (first_moment out) item.moment = ap (λ (o : Option ℕ). unwrap_or o m) base ∙ ap (unwrap_or (first_moment out)) (sym e) in
    let piece : piece_of choice (unwrap_or clock.base m) clock.last item ≡ piece_of choice (unwrap_or (first_moment out) item.moment) (last_line choice out) item =
    ap (λ n. piece_of choice n clock.last item) bases ∙ ap (λ (o : Option ℕ). piece_of choice (unwrap_or (first_moment out) item.moment) o item) last in
    let all : lines_of choice out ++ piece_of choice (unwrap_or clock.base m) clock.last item ≡ lines_of choice (out ++ item ∷ []) =
    ap (λ (l : List ℕ). lines_of choice out ++ l) piece ∙ sym (lines_more choice out item) in
    subst (Appends held now) all (Appends-trans held mid now (lines_of choice out) (piece_of choice (unwrap_or clock.base m) clock.last item) held_mid mid_now)

-- the clock after it
pub record Ticked (choice : Choice) (before after : Clock) (m : ℕ) : Type 0 where
  pub base : after.base ≡ Some (unwrap_or before.base m)
  pub last : after.last ≡ last_after choice (unwrap_or before.base m) before.last m

base_more : (choice : Choice) (before after : Clock) (m : ℕ) (out : List Item) (item : Item) → Ticked choice before after m → item.moment ≡ m
    → before.base ≡ first_moment out → after.base ≡ first_moment (out ++ item ∷ [])
base_more choice before after m out item ticked e base =
    ticked.base ∙ ap (λ (o : Option ℕ). Some (unwrap_or o m)) base ∙ ap (λ n. Some (unwrap_or (first_moment out) n)) (sym e) ∙ sym (first_more out item)

last_more : (choice : Choice) (before after : Clock) (m : ℕ) (out : List Item) (item : Item) → Ticked choice before after m → item.moment ≡ m
    → before.base ≡ first_moment out → before.last ≡ last_line choice out → after.last ≡ last_line choice (out ++ item ∷ [])
last_more choice before after m out item ticked e base last =
    ticked.last ∙ ap (λ (o : Option ℕ). last_after choice (unwrap_or o m) before.last m) base
    ∙ ap (λ n. last_after choice (unwrap_or (first_moment out) n) before.last n) (sym e)
    ∙ ap (λ (o : Option ℕ). last_after choice (unwrap_or (first_moment out) item.moment) o item.moment) last ∙ sym (last_line_more choice out item)

pub key_is : (i : Inlet) (m : ℕ) (item : Item) → item.inlet ≡ i → item.moment ≡ m → key_of item.inlet item.moment ≡ key_of i m
key_is i m item e f = ap (λ (j : Inlet). key_of j item.moment) e ∙ ap (λ n. key_of i n) f

-- what is due elsewhere comes behind the item too
pub behind_a : (m : ℕ) (b c : Option ℕ) (a : Option ℕ) (out : List Item) (item : Item) → IsEarliest A m a b c → AllTo (key_of A m) out
    → key_of item.inlet item.moment ≡ key_of A m → AllToDue B b (out ++ item ∷ []) × AllToDue C c (out ++ item ∷ [])
behind_a m b c a out item early to key = (
  due_more B b (key_of A m) out item to key (λ n e. omega (arith, not_before_is b m n early.1 e)),
  due_more C c (key_of A m) out item to key (λ n e. omega (arith, not_before_is c m n early.2 e)),
)

pub behind_b : (m : ℕ) (a c : Option ℕ) (b : Option ℕ) (out : List Item) (item : Item) → IsEarliest B m a b c → AllTo (key_of B m) out
    → key_of item.inlet item.moment ≡ key_of B m → AllToDue A a (out ++ item ∷ []) × AllToDue C c (out ++ item ∷ [])
behind_b m a c b out item early to key = (
  due_more A a (key_of B m) out item to key (λ n e. omega (arith, is_after_is a m n early.1 e)),
  due_more C c (key_of B m) out item to key (λ n e. omega (arith, not_before_is c m n early.2 e)),
)

pub behind_c : (m : ℕ) (a b : Option ℕ) (c : Option ℕ) (out : List Item) (item : Item) → IsEarliest C m a b c → AllTo (key_of C m) out
    → key_of item.inlet item.moment ≡ key_of C m → AllToDue A a (out ++ item ∷ []) × AllToDue B b (out ++ item ∷ [])
behind_c m a b c out item early to key = (
  due_more A a (key_of C m) out item to key (λ n e. omega (arith, is_after_is a m n early.1 e)),
  due_more B b (key_of C m) out item to key (λ n e. omega (arith, is_after_is b m n early.2 e)),
)

pub goes_a : {R : Type 0} (remaining : R → Option (List ℕ)) (choice : Choice) (sa sb sc : Option (List ℕ)) (a a' b c : Source R) (before after : Clock)
    (held mid now : Option (List ℕ)) (m : ℕ) → (was : Going remaining choice sa sb sc a b c before held mid) → IsEarliest A m a.due b.due c.due → Ticked choice before after m
    → ((start : Option (List ℕ)) (gone : List Item) → IsFed remaining A start a gone
    → Serves remaining A choice (unwrap_or before.base m) m before.last start gone a' mid now)
    → (is : Going remaining choice sa sb sc a' b c after held now) × (length is.out ≡ length was.out + 1)
goes_a remaining choice sa sb sc a a' b c before after held mid now m g early ticked serves =
    let s = serves sa (came_at A g.out) g.fed_a in
    let to : AllTo (key_of A m) g.out = subst (λ (o : Option ℕ). AllToDue A o g.out) early.0 g.to_a in
    let key = key_is A m s.item s.at s.when in
    let behind = behind_a m b.due c.due a.due g.out s.item early to key in (
      record {
        out = g.out ++ s.item ∷ [];
        fed_a = subst (λ (l : List Item). IsFed remaining A sa a' l) (sym (came_here A g.out s.item s.at)) s.fed;
        fed_b = subst (λ (l : List Item). IsFed remaining B sb b l) (sym (came_apart B A g.out s.item s.at refl)) g.fed_b;
        fed_c = subst (λ (l : List Item). IsFed remaining C sc c l) (sym (came_apart C A g.out s.item s.at refl)) g.fed_c;
        order = order_more g.out s.item g.order (subst (λ n. AllTo n g.out) (sym key) to);
        to_a = due_more A a'.due (key_of A m) g.out s.item to key (λ n e. omega (arith, not_before_is a'.due m n s.later e));
        to_b = behind.0;
        to_c = behind.1;
        base = base_more choice before after m g.out s.item ticked s.when g.base;
        last = last_more choice before after m g.out s.item ticked s.when g.base g.last;
        wrote = more_lines choice before m g.out s.item held mid now s.when g.base g.last g.wrote s.wrote;
      },
      length_more g.out s.item,
    )

pub goes_b : {R : Type 0} (remaining : R → Option (List ℕ)) (choice : Choice) (sa sb sc : Option (List ℕ)) (a b b' c : Source R) (before after : Clock)
    (held mid now : Option (List ℕ)) (m : ℕ) → (was : Going remaining choice sa sb sc a b c before held mid) → IsEarliest B m a.due b.due c.due → Ticked choice before after m
    → ((start : Option (List ℕ)) (gone : List Item) → IsFed remaining B start b gone
    → Serves remaining B choice (unwrap_or before.base m) m before.last start gone b' mid now)
    → (is : Going remaining choice sa sb sc a b' c after held now) × (length is.out ≡ length was.out + 1)
goes_b remaining choice sa sb sc a b b' c before after held mid now m g early ticked serves =
    let s = serves sb (came_at B g.out) g.fed_b in
    let to : AllTo (key_of B m) g.out = subst (λ (o : Option ℕ). AllToDue B o g.out) early.0 g.to_b in
    let key = key_is B m s.item s.at s.when in
    let behind = behind_b m a.due c.due b.due g.out s.item early to key in (
      record {
        out = g.out ++ s.item ∷ [];
        fed_b = subst (λ (l : List Item). IsFed remaining B sb b' l) (sym (came_here B g.out s.item s.at)) s.fed;
        fed_a = subst (λ (l : List Item). IsFed remaining A sa a l) (sym (came_apart A B g.out s.item s.at refl)) g.fed_a;
        fed_c = subst (λ (l : List Item). IsFed remaining C sc c l) (sym (came_apart C B g.out s.item s.at refl)) g.fed_c;
        order = order_more g.out s.item g.order (subst (λ n. AllTo n g.out) (sym key) to);
        to_b = due_more B b'.due (key_of B m) g.out s.item to key (λ n e. omega (arith, not_before_is b'.due m n s.later e));
        to_a = behind.0;
        to_c = behind.1;
        base = base_more choice before after m g.out s.item ticked s.when g.base;
        last = last_more choice before after m g.out s.item ticked s.when g.base g.last;
        wrote = more_lines choice before m g.out s.item held mid now s.when g.base g.last g.wrote s.wrote;
      },
      length_more g.out s.item,
    )

pub goes_c : {R : Type 0} (remaining : R → Option (List ℕ)) (choice : Choice) (sa sb sc : Option (List ℕ)) (a b c c' : Source R) (before after : Clock)
    (held mid now : Option (List ℕ)) (m : ℕ) → (was : Going remaining choice sa sb sc a b c before held mid) → IsEarliest C m a.due b.due c.due → Ticked choice before after m
    → ((start : Option (List ℕ)) (gone : List Item) → IsFed remaining C start c gone
    → Serves remaining C choice (unwrap_or before.base m) m before.last start gone c' mid now)
    → (is : Going remaining choice sa sb sc a b c' after held now) × (length is.out ≡ length was.out + 1)
goes_c remaining choice sa sb sc a b c c' before after held mid now m g early ticked serves =
    let s = serves sc (came_at C g.out) g.fed_c in
    let to : AllTo (key_of C m) g.out = subst (λ (o : Option ℕ). AllToDue C o g.out) early.0 g.to_c in
    let key = key_is C m s.item s.at s.when in
    let behind = behind_c m a.due b.due c.due g.out s.item early to key in (
      record {
        out = g.out ++ s.item ∷ [];
        fed_c = subst (λ (l : List Item). IsFed remaining C sc c' l) (sym (came_here C g.out s.item s.at)) s.fed;
        fed_a = subst (λ (l : List Item). IsFed remaining A sa a l) (sym (came_apart A C g.out s.item s.at refl)) g.fed_a;
        fed_b = subst (λ (l : List Item). IsFed remaining B sb b l) (sym (came_apart B C g.out s.item s.at refl)) g.fed_b;
        order = order_more g.out s.item g.order (subst (λ n. AllTo n g.out) (sym key) to);
        to_c = due_more C c'.due (key_of C m) g.out s.item to key (λ n e. omega (arith, not_before_is c'.due m n s.later e));
        to_a = behind.0;
        to_b = behind.1;
        base = base_more choice before after m g.out s.item ticked s.when g.base;
        last = last_more choice before after m g.out s.item ticked s.when g.base g.last;
        wrote = more_lines choice before m g.out s.item held mid now s.when g.base g.last g.wrote s.wrote;
      },
      length_more g.out s.item,
    )
