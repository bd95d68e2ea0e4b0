-- The packets of three files, as they come one by one in order of time.
use Rattle.std.specs.Prelude.{◌≡◌, ℕ, ◌-◌, List, [], ◌∷◌, Option, IfSome, IfNone}
use Rattle.sr_capture.specs.Records.{Captured}
use Rattle.sr_capture_script.specs.declared.captures.Captures.{Captures}
use Rattle.sr_capture_script.specs.declared.captures.Front.{Front}
use Rattle.sr_capture_script.specs.declared.choice.Inlet.TheVariants.{A, B, C}
use Rattle.sr_capture_script.specs.declared.fault.ScriptFault.{ScriptFault}
use Rattle.sr_capture_script.specs.Captures.{IsDueFirst, HasNoFront}
use Rattle.sr_capture_script.specs.Items.{Item, items_of, came_at, IsInOrder, IsMerge, AllToDue}
use Rattle.sr_capture_script.specs.Merging.{Feed, feed_of, HasRecords, Stands, fault_at, AreEnoughFor}
use Rattle.sr_capture_script.specs.SourceViews.{IsFed}
use Rattle.sr_capture_script.specs.Texts.{first_moment}

-- some packets of three files came, in order, and none of them behind one that is due
pub record HaveCome {R : Type 0} (remaining : R → Option (List ℕ)) (x y z : Feed) (all : Captures R) (out : List Item) : Type 0 where
  pub same_a : feed_of all.a x.start ≡ x
  pub same_b : feed_of all.b y.start ≡ y
  pub same_c : feed_of all.c z.start ≡ z
  pub fed_a : IsFed remaining A x.start all.a (came_at A out)
  pub fed_b : IsFed remaining B y.start all.b (came_at B out)
  pub fed_c : IsFed remaining C z.start all.c (came_at C out)
  pub order : IsInOrder out
  pub to_a : AllToDue A all.a.due out
  pub to_b : AllToDue B all.b.due out
  pub to_c : AllToDue C all.c.due out

-- times are counted from the first of some packets
abbrev pub StartsAt : ℕ → List Item → Type 0
StartsAt start items = IfSome (first_moment items) (λ moment. moment ≡ start)

-- the time of the last of some packets, or behind none a time
abbrev pub last_time : ℕ → ℕ → List Item → ℕ
last_time start last [] = last
last_time start last (item ∷ items) = last_time start (item.moment - start) items

-- this is the packet that is due next, if there is one; the first of all is at the start
pub record IsNextOf {R : Type 0} (all : Captures R) (start : ℕ) (next : Option Front) (out : List Item) : Type 0 where
  pub due : IfSome next (λ front. IsDueFirst all front)
  pub none : IfNone next (HasNoFront all)
  pub first : out ≡ [] → IfSome next (λ front. front.moment ≡ start)

-- all packets of three files came, each once, in order of time and each file's in its own order
pub record AllCame (x y z : Feed) (merged : List Item) : Type 0 where
  pub packets_a : List Captured
  pub packets_b : List Captured
  pub packets_c : List Captured
  pub has_a : HasRecords x packets_a
  pub has_b : HasRecords y packets_b
  pub has_c : HasRecords z packets_c
  pub is_merge : IsMerge (items_of A x.delay packets_a) (items_of B y.delay packets_b) (items_of C z.delay packets_c) merged

-- the packets that come before a fault: of a file at fault all that stand before it, of another file all, or all up to one that is not
-- before any of them; there are enough of them for that fault
pub record CameUpTo (fault : ScriptFault) (x y z : Feed) (out : List Item) : Type 0 where
  pub at_a : Stands (fault_at A fault) A x out
  pub at_b : Stands (fault_at B fault) B y out
  pub at_c : Stands (fault_at C fault) C z out
  pub order : IsInOrder out
  pub enough : AreEnoughFor fault out
